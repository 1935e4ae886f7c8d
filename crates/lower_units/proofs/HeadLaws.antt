-- What heads and bodies are made of is what the tree says, and a function that has code has these.
use Rattle.std.proofs.Common.{◌≡◌, refl, ap, sym, subst, ◌∙◌, List, [], ◌∷◌, ◌++◌, map, true, Option, None, Some, Result, Ok, Err, IfOk}
use Rattle.std.specs.List.{filter_map}
use Rattle.cc_base.specs.declared.fault.NoMemory.{NoMemory}
use Rattle.cc_base.specs.declared.number.NodeId.{NodeId}
use Rattle.cc_base.specs.declared.number.TypeId.{TypeId}
use Rattle.c_types.specs.Table.{Table}
use Rattle.c_tree.specs.TypedParts.{DefinedFunction, Made, ParameterObject, declared_type, parameters_of, made_by_block_items}
use Rattle.src_mem.specs.Memory.{Planned}
use Rattle.src_mem.specs.Runs as runs
use Rattle.src_mem.specs.Runs.{planned}
use Rattle.src_machine.specs.Machine as source
use Rattle.src_machine.specs.Pieces.{Piece}
use Rattle.cil_form.specs.declared.instr.Code.{Code}
use Rattle.cil_form.specs.declared.number.Planned.{Planned as PlannedObject}
use Rattle.cil_form.specs.declared.program.Function.{Function}
use Rattle.cil_form.specs.declared.program.Parameter.{Parameter}
use Rattle.cil_form.specs.Machine as code
use Rattle.cil_form.specs.Machine.{plan}
use Rattle.lower_rules.specs.Pieces.{Form}
use Rattle.lower_exprs.specs.declared.draft.Draft.{Draft}
use Rattle.lower_exprs.specs.Drafts.{Grows, Starts}
use Rattle.lower_rules.specs.Statements.{IsCodeOfBlock}
use Rattle.lower_statements.specs.Ready.{HasCodeOfBlock}
use Rattle.lower_rules.specs.Units.{IsCodeOfFunction, outermost}
use Rattle.unit_parts.specs.declared.collected.Collected.{Collected}
use Rattle.unit_parts.specs.Collecting.{Adds, Collects, locals_from}
use Rattle.lower_units.specs.Heads.{home_or_none, homes_of_parameters, homes_of_planned, taken_as}
use Rattle.lower_units.specs.Ready.{AreApart, HasCodeOfFunction}

-- Drafts that began empty

-- all that was met has code
pub draft_ready : (P : Form) (R : Type 0) (s d : Draft) → Starts s → Grows P R s d → R → d.ready ≡ true
unfolding Grows Starts
draft_ready P R s d empty f r = f.1 r empty.1

-- the code of one that is finished
pub draft_finished : (P : Form) (R : Type 0) (s d : Draft) (r : Result Code NoMemory) → Starts s → Grows P R s d
    → IfOk r (λ code. (d.fine ≡ true) × (code.0.items ≡ d.items.items)) → IfOk r (λ code. P code.0.items)
unfolding Grows Starts
draft_finished P R s d (Err want) empty f made = tt {0}
draft_finished P R s d (Ok code) empty f made =
    let p = (f.0 made.0).1 in subst P (sym (made.1 ∙ p.2 ∙ ap (λ z. z ++ p.0) empty.0)) p.1

-- Heads and bodies

pub locals_found : (table : Table) (made : List Made) (pieces : List Piece) (a b : Collected) → Collects table made pieces a b → a.locals.items ≡ []
    → b.fine ≡ true → map plan b.locals.items ≡ locals_from made
unfolding Collects Adds
locals_found table made pieces a b f empty fine = (f fine).2 ∙ ap (λ l. map plan l ++ locals_from made) empty

abbrev made_as : Parameter → runs.Parameter
made_as p = record { type = p.ty; home = p.home }

abbrev declared_as : ParameterObject → runs.Parameter
declared_as p = record { type = p.type; home = p.home }

abbrev planned_as : runs.Parameter → Option Planned
planned_as p = planned p.type p.home

abbrev node_of : Planned → NodeId
node_of v = v.node

parameters_same : (all : List Parameter) → map made_as all ≡ map declared_as (map taken_as all)
parameters_same [] = refl
parameters_same (p ∷ all) = ap (λ (m : List runs.Parameter). made_as p ∷ m) (parameters_same all)

pub head_made : (f : Function) (d : DefinedFunction) → f.ty ≡ declared_type d.declarator → map taken_as f.parameters ≡ parameters_of d.declarator
    → map plan f.locals ≡ locals_from (made_by_block_items d.body) → code.head_of f ≡ source.head_of d
head_made f d t ps ls =
    ap (λ (x : TypeId). head x (map made_as f.parameters) (map plan f.locals)) t
    ∙ ap (λ (x : List runs.Parameter). head (declared_type d.declarator) x (map plan f.locals)) (parameters_same f.parameters ∙ ap (map declared_as) ps)
    ∙ ap (λ (x : List Planned). head (declared_type d.declarator) (map declared_as (parameters_of d.declarator)) x) ls
  where
    head : TypeId → List runs.Parameter → List Planned → runs.Head
    head t ps ls = record { type = t; parameters = ps; locals = ls }

one_home : (t : TypeId) (h : Option NodeId) (rest : List Parameter) (l : List Planned)
    → homes_of_parameters rest ++ map node_of l ≡ map node_of (filter_map planned_as (map made_as rest) ++ l)
    → (home_or_none h ++ homes_of_parameters rest) ++ map node_of l
    ≡ map node_of (filter_map planned_as (record { type = t; home = h } ∷ map made_as rest) ++ l)
one_home t None rest l f = f
one_home t (Some home) rest l f = ap (λ m. home ∷ m) f

parameter_homes : (all : List Parameter) (l : List Planned)
    → homes_of_parameters all ++ map node_of l ≡ map node_of (filter_map planned_as (map made_as all) ++ l)
parameter_homes [] l = refl
parameter_homes (p ∷ all) l = one_home p.ty p.home all l (parameter_homes all l)

planned_homes : (all : List PlannedObject) → homes_of_planned all ≡ map node_of (map plan all)
planned_homes [] = refl
planned_homes (o ∷ all) = ap (λ m. o.home ∷ m) (planned_homes all)

-- the homes of a function's variables
pub homes_of_variables : (d : DefinedFunction) (ps : List Parameter) (ls : List PlannedObject) → map taken_as ps ≡ parameters_of d.declarator
    → map plan ls ≡ locals_from (made_by_block_items d.body)
    → homes_of_parameters ps ++ homes_of_planned ls ≡ map node_of (runs.variables_of (source.head_of d))
homes_of_variables d ps ls p l =
    ap (λ m. homes_of_parameters ps ++ m) (planned_homes ls) ∙ parameter_homes ps (map plan ls)
    ∙ ap (λ (x : List runs.Parameter). map node_of (filter_map planned_as x ++ map plan ls)) (parameters_same ps ∙ ap (map declared_as) p)
    ∙ ap (λ (x : List Planned). map node_of (filter_map planned_as (map declared_as (parameters_of d.declarator)) ++ x)) l

pub variables_apart : (table : Table) (statics : List NodeId) (d : DefinedFunction) (ps : List Parameter) (ls : List PlannedObject)
    → map taken_as ps ≡ parameters_of d.declarator → map plan ls ≡ locals_from (made_by_block_items d.body)
    → HasCodeOfFunction table statics d → AreApart (homes_of_parameters ps ++ homes_of_planned ls)
variables_apart table statics d ps ls p l has = subst AreApart (sym (homes_of_variables d ps ls p l)) has.homes

pub body_has_code : (table : Table) (statics : List NodeId) (d : DefinedFunction) (ps : List Parameter) (ls : List PlannedObject)
    (variables : List NodeId) → map taken_as ps ≡ parameters_of d.declarator → map plan ls ≡ locals_from (made_by_block_items d.body)
    → variables ≡ homes_of_parameters ps ++ homes_of_planned ls → HasCodeOfFunction table statics d
    → HasCodeOfBlock d.body (record { table = table; statics = statics; variables = variables }) outermost
body_has_code table statics d ps ls variables p l vs has =
    subst (λ v. HasCodeOfBlock d.body (record { table = table; statics = statics; variables = v }) outermost)
    (sym (vs ∙ homes_of_variables d ps ls p l)) has.body

pub code_of_function : (table : Table) (statics : List NodeId) (d : DefinedFunction) (f : Function) (variables : List NodeId)
    → f.ty ≡ declared_type d.declarator → map taken_as f.parameters ≡ parameters_of d.declarator
    → map plan f.locals ≡ locals_from (made_by_block_items d.body) → variables ≡ homes_of_parameters f.parameters ++ homes_of_planned f.locals
    → IsCodeOfBlock d.body (record { table = table; statics = statics; variables = variables }) outermost f.body.0.items
    → IsCodeOfFunction table statics d f
code_of_function table statics d f variables t ps ls vs body =
    record {
      head = head_made f d t ps ls;
      body = subst (λ v. IsCodeOfBlock d.body (record { table = table; statics = statics; variables = v }) outermost f.body.0.items)
          (vs ∙ homes_of_variables d f.parameters f.locals ps ls) body;
    }
