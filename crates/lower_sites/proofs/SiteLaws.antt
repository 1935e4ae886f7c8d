-- The sites of objects and names are those of the unit.
use Rattle.std.proofs.Common.{◌≡◌, refl, ap, sym, subst, ◌∙◌, ℕ, ◌+◌, ◌<◌, add-one, List, [], ◌∷◌, ◌++◌, append-nil, append_assoc, length, take, get_or, map, flat_map, true, Option, None, Some}
use Rattle.std.proofs.lemmas.Grind.{flat_map-append}
use Rattle.std.proofs.Math.Seq.{take-suc}
use Rattle.std.specs.List.{filter_map}
use Rattle.cc_base.specs.declared.number.NodeId.{NodeId}
use Rattle.cc_base.specs.declared.number.TypeId.{TypeId}
use Rattle.kind_sites.specs.declared.site.Site.{Site}
use Rattle.kind_sites.specs.declared.site.Site.TheVariants as site
use Rattle.kind_sites.specs.Solutions.{sites_of_shape, sites_of_table}
use Rattle.c_types.specs.Table.{Entry, Table, shape_at, void_entry}
use Rattle.c_tree.specs.TypedTree.{TypedTranslationUnit}
use Rattle.c_tree.specs.TypedParts.{DefinedFunction, MadeObject, functions_of, statics_of}
use Rattle.src_mem.specs.Memory.{Planned}
use Rattle.src_mem.specs.Runs as runs
use Rattle.src_mem.specs.Runs.{planned, variables_of}
use Rattle.src_machine.specs.Machine as source
use Rattle.src_machine.specs.Names.{declarators_in, named_in}
use Rattle.src_machine.specs.Pieces.{pieces_of_unit}
use Rattle.src_machine.specs.Sites.{sites_of, sites_of_homes, sites_of_names, sites_of_piece}
use Rattle.cil_form.specs.declared.number.Planned.{Planned as PlannedObject}
use Rattle.cil_form.specs.declared.program.Function.{Function}
use Rattle.cil_form.specs.declared.program.Parameter.{Parameter}
use Rattle.cil_form.specs.declared.program.Program.{Program}
use Rattle.cil_form.specs.declared.program.Static.{Static}
use Rattle.cil_form.specs.Machine as code
use Rattle.cil_form.specs.Machine.{plan}
use Rattle.lower_rules.specs.Units.{AreCodeOf, IsCodeOfUnit}
use Rattle.unit_parts.specs.Collecting.{seen_statics, static_of}
use Rattle.lower_sites.specs.declared.names.Names.{Names}
use Rattle.lower_sites.specs.Objects.{home_if_named, site_of_parameter, site_of_planned, site_of_static, sites_of_function, sites_of_objects}
use Rattle.lower_sites.specs.HomeNames.{home_name}
use Rattle.lower_sites.specs.Telling.{IsTold, Tells, named_by_all}
use Rattle.named_lists.specs.Entries.{entry_of}

pub names_told : (u : TypedTranslationUnit) (table : Table) (a b : Names) → Tells (named_by_all table (declarators_in u)) a b
    → a.objects ≡ [] → a.functions ≡ [] → a.sites.items ≡ [] → b.fine ≡ true → b.sites.items ≡ sites_of_names (named_in u table)
unfolding Tells named_by_all
names_told u table a b f os fs ss fine =
    let told : IsTold (named_in u table) b = (f fine).1 [] (record {
      objects = λ h. ap (λ l. entry_of l (home_name h)) os;
      functions = λ name. ap (λ l. entry_of l name.bytes) fs;
      sites = ss;
    }) in told.sites

-- one more

pub more_added : {X Y : Type 0} (f : X → List Y) (xs : List X) (i : ℕ) (x d : X) (start now next : List Y) → i < length xs → x ≡ get_or xs i d
    → now ≡ start ++ flat_map f (take i xs) → next ≡ now ++ f x → next ≡ start ++ flat_map f (take (i + 1) xs)
more_added f xs i x d start now next within at e g =
    let law : take (i + 1) xs ≡ take i xs ++ x ∷ [] = rw add-one (take-suc xs i d within ∙ ap (λ y. take i xs ++ y ∷ []) (sym at)) in
    g ∙ ap (λ m. m ++ f x) e ∙ append_assoc start (flat_map f (take i xs)) (f x)
    ∙ ap (λ m. start ++ m) (ap (λ m. flat_map f (take i xs) ++ m) (sym (append-nil (f x)))
    ∙ sym (flat_map-append f (take i xs) (x ∷ [])) ∙ ap (flat_map f) (sym law))

-- homes

abbrev home_of_static : runs.Static → Site
home_of_static o = site.Home o.home o.type

abbrev home_of_made : MadeObject → Site
home_of_made o = site.Home o.home o.type

abbrev home_of_planned : Planned → Site
home_of_planned v = site.Home v.node v.type

abbrev made_as : Parameter → runs.Parameter
made_as p = record { type = p.ty; home = p.home }

abbrev planned_as : runs.Parameter → Option Planned
planned_as p = planned p.type p.home

abbrev homes_of_function : DefinedFunction → List Site
homes_of_function f = map home_of_planned (variables_of (source.head_of f))

statics_seen : (all : List Static) → flat_map site_of_static all ≡ map home_of_static (seen_statics all)
statics_seen [] = refl
statics_seen (o ∷ all) = ap (λ m. site.Home o.planned.home o.planned.ty ∷ m) (statics_seen all)

statics_made : (all : List MadeObject) → map home_of_static (map static_of all) ≡ map home_of_made all
statics_made [] = refl
statics_made (o ∷ all) = ap (λ m. site.Home o.home o.type ∷ m) (statics_made all)

locals_seen : (all : List PlannedObject) → flat_map site_of_planned all ≡ map home_of_planned (map plan all)
locals_seen [] = refl
locals_seen (o ∷ all) = ap (λ m. site.Home o.home o.ty ∷ m) (locals_seen all)

one_seen : (t : TypeId) (h : Option NodeId) (rest : List Parameter) (l : List Planned)
    → flat_map site_of_parameter rest ++ map home_of_planned l ≡ map home_of_planned (filter_map planned_as (map made_as rest) ++ l)
    → (home_if_named h t ++ flat_map site_of_parameter rest) ++ map home_of_planned l
    ≡ map home_of_planned (filter_map planned_as (record { type = t; home = h } ∷ map made_as rest) ++ l)
one_seen t None rest l f = f
one_seen t (Some home) rest l f = ap (λ m. site.Home home t ∷ m) f

parameters_seen : (all : List Parameter) (l : List Planned)
    → flat_map site_of_parameter all ++ map home_of_planned l ≡ map home_of_planned (filter_map planned_as (map made_as all) ++ l)
parameters_seen [] l = refl
parameters_seen (p ∷ all) l = one_seen p.ty p.home all l (parameters_seen all l)

function_seen : (f : Function) → sites_of_function f ≡ map home_of_planned (variables_of (code.head_of f))
function_seen f = ap (λ m. flat_map site_of_parameter f.parameters ++ m) (locals_seen f.locals) ∙ parameters_seen f.parameters (map plan f.locals)

functions_seen : (table : Table) (statics : List NodeId) (ds : List DefinedFunction) (fs : List Function) → AreCodeOf table statics ds fs
    → flat_map sites_of_function fs ≡ flat_map homes_of_function ds
functions_seen table statics [] [] h = refl
functions_seen table statics [] (f ∷ fs) h = absurd h
functions_seen table statics (d ∷ ds) [] h = absurd h
functions_seen table statics (d ∷ ds) (f ∷ fs) h =
    ap (λ (m : List Site). m ++ flat_map sites_of_function fs) (function_seen f ∙ ap (λ (x : runs.Head). map home_of_planned (variables_of x)) h.0.head)
    ∙ ap (λ (m : List Site). homes_of_function d ++ m) (functions_seen table statics ds fs h.1)

objects_told : (u : TypedTranslationUnit) (p : Program) → IsCodeOfUnit u p → sites_of_objects p ≡ sites_of_table p.types ++ sites_of_homes u
objects_told u p is =
    append_assoc (sites_of_table p.types) (flat_map site_of_static p.statics) (flat_map sites_of_function p.functions)
    ∙ ap (λ (m : List Site). sites_of_table p.types ++ (m ++ flat_map sites_of_function p.functions))
    (statics_seen p.statics ∙ ap (map home_of_static) is.statics ∙ statics_made (statics_of u))
    ∙ ap (λ (m : List Site). sites_of_table p.types ++ (map home_of_made (statics_of u) ++ m)) (functions_seen p.types _ (functions_of u) p.functions is.functions)

-- the whole
pub all_told : (u : TypedTranslationUnit) (p : Program) (named x y z : List Site) → IsCodeOfUnit u p
    → p.sites ≡ flat_map (sites_of_piece p.types) (pieces_of_unit u) → x ≡ sites_of_objects p → y ≡ x ++ p.sites
    → named ≡ sites_of_names (named_in u p.types) → z ≡ y ++ named → z ≡ sites_of u p.types
all_told u p named x y z is pieces e f g h =
    h ∙ ap (λ m. y ++ m) g ∙ ap (λ m. m ++ sites_of_names (named_in u p.types)) (f ∙ ap (λ m. x ++ m) pieces
    ∙ ap (λ m. m ++ flat_map (sites_of_piece p.types) (pieces_of_unit u)) (e ∙ objects_told u p is))
