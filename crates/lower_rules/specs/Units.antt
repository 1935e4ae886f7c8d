-- What the code of a function and of a unit is.
use Rattle.std.specs.Prelude.{◌≡◌, List, [], ◌∷◌, map}
use Rattle.cc_base.specs.declared.number.NodeId.{NodeId}
use Rattle.c_types.specs.Table.{Table}
use Rattle.c_tree.specs.TypedTree.{TypedTranslationUnit}
use Rattle.c_tree.specs.TypedParts.{DefinedFunction, functions_of, statics_of, static_initialisers}
use Rattle.src_mem.specs.Runs.{variables_of}
use Rattle.src_machine.specs.Machine as source
use Rattle.cil_form.specs.declared.program.Function.{Function}
use Rattle.cil_form.specs.declared.program.Program.{Program}
use Rattle.cil_form.specs.Machine as code
use Rattle.lower_rules.specs.Words.{Context}
use Rattle.lower_rules.specs.Initialisers.{IsCodeOfStatics}
use Rattle.lower_rules.specs.Statements.{Nesting, IsCodeOfBlock}

-- the body of a function is nested in nothing
abbrev pub outermost : Nesting
outermost = record { breaks = 0; continues = 0; switches = 0 }

-- the homes of the static objects of a unit
abbrev pub homes_of : TypedTranslationUnit → List NodeId
homes_of u = map (λ o. o.home) (statics_of u)

abbrev pub context_in : Table → List NodeId → DefinedFunction → Context
context_in table statics d = record { table = table; statics = statics; variables = map (λ v. v.node) (variables_of (source.head_of d)) }

-- what static initialisers stand in
abbrev pub static_context : Table → List NodeId → Context
static_context table statics = record { table = table; statics = statics; variables = [] }

pub record IsCodeOfFunction (table : Table) (statics : List NodeId) (d : DefinedFunction) (f : Function) : Type 0 where
  pub head : code.head_of f ≡ source.head_of d
  pub body : IsCodeOfBlock d.body (context_in table statics d) outermost f.body.0.items

abbrev pub AreCodeOf : Table → List NodeId → List DefinedFunction → List Function → Type 0
AreCodeOf table statics [] [] = Unit {0}
AreCodeOf table statics [] (f ∷ fs) = ⊥
AreCodeOf table statics (d ∷ ds) [] = ⊥
AreCodeOf table statics (d ∷ ds) (f ∷ fs) = IsCodeOfFunction table statics d f × AreCodeOf table statics ds fs

-- A program is the code of a unit, with the program's table of types.
pub record IsCodeOfUnit (u : TypedTranslationUnit) (p : Program) : Type 0 where
  pub functions : AreCodeOf p.types (homes_of u) (functions_of u) p.functions
  pub initialisers : IsCodeOfStatics (static_initialisers u) (static_context p.types (homes_of u)) p.initialisers.0.items
  pub statics : code.statics_of p ≡ source.statics_in u
  pub main : p.main.0 ≡ source.main_of u
  pub main_place : p.main_place ≡ source.main_place u
