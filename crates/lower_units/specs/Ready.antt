-- Which units have code: their functions and static initialisers do, and their objects have homes of their own.
use Rattle.std.specs.Prelude.{◌≤◌, List, map, length}
use Rattle.std.specs.List.{All, IsDistinct}
use Rattle.cc_base.specs.declared.number.NodeId.{NodeId}
use Rattle.c_types.specs.Table.{Table}
use Rattle.c_tree.specs.TypedTree.{TypedTranslationUnit}
use Rattle.c_tree.specs.TypedParts.{DefinedFunction, functions_of, static_initialisers}
use Rattle.src_mem.specs.Runs.{variables_of}
use Rattle.src_machine.specs.Machine as source
use Rattle.src_machine.specs.World.{same_node}
use Rattle.lower_rules.specs.Units.{context_in, outermost, static_context}
use Rattle.lower_statements.specs.Ready.{HasCodeOfBlock}
use Rattle.lower_units.specs.Statics.{HaveCodeOfStatics}

-- no two of these objects have one home
abbrev pub AreApart : List NodeId → Type 0
AreApart homes = IsDistinct same_node homes

-- a function, among static objects with these homes
pub record HasCodeOfFunction (table : Table) (statics : List NodeId) (d : DefinedFunction) : Type 0 where
  pub body : HasCodeOfBlock d.body (context_in table statics d) outermost
  pub homes : AreApart (map (λ v. v.node) (variables_of (source.head_of d)))

-- a unit whose static objects have these homes
pub record HasCodeOfUnit (table : Table) (statics : List NodeId) (u : TypedTranslationUnit) : Type 0 where
  pub functions : All (HasCodeOfFunction table statics) (functions_of u)
  pub initialisers : HaveCodeOfStatics (static_initialisers u) (static_context table statics)
  pub homes : AreApart statics
  pub few : length (functions_of u) ≤ 65535
