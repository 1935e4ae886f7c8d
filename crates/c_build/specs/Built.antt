-- What a text of C is built to.
use Rattle.std.specs.Prelude.{ℕ, ◌≡◌, ◌↔◌, List}
use Rattle.std.specs.List.{Contains}
use Rattle.cc_base.specs.Kinds.{kind_at}
use Rattle.cc_base.specs.declared.number.TypeId.{TypeId}
use Rattle.c_tree.specs.declared.typed_unit.Typed.{Typed}
use Rattle.cil_form.specs.declared.program.Program.{Program}
use Rattle.cil_form.specs.Shape.{IsInShape}
use Rattle.kind_solver.specs.declared.solved.Solved.{Solved}
use Rattle.rtti_nodes.specs.Classes.{IsData}
use Rattle.rtti_nodes.specs.TypeNodes.{TypeNodes, AreTypeNodes, node_at}
use Rattle.cured_code.specs.declared.parts.Parts.{Parts}
use Rattle.cure_rules.specs.Programs.{IsCuredProgram}
use Rattle.c_build.specs.Inferred.{IsInferred}

-- The cured program of the code, which is in shape, under these kinds. Each data type of its table has a type node, so an RTTI pointer can carry whatever type it was
-- made for.
pub record IsCuringOf (p : Program) (s : Solved) (c : Parts) : Type 0 where
  pub nodes : TypeNodes
  pub table : nodes.table ≡ p.types
  pub kinds : nodes.kinds ≡ s.kinds
  pub used : (t : TypeId) → Contains nodes.used t ↔ IsData p.types t
  pub made : AreTypeNodes nodes
  pub in_shape : IsInShape p
  pub cured : IsCuredProgram p (kind_at s.kinds) (node_at nodes) nodes.parents c

-- The text is accepted; its typed unit, the three-address code of that, the kinds of its nodes with their causes, and its cured program.
pub record IsBuilt (text : List ℕ) (t : Typed) (p : Program) (s : Solved) (c : Parts) : Type 0 where
  pub inferred : IsInferred text t p s
  pub cured : IsCuringOf p s c

-- the text is accepted, and this is its cured program
pub record IsCured (text : List ℕ) (c : Parts) : Type 0 where
  pub typed : Typed
  pub code : Program
  pub solved : Solved
  pub built : IsBuilt text typed code solved c
