-- Programs of which each pointer is SAFE or SEQ: when they are plain.
use Rattle.std.specs.Prelude.{ℕ, ◌<◌}
use Rattle.cc_base.specs.declared.kind.Kind.{Kind}
use Rattle.cc_base.specs.declared.number.NodeId.{NodeId}
use Rattle.cil_form.specs.declared.program.Program.{Program}
use Rattle.cil_form.specs.Shape.{IsInShape}
use Rattle.cil_facts.specs.Whole.{ProgramNumbersNone}
use Rattle.sim_laws.specs.Plain.{IsPlainKind, IsPlainProgram}

-- each of so many nodes is SAFE or SEQ
abbrev pub ArePlainKinds : ℕ → (NodeId → Kind) → Type 0
ArePlainKinds nodes kind = (n : NodeId) → n.0 < nodes → IsPlainKind (kind n)

-- Each node of the program is SAFE or SEQ, and no pointer is converted to an integer.
pub record IsOfPlainKinds (p : Program) (kind : NodeId → Kind) : Type 0 where
  pub kinds : ArePlainKinds p.nodes kind
  pub numbers : ProgramNumbersNone p

-- A program in shape of such kinds is plain.
abbrev pub ProgramsOfPlainKindsArePlain : Type 0
ProgramsOfPlainKindsArePlain = (p : Program) (kind : NodeId → Kind) → IsInShape p → IsOfPlainKinds p kind → IsPlainProgram p kind
