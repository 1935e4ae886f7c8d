-- The statements of the laws of frames, and of the programs whose laws are all there.
use Rattle.std.specs.Prelude.{ℕ, List}
use Rattle.cc_base.specs.declared.kind.Kind.{Kind}
use Rattle.cc_base.specs.declared.number.NodeId.{NodeId}
use Rattle.cc_base.specs.declared.number.TypeId.{TypeId}
use Rattle.cil_form.specs.declared.program.Program.{Program}
use Rattle.cil_form.specs.Shape.{IsInShape}
use Rattle.cil_form.specs.Told.{IsToldOf, IsSolutionOf}
use Rattle.cil_form.specs.Machine.{setting_of, code_run}
use Rattle.cured_code.specs.declared.parts.Parts.{Parts}
use Rattle.sim_relation.specs.Outcomes.{RunsAlike}
use Rattle.cure_rules.specs.Programs.{IsCuredProgram}
use Rattle.sim_laws.specs.Scenes.{Programs}
use Rattle.sim_laws.specs.Runs.{programs_of}
use Rattle.sim_laws.specs.Plain.{IsPlainProgram}

-- What is said of a program in shape whose sites are told, with kinds that are a solution for them, and of its cured program.
abbrev pub OfCuredPrograms : (Programs → Type 0) → Type 0
OfCuredPrograms P = (p : Program) (kind : NodeId → Kind) (node : TypeId → ℕ) (parents : List ℕ) (parts : Parts) → IsInShape p → IsToldOf p → IsSolutionOf p kind
    → (is : IsCuredProgram p kind node parents parts) → P (programs_of p kind node is.numbers p.sites parts)

-- THE THEOREM OF PLAIN PROGRAMS: without any premise on instructions, frames or the start.
abbrev pub PlainProgramsRunAlike : Type 0
PlainProgramsRunAlike = (p : Program) (kind : NodeId → Kind) (node : TypeId → ℕ) (parents : List ℕ) (parts : Parts)
    → IsInShape p → IsToldOf p → IsSolutionOf p kind → IsPlainProgram p kind → IsCuredProgram p kind node parents parts
    → RunsAlike (setting_of p kind) node (code_run p kind) parts
