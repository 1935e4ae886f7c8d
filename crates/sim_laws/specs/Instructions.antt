-- The statements of the laws of instructions: which of them follow, whatever is known before and behind them.
use Rattle.std.specs.Prelude.{◌≡◌, ℕ, List, slice_get, Some}
use Rattle.cc_base.specs.declared.kind.Kind.{Kind}
use Rattle.cc_base.specs.declared.number.NodeId.{NodeId}
use Rattle.cc_base.specs.declared.number.TypeId.{TypeId}
use Rattle.cil_form.specs.declared.instr.Instr.{Instr}
use Rattle.cil_form.specs.declared.instr.Instr.TheVariants as instr
use Rattle.cil_form.specs.declared.program.Function.{Function}
use Rattle.cil_form.specs.declared.program.Program.{Program}
use Rattle.cil_form.specs.Shape.{IsInShape}
use Rattle.cil_form.specs.Told.{IsToldOf, IsSolutionOf}
use Rattle.cured_code.specs.declared.parts.Parts.{Parts}
use Rattle.cure_rules.specs.Slots.{Slots, AreSlots}
use Rattle.cure_rules.specs.Setting.{IsCuringSet, IsCuringCalculate}
use Rattle.cure_rules.specs.Programs.{IsCuredProgram}
use Rattle.sim_laws.specs.Scenes.{Scene, Running, scene_of, first_scene}
use Rattle.sim_laws.specs.Statements.{AllFollow}
use Rattle.sim_laws.specs.Runs.{programs_of}

-- Constants, null, copies, and the addresses of functions and objects: in the functions of a cured program, where its sites are told and the
-- kinds are a solution for them, and in its static initialisers.
abbrev pub ConstantsFollow : Type 0
ConstantsFollow =
    (p : Program) (kind : NodeId → Kind) (node : TypeId → ℕ) (parents : List ℕ) (parts : Parts) → IsInShape p → IsToldOf p → IsSolutionOf p kind
    → (is : IsCuredProgram p kind node parents parts) → (n : ℕ) (f : Function) → slice_get p.functions n ≡ Some f
    → (slots : Slots) (g : AreSlots slots) (b : Running)
    → AllFollow (scene_of (programs_of p kind node is.numbers p.sites parts) n f slots) g b f.body.0.items (λ i. instr.Set i) IsCuringSet

abbrev pub FirstConstantsFollow : Type 0
FirstConstantsFollow =
    (p : Program) (kind : NodeId → Kind) (node : TypeId → ℕ) (parents : List ℕ) (parts : Parts) → IsInShape p → IsToldOf p → IsSolutionOf p kind
    → (is : IsCuredProgram p kind node parents parts) → (slots : Slots) (g : AreSlots slots) (b : Running)
    → AllFollow (first_scene (programs_of p kind node is.numbers p.sites parts) slots) g b p.initialisers.0.items (λ i. instr.Set i) IsCuringSet

-- Calculations: every operator of C on integers, truth values and comparisons.
abbrev pub CalculationsFollow : Type 0
CalculationsFollow = (w : Scene) (g : AreSlots w.slots) (b : Running) (whole : List Instr) → AllFollow w g b whole (λ i. instr.Calculate i) IsCuringCalculate
