-- A well typed C program is wrong nowhere.
use Rattle.std.specs.Prelude.{◌≡◌, ◌≢◌, ℕ, ◌≤◌}
use Rattle.cc_base.specs.declared.kind.Kind.{Kind}
use Rattle.cc_base.specs.declared.number.NodeId.{NodeId}
use Rattle.c_tree.specs.Depth.{unit_height}
use Rattle.c_tree.specs.Erasure.{erased_unit}
use Rattle.c_tree.specs.TypedTree.{TypedTranslationUnit}
use Rattle.c_unit_typing.specs.Limits.{IsWithinLimits}
use Rattle.c_unit_typing.specs.WellTyped.{IsWellTyped}
use Rattle.flat_mem.specs.Bytes.{AreBytes}
use Rattle.runs.specs.Input.{Input}
use Rattle.src_mem.specs.State.{Wrong, bytes_of}
use Rattle.src_machine.specs.Machine.{source_run}
use Rattle.cil_form.specs.declared.program.Program.{Program}
use Rattle.cil_form.specs.Told.{IsSolutionOf}
use Rattle.cil_facts.specs.Whole.{ProgramNumbersNone}
use Rattle.lower_rules.specs.Units.{IsCodeOfUnit}
use Rattle.lower_shape.specs.Lowered.{IsLoweredFrom}

-- The code of a well typed unit converts no pointer to an integer, which would be wrong where the pointer is an object's.
abbrev pub CodeNumbersNoPointer : Type 0
CodeNumbersNoPointer = (unit : TypedTranslationUnit) (program : Program) → IsWellTyped program.types unit → IsCodeOfUnit unit program
    → ProgramNumbersNone program

-- The kinds are a solution for the sites of a program that is lowered from the unit.
abbrev pub UnitsAreNeverWrong : Type 0
UnitsAreNeverWrong = (unit : TypedTranslationUnit) (program : Program) (kind : NodeId → Kind) (input : Input) (turns : ℕ)
    → IsWellTyped program.types unit → IsWithinLimits program.types unit → unit_height (erased_unit unit) ≤ 256 → IsLoweredFrom unit program
    → IsSolutionOf program kind → AreBytes (bytes_of input) → (source_run unit program.types kind input turns).ending ≢ Wrong
