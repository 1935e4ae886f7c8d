-- What the laws of the crate say.
use Rattle.std.specs.Prelude.{◌≤◌}
use Rattle.c_tree.specs.Depth.{unit_height}
use Rattle.c_tree.specs.Erasure.{erased_unit}
use Rattle.c_tree.specs.TypedTree.{TypedTranslationUnit}
use Rattle.c_unit_typing.specs.Limits.{IsWithinLimits}
use Rattle.c_unit_typing.specs.WellTyped.{IsWellTyped}
use Rattle.cil_form.specs.Shape.{IsInShape}
use Rattle.cil_form.specs.declared.program.Program.{Program}
use Rattle.lower_shape.specs.Lowered.{IsLoweredFrom}

abbrev pub LoweredCodeIsInShape : Type 0
LoweredCodeIsInShape =
    (unit : TypedTranslationUnit) (program : Program) → IsWellTyped program.types unit → IsWithinLimits program.types unit
    → unit_height (erased_unit unit) ≤ 256 → IsLoweredFrom unit program → IsInShape program
