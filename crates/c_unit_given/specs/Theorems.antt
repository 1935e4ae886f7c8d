-- What the laws of the crate say.
use Rattle.std.specs.Prelude.{◌≡◌}
use Rattle.c_types.specs.Table.{Table}
use Rattle.c_tree.specs.Erasure.{erased_unit}
use Rattle.c_tree.specs.TypedTree.{TypedTranslationUnit}
use Rattle.c_typing.specs.Settled.{IsBasic}
use Rattle.c_unit_given.specs.Tokens.{HasFewTokens}
use Rattle.c_unit_typing.specs.DefinitionJudging.{judged_unit}
use Rattle.c_unit_typing.specs.Limits.{IsWithinLimits}
use Rattle.c_unit_typing.specs.UnitJudging.{Gives, UnitState}
use Rattle.c_unit_typing.specs.WellTyped.{IsWellTyped}

abbrev pub UnitsAreGiven : Type 0
UnitsAreGiven =
    (T : Table) (whole : TypedTranslationUnit) → IsBasic T → IsWellTyped T whole → IsWithinLimits T whole → HasFewTokens (erased_unit whole)
    → (r : UnitState) × (judged_unit (erased_unit whole) ≡ Gives whole r)

abbrev pub UnitsAreGivenOnce : Type 0
UnitsAreGivenOnce =
    (T U : Table) (one other : TypedTranslationUnit) → IsBasic T → IsWellTyped T one → IsWithinLimits T one → HasFewTokens (erased_unit one) → IsBasic U
    → IsWellTyped U other → IsWithinLimits U other → HasFewTokens (erased_unit other) → erased_unit one ≡ erased_unit other → one ≡ other
