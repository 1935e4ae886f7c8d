-- What the laws of the crate say.
use Rattle.std.specs.Prelude.{◌<◌, ◌≤◌, length}
use Rattle.c_types.specs.Table.{Table}
use Rattle.c_tree.specs.Depth.{unit_height}
use Rattle.c_tree.specs.Erasure.{erased_unit}
use Rattle.c_tree.specs.TypedParts.{made_by_unit, nodes_made}
use Rattle.c_tree.specs.TypedTree.{TypedTranslationUnit}
use Rattle.c_unit_typing.specs.Limits.{IsWithinLimits}
use Rattle.c_unit_typing.specs.WellTyped.{IsWellTyped}
use Rattle.lower_rules.specs.Units.{homes_of}
use Rattle.lower_units.specs.Ready.{HasCodeOfUnit}

abbrev pub UnitsHaveCode : Type 0
UnitsHaveCode =
    (table : Table) (unit : TypedTranslationUnit) → IsWellTyped table unit → IsWithinLimits table unit → unit_height (erased_unit unit) ≤ 256
    → length (nodes_made (made_by_unit unit)) < 4294967296 → HasCodeOfUnit table (homes_of unit) unit
