-- The limits of a unit.
use Rattle.std.specs.Prelude.{◌≤◌, ◌+◌, ℕ, List, [], ◌∷◌, map, flat_map, length, sum}
use Rattle.std.specs.List.{All}
use Rattle.cc_base.specs.declared.number.TypeId.{TypeId}
use Rattle.c_types.specs.declared.shape.TypeShape.{TypeShape}
use Rattle.c_types.specs.declared.shape.TypeShape.TheVariants.{Function}
use Rattle.c_types.specs.Table.{Table, Entry, IsComplete}
use Rattle.c_types.specs.Layouts.{size_of}
use Rattle.c_tree.specs.TypedTree.{TypedTranslationUnit}
use Rattle.c_tree.specs.TypedParts.{Made, Copy, made_by_unit, statics_of, functions_of}
use Rattle.c_tree.specs.Erasure.{erased_unit}
use Rattle.c_typing.specs.Cells.{pointers_in}
use Rattle.c_unit_typing.specs.Holding.{unit_holds}

abbrev pub pointers_copied_by : Table → Made → List ℕ
pointers_copied_by table (Copy t) = pointers_in table t ∷ []
pointers_copied_by table made = []

-- the pointers that all assignments of structs and unions move, each assignment counted
abbrev pub pointers_copied : Table → TypedTranslationUnit → ℕ
pointers_copied table unit = sum (flat_map (pointers_copied_by table) (made_by_unit unit))

-- the bytes of static objects and literals, with 16 for each
abbrev pub global_bytes : Table → TypedTranslationUnit → ℕ
global_bytes table unit = sum (map (λ o. size_of table o.type + 16) (statics_of unit))

abbrev pub parameters_of_shape : TypeShape → ℕ
parameters_of_shape (Function parameters result) = length parameters
parameters_of_shape shape = 0

-- The unit is within its limits. How deep its tree may be is a matter of the parser.
pub record IsWithinLimits (table : Table) (unit : TypedTranslationUnit) : Type 0 where
  pub holds : unit_holds (erased_unit unit) ≤ 256
  pub types : length table ≤ 16384
  pub objects : (t : TypeId) → IsComplete table t → size_of table t ≤ 1048576
  pub parameters : All (λ (e : Entry). parameters_of_shape e.shape ≤ 127) table
  pub functions : length (functions_of unit) ≤ 65535
  pub globals : global_bytes table unit ≤ 4194304
  pub cells : pointers_copied table unit ≤ 65536
