-- The limit of a table of types.
use Rattle.std.specs.Prelude.{◌≤◌, List, length}
use Rattle.cc_base.specs.declared.number.TypeId.{TypeId}
use Rattle.c_types.specs.declared.shape.TypeShape.TheVariants.{Function}
use Rattle.c_types.specs.Table.{Table, HasShape}

-- no function type has more than 127 parameters
pub record IsLimited (T : Table) : Type 0 where
  pub few : (t : TypeId) (parameters : List TypeId) (result : TypeId) → HasShape T t (Function parameters result) → length parameters ≤ 127
