-- A table of types goes on from another one: the types that were there keep their shapes, and those that were complete their members
-- and their layouts.
use Rattle.std.specs.Prelude.{◌≡◌, ◌≤◌, length}
use Rattle.cc_base.specs.declared.number.TypeId.{TypeId}
use Rattle.c_types.specs.declared.shape.TypeShape.{TypeShape}
use Rattle.c_types.specs.Table.{Table, HasShape, IsType, IsComplete, entry_at, shape_at}
use Rattle.c_types.specs.Layouts.{layout_of}
use Rattle.c_typing.specs.Judging.{State}

pub record IsExtended (table later : Table) : Type 0 where
  pub longer : length table ≤ length later
  pub shapes : (t : TypeId) → IsType table t → shape_at later t ≡ shape_at table t
  pub complete : (t : TypeId) → IsComplete table t → entry_at later t ≡ entry_at table t
  pub layouts : (t : TypeId) → IsComplete table t → layout_of later t ≡ layout_of table t

-- a type with the shape was found or added: the table goes on from the one before, and nothing else changes
pub record IsTypeWith (x : TypeShape) (t : TypeId) (before after : State) : Type 0 where
  pub shape : HasShape after.table t x
  pub extends : IsExtended before.table after.table
  pub seen : after.seen ≡ before.seen
