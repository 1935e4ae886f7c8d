use Rattle.std.specs.Prelude.{◌≡◌, ◌≤◌, ℕ, List, length, slice_index_or}
use Rattle.std.specs.List.{repeat}
use Rattle.cc_base.specs.declared.number.NodeId.{NodeId}
use Rattle.cc_base.specs.declared.number.TypeId.{TypeId}
use Rattle.cc_base.specs.declared.kind.Kind.{Kind}
use Rattle.c_types.specs.Table.{Table, IsType}
use Rattle.c_types.specs.Equality.{cells_of}
use Rattle.cc_base.specs.Kinds.{kind_at}
use Rattle.c_types.specs.Sound.{IsWellFormed}
use Rattle.phys_types.specs.declared.spot.Spot.{Spot}
use Rattle.phys_types.specs.Spots.{cells_from, AreSpots}
use Rattle.fat_layouts.specs.declared.stops.CuredLayout.{CuredLayout}
use Rattle.fat_layouts.specs.Stops.{all_stops}

-- The types of a program and the kinds of its nodes.
pub record Curing : Type 0 where
  pub table : Table
  pub kinds : List Kind

-- the part has the stops of these spots
pub record IsPart (kind : NodeId → Kind) (spots : List Spot) (x : CuredLayout) : Type 0 where
  pub size : TypeId → ℕ
  pub stand : AreSpots size 0 spots x.size
  pub small : x.size ≤ 1048576
  pub stops : x.stops.items ≡ all_stops kind spots

-- the cells of t are copies of those of the part
pub record IsCuredLayout (table : Table) (kinds : List Kind) (t : TypeId) (x : CuredLayout) : Type 0 where
  pub spots : List Spot
  pub part : IsPart (kind_at kinds) spots x
  pub count : ℕ
  pub cells : repeat count (cells_from 0 spots x.size) ≡ cells_of table t

-- the layouts are those of the types of the table, in the order of their numbers
pub record AreCuredLayouts (table : Table) (kinds : List Kind) (layouts : List CuredLayout) : Type 0 where
  pub formed : IsWellFormed table
  pub count : length layouts ≡ length table
  pub each : (t : TypeId) (d : CuredLayout) → IsType table t → IsCuredLayout table kinds t (slice_index_or layouts t.0 d)
