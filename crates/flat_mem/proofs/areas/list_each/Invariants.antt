use Rattle.std.proofs.Common.{◌≡◌, ◌+◌, ◌++◌, drop, vec_len, vec_capacity}
use Rattle.flat_mem.specs.Placement.{areas_size, addresses}
use Rattle.flat_mem.proofs.areas.list_each.Given as goal

abbrev pub invariant-loop-area : goal.invariant-loop-area
invariant-loop-area l = record {
  listed : l.list.items ++ addresses (drop l.area-index l.areas) l.at ≡ l.initial.list.items ++ addresses l.areas l.start;
  place : l.at + areas_size (drop l.area-index l.areas) ≡ l.start + areas_size l.areas;
  count : vec_len l.list ≡ vec_len l.initial.list + l.area-index;
  capacity : vec_capacity l.list ≡ vec_capacity l.initial.list;
}
