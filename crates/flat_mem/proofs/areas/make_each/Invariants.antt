use Rattle.std.proofs.Common.{◌≡◌, ◌+◌, drop}
use Rattle.flat_mem.specs.Placement.{areas_size, areas_made}
use Rattle.flat_mem.proofs.areas.make_each.Given as goal

abbrev pub invariant-loop-area : goal.invariant-loop-area
invariant-loop-area l = record {
  made : areas_made (drop l.area-index l.areas) l.bytes l.at ≡ areas_made l.areas l.initial.bytes l.start;
  place : l.at + areas_size (drop l.area-index l.areas) ≡ l.start + areas_size l.areas;
}
