use Rattle.std.proofs.Common.{◌≡◌, ◌+◌, drop}
use Rattle.flat_mem.specs.Placement.{areas_size}
use Rattle.flat_mem.proofs.areas.sizes_of.Given as goal

abbrev pub invariant-loop-area : goal.invariant-loop-area
invariant-loop-area l = l.size + areas_size (drop l.area-index l.areas) ≡ areas_size l.areas
