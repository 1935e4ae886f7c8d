use Rattle.std.proofs.Common.{◌≡◌, ◌+◌, ◌≤◌, drop}
use Rattle.flat_mem.specs.Placement.{areas_size}
use Rattle.flat_mem.proofs.areas.all_fit.Given as goal

abbrev pub invariant-loop-area : goal.invariant-loop-area
invariant-loop-area l = (areas_size (drop l.area-index l.areas) + l.room ≡ areas_size l.areas + l.left) × (l.left ≤ l.room)
