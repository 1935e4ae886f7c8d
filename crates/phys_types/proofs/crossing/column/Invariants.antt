use Rattle.std.proofs.Common.{◌-◌, length}
use Rattle.phys_types.proofs.Crossed.{ColumnSoFar}
use Rattle.phys_types.proofs.crossing.column.Given as goal

abbrev pub invariant-steps : goal.invariant-steps
invariant-steps l = ColumnSoFar l.step l.first l.spots l.i l.pointers.keys

abbrev pub decreases-steps : goal.decreases-steps
decreases-steps l = length l.spots - l.i
