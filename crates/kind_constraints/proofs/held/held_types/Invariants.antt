use Rattle.std.proofs.Common.{◌-◌, length}
use Rattle.c_types.specs.Sound.{IsWellFormed}
use Rattle.kind_constraints.proofs.HeldTypes.{Queued}
use Rattle.kind_constraints.proofs.held.held_types.Given as goal

abbrev pub invariant-queue : goal.invariant-queue
invariant-queue l = (w : IsWellFormed l.types) → Queued l.types w l.fn.t l.i l.held.keys

abbrev pub decreases-queue : goal.decreases-queue
decreases-queue l = length l.types - l.i
