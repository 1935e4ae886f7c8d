use Rattle.std.proofs.Common.{◌-◌, ◌*◌, length}
use Rattle.std.specs.List.{Contains}
use Rattle.cc_base.specs.declared.number.TypeId.{TypeId}
use Rattle.c_types.specs.Sound.{IsWellFormed}
use Rattle.phys_types.specs.Standing.{AreEqualTypes}
use Rattle.phys_types.proofs.Queue.{Following}
use Rattle.phys_types.proofs.following.follow.Given as goal

abbrev pub invariant-queue : goal.invariant-queue
invariant-queue l =
    (w : IsWellFormed l.types) (equal : (t u : TypeId) → Contains l.initial.found.pointees (t, u) → AreEqualTypes l.types t u)
    → Following l.types w l.initial.found equal l.i l.found

abbrev pub decreases-queue : goal.decreases-queue
decreases-queue l = length l.types * length l.types - l.i
