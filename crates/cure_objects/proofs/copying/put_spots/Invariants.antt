use Rattle.std.proofs.Common.{take}
use Rattle.check_insert.specs.Drafts.{Grows}
use Rattle.cure_scope.specs.Scopes.{world_of}
use Rattle.cure_objects.specs.Copies.{SpotsKept}
use Rattle.cure_objects.proofs.copying.put_spots.Given as goal

abbrev pub invariant-loop-spot : goal.invariant-loop-spot
invariant-loop-spot l =
    Grows (SpotsKept (world_of l.k) l.c.from l.c.ty l.c.source l.c.home l.c.assignment (take l.spot-index l.spots)) (Unit {0}) l.fn.out l.out
