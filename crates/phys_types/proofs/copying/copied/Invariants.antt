use Rattle.std.proofs.Common.{◌≡◌}
use Rattle.phys_types.specs.Spots.{copies}
use Rattle.phys_types.proofs.copying.copied.Given as goal

abbrev pub invariant-loop-i : goal.invariant-loop-i
invariant-loop-i l = l.all.items ≡ copies l.i l.size 0 l.spots
