use Rattle.std.proofs.Common.{◌≡◌, drop}
use Rattle.phys_types.specs.Numbers.{end_within}
use Rattle.phys_types.proofs.comparing.end_within.Given as goal

abbrev pub invariant-loop-spot : goal.invariant-loop-spot
invariant-loop-spot l = end_within l.n (drop l.spot-index l.spots) ≡ end_within l.n l.spots
