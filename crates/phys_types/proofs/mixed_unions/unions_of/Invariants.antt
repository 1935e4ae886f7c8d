use Rattle.phys_types.proofs.MixedSpots.{AreUnionsOf}
use Rattle.phys_types.proofs.mixed_unions.unions_of.Given as goal

abbrev pub invariant-spots : goal.invariant-spots
invariant-spots l = AreUnionsOf l.spots l.spot-index l.unions.keys
