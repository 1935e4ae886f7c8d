use Rattle.std.proofs.Common.{◌≡◌, take, flat_map}
use Rattle.phys_types.specs.Signatures.{item_targets}
use Rattle.phys_types.proofs.signature.spots_targets.Given as goal

abbrev pub invariant-spots : goal.invariant-spots
invariant-spots l = l.targets.items ≡ flat_map (λ s. item_targets s.item) (take l.spot-index l.spots)
