use Rattle.std.proofs.Common.{◌≡◌, take}
use Rattle.phys_types.specs.Signatures.{mixed_all, spot_form}
use Rattle.phys_types.proofs.signature.spots_form.Given as goal

abbrev pub invariant-spots : goal.invariant-spots
invariant-spots l = l.form ≡ mixed_all 2 spot_form (take l.spot-index l.spots)
