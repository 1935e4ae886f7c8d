use Rattle.std.proofs.Common.{◌≡◌, take}
use Rattle.cc_base.specs.Kinds.{kind_at}
use Rattle.phys_types.specs.Numbers.{number_in}
use Rattle.phys_types.specs.Signatures.{mixed_all}
use Rattle.rtti_nodes.specs.Numbering.{spot_label}
use Rattle.rtti_nodes.proofs.labels.spots_label.Given as goal

abbrev pub invariant-spots : goal.invariant-spots
invariant-spots l = l.label ≡ mixed_all 0 (spot_label (kind_at l.kinds) (number_in l.numbers)) (take l.spot-index l.spots)
