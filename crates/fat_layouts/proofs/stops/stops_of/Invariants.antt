use Rattle.std.proofs.Common.{drop}
use Rattle.cc_base.specs.Kinds.{kind_at}
use Rattle.fat_layouts.proofs.StopLaws.{IsBuilding}
use Rattle.fat_layouts.proofs.stops.stops_of.Given as goal

abbrev pub invariant-spots : goal.invariant-spots
invariant-spots l = IsBuilding (kind_at l.kinds) l.spots (drop l.spot-index l.spots) l.last l.stops.items
