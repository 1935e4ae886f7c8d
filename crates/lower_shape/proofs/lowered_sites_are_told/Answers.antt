use Rattle.lower_shape.proofs.SitesKept.{program-told}
use Rattle.lower_shape.proofs.lowered_sites_are_told.Goals as goal

pub returns : goal.returns
returns c unit program w l = program-told unit program w l
