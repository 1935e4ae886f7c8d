use Rattle.std.proofs.Common.{take}
use Rattle.phys_types.specs.Found.{Gains}
use Rattle.kind_constraints.specs.Adding.{RelatedBySome}
use Rattle.kind_constraints.specs.Pieces.{IsOtherTop}
use Rattle.kind_constraints.proofs.tops.add_other_tops.Given as goal

abbrev pub invariant-sites : goal.invariant-sites
invariant-sites l = Gains (RelatedBySome (take l.site-index l.asked.sites.now) (IsOtherTop l.asked.types.now)) l.fn.found l.found
