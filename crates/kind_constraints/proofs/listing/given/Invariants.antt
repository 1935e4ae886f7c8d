use Rattle.std.proofs.Common.{[], take}
use Rattle.kind_constraints.specs.Adding.{Adds, OfSome}
use Rattle.kind_constraints.specs.Asked.{IsAnswered}
use Rattle.kind_constraints.specs.Pieces.{IsGivenBy}
use Rattle.kind_constraints.proofs.listing.given.Given as goal

abbrev pub invariant-sites : goal.invariant-sites
invariant-sites l = record {
  given : Adds (OfSome (take l.site-index l.asked.sites.now) (IsGivenBy l.asked.types.now l.asked.sites.now)) [] l.list.items;
  answered : IsAnswered l.asked.types.now l.asked.sites.now l.answered;
}
