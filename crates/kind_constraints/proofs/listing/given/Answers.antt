use Rattle.std.proofs.Common.{[], arith}
use Rattle.kind_constraints.specs.Pieces.{IsGivenBy}
use Rattle.kind_constraints.proofs.Adding.{adds_more, adds_done}
use Rattle.kind_constraints.proofs.listing.given.Goals as goal

pub sites-preserved : goal.sites-preserved
sites-preserved c = record {
  given = adds_more (IsGivenBy c.args.asked.now.types.now c.args.asked.now.sites.now) c.args.asked.now.sites.now c.sites.site-index _ [] c.sites.list.items c.add_given.new.list.items
      c.sites-test.true c.sites.invariant.given c.in_ok-add_given.ensures.added;
  answered = c.in_ok-add_given.ensures.answered;
}

pub returns-clause-given : goal.returns-clause-given
returns-clause-given c =
    adds_done (IsGivenBy c.args.asked.now.types.now c.args.asked.now.sites.now) c.args.asked.now.sites.now c.sites.site-index [] c.sites.list.items (omega arith) c.sites.invariant.given
