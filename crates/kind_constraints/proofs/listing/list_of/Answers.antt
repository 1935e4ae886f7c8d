use Rattle.std.proofs.Common.{List, subst}
use Rattle.cc_base.specs.declared.number.NodeId.{NodeId}
use Rattle.kind_constraints.specs.Adding.{Adds, OfSome}
use Rattle.kind_constraints.specs.Pieces.{IsUnlike}
use Rattle.kind_constraints.proofs.GivenLaws.{all_given}
use Rattle.kind_constraints.proofs.listing.list_of.Goals as goal

pub given-requires-clause-answered : goal.given-requires-clause-answered
given-requires-clause-answered c = c.nothing-answered.ensures c.args.asked.now.types.now c.args.asked.now.sites.now

pub returns : goal.returns
returns c =
    all_given c.args.asked.now.types.now c.args.asked.now.sites.now c.in_ok-pairs.pairs.items c.in_ok-list.list.items c.add_equalities.new.list.items c.in_ok-list.ensures.given
    (subst (λ (xs : List (NodeId × NodeId)). Adds (OfSome xs IsUnlike) c.in_ok-list.list.items c.add_equalities.new.list.items) c.deref.ensures.value c.in_ok-add_equalities.ensures)
    c.in_ok-pairs.ensures
