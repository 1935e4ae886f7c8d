use Rattle.std.proofs.Common.{arith}
use Rattle.kind_constraints.specs.Pieces.{IsUnlike}
use Rattle.kind_constraints.proofs.Adding.{adds_more, adds_done}
use Rattle.kind_constraints.proofs.listing.add_equalities.Goals as goal

pub pairs-preserved : goal.pairs-preserved
pairs-preserved c =
    adds_more IsUnlike c.args.pairs.now c.pairs.pair-index _ c.args.list.now.items c.pairs.list.items c.add_equality.new.list.items c.pairs-test.true c.pairs.invariant c.in_ok-add_equality.ensures

pub returns : goal.returns
returns c = adds_done IsUnlike c.args.pairs.now c.pairs.pair-index c.args.list.now.items c.pairs.list.items (omega arith) c.pairs.invariant
