use Rattle.std.proofs.Common.{arith}
use Rattle.kind_constraints.proofs.Adding.{adds_more, adds_done}
use Rattle.kind_constraints.proofs.GivenPieces.{IsForced}
use Rattle.kind_constraints.proofs.contents.add_forces.Goals as goal

pub unions-preserved : goal.unions-preserved
unions-preserved c =
    adds_more (IsForced c.args.node c.args.mixed.now) c.args.unions.now c.unions.union-index _ c.args.list.now.items c.unions.list.items c.add_force.new.list.items
    c.unions-test.true c.unions.invariant c.in_ok-add_force.ensures

pub returns : goal.returns
returns c = adds_done (IsForced c.args.node c.args.mixed.now) c.args.unions.now c.unions.union-index c.args.list.now.items c.unions.list.items (omega arith) c.unions.invariant
