use Rattle.std.proofs.Common.{List, get_or, sym, subst, arith}
use Rattle.cc_base.specs.declared.number.NodeId.{NodeId}
use Rattle.kind_solver.specs.declared.constraint.Constraint.{Constraint}
use Rattle.kind_solver.specs.declared.constraint.Constraint.TheVariants.{Inside}
use Rattle.kind_constraints.specs.Adding.{Adds}
use Rattle.kind_constraints.proofs.Adding.{push_adds, adds_more, adds_done}
use Rattle.kind_constraints.proofs.GivenPieces.{IsInner}
use Rattle.kind_constraints.proofs.contents.add_inner.Goals as goal

zeroth : NodeId × NodeId
zeroth = (record { 0 = 0 }, record { 0 = 0 })

pub nodes-preserved : goal.nodes-preserved
unfolding zeroth
nodes-preserved c =
    let pair = get_or c.args.nodes.now c.nodes.node-index zeroth in
    adds_more (IsInner c.args.outer) c.args.nodes.now c.nodes.node-index zeroth c.args.list.now.items c.nodes.list.items c.push.new.self.items c.nodes-test.true c.nodes.invariant
    (subst (λ (xs : List Constraint). Adds (IsInner c.args.outer pair) c.nodes.list.items xs) (sym c.in_ok-push.ensures.items) (push_adds c.nodes.list.items (Inside c.args.outer pair.0)))

pub returns : goal.returns
returns c = adds_done (IsInner c.args.outer) c.args.nodes.now c.nodes.node-index c.args.list.now.items c.nodes.list.items (omega arith) c.nodes.invariant
