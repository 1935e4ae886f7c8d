use Rattle.kind_solver.proofs.Rounds.{rounds_start, rounds_more, rounds_end}
use Rattle.kind_solver.proofs.spreading.spread.Goals as goal

pub loop-init : goal.loop-init
loop-init c = rounds_start c.args.edges.now c.args.causes.now

pub loop-preserved : goal.loop-preserved
loop-preserved c =
    rounds_more c.args.edges.now c.args.causes.now c.loop.causes c.spread_round.new.causes c.loop.invariant
    c.spread_round.auto.causes c.spread_round.ensures.comes c.spread_round.ensures.falls

pub returns-clause-comes : goal.returns-clause-comes
returns-clause-comes c =
    (rounds_more c.args.edges.now c.args.causes.now c.loop.causes c.spread_round.new.causes c.loop.invariant
    c.spread_round.auto.causes c.spread_round.ensures.comes c.spread_round.ensures.falls).comes

pub returns-clause-earliest : goal.returns-clause-earliest
returns-clause-earliest c =
    rounds_end c.args.edges.now c.args.causes.now c.spread_round.new.causes
    (rounds_more c.args.edges.now c.args.causes.now c.loop.causes c.spread_round.new.causes c.loop.invariant
    c.spread_round.auto.causes c.spread_round.ensures.comes c.spread_round.ensures.falls)
    (rw c.loop-test.false at c.spread_round.ensures.cases)
