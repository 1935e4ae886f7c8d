use Rattle.std.proofs.lemmas.List.{take_all}
use Rattle.kind_solver.proofs.Rounds.{round_start, round_next, round_cases}
use Rattle.kind_solver.proofs.spreading.spread_round.Goals as goal

pub loop-edge-init : goal.loop-edge-init
loop-edge-init c = round_start c.args.edges.now c.args.causes.now

pub loop-edge-preserved : goal.loop-edge-preserved
loop-edge-preserved c =
    round_next c.args.edges.now _ c.loop-edge.edge-index _ c.loop-edge.causes c.spread_along-changed.new.causes
    c.loop-edge.changed _ _ c.loop-edge-test.true c.requires c.loop-edge.auto.causes c.loop-edge.invariant
    c.spread_along-changed.ensures

pub returns-clause-cases : goal.returns-clause-cases
returns-clause-cases c =
    round_cases c.args.edges.now c.args.causes.now c.loop-edge.causes c.loop-edge.changed
    (rw (take_all c.loop-edge.edge-index c.args.edges.now c.loop-edge-test.false) at c.loop-edge.invariant)
