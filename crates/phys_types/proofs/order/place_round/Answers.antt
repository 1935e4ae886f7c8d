use Rattle.std.proofs.Common.{◌≤◌, length, arith}
use Rattle.phys_types.proofs.Placing.{round_step, round_all}
use Rattle.phys_types.proofs.order.place_round.Goals as goal

pub types-preserved : goal.types-preserved
types-preserved c = record {
  placing = c.in_ok-step.ensures.placing;
  steps = round_step c.args.types.now c.args.placed.now c.types.placed c.place.new.placed c.types.t c.types.changed c.in_ok-step.step
      c.types.invariant.steps c.in_ok-step.ensures.steps c.in_ok-step.ensures.done;
}

pub returns-clause-round : goal.returns-clause-round
returns-clause-round c =
    let n = c.count-t-end.ensures.number in
    let l : length c.args.types.now ≤ c.types.t = omega arith in
    round_all c.args.types.now c.args.placed.now c.types.placed c.types.t c.types.changed l c.types.invariant.steps
