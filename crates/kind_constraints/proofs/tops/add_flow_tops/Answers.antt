use Rattle.std.proofs.Common.{◌≤◌, length, arith}
use Rattle.std.proofs.lemmas.List.Elements.{Contains-get_or}
use Rattle.kind_constraints.specs.Pieces.{IsFlowTop}
use Rattle.kind_constraints.proofs.Adding.{gains_start, gains_one_more, gains_all}
use Rattle.kind_constraints.proofs.tops.add_flow_tops.Goals as goal

pub pairs-init : goal.pairs-init
pairs-init c = record { found = gains_start (IsFlowTop c.args.asked.now.types.now) c.args.pairs.now c.args.found.now; answered = c.requires.answered }

pub add_flow_top-requires-clause-from : goal.add_flow_top-requires-clause-from
add_flow_top-requires-clause-from c = c.requires.from _ (Contains-get_or c.args.pairs.now c.pairs.pair-index _ c.pairs-test.true)

pub add_flow_top-requires-clause-to : goal.add_flow_top-requires-clause-to
add_flow_top-requires-clause-to c = c.requires.to _ (Contains-get_or c.args.pairs.now c.pairs.pair-index _ c.pairs-test.true)

pub pairs-preserved : goal.pairs-preserved
pairs-preserved c = record {
  found = gains_one_more (IsFlowTop c.args.asked.now.types.now) c.args.pairs.now c.pairs.pair-index _ c.args.found.now c.pairs.found c.add_flow_top.new.found c.pairs-test.true
      c.pairs.invariant.found c.in_ok-add_flow_top.ensures.added;
  answered = c.in_ok-add_flow_top.ensures.answered;
}

pub returns : goal.returns
returns c =
    let past : length c.args.pairs.now ≤ c.pairs.pair-index = let h = c.pairs-test.false in omega arith in
    gains_all (IsFlowTop c.args.asked.now.types.now) c.args.pairs.now c.pairs.pair-index c.args.found.now c.pairs.found past c.pairs.invariant.found
