use Rattle.std.proofs.Common.{arith}
use Rattle.wild_tags.proofs.UntagCode.{down-none, down-tag, down-data, down-small, down-next, down-done}
use Rattle.wild_tags.proofs.area.TaggedArea.zero_tagged_down.Goals as goal

pub loop-i-init : goal.loop-i-init
loop-i-init c = record { zeroed = down-none c.args.flat.now _ _ _; low = c.requires.order }

pub zero_if_tagged-requires-clause-tag : goal.zero_if_tagged-requires-clause-tag
zero_if_tagged-requires-clause-tag c = down-tag c.args.flat.now _ _ _ _ _ _ c.loop-i.invariant.zeroed c.requires.tags c.loop-i-test.true c.loop-i.auto.i

pub zero_if_tagged-requires-clause-data : goal.zero_if_tagged-requires-clause-data
zero_if_tagged-requires-clause-data c = down-data c.args.flat.now _ _ _ _ _ _ c.loop-i.invariant.zeroed c.requires.turn c.requires.data c.loop-i-test.true c.loop-i.auto.i

pub zero_if_tagged-requires-clause-small : goal.zero_if_tagged-requires-clause-small
zero_if_tagged-requires-clause-small c = down-small c.args.flat.now _ _ _ _ _ c.loop-i.invariant.zeroed c.requires.small

pub loop-i-preserved : goal.loop-i-preserved
loop-i-preserved c = record {
  zeroed = down-next c.args.flat.now _ _ _ _ _ _ _ c.loop-i.invariant.zeroed c.requires.turn c.loop-i-test.true c.loop-i.auto.i c.zero_if_tagged.ensures;
  low = omega arith;
}

pub returns : goal.returns
returns c = down-done c.args.flat.now _ _ _ _ _ _ c.loop-i.invariant.zeroed c.loop-i.invariant.low c.loop-i-test.false
