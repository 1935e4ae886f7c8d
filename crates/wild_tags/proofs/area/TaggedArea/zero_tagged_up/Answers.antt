use Rattle.wild_tags.proofs.UntagCode.{up-none, up-tag, up-data, up-small, up-next, up-done}
use Rattle.wild_tags.proofs.area.TaggedArea.zero_tagged_up.Goals as goal

pub loop-i-init : goal.loop-i-init
loop-i-init c = up-none c.args.flat.now _ _ _

pub zero_if_tagged-requires-clause-tag : goal.zero_if_tagged-requires-clause-tag
zero_if_tagged-requires-clause-tag c = up-tag c.args.flat.now _ _ _ _ _ _ c.loop-i.invariant c.requires.tags c.loop-i.auto.i c.loop-i-test.true

pub zero_if_tagged-requires-clause-data : goal.zero_if_tagged-requires-clause-data
zero_if_tagged-requires-clause-data c = up-data c.args.flat.now _ _ _ _ _ _ c.loop-i.invariant c.requires.turn c.requires.data c.loop-i.auto.i c.loop-i-test.true

pub zero_if_tagged-requires-clause-small : goal.zero_if_tagged-requires-clause-small
zero_if_tagged-requires-clause-small c = up-small c.args.flat.now _ _ _ _ _ c.loop-i.invariant c.requires.small

pub loop-i-preserved : goal.loop-i-preserved
loop-i-preserved c = up-next c.args.flat.now _ _ _ _ _ _ _ c.loop-i.invariant c.requires.turn c.loop-i.auto.i c.loop-i-test.true c.zero_if_tagged.ensures

pub returns : goal.returns
returns c = up-done c.args.flat.now _ _ _ _ _ _ c.loop-i.invariant (c.loop-i.auto.i-end c.requires.order) c.loop-i-test.false
