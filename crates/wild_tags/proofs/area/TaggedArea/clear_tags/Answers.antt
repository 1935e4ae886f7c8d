use Rattle.wild_tags.proofs.CallCode.{clear-none, clear-next, clear-inside, clear-small, clear-done}
use Rattle.wild_tags.proofs.area.TaggedArea.clear_tags.Goals as goal

pub set_tag-requires-clause-inside : goal.set_tag-requires-clause-inside
set_tag-requires-clause-inside c = clear-inside _ _ _ _ _ _ _ c.loop-i.invariant c.requires.inside c.loop-i.auto.i c.loop-i-test.true

pub set_tag-requires-clause-small : goal.set_tag-requires-clause-small
set_tag-requires-clause-small c = clear-small _ _ _ _ _ _ c.loop-i.invariant c.requires.small

pub loop-i-init : goal.loop-i-init
loop-i-init c = clear-none _ _ _ _

pub loop-i-preserved : goal.loop-i-preserved
loop-i-preserved c = clear-next _ _ _ _ _ _ _ c.loop-i.invariant c.set_tag.ensures c.loop-i.auto.i

pub returns : goal.returns
returns c = clear-done _ _ _ _ _ _ _ c.loop-i.invariant (c.loop-i.auto.i-end c.requires.order) c.loop-i-test.false
