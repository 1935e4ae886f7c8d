use Rattle.wild_tags.proofs.WordLaws.{needs-plain, positive, tag-inside}
use Rattle.wild_tags.proofs.CallCode.{in_order, plain-none, plain-start, plain-next, plain-found, plain-all}
use Rattle.wild_tags.proofs.plain.Goals as goal

pub returns-then-n-eq0 : goal.returns-then-n-eq0
returns-then-n-eq0 c = plain-none _ _ _ _ c.if-n-eq0.true

pub loop-i-init : goal.loop-i-init
loop-i-init c = plain-start _ _ _ _

pub is_tagged-requires-clause-inside : goal.is_tagged-requires-clause-inside
is_tagged-requires-clause-inside c =
    tag-inside _ _ _ _ _ _ _ _ _ (needs-plain _ _ _ _ c.requires (positive _ c.if-n-eq0.false)) c.word_of-first.ensures c.end_of-end.ensures c.of-area.ensures.at c.of-area.ensures.length c.loop-i.auto.i c.loop-i-test.true

pub returns-then-is_tagged : goal.returns-then-is_tagged
returns-then-is_tagged c =
    plain-found _ _ _ _ _ _ _ _ _ _ c.of-area.ensures.at c.of-area.ensures.length c.word_of-first.ensures c.end_of-end.ensures c.is_tagged.ensures c.if-is_tagged.true c.loop-i.auto.i c.loop-i-test.true

pub loop-i-preserved : goal.loop-i-preserved
loop-i-preserved c = plain-next _ _ _ _ _ _ c.loop-i.invariant c.is_tagged.ensures c.if-is_tagged.false c.loop-i.auto.i

pub returns : goal.returns
returns c =
    plain-all _ _ _ _ _ _ _ _ _ c.loop-i.invariant c.of-area.ensures.at c.of-area.ensures.length c.word_of-first.ensures c.end_of-end.ensures (c.loop-i.auto.i-end (in_order _ _ _ _ c.word_of-first.ensures c.end_of-end.ensures)) c.loop-i-test.false
