use Rattle.wild_tags.proofs.WordLaws.{positive, tag-inside}
use Rattle.wild_tags.proofs.CallCode.{in_order, depth-none, depth-start, depth-needs, depth-yes, depth-no, depth-all, base-inside}
use Rattle.wild_tags.proofs.tdepth.Goals as goal
use Rattle.wild_tags.proofs.tdepth.Goals.{then-is_tagged, else-is_tagged}
use Rattle.std.proofs.Common.{◌∙◌}

pub returns-then-n-eq0 : goal.returns-then-n-eq0
returns-then-n-eq0 c = depth-none c.args.flat.now _ _ _ c.if-n-eq0.true

pub loop-i-init : goal.loop-i-init
loop-i-init c = depth-start c.args.flat.now _ _ _

pub is_tagged-requires-clause-inside : goal.is_tagged-requires-clause-inside
is_tagged-requires-clause-inside c =
    tag-inside _ _ _ _ _ _ _ _ _ (depth-needs _ _ _ _ c.requires (positive _ c.if-n-eq0.false)) c.word_of-first.ensures c.end_of-end.ensures c.of-area.ensures.at c.of-area.ensures.length c.loop-i.auto.i c.loop-i-test.true

pub load-requires-clause-inside : goal.load-requires-clause-inside
load-requires-clause-inside c =
    base-inside c.args.flat.now _ _ _ _ _ _ _ _ _ _ c.requires c.of-area.ensures.at c.of-area.ensures.length c.word_of-first.ensures c.end_of-end.ensures c.is_tagged.ensures c.if-is_tagged.true c.base.ensures c.loop-i.auto.i c.loop-i-test.true

pub loop-i-preserved : goal.loop-i-preserved
loop-i-preserved c = elim c.if-is_tagged.branch [
  | then-is_tagged w ↦ depth-yes c.args.flat.now _ _ _ _ _ _ _ _ _ _ c.loop-i.invariant c.is_tagged.ensures w.if-is_tagged.true w.base.ensures w.load.ensures w.depth_of.ensures (w.depth-is ∙ w.max-depth.ensures) c.loop-i.auto.i
  | else-is_tagged w ↦ w.depth-is ∙ depth-no c.args.flat.now _ _ _ _ _ _ c.loop-i.invariant c.is_tagged.ensures w.if-is_tagged.false c.loop-i.auto.i
]

pub returns : goal.returns
returns c = depth-all c.args.flat.now _ _ _ _ _ _ _ _ _ c.loop-i.invariant c.of-area.ensures.at c.of-area.ensures.length c.word_of-first.ensures c.end_of-end.ensures (c.loop-i.auto.i-end (in_order _ _ _ _ c.word_of-first.ensures c.end_of-end.ensures)) c.loop-i-test.false
