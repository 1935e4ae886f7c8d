use Rattle.wild_tags.proofs.UntagCode.{zero-word, zero-no_word}
use Rattle.wild_tags.proofs.area.TaggedArea.zero_if_tagged.Goals as goal

pub returns-then-is_tagged : goal.returns-then-is_tagged
returns-then-is_tagged c = zero-word _ _ _ _ _ _ _ c.is_tagged.ensures c.if-is_tagged.true c.data.ensures c.zero.ensures

pub returns-else-is_tagged : goal.returns-else-is_tagged
returns-else-is_tagged c = zero-no_word c.args.flat.now _ _ _ _ c.is_tagged.ensures c.if-is_tagged.false
