use Rattle.wild_tags.proofs.CallCode.{mark-inside}
use Rattle.wild_tags.proofs.mark.Goals as goal

pub store-requires-clause-inside : goal.store-requires-clause-inside
store-requires-clause-inside c = mark-inside _ _ _ _ _ _ _ _ c.requires c.of-area.ensures.at c.of-area.ensures.length c.word_of-word.ensures c.base.ensures c.set_tag.ensures
