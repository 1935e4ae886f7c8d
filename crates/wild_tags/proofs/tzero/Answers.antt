use Rattle.wild_tags.proofs.WordLaws.{positive}
use Rattle.wild_tags.proofs.CallCode.{zero-none, zero-needs, zero-inside, zero-small, zero-done}
use Rattle.wild_tags.proofs.tzero.Goals as goal

pub returns-then-n-eq0 : goal.returns-then-n-eq0
returns-then-n-eq0 c = zero-none _ _ _ _ c.if-n-eq0.true

pub clear_tags-requires-clause-inside : goal.clear_tags-requires-clause-inside
clear_tags-requires-clause-inside c =
    zero-inside _ _ _ _ _ _ _ _ _ (zero-needs _ _ _ _ c.requires (positive _ c.if-n-eq0.false)) c.of-area.ensures.at c.of-area.ensures.length c.word_of.ensures c.end_of.ensures c.zero.ensures

pub clear_tags-requires-clause-small : goal.clear_tags-requires-clause-small
clear_tags-requires-clause-small c = zero-small _ _ _ _ c.zero.ensures c.of-area.ensures.small

pub returns : goal.returns
returns c = zero-done _ _ _ _ _ _ _ _ _ _ c.of-area.ensures.at c.of-area.ensures.length c.word_of.ensures c.end_of.ensures c.zero.ensures c.clear_tags.ensures
