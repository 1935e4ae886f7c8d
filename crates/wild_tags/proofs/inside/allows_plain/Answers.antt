use Rattle.wild_tags.proofs.WordLaws.{positive}
use Rattle.wild_tags.proofs.InsideCode.{plain-test}
use Rattle.wild_tags.proofs.inside.allows_plain.Goals as goal

pub returns-then-has_length : goal.returns-then-has_length
returns-then-has_length c =
    plain-test _ _ _ _ _ _ _ _ _ c.if-a-b.false (positive _ c.if-n-eq0.false) c.has_length.ensures c.if-has_length.true c.of.ensures.at c.of.ensures.length c.end_of.ensures c.tag_limit.ensures
