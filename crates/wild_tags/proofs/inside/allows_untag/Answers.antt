use Rattle.std.proofs.Common.{sym, ◌∙◌}
use Rattle.wild_tags.proofs.WordLaws.{positive}
use Rattle.wild_tags.proofs.CallCode.{in_order}
use Rattle.wild_tags.proofs.InsideCode.{untag-no_bytes, untag-test, test-tags}
use Rattle.wild_tags.proofs.inside.allows_untag.Goals as goal

pub returns-then-n-eq0 : goal.returns-then-n-eq0
returns-then-n-eq0 c = untag-no_bytes _ _ _ _ (sym c.allows_plain.ensures ∙ c.if-not-allows_plain.false) c.if-n-eq0.true

pub tagged_below-requires-clause-order : goal.tagged_below-requires-clause-order
tagged_below-requires-clause-order c = in_order _ _ _ _ c.word_of.ensures c.end_of.ensures

pub tagged_below-requires-clause-tags : goal.tagged_below-requires-clause-tags
tagged_below-requires-clause-tags c =
    test-tags _ c.args.a c.args.b c.args.n _ _ _ _ (sym c.allows_plain.ensures ∙ c.if-not-allows_plain.false) (positive _ c.if-n-eq0.false) c.of-area.ensures.at c.of-area.ensures.length c.word_of.ensures c.end_of.ensures

pub returns : goal.returns
returns c =
    untag-test _ c.args.a c.args.b c.args.n _ _ _ _ _ _ (sym c.allows_plain.ensures ∙ c.if-not-allows_plain.false) c.of-area.ensures.at c.of-area.ensures.length c.word_of.ensures c.end_of.ensures c.data_limit.ensures c.tagged_below.ensures
