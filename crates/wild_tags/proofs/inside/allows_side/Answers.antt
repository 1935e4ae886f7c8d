use Rattle.std.proofs.Common.{sym, ◌∙◌}
use Rattle.wild_tags.proofs.WordLaws.{positive}
use Rattle.wild_tags.proofs.CallCode.{zero-needs}
use Rattle.wild_tags.proofs.InsideCode.{side-no_bytes, side-test}
use Rattle.wild_tags.proofs.inside.allows_side.Goals as goal

pub returns-then-n-eq0 : goal.returns-then-n-eq0
returns-then-n-eq0 c =
    side-no_bytes _ c.args.a c.args.b c.args.n (sym c.allows_zero.ensures ∙ c.if-not-allows_zero.false) c.if-a-b-ne0.false c.if-n-eq0.true

pub returns : goal.returns
returns c =
    let inside = sym c.allows_zero.ensures ∙ c.if-not-allows_zero.false in
    let some = positive _ c.if-n-eq0.false in
    side-test _ c.args.a c.args.b c.args.n _ _ _ _ inside c.if-a-b-ne0.false some (zero-needs _ _ _ _ inside some).order c.of.ensures.at c.of.ensures.length c.end_of.ensures c.base_limit.ensures
