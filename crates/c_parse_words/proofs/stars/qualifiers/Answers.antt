use Rattle.std.proofs.Common.{rules}
use Rattle.c_parse_words.proofs.Rounds.{stops, goes, fails}
use Rattle.c_parse_words.proofs.stars.qualifiers.Goals as goal

pub returns-then-not-is_qualifier_word : goal.returns-then-not-is_qualifier_word
returns-then-not-is_qualifier_word c = stops c.loop-turn.invariant _ c.peek.ensures _ c.is_qualifier_word.ensures c.if-not-is_qualifier_word.true

pub returns-in_err-words : goal.returns-in_err-words
returns-in_err-words c =
    let stopped = fails c.loop-turn.invariant _ c.peek.ensures _ c.is_qualifier_word.ensures c.loop-turn-test.true c.if-not-is_qualifier_word.false c.in_err-words.ensures in
    search rules

pub loop-turn-preserved : goal.loop-turn-preserved
loop-turn-preserved c = goes c.loop-turn.invariant _ c.peek.ensures _ c.is_qualifier_word.ensures c.loop-turn-test.true c.if-not-is_qualifier_word.false c.in_ok-words.ensures
