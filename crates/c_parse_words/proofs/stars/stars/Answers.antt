use Rattle.std.proofs.Common.{rules}
use Rattle.c_parse_words.proofs.Rounds.{stops, goes, fails}
use Rattle.c_parse_words.proofs.stars.stars.Goals as goal

pub returns-then-not-is_star : goal.returns-then-not-is_star
returns-then-not-is_star c = stops c.loop-turn.invariant _ c.peek.ensures _ c.is_star.ensures c.if-not-is_star.true

pub returns-in_err-list : goal.returns-in_err-list
returns-in_err-list c =
    let stopped = fails c.loop-turn.invariant _ c.peek.ensures _ c.is_star.ensures c.loop-turn-test.true c.if-not-is_star.false c.in_err-list.ensures in
    search rules

pub loop-turn-preserved : goal.loop-turn-preserved
loop-turn-preserved c = goes c.loop-turn.invariant _ c.peek.ensures _ c.is_star.ensures c.loop-turn-test.true c.if-not-is_star.false c.in_ok-list.ensures
