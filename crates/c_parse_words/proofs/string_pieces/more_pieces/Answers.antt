use Rattle.std.proofs.Common.{rules}
use Rattle.c_parse_words.proofs.Rounds.{stops, goes, fails}
use Rattle.c_parse_words.proofs.string_pieces.more_pieces.Goals as goal

pub returns-then-not-is_quoted : goal.returns-then-not-is_quoted
returns-then-not-is_quoted c = stops c.loop-turn.invariant _ c.peek.ensures _ c.is_quoted.ensures c.if-not-is_quoted.true

pub returns-in_err-pieces : goal.returns-in_err-pieces
returns-in_err-pieces c =
    let stopped = fails c.loop-turn.invariant _ c.peek.ensures _ c.is_quoted.ensures c.loop-turn-test.true c.if-not-is_quoted.false c.in_err-pieces.ensures in
    search rules

pub loop-turn-preserved : goal.loop-turn-preserved
loop-turn-preserved c = goes c.loop-turn.invariant _ c.peek.ensures _ c.is_quoted.ensures c.loop-turn-test.true c.if-not-is_quoted.false c.in_ok-pieces.ensures
