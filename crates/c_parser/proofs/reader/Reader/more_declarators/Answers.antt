use Rattle.std.proofs.Common.{rules}
use Rattle.c_parse_words.proofs.Rounds.{stops, goes, fails}
use Rattle.c_parser.proofs.reader.Reader.more_declarators.Goals as goal

pub returns-then-not-is_comma : goal.returns-then-not-is_comma
returns-then-not-is_comma c = stops c.loop-turn.invariant _ c.peek.ensures _ c.is_comma.ensures c.if-not-is_comma.true

pub returns-in_err-list : goal.returns-in_err-list
returns-in_err-list c =
    let stopped = fails c.loop-turn.invariant _ c.peek.ensures _ c.is_comma.ensures c.loop-turn-test.true c.if-not-is_comma.false c.in_err-list.ensures in
    search rules

pub loop-turn-preserved : goal.loop-turn-preserved
loop-turn-preserved c = goes c.loop-turn.invariant _ c.peek.ensures _ c.is_comma.ensures c.loop-turn-test.true c.if-not-is_comma.false c.in_ok-list.ensures
