use Rattle.std.proofs.Common.{rules}
use Rattle.c_parse_words.proofs.Rounds.{stops, goes, fails}
use Rattle.c_expr_parse.proofs.grammar.Grammar.more_parameters.Goals as goal

pub returns-then-not-is_comma-clause-reads : goal.returns-then-not-is_comma-clause-reads
returns-then-not-is_comma-clause-reads g c = stops c.loop-turn.invariant.0 _ c.peek.ensures _ c.is_comma.ensures c.if-not-is_comma.true

pub returns-in_err-list-clause-reads : goal.returns-in_err-list-clause-reads
returns-in_err-list-clause-reads g c =
    let stopped = fails c.loop-turn.invariant.0 _ c.peek.ensures _ c.is_comma.ensures c.loop-turn-test.true c.if-not-is_comma.false c.in_err-list.ensures.reads in
    search rules

pub loop-turn-preserved : goal.loop-turn-preserved
loop-turn-preserved g c = (goes c.loop-turn.invariant.0 _ c.peek.ensures _ c.is_comma.ensures c.loop-turn-test.true c.if-not-is_comma.false c.in_ok-list.ensures.reads, c.in_ok-list.ensures.height)
