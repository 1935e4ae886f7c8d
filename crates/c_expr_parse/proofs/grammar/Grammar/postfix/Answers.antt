use Rattle.std.proofs.Common.{rules}
use Rattle.c_parse_words.proofs.Rounds.{stops, goes, fails}
use Rattle.c_expr_parse.proofs.grammar.Grammar.postfix.Goals as goal

pub returns-then-not-has_suffix-clause-reads : goal.returns-then-not-has_suffix-clause-reads
returns-then-not-has_suffix-clause-reads g c = stops c.loop-turn.invariant.0 _ c.peek.ensures _ c.has_suffix.ensures c.if-not-has_suffix.true

pub returns-in_err-e-clause-reads : goal.returns-in_err-e-clause-reads
returns-in_err-e-clause-reads g c =
    let stopped = fails c.loop-turn.invariant.0 _ c.peek.ensures _ c.has_suffix.ensures c.loop-turn-test.true c.if-not-has_suffix.false c.in_err-e.ensures.reads in
    search rules

pub loop-turn-preserved : goal.loop-turn-preserved
loop-turn-preserved g c = (goes c.loop-turn.invariant.0 _ c.peek.ensures _ c.has_suffix.ensures c.loop-turn-test.true c.if-not-has_suffix.false c.in_ok-e.ensures.reads, c.in_ok-e.ensures.height)
