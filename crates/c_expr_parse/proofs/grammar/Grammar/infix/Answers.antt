use Rattle.std.proofs.Common.{rules}
use Rattle.c_parse_words.proofs.Rounds.{stops, goes, fails}
use Rattle.c_expr_parse.proofs.grammar.Grammar.infix.Goals as goal

pub returns-then-not-binds-clause-reads : goal.returns-then-not-binds-clause-reads
returns-then-not-binds-clause-reads g c = stops c.loop-turn.invariant.0 _ c.peek.ensures _ c.binds.ensures c.if-not-binds.true

pub returns-in_err-e-clause-reads : goal.returns-in_err-e-clause-reads
returns-in_err-e-clause-reads g c =
    let stopped = fails c.loop-turn.invariant.0 _ c.peek.ensures _ c.binds.ensures c.loop-turn-test.true c.if-not-binds.false c.in_err-e.ensures.reads in
    search rules

pub loop-turn-preserved : goal.loop-turn-preserved
loop-turn-preserved g c = (goes c.loop-turn.invariant.0 _ c.peek.ensures _ c.binds.ensures c.loop-turn-test.true c.if-not-binds.false c.in_ok-e.ensures.reads, c.in_ok-e.ensures.height)
