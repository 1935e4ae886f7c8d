use Rattle.std.proofs.Common.{rules}
use Rattle.c_parse_words.proofs.Rounds.{stops, goes, fails}
use Rattle.c_parser.proofs.NameInsertion.{step_at}
use Rattle.c_parser.proofs.externals.declarators.Goals as goal

pub returns-then-not-is_comma-clause-reads : goal.returns-then-not-is_comma-clause-reads
returns-then-not-is_comma-clause-reads c = stops c.loop-turn.invariant.0 _ c.peek.ensures _ c.is_comma.ensures c.if-not-is_comma.true

pub returns-in_err-list-clause-reads : goal.returns-in_err-list-clause-reads
returns-in_err-list-clause-reads c =
    let stopped = fails c.loop-turn.invariant.0 _ c.peek.ensures _ c.is_comma.ensures c.loop-turn-test.true c.if-not-is_comma.false (λ other. step_at _ _ _ _ _ _ c.loop-turn.invariant.1 (c.in_err-list.ensures.reads other)) in
    search rules

pub loop-turn-preserved : goal.loop-turn-preserved
loop-turn-preserved c = (
  goes c.loop-turn.invariant.0 _ c.peek.ensures _ c.is_comma.ensures c.loop-turn-test.true c.if-not-is_comma.false (step_at _ _ _ _ _ _ c.loop-turn.invariant.1 c.in_ok-list.ensures.reads),
  c.in_ok-list.ensures.names _ c.loop-turn.invariant.1,
)
