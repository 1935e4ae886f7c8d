use Rattle.std.proofs.Common.{rules}
use Rattle.c_parse_words.proofs.StateRounds.{state_stops, state_goes, state_fails}
use Rattle.c_parse_words.proofs.array_words.array_words.Goals as goal

pub returns-then-not-is_array_word-clause-reads : goal.returns-then-not-is_array_word-clause-reads
returns-then-not-is_array_word-clause-reads c = state_stops c.loop-turn.invariant.0 _ c.peek.ensures _ c.is_array_word.ensures c.if-not-is_array_word.true

pub returns-in_err-words-clause-reads : goal.returns-in_err-words-clause-reads
returns-in_err-words-clause-reads c =
    let stopped = state_fails c.loop-turn.invariant.0 _ c.peek.ensures _ c.is_array_word.ensures c.loop-turn-test.true c.if-not-is_array_word.false c.in_err-words.ensures.reads in
    search rules

pub loop-turn-preserved : goal.loop-turn-preserved
loop-turn-preserved c = (state_goes c.loop-turn.invariant.0 _ c.peek.ensures _ c.is_array_word.ensures c.loop-turn-test.true c.if-not-is_array_word.false c.in_ok-words.ensures.reads, c.in_ok-words.ensures.fit)
