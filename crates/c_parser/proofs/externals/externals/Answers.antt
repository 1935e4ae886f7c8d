use Rattle.std.proofs.Common.{ap, ◌∙◌, rules}
use Rattle.c_tree.specs.Words.{AtFile}
use Rattle.c_parse_words.specs.Seen.{next_view}
use Rattle.c_parse_words.specs.Tests.{begins_specifier}
use Rattle.c_parse_words.proofs.StateRounds.{state_stops, state_goes, state_fails}
use Rattle.c_parser.proofs.externals.externals.Goals as goal

pub returns-then-not-begins_specifier : goal.returns-then-not-begins_specifier
returns-then-not-begins_specifier c =
    state_stops c.loop-turn.invariant.0 _ c.peek.ensures _ (c.begins_specifier.ensures ∙ ap (λ names. begins_specifier names AtFile (next_view c.peek.result)) c.loop-turn.invariant.1) c.if-not-begins_specifier.true

pub returns-in_err-unit : goal.returns-in_err-unit
returns-in_err-unit c =
    let stopped =
    state_fails c.loop-turn.invariant.0 _ c.peek.ensures _ (c.begins_specifier.ensures ∙ ap (λ names. begins_specifier names AtFile (next_view c.peek.result)) c.loop-turn.invariant.1) c.loop-turn-test.true c.if-not-begins_specifier.false
    c.in_err-unit.ensures.reads in
    search rules

pub loop-turn-preserved : goal.loop-turn-preserved
loop-turn-preserved c = (
  state_goes c.loop-turn.invariant.0 _ c.peek.ensures _ (c.begins_specifier.ensures ∙ ap (λ names. begins_specifier names AtFile (next_view c.peek.result)) c.loop-turn.invariant.1) c.loop-turn-test.true c.if-not-begins_specifier.false
      c.in_ok-unit.ensures.reads,
  c.in_ok-unit.ensures.names,
)
