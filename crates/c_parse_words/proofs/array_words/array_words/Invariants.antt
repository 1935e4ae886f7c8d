use Rattle.std.proofs.Common.{is_some, []}
use Rattle.parse_rules.specs.Parsers.{loop}
use Rattle.c_parse_words.specs.WordRules as spec
use Rattle.c_parse_words.specs.Lists.{AreArrayWords}
use Rattle.c_parse_words.specs.Tests as tests
use Rattle.c_parse_words.proofs.StateRounds.{IsInStateRound}
use Rattle.c_parse_words.proofs.array_words.array_words.Given as goal

abbrev pub invariant-loop-turn : goal.invariant-loop-turn
invariant-loop-turn l =
    IsInStateRound (loop (λ words next. is_some (tests.array_word words next)) spec.next_array_word [] l.fn.cursor) l._turn-end l._turn (λ words next. is_some (tests.array_word words next)) spec.next_array_word l.words.list l.cursor
    × AreArrayWords l.words.list l.words.has_static
