use Rattle.std.proofs.Common.{is_some, []}
use Rattle.parse_rules.specs.Parsers.{loop}
use Rattle.c_parse_words.specs.WordRules as spec
use Rattle.c_parse_words.specs.Tests as tests
use Rattle.c_parse_words.proofs.Rounds.{IsInRound}
use Rattle.c_parse_words.proofs.stars.stars.Given as goal

abbrev pub invariant-loop-turn : goal.invariant-loop-turn
invariant-loop-turn l =
    IsInRound (loop (λ _ next. is_some (tests.star_sign next)) spec.star_step [] l.fn.cursor) l._turn-end l._turn (λ next. is_some (tests.star_sign next)) spec.star_step l.list l.cursor
