use Rattle.std.specs.Option.{is_some}
use Rattle.parse_rules.specs.Parsers.{loop}
use Rattle.c_parse_words.specs.WordRules as spec
use Rattle.c_parse_words.specs.Tests as tests
use Rattle.c_parse_words.proofs.Rounds.{IsInRound}
use Rattle.c_parse_words.proofs.string_pieces.more_pieces.Given as goal

abbrev pub invariant-loop-turn : goal.invariant-loop-turn
invariant-loop-turn l =
    IsInRound (loop (λ _ next. is_some (tests.string_piece next)) spec.next_piece l.fn.first l.fn.cursor) l._turn-end l._turn (λ next. is_some (tests.string_piece next)) spec.next_piece l.pieces l.cursor
