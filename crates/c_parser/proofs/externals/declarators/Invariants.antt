use Rattle.std.proofs.Common.{◌≡◌}
use Rattle.c_tree.specs.Grammar.{names_after_all}
use Rattle.c_tree.specs.Views.{declarator_view}
use Rattle.c_parse_words.specs.Seen.{after_skip, names_of}
use Rattle.c_parse_words.specs.Tests.{is_comma}
use Rattle.c_parse_words.proofs.Rounds.{IsInRound}
use Rattle.c_parser.specs.DeclarationRules.{next_declarator}
use Rattle.c_parser.specs.Seen.{init_declarators_seen}
use Rattle.c_parser.specs.UnitRules.{declarators_after}
use Rattle.c_parser.proofs.externals.declarators.Given as goal

-- the names of the declarators so far are in force
abbrev pub invariant-loop-turn : goal.invariant-loop-turn
invariant-loop-turn l =
    IsInRound (declarators_after (names_of l.fn.names) l.is_typedef l.depth (declarator_view l.fn.declarator) l.fn.cursor) l._turn-end l._turn is_comma (λ before. after_skip (next_declarator (names_after_all l.is_typedef (names_of l.fn.names) before) l.is_typedef l.depth before)) (init_declarators_seen l.list) l.cursor
    × (names_of l.names ≡ names_after_all l.is_typedef (names_of l.fn.names) (init_declarators_seen l.list))
