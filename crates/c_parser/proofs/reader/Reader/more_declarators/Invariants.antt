use Rattle.std.proofs.Common.{false}
use Rattle.c_tree.specs.Grammar.{names_after_all}
use Rattle.c_parse_words.specs.Seen.{names_of, after_skip}
use Rattle.c_parse_words.specs.Tests.{is_comma}
use Rattle.c_parse_words.proofs.Rounds.{IsInRound}
use Rattle.c_parser.specs.DeclarationRules.{declarators_from, next_declarator}
use Rattle.c_parser.specs.Seen.{init_declarators_seen}
use Rattle.c_parser.proofs.reader.Reader.more_declarators.Given as goal

abbrev pub invariant-loop-turn : goal.invariant-loop-turn
invariant-loop-turn l =
    IsInRound (declarators_from (names_of l.self.names.now) false l.self.depth (init_declarators_seen l.fn.first) l.fn.cursor) l._turn-end l._turn is_comma
    (λ before. after_skip (next_declarator (names_after_all false (names_of l.self.names.now) before) false l.self.depth before)) (init_declarators_seen l.list) l.cursor
