use Rattle.parse_rules.specs.Parsers.{loop}
use Rattle.c_tree.specs.Depth.{members_height}
use Rattle.c_parse_words.specs.Lists.{members_seen}
use Rattle.c_tree.specs.Words.{InType}
use Rattle.c_parse_words.specs.Tests as tests
use Rattle.c_parse_words.specs.Seen.{names_of}
use Rattle.c_parse_words.proofs.Rounds.{IsInRound}
use Rattle.c_expr_parse.specs.TypeRules as spec
use Rattle.c_expr_parse.specs.Rules.{rules}
use Rattle.c_expr_parse.specs.Nests.{IsMeasured}
use Rattle.c_expr_parse.proofs.grammar.Grammar.rows.Given as goal

abbrev pub invariant-loop-turn : goal.invariant-loop-turn
invariant-loop-turn g l =
    IsInRound (loop (λ _. tests.begins_specifier (names_of l.self.names.now) InType) (spec.next_members (rules (names_of l.self.names.now) l.self.depth)) (members_seen l.fn.first.tree) l.fn.cursor)
    l._turn-end l._turn (tests.begins_specifier (names_of l.self.names.now) InType) (spec.next_members (rules (names_of l.self.names.now) l.self.depth)) (members_seen l.list.tree) l.cursor
    × IsMeasured l.self.depth (members_height (members_seen l.list.tree)) l.list.height
