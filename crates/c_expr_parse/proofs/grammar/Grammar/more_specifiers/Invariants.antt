use Rattle.parse_rules.specs.Parsers.{loop}
use Rattle.c_tree.specs.Depth.{specifiers_height}
use Rattle.c_parse_words.specs.Lists.{specifiers_seen}
use Rattle.c_parse_words.specs.Tests as tests
use Rattle.c_parse_words.specs.Seen.{names_of, scope_view}
use Rattle.c_parse_words.proofs.Rounds.{IsInRound}
use Rattle.c_expr_parse.specs.TypeRules as spec
use Rattle.c_expr_parse.specs.Rules.{rules}
use Rattle.c_expr_parse.specs.Nests.{IsMeasured}
use Rattle.c_expr_parse.proofs.grammar.Grammar.more_specifiers.Given as goal

abbrev pub invariant-loop-turn : goal.invariant-loop-turn
invariant-loop-turn g l =
    IsInRound (loop (λ _. tests.begins_specifier (names_of l.self.names.now) (scope_view l.scope)) (spec.specifier_step (names_of l.self.names.now) (rules (names_of l.self.names.now) l.self.depth) (scope_view l.scope)) (specifiers_seen l.fn.first.tree) l.fn.cursor)
    l._turn-end l._turn (tests.begins_specifier (names_of l.self.names.now) (scope_view l.scope)) (spec.specifier_step (names_of l.self.names.now) (rules (names_of l.self.names.now) l.self.depth) (scope_view l.scope)) (specifiers_seen l.list.tree) l.cursor
    × IsMeasured l.self.depth (specifiers_height (specifiers_seen l.list.tree)) l.list.height
