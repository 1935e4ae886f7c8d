use Rattle.std.proofs.Common.{map}
use Rattle.parse_rules.specs.Parsers.{loop}
use Rattle.c_tree.specs.Depth.{arguments_height}
use Rattle.c_tree.specs.Views.{arguments_of, expr_view}
use Rattle.c_parse_words.specs.Tests as tests
use Rattle.c_parse_words.specs.Seen.{names_of, after_skip}
use Rattle.c_parse_words.proofs.Rounds.{IsInRound}
use Rattle.c_expr_parse.specs.ExprRules as spec
use Rattle.c_expr_parse.specs.Rules.{rules}
use Rattle.c_expr_parse.specs.Nests.{IsMeasured}
use Rattle.c_expr_parse.proofs.grammar.Grammar.more_arguments.Given as goal

abbrev pub invariant-loop-turn : goal.invariant-loop-turn
invariant-loop-turn g l =
    IsInRound (loop (λ _. tests.is_comma) (λ before. after_skip (spec.next_argument (rules (names_of l.self.names.now) l.self.depth) before)) (arguments_of (map expr_view l.fn.first.tree)) l.fn.cursor)
    l._turn-end l._turn tests.is_comma (λ before. after_skip (spec.next_argument (rules (names_of l.self.names.now) l.self.depth) before)) (arguments_of (map expr_view l.list.tree)) l.cursor
    × IsMeasured l.self.depth (arguments_height (arguments_of (map expr_view l.list.tree))) l.list.height
