use Rattle.std.proofs.Common.{suc}
use Rattle.c_tree.specs.Depth.{expr_height}
use Rattle.c_tree.specs.Views.{expr_view}
use Rattle.c_parse_words.specs.Tests as tests
use Rattle.c_parse_words.specs.Seen.{names_of}
use Rattle.c_parse_words.proofs.Rounds.{IsInRound}
use Rattle.c_expr_parse.specs.ExprRules as spec
use Rattle.c_expr_parse.specs.Rules.{rules}
use Rattle.c_expr_parse.specs.Nests.{IsMeasured}
use Rattle.c_expr_parse.proofs.grammar.Grammar.postfix.Given as goal

abbrev pub invariant-loop-turn : goal.invariant-loop-turn
invariant-loop-turn g l =
    IsInRound (spec.postfix (names_of l.self.names.now) l.self.depth (rules (names_of l.self.names.now) l.self.depth) (expr_view l.fn.first.tree) l.fn.cursor) l._turn-end l._turn (tests.has_suffix) (spec.postfix_step (names_of l.self.names.now) l.self.depth (rules (names_of l.self.names.now) l.self.depth)) (expr_view l.e.tree) l.cursor
    × IsMeasured (suc l.self.depth) (expr_height (expr_view l.e.tree)) l.e.height
