use Rattle.parse_rules.specs.Parsers.{loop}
use Rattle.c_tree.specs.Depth.{member_declarators_height}
use Rattle.c_parse_words.specs.Lists.{declarators_seen}
use Rattle.c_parse_words.specs.Tests as tests
use Rattle.c_parse_words.specs.Seen.{names_of, after_skip}
use Rattle.c_parse_words.proofs.Rounds.{IsInRound}
use Rattle.c_expr_parse.specs.TypeRules as spec
use Rattle.c_expr_parse.specs.Rules.{rules}
use Rattle.c_expr_parse.specs.Nests.{IsMeasured}
use Rattle.c_expr_parse.proofs.grammar.Grammar.more_members.Given as goal

abbrev pub invariant-loop-turn : goal.invariant-loop-turn
invariant-loop-turn g l =
    IsInRound (loop (λ _. tests.is_comma) (λ before. after_skip (spec.next_member (rules (names_of l.self.names.now) l.self.depth) before)) (declarators_seen l.fn.first.tree) l.fn.cursor)
    l._turn-end l._turn (tests.is_comma) (λ before. after_skip (spec.next_member (rules (names_of l.self.names.now) l.self.depth) before)) (declarators_seen l.list.tree) l.cursor
    × IsMeasured l.self.depth (member_declarators_height (declarators_seen l.list.tree)) l.list.height
