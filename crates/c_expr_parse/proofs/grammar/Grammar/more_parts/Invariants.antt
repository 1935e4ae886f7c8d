use Rattle.parse_rules.specs.Parsers.{loop}
use Rattle.c_tree.specs.Depth.{parts_height}
use Rattle.c_parse_words.specs.Lists.{parts_seen}
use Rattle.c_parse_words.specs.Tests as tests
use Rattle.c_parse_words.specs.Seen.{names_of}
use Rattle.c_parse_words.proofs.Rounds.{IsInRound}
use Rattle.c_expr_parse.specs.DeclaratorRules as spec
use Rattle.c_expr_parse.specs.Rules.{rules}
use Rattle.c_expr_parse.specs.Nests.{IsMeasured}
use Rattle.c_expr_parse.proofs.grammar.Grammar.more_parts.Given as goal

abbrev pub invariant-loop-turn : goal.invariant-loop-turn
invariant-loop-turn g l =
    IsInRound (loop (λ _. tests.begins_part) (spec.part_step (names_of l.self.names.now) (rules (names_of l.self.names.now) l.self.depth)) (parts_seen l.fn.before.tree) l.fn.cursor)
    l._turn-end l._turn tests.begins_part (spec.part_step (names_of l.self.names.now) (rules (names_of l.self.names.now) l.self.depth)) (parts_seen l.list.tree) l.cursor
    × IsMeasured l.self.depth (parts_height (parts_seen l.list.tree)) l.list.height
