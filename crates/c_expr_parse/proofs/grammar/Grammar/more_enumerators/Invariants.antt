use Rattle.parse_rules.specs.Parsers.{loop}
use Rattle.c_tree.specs.Depth.{enumerators_height}
use Rattle.c_parse_words.specs.Lists.{enumerators_seen}
use Rattle.c_parse_words.specs.Seen.{names_of}
use Rattle.c_parse_words.proofs.StateRounds.{IsInStateRound}
use Rattle.c_expr_parse.specs.TypeRules as spec
use Rattle.c_expr_parse.specs.TypeRules.{Upto}
use Rattle.c_expr_parse.specs.Rules.{rules}
use Rattle.c_expr_parse.specs.Nests.{IsMeasured}
use Rattle.c_expr_parse.proofs.grammar.Grammar.more_enumerators.Given as goal

abbrev pub invariant-loop-turn : goal.invariant-loop-turn
invariant-loop-turn g l =
    IsInStateRound (loop spec.goes_on_series (spec.enumerator_step (names_of l.self.names.now) (rules (names_of l.self.names.now) l.self.depth)) (Upto (enumerators_seen l.fn.first.list.tree) l.fn.first.comma) l.fn.cursor)
    l._turn-end l._turn spec.goes_on_series (spec.enumerator_step (names_of l.self.names.now) (rules (names_of l.self.names.now) l.self.depth)) (Upto (enumerators_seen l.series.list.tree) l.series.comma) l.cursor
    × IsMeasured l.self.depth (enumerators_height (enumerators_seen l.series.list.tree)) l.series.list.height
