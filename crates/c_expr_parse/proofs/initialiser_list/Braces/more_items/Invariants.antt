use Rattle.parse_rules.specs.Parsers.{loop}
use Rattle.c_tree.specs.Depth.{items_height}
use Rattle.c_parse_words.specs.Lists.{items_seen}
use Rattle.c_parse_words.specs.Seen.{names_of}
use Rattle.c_parse_words.proofs.StateRounds.{IsInStateRound}
use Rattle.c_expr_parse.specs.Rules as spec
use Rattle.c_expr_parse.specs.TypeRules.{goes_on_series, Upto}
use Rattle.c_expr_parse.specs.Nests.{IsMeasured}
use Rattle.c_expr_parse.proofs.initialiser_list.Braces.more_items.Given as goal

abbrev pub invariant-loop-turn : goal.invariant-loop-turn
invariant-loop-turn g l =
    IsInStateRound (loop goes_on_series (spec.item_step (names_of l.self.names.now) (spec.initialiser (names_of l.self.names.now) l.self.depth)) (Upto (items_seen l.fn.first.list.tree) l.fn.first.comma) l.fn.cursor)
    l._turn-end l._turn goes_on_series (spec.item_step (names_of l.self.names.now) (spec.initialiser (names_of l.self.names.now) l.self.depth)) (Upto (items_seen l.series.list.tree) l.series.comma) l.cursor
    × IsMeasured l.self.depth (items_height (items_seen l.series.list.tree)) l.series.list.height
