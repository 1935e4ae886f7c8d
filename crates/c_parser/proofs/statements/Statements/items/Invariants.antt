use Rattle.parse_rules.specs.Parsers.{loop}
use Rattle.c_tree.specs.StatementViews.{block_view}
use Rattle.c_tree.specs.Tree.{NoBlockItem}
use Rattle.c_parse_words.specs.Seen.{names_of}
use Rattle.c_parse_words.proofs.StateRounds.{IsInStateRound}
use Rattle.c_parser.specs.StatementRules.{item_step, statement}
use Rattle.c_parser.specs.Tests.{begins_item}
use Rattle.c_parser.proofs.statements.Statements.items.Given as goal

abbrev pub invariant-loop-turn : goal.invariant-loop-turn
invariant-loop-turn g l =
    IsInStateRound (loop (begins_item (names_of l.self.reader.names.now) l.has_labels) (item_step (names_of l.self.reader.names.now) l.self.reader.depth (statement (names_of l.self.reader.names.now) l.self.reader.depth) l.has_labels) NoBlockItem l.fn.cursor)
    l._turn-end l._turn (begins_item (names_of l.self.reader.names.now) l.has_labels)
    (item_step (names_of l.self.reader.names.now) l.self.reader.depth (statement (names_of l.self.reader.names.now) l.self.reader.depth) l.has_labels) (block_view l.items) l.cursor
