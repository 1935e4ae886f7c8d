use Rattle.std.proofs.Common.{◌≡◌, ◌∙◌, ap, Bool, List, rules}
use Rattle.c_tree.specs.StatementViews.{block_view}
use Rattle.c_tree.specs.Words.{TypeNames}
use Rattle.c_tree.specs.declared.statement.BlockItem.{BlockItem}
use Rattle.c_parse_words.specs.Seen.{names_of, next_view}
use Rattle.c_parse_words.specs.declared.next.Next.{Next}
use Rattle.c_parse_words.proofs.StateRounds.{state_stops, state_goes, state_fails}
use Rattle.c_parser.specs.Tests.{begins_item}
use Rattle.c_parser.proofs.statements.Statements.items.Goals as goal

same : (names : TypeNames) (has_labels : Bool) (next : Next) {a b : List BlockItem} → a ≡ b → begins_item names has_labels (block_view a) (next_view next) ≡ begins_item names has_labels (block_view b) (next_view next)
same names has_labels next e = ap (λ list. begins_item names has_labels (block_view list) (next_view next)) e

pub returns-then-not-begins_item : goal.returns-then-not-begins_item
returns-then-not-begins_item g c =
    let told = c.begins_item.ensures ∙ same (names_of c.args.self.now.reader.names.now) c.args.has_labels c.peek.result c.as_slice.ensures in
    state_stops c.loop-turn.invariant _ c.peek.ensures _ told c.if-not-begins_item.true

pub returns-in_err-items : goal.returns-in_err-items
returns-in_err-items g c =
    let told = c.begins_item.ensures ∙ same (names_of c.args.self.now.reader.names.now) c.args.has_labels c.peek.result c.as_slice.ensures in
    let stopped = state_fails c.loop-turn.invariant _ c.peek.ensures _ told c.loop-turn-test.true c.if-not-begins_item.false c.in_err-items.ensures in
    search rules

pub loop-turn-preserved : goal.loop-turn-preserved
loop-turn-preserved g c =
    let told = c.begins_item.ensures ∙ same (names_of c.args.self.now.reader.names.now) c.args.has_labels c.peek.result c.as_slice.ensures in
    state_goes c.loop-turn.invariant _ c.peek.ensures _ told c.loop-turn-test.true c.if-not-begins_item.false c.in_ok-items.ensures
