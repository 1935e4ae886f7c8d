use Rattle.std.proofs.Common.{map, take}
use Rattle.c_tree.specs.Views.{added}
use Rattle.c_tree.specs.TypedTree as typed
use Rattle.c_tree.specs.TypedStatementViews.{typed_item_view}
use Rattle.c_tree.proofs.TypedStatementViewLaws.{typed_initialiser-Value, typed_initialiser-Copied, typed_initialiser-Text, typed_initialiser-Listed}
use Rattle.unit_parts.proofs.Laws.{asks_nothing, asks_then}
use Rattle.c_tree.proofs.ListLaws.{one_more}
use Rattle.c_tree.proofs.TypedPartLaws.{of_item}
use Rattle.unit_contents.proofs.copies.+copies.Goals as goal

pub copies-returns-in-Value : goal.copies-returns-in-Value
copies-returns-in-Value t c = rw (c.in-Value.is, typed_initialiser-Value) c.ask_nothing.ensures

pub copies-returns-in-Copied : goal.copies-returns-in-Copied
copies-returns-in-Copied t c = rw (c.in-Copied.is, typed_initialiser-Copied) c.ask_links.ensures

pub copies-returns-in-Text : goal.copies-returns-in-Text
copies-returns-in-Text t c = rw (c.in-Text.is, typed_initialiser-Text) c.ask_nothing-in-Text.ensures

pub copies-returns-in-Listed : goal.copies-returns-in-Listed
copies-returns-in-Listed t c = rw (c.in-Listed.is, typed_initialiser-Listed) (rw c.as_slice.ensures at c.copies_of_items.ensures)

pub copies_of_items-loop-one-init : goal.copies_of_items-loop-one-init
copies_of_items-loop-one-init t c = record { found = asks_nothing _ }

pub copies_of_items-loop-one-preserved : goal.copies_of_items-loop-one-preserved
copies_of_items-loop-one-preserved t c = record {
  found = rw (one_more typed_item_view c.args.all.now c.loop-one.one-index c.one-item.result c.loop-one-test.true c.one-item.is typed.NoItem)
      (c.copies_of_item.ensures (added typed.NoItem (map typed_item_view (take c.loop-one.one-index c.args.all.now))) c.args.out.now c.loop-one.invariant.found);
}

pub copies_of_item-returns : goal.copies_of_item-returns
copies_of_item-returns t c = λ all start before. rw (of_item c.args.one.now all) (asks_then _ _ _ _ _ before c.copies.ensures)
