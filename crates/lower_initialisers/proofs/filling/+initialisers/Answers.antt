use Rattle.std.proofs.Common.{add-one, map, take}
use Rattle.c_tree.proofs.TypedStatementViewLaws.{typed_initialiser-Value, typed_initialiser-Copied, typed_initialiser-Text, typed_initialiser-Listed}
use Rattle.c_tree.specs.Views.{added}
use Rattle.c_tree.specs.TypedTree as typed
use Rattle.c_tree.specs.TypedStatementViews.{typed_initialiser_view, typed_item_view}
use Rattle.c_tree.specs.declared.typed_statement.TypedItem.{out-TypedItem}
use Rattle.lower_exprs.proofs.Laws.{grows_nothing, grows_then}
use Rattle.c_tree.proofs.ListLaws.{with_next}
use Rattle.c_tree.proofs.TypedPartLaws.{of_item}
use Rattle.lower_initialisers.proofs.Laws.{one_item}
use Rattle.lower_initialisers.proofs.filling.+initialisers.Goals as goal

pub fill-returns-in-Value : goal.fill-returns-in-Value
fill-returns-in-Value t c = rw (c.in-Value.is, typed_initialiser-Value) (grows_then _ _ _ _ _ _ _ c.expr.ensures c.put_part.ensures)

pub fill-returns-in-Copied : goal.fill-returns-in-Copied
fill-returns-in-Copied t c = rw (c.in-Copied.is, typed_initialiser-Copied) (rw c.copy_into.ensures at c.place.ensures)

pub fill-returns-in-Text : goal.fill-returns-in-Text
fill-returns-in-Text t c = rw (c.in-Text.is, typed_initialiser-Text) (rw c.as_slice.ensures at c.put_literal.ensures)

pub fill-returns-in-Listed : goal.fill-returns-in-Listed
fill-returns-in-Listed t c = rw (c.in-Listed.is, typed_initialiser-Listed) (rw c.as_slice-in-Listed.ensures at c.items.ensures)

pub items-loop-one-init : goal.items-loop-one-init
items-loop-one-init t c = record { made = grows_nothing _ _ }

pub items-loop-one-preserved : goal.items-loop-one-preserved
items-loop-one-preserved t c = record {
  made = rw (add-one, with_next typed_item_view c.args.all.now c.loop-one.one-index c.one-item.result c.loop-one-test.true c.one-item.is typed.NoItem)
      (c.item.ensures (added typed.NoItem (map typed_item_view (take c.loop-one.one-index c.args.all.now))) c.args.out.now c.loop-one.invariant.made);
}

pub item-returns : goal.item-returns
item-returns t c = λ all start before. rw (of_item c.args.one.now all)
    (one_item all _ _ _ _ _ (out-TypedItem c.args.one.now).ty (typed_initialiser_view (out-TypedItem c.args.one.now).initialiser) start
    c.args.out.now c.part_of-inner.new.out c.fill.new.out before c.part_of-inner.ensures.room c.part_of-inner.ensures.base
    (rw (c.part_of-inner.ensures.at, c.part_of-inner.ensures.of_type, c.part_of-inner.ensures.whole, c.item_place.ensures) at c.fill.ensures))
