use Rattle.std.proofs.Common.{map, refl, take}
use Rattle.c_tree.specs.Views.{added}
use Rattle.c_tree.specs.TypedTree as typed
use Rattle.c_tree.specs.TypedStatementViews.{typed_item_view}
use Rattle.c_tree.proofs.TypedStatementViewLaws.{typed_initialiser-Value, typed_initialiser-Copied, typed_initialiser-Text, typed_initialiser-Listed}
use Rattle.unit_parts.proofs.Laws.{collects_nothing, collects_other, collects_then}
use Rattle.c_tree.proofs.ListLaws.{one_more}
use Rattle.c_tree.proofs.TypedPartLaws.{of_item}
use Rattle.unit_contents.proofs.walk.+initialisers.Goals as goal

pub initialiser-returns-in-Value : goal.initialiser-returns-in-Value
initialiser-returns-in-Value t c = rw (c.in-Value.is, typed_initialiser-Value) c.expr.ensures

pub initialiser-returns-in-Copied : goal.initialiser-returns-in-Copied
initialiser-returns-in-Copied t c = rw (c.in-Copied.is, typed_initialiser-Copied) (collects_other _ _ _ _ _ _ refl refl c.place.ensures)

pub initialiser-returns-in-Text : goal.initialiser-returns-in-Text
initialiser-returns-in-Text t c = rw (c.in-Text.is, typed_initialiser-Text) c.keep.ensures

pub initialiser-returns-in-Listed : goal.initialiser-returns-in-Listed
initialiser-returns-in-Listed t c = rw (c.in-Listed.is, typed_initialiser-Listed) (rw c.as_slice.ensures at c.items.ensures)

pub items-loop-one-init : goal.items-loop-one-init
items-loop-one-init t c = record { found = collects_nothing _ _ }

pub items-loop-one-preserved : goal.items-loop-one-preserved
items-loop-one-preserved t c = record {
  found = rw (one_more typed_item_view c.args.all.now c.loop-one.one-index c.one-item.result c.loop-one-test.true c.one-item.is typed.NoItem)
      (c.item.ensures (added typed.NoItem (map typed_item_view (take c.loop-one.one-index c.args.all.now))) c.args.out.now c.loop-one.invariant.found);
}

pub item-returns : goal.item-returns
item-returns t c = λ all start before. rw (of_item c.args.one.now all) (collects_then _ _ _ _ _ _ _ _ before c.initialiser.ensures)
