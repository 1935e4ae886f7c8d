use Rattle.std.proofs.Common.{map, take}
use Rattle.c_tree.specs.Views.{added}
use Rattle.c_tree.specs.TypedTree as typed
use Rattle.c_tree.specs.TypedStatementViews.{typed_item_view}
use Rattle.lower_rules.specs.Initialisers.{IsCodeOfItems}
use Rattle.lower_exprs.specs.Drafts.{context_of, Grows}
use Rattle.lower_initialisers.specs.Ready.{HasCodeOfItems, initialised_of}
use Rattle.lower_initialisers.proofs.filling.+initialisers.Given as goal

abbrev pub invariant-items-loop-one : goal.invariant-items-loop-one
invariant-items-loop-one l = record {
  made : Grows (IsCodeOfItems (added typed.NoItem (map typed_item_view (take l.one-index l.all))) (context_of l.k) l.p.base (initialised_of l.p.whole))
      (HasCodeOfItems (added typed.NoItem (map typed_item_view (take l.one-index l.all))) (context_of l.k) l.p.base) l.fn.out l.out;
}
