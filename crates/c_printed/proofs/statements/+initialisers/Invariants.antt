use Rattle.std.proofs.Common.{map, take}
use Rattle.c_tree.specs.Views.{added}
use Rattle.c_tree.specs.TypedTree as typed
use Rattle.c_tree.specs.TypedParts.{made_by_items}
use Rattle.c_tree.specs.TypedStatementViews.{typed_item_view}
use Rattle.c_printed.specs.Printing.{Prints}
use Rattle.c_printed.proofs.statements.+initialisers.Given as goal

abbrev pub invariant-items-loop-one : goal.invariant-items-loop-one
invariant-items-loop-one l = record {
  found : Prints (made_by_items (added typed.NoItem (map typed_item_view (take l.one-index l.all)))) l.fn.out l.out;
}
