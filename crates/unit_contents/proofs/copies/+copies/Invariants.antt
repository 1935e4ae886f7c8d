use Rattle.std.proofs.Common.{map, take}
use Rattle.c_tree.specs.Views.{added}
use Rattle.c_tree.specs.TypedTree as typed
use Rattle.c_tree.specs.TypedStatementViews.{typed_item_view}
use Rattle.src_machine.specs.Sites.{copies_in_items}
use Rattle.unit_parts.specs.Collecting.{Asks}
use Rattle.unit_contents.proofs.copies.+copies.Given as goal

abbrev pub invariant-copies_of_items-loop-one : goal.invariant-copies_of_items-loop-one
invariant-copies_of_items-loop-one l = record {
  found : Asks (copies_in_items l.k.types.now l.node (added typed.NoItem (map typed_item_view (take l.one-index l.all)))) l.fn.out l.out;
}
