use Rattle.std.proofs.Common.{map, take}
use Rattle.c_tree.specs.Views.{added}
use Rattle.c_tree.specs.TypedTree as typed
use Rattle.c_tree.specs.TypedParts.{made_by_items}
use Rattle.c_tree.specs.TypedStatementViews.{typed_item_view}
use Rattle.src_machine.specs.Pieces.{pieces_of_items}
use Rattle.unit_parts.specs.Collecting.{Collects}
use Rattle.unit_contents.proofs.walk.+initialisers.Given as goal

abbrev pub invariant-items-loop-one : goal.invariant-items-loop-one
invariant-items-loop-one l = record {
  found : Collects l.k.types.now (made_by_items (added typed.NoItem (map typed_item_view (take l.one-index l.all)))) (pieces_of_items (added typed.NoItem (map typed_item_view (take l.one-index l.all)))) l.fn.out l.out;
}
