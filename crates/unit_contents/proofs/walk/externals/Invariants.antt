use Rattle.std.proofs.Common.{map, take}
use Rattle.c_tree.specs.Views.{added}
use Rattle.c_tree.specs.TypedTree as typed
use Rattle.c_tree.specs.TypedParts.{made_by_unit}
use Rattle.c_tree.specs.TypedStatementViews.{typed_external_view}
use Rattle.src_machine.specs.Pieces.{pieces_of_unit}
use Rattle.unit_parts.specs.Collecting.{Collects}
use Rattle.unit_contents.proofs.walk.externals.Given as goal

abbrev pub invariant-loop-one : goal.invariant-loop-one
invariant-loop-one l = record {
  found : Collects l.k.types.now (made_by_unit (added typed.NoExternal (map typed_external_view (take l.one-index l.all)))) (pieces_of_unit (added typed.NoExternal (map typed_external_view (take l.one-index l.all)))) l.fn.out l.out;
}
