use Rattle.std.proofs.Common.{take}
use Rattle.c_tree.specs.TypedParts.{made_by_block_items}
use Rattle.c_tree.specs.TypedStatementViews.{typed_block_view}
use Rattle.src_machine.specs.Pieces.{pieces_of_block_items}
use Rattle.unit_parts.specs.Collecting.{Collects}
use Rattle.unit_contents.proofs.walk.+statements.Given as goal

abbrev pub invariant-block-loop-one : goal.invariant-block-loop-one
invariant-block-loop-one l = record {
  found : Collects l.k.types.now (made_by_block_items (typed_block_view (take l.one-index l.all))) (pieces_of_block_items (typed_block_view (take l.one-index l.all))) l.fn.out l.out;
}
