use Rattle.std.proofs.Common.{take}
use Rattle.c_tree.specs.TypedParts.{made_by_block_items}
use Rattle.c_tree.specs.TypedStatementViews.{typed_block_view}
use Rattle.c_printed.specs.Printing.{Prints}
use Rattle.c_printed.proofs.statements.+statements.Given as goal

abbrev pub invariant-block-loop-one : goal.invariant-block-loop-one
invariant-block-loop-one l = record {
  found : Prints (made_by_block_items (typed_block_view (take l.one-index l.all))) l.fn.out l.out;
}
