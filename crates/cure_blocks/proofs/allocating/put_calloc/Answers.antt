use Rattle.cure_scope.proofs.Laws.{grows_row}
use Rattle.cure_blocks.proofs.ConvertLaws.{grows_sides}
use Rattle.cure_blocks.proofs.allocating.put_calloc.Goals as goal

pub returns : goal.returns
returns c =
    grows_row _ _ _ _ _ c.put_amount.ensures
    (grows_row _ _ _ _ _
    (grows_sides _ _ _ _ _ _ _ _ _ c.choose.ensures c.put.ensures c.start-none.ensures c.put_block.ensures c.start-made.ensures)
    (rw c.bytes_slot.ensures at c.put_given.ensures))
