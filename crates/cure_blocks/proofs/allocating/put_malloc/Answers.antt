use Rattle.cure_scope.proofs.Laws.{grows_row}
use Rattle.cure_blocks.proofs.allocating.put_malloc.Goals as goal

pub returns : goal.returns
returns c = grows_row _ _ _ _ _ c.put_block.ensures (rw c.bytes_slot.ensures at c.put_given.ensures)
