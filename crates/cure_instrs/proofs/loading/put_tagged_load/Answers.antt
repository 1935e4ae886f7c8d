use Rattle.cure_scope.proofs.Laws.{grows_row}
use Rattle.cure_instrs.proofs.PieceLaws.{chosen}
use Rattle.cure_instrs.proofs.loading.put_tagged_load.Goals as goal

pub returns : goal.returns
returns c k = grows_row _ _ _ _ _ c.put.ensures (grows_row _ _ _ _ _
    (chosen _ _ _ _ _ _ _ _ _ c.choose.ensures c.put-2.ensures c.start-based.ensures c.put-3.ensures c.start-null.ensures) c.put_two.ensures)
