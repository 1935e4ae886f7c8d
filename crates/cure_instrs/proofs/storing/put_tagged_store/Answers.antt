use Rattle.cure_scope.proofs.Laws.{grows_row}
use Rattle.cure_instrs.proofs.PieceLaws.{chosen}
use Rattle.cure_instrs.proofs.storing.put_tagged_store.Goals as goal

pub returns : goal.returns
returns c k = grows_row _ _ _ _ _ c.put.ensures
    (chosen _ _ _ _ _ _ _ _ _ c.choose.ensures c.put_two.ensures c.start-marked.ensures c.put-2.ensures c.start-null.ensures)
