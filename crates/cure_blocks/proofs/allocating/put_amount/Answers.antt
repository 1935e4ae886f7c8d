use Rattle.cure_scope.proofs.Laws.{grows_row}
use Rattle.cure_blocks.proofs.ConvertLaws.{grows_sides}
use Rattle.cure_blocks.proofs.allocating.put_amount.Goals as goal

pub returns : goal.returns
returns c =
    grows_row _ _ _ _ _ c.put.ensures
    (grows_sides _ _ _ _ _ _ _ _ _ c.choose.ensures c.put_lines.ensures c.start-wraps.ensures c.put-2.ensures c.start-none.ensures)
