use Rattle.cure_scope.proofs.Laws.{grows_row}
use Rattle.cure_points.proofs.parts.put_part_of.Goals as goal

pub returns : goal.returns
returns c = grows_row _ _ _ _ _ c.put.ensures (grows_row _ _ _ _ _ (rw c.part_operation.ensures at c.put_guarded.ensures) c.put_part.ensures)
