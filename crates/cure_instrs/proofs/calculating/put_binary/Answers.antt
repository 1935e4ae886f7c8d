use Rattle.cure_scope.proofs.Laws.{grows_row}
use Rattle.cure_instrs.proofs.calculating.put_binary.Goals as goal

pub returns-in-ShiftLeft : goal.returns-in-ShiftLeft
returns-in-ShiftLeft c = rw c.in-ShiftLeft.is (grows_row _ _ _ _ _ c.put_masked.ensures c.put_reckoned-in-ShiftLeft.ensures)

pub returns-in-ShiftRight : goal.returns-in-ShiftRight
returns-in-ShiftRight c =
    rw c.in-ShiftRight.is (grows_row _ _ _ _ _ c.put_masked-in-ShiftRight.ensures (rw c.shifted_right.ensures at c.put.ensures))
