use Rattle.check_insert.proofs.Laws.{tests_after}
use Rattle.check_insert.proofs.conditions.put_condition.Goals as goal

pub returns-in-IsNear : goal.returns-in-IsNear
returns-in-IsNear c = rw c.in-IsNear.is (tests_after _ _ _ _ _ _ c.put_move.ensures c.put_test-in-IsNear.ensures)
