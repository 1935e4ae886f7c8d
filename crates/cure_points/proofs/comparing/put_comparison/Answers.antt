use Rattle.check_insert.proofs.Laws.{grows_as, grows_puts}
use Rattle.cure_scope.specs.Scopes.{whole_of}
use Rattle.cure_scope.proofs.Laws.{grows_row}
use Rattle.cure_instrs.proofs.PieceLaws.{always, refused}
use Rattle.cure_points.proofs.comparing.put_comparison.Goals as goal

pub returns-in-Different : goal.returns-in-Different
returns-in-Different c k = rw c.in-Different.is (grows_puts _ _ _ _ _ (c.put_sameness-in-Different.ensures k) c.put.ensures)
