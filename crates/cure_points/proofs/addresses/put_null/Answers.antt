use Rattle.check_insert.proofs.Laws.{grows_as, grows_failed}
use Rattle.cure_scope.proofs.Laws.{grows_row}
use Rattle.cure_instrs.proofs.PieceLaws.{always, refused}
use Rattle.cure_points.proofs.PointLaws.{null_cured}
use Rattle.cure_points.proofs.addresses.put_null.Goals as goal

pub returns-in-Some : goal.returns-in-Some
returns-in-Some c types t same =
    always _ _ _ _ (grows_as _ _ _ _ _ (λ code. null_cured c.args.k.now types c.args.into c.args.pointer t c.args.different _ code (rw c.in-Some.is at same))
    (grows_row _ _ _ _ _ c.put_tested-a.ensures.made (rw (c.null_operation.ensures, c.put_tested-a.ensures.slot, c.column.ensures.value) at c.put.ensures)))
