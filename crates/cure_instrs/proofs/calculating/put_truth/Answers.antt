use Rattle.check_insert.proofs.Laws.{grows_as}
use Rattle.cure_scope.proofs.Laws.{grows_row}
use Rattle.cure_instrs.proofs.PieceLaws.{always}
use Rattle.cure_instrs.proofs.CalculateLaws.{truth_cured}
use Rattle.cure_instrs.proofs.calculating.put_truth.Goals as goal

pub returns-in-Some : goal.returns-in-Some
returns-in-Some c types same =
    always _ _ _ _ (grows_as _ _ _ _ _ (λ code. truth_cured c.args.k.now types c.args.into c.args.operand _ code (rw c.in-Some.is at same))
    (grows_row _ _ _ _ _ c.put_tested-a.ensures.made (rw (c.put_tested-a.ensures.slot, c.column.ensures.value) at c.put.ensures)))
