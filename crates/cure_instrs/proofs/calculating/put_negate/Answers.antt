use Rattle.check_insert.proofs.Laws.{grows_as}
use Rattle.cure_scope.proofs.Laws.{grows_row}
use Rattle.cure_instrs.proofs.PieceLaws.{always}
use Rattle.cure_instrs.proofs.CalculateLaws.{negate_cured}
use Rattle.cure_instrs.proofs.calculating.put_negate.Goals as goal

pub returns-in-Some : goal.returns-in-Some
returns-in-Some c types =
    always _ _ _ _ (grows_as _ _ _ _ _ (λ code. negate_cured c.args.k.now types c.args.into c.args.operand c.args.ty _ code (rw c.in-Some.is at c.integer_in.ensures.there))
    (rw (c.column-v.ensures.value, c.column.ensures.value) at c.put_reckoned.ensures))
