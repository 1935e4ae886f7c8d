use Rattle.check_insert.proofs.Laws.{grows_as}
use Rattle.cure_scope.proofs.Laws.{grows_row}
use Rattle.cure_instrs.proofs.PieceLaws.{always}
use Rattle.cure_instrs.proofs.CalculateLaws.{binary_cured}
use Rattle.cure_instrs.specs.Lines.{IsIntegerAt}
use Rattle.cure_instrs.proofs.calculating.put_operation.Goals as goal

pub returns-in-Some : goal.returns-in-Some
returns-in-Some c types =
    always _ _ _ _ (grows_as _ _ _ _ _ (λ code. binary_cured c.args.k.now types c.args.o.operator c.args.o.into c.args.o.left c.args.o.right c.args.o.ty c.args.at _ code
    (rw c.in-Some.is at c.integer_in.ensures.there))
    (rw (c.column.ensures.value, c.column-in-Some.ensures.value, c.column-in-Some-2.ensures.value) at c.put_binary.ensures))

pub put_binary-requires : goal.put_binary-requires
unfolding IsIntegerAt
put_binary-requires c = (rw c.in-Some.is at c.integer_in.ensures.there).1
