use Rattle.std.proofs.Common.{rules, add-one}
use Rattle.lower_exprs.proofs.Laws.{grows_line}
use Rattle.lower_exprs.proofs.accessing.put_integer_step.Goals as goal

pub returns : goal.returns
returns c = grows_line _ _ _ _ _ (rw add-one at c.put_load.ensures) (grows_line _ _ _ _ _ (rw c.set_integer.ensures at c.put.ensures)
    (grows_line _ _ _ _ _ (rw (c.binary.ensures, add-one) at c.put-2.ensures) c.put_store.ensures))
