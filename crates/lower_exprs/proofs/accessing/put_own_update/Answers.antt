use Rattle.std.proofs.Common.{rules, add-one}
use Rattle.lower_exprs.proofs.Laws.{grows_line}
use Rattle.lower_exprs.proofs.accessing.put_own_update.Goals as goal

pub returns : goal.returns
returns c = grows_line _ _ _ _ _ (rw (add-one, add-one) at c.put_load.ensures) (rw c.requires.same (grows_line _ _ _ _ _ (rw (c.binary.ensures, add-one, add-one) at c.put.ensures)
    (rw (add-one, add-one) at c.put_store.ensures)))
