use Rattle.std.proofs.Common.{rules, add-one}
use Rattle.lower_exprs.proofs.Laws.{grows_line}
use Rattle.lower_exprs.proofs.accessing.put_converted_update.Goals as goal

pub returns : goal.returns
returns c = grows_line _ _ _ _ _ (rw (add-one, add-one) at c.put_load.ensures) (rw c.requires.other (grows_line _ _ _ _ _ (rw (c.converted.ensures, add-one, add-one) at c.put.ensures)
    (grows_line _ _ _ _ _ (rw (c.binary.ensures, add-one, add-one) at c.put-2.ensures)
    (grows_line _ _ _ _ _ (rw (c.converted-2.ensures, add-one, add-one) at c.put-3.ensures) (rw (add-one, add-one) at c.put_store.ensures)))))
