use Rattle.std.proofs.Common.{rules, add-one}
use Rattle.lower_exprs.proofs.Laws.{grows_line}
use Rattle.lower_exprs.proofs.accessing.put_pointer_update.Goals as goal

pub returns : goal.returns
returns c = grows_line _ _ _ _ _ (rw (add-one, add-one) at c.put_load.ensures) (grows_line _ _ _ _ _ (rw (add-one, add-one) at c.put_motion.ensures)
    (rw (add-one, add-one) at c.put_store.ensures))
