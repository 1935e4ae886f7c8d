use Rattle.lower_exprs.proofs.Laws.{grows_choice, grows_nothing, grows_of}
use Rattle.lower_statements.proofs.switching.put_chosen.Goals as goal

pub returns : goal.returns
returns c = grows_of _ _ (Unit {0} × Unit {0}) _ _ (λ r. (tt, tt)) (grows_choice _ _ _ _ _ _ _ _ _ _ _ c.choose.ensures
    c.put_label.ensures c.start-then.ensures (grows_nothing _ _) c.start-otherwise.ensures)
