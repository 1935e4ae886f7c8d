use Rattle.lower_rules.specs.Words.{Compares}
use Rattle.lower_exprs.proofs.Laws.{grows_of}
use Rattle.lower_exprs.proofs.operators.put_compare.Goals as goal

pub returns-else-right_null : goal.returns-else-right_null
unfolding Compares
returns-else-right_null c =
    rw (c.if-left_null.false, c.if-right_null.false) (grows_of _ _ _ _ _ (λ r. r.1) c.put_comparison.ensures)
