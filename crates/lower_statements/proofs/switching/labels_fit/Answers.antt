use Rattle.std.proofs.Common.{arith}
use Rattle.lower_exprs.proofs.Laws.{grows_when}
use Rattle.lower_statements.proofs.switching.labels_fit.Goals as goal

pub returns : goal.returns
returns c = grows_when _ _ _ _ _
    (let a = c.if-labels_in-lt18446744073709551615.true in let e = c.labels_in.ensures.labels.count in omega arith) c.keep.ensures
