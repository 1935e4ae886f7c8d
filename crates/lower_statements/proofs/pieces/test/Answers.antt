use Rattle.lower_exprs.proofs.Laws.{grows_then}
use Rattle.lower_statements.proofs.pieces.test.Goals as goal

pub returns : goal.returns
returns c = grows_then _ _ _ _ _ _ _ c.expr.ensures c.leave_unless.ensures
