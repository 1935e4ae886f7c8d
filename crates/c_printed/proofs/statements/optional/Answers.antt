use Rattle.c_printed.proofs.Laws.{prints_nothing}
use Rattle.c_printed.proofs.statements.optional.Goals as goal

pub returns-in-Some : goal.returns-in-Some
returns-in-Some c = rw c.in-Some.is (rw c.get.ensures at c.expr.ensures)

pub returns-in-None : goal.returns-in-None
returns-in-None c = rw c.in-None.is (prints_nothing _)
