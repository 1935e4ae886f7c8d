use Rattle.lower_statements.proofs.pieces.condition.Goals as goal

pub returns-in-Some : goal.returns-in-Some
returns-in-Some c = rw c.in-Some.is (rw c.get.ensures at c.test.ensures)
