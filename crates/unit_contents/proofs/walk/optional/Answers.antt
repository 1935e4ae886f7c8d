use Rattle.unit_contents.proofs.walk.optional.Goals as goal

pub returns-in-Some : goal.returns-in-Some
returns-in-Some c = rw c.in-Some.is (rw c.get.ensures at c.expr.ensures)

pub returns-in-None : goal.returns-in-None
returns-in-None c = rw c.in-None.is c.keep.ensures
