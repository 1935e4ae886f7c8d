use Rattle.std.proofs.Common.{[], refl}
use Rattle.c_printed.proofs.Laws.{prints_nothing, prints_one, prints_other}
use Rattle.c_printed.proofs.leaves.put_name.Goals as goal

pub returns-in-None : goal.returns-in-None
returns-in-None c = rw c.in-None.is (prints_other [] _ _ _ refl (prints_nothing _))

pub returns-in-Static : goal.returns-in-Static
returns-in-Static c = rw c.in-Static.is (prints_one _ _ _ _ refl c.put.ensures)

pub returns-in-Local : goal.returns-in-Local
returns-in-Local c = rw c.in-Local.is (prints_one _ _ _ _ refl c.put-in-Local.ensures)

pub returns-in-Parameter : goal.returns-in-Parameter
returns-in-Parameter c = rw c.in-Parameter.is (prints_one _ _ _ _ refl c.put-in-Parameter.ensures)

pub returns-in-Known : goal.returns-in-Known
returns-in-Known c = rw c.in-Known.is (prints_other [] _ _ _ refl (prints_nothing _))
