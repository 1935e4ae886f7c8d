use Rattle.std.proofs.Common.{[], refl}
use Rattle.unit_parts.proofs.Laws.{collects_other}
use Rattle.unit_parts.proofs.literals.put_name.Goals as goal

pub returns-in-None : goal.returns-in-None
returns-in-None c = rw c.in-None.is (collects_other _ [] [] _ _ _ refl refl c.keep.ensures)

pub returns-in-Parameter : goal.returns-in-Parameter
returns-in-Parameter c = rw c.in-Parameter.is (collects_other _ [] [] _ _ _ refl refl c.keep-in-Parameter.ensures)

pub returns-in-Known : goal.returns-in-Known
returns-in-Known c = rw c.in-Known.is (collects_other _ [] [] _ _ _ refl refl c.keep-in-Known.ensures)
