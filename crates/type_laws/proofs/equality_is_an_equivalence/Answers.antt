use Rattle.type_laws.proofs.Relations.{equal_equiv}
use Rattle.type_laws.proofs.equality_is_an_equivalence.Goals as goal

pub returns : goal.returns
returns c = equal_equiv
