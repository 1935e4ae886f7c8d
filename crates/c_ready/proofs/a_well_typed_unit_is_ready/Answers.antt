use Rattle.c_ready.proofs.ReadyUnit.{well-typed-ready}
use Rattle.c_ready.proofs.a_well_typed_unit_is_ready.Goals as goal

pub returns : goal.returns
returns c = well-typed-ready
