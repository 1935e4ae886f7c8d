use Rattle.c_unit_given.proofs.WholeGiven.{one-given, whole-given}
use Rattle.c_unit_given.proofs.a_well_typed_unit_is_given.Goals as goal

pub returns-clause-given : goal.returns-clause-given
returns-clause-given c = whole-given

pub returns-clause-only : goal.returns-clause-only
returns-clause-only c = one-given
