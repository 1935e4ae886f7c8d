use Rattle.c_unit_typing.proofs.WholeUnits.{whole-judged}
use Rattle.c_unit_typing.proofs.laws.units.a_judged_unit_is_well_typed.Goals as goal

pub returns-clause-typed : goal.returns-clause-typed
returns-clause-typed c u whole r h = (whole-judged u whole r h).0

pub returns-clause-erases : goal.returns-clause-erases
returns-clause-erases c u whole r h = (whole-judged u whole r h).1
