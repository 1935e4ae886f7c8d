use Rattle.lower_ready.proofs.Units.{has-unit}
use Rattle.lower_ready.proofs.a_well_typed_unit_has_code.Goals as goal

pub returns : goal.returns
returns c table unit w limits height few = has-unit table unit w few limits height
