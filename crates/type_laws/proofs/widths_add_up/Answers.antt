use Rattle.type_laws.proofs.Widths.{width_adds}
use Rattle.type_laws.proofs.widths_add_up.Goals as goal

pub returns : goal.returns
returns c = width_adds
