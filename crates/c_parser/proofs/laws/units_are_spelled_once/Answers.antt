use Rattle.c_parser.proofs.UnitPromised.{one_unit}
use Rattle.c_parser.proofs.laws.units_are_spelled_once.Goals as goal

pub returns : goal.returns
returns c = one_unit
