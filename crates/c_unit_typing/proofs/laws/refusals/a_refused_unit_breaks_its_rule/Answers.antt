use Rattle.c_unit_typing.proofs.RefusedUnits.{whole-stopped}
use Rattle.c_unit_typing.proofs.laws.refusals.a_refused_unit_breaks_its_rule.Goals as goal

pub returns : goal.returns
returns c u p t r h = whole-stopped p t u r h
