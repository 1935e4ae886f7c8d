use Rattle.c_unit_limits.proofs.UnitLimits.{whole-limits}
use Rattle.c_unit_limits.proofs.units.a_judged_unit_is_within_its_limits.Goals as goal

pub returns : goal.returns
returns c u whole r h = whole-limits u whole r h
