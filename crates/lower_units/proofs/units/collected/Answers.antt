use Rattle.lower_units.proofs.UnitLaws.{found_in}
use Rattle.lower_units.proofs.units.collected.Goals as goal

pub returns-then-out : goal.returns-then-out
returns-then-out c = found_in _ _ _ _ c.unit.ensures c.nothing-out.ensures.statics c.nothing-out.ensures.sites c.if-out.true
