use Rattle.c_unit_unique.proofs.UnitSteps.{text-whole, unit-whole}
use Rattle.c_unit_unique.proofs.a_unit_has_one_tree.Goals as goal

pub returns-clause-unit : goal.returns-clause-unit
returns-clause-unit c = unit-whole

pub returns-clause-text : goal.returns-clause-text
returns-clause-text c = text-whole
