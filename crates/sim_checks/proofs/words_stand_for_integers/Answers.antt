use Rattle.sim_checks.proofs.Words.{sums-stand, differences-stand, products-stand, readings-stand, quotients-stand, signed-quotients-stand, comparisons-stand, shifts-stand, narrowings-stand}
use Rattle.sim_checks.proofs.words_stand_for_integers.Goals as goal

pub returns-clause-sums : goal.returns-clause-sums
returns-clause-sums c = sums-stand

pub returns-clause-differences : goal.returns-clause-differences
returns-clause-differences c = differences-stand

pub returns-clause-products : goal.returns-clause-products
returns-clause-products c = products-stand

pub returns-clause-readings : goal.returns-clause-readings
returns-clause-readings c = readings-stand

pub returns-clause-quotients : goal.returns-clause-quotients
returns-clause-quotients c = quotients-stand

pub returns-clause-signed_quotients : goal.returns-clause-signed_quotients
returns-clause-signed_quotients c = signed-quotients-stand

pub returns-clause-comparisons : goal.returns-clause-comparisons
returns-clause-comparisons c = comparisons-stand

pub returns-clause-shifts : goal.returns-clause-shifts
returns-clause-shifts c = shifts-stand

pub returns-clause-narrowings : goal.returns-clause-narrowings
returns-clause-narrowings c = narrowings-stand
