use Rattle.sim_checks.proofs.Sequences.{bounds-compared, shrinking-compared}
use Rattle.sim_checks.proofs.Unsized.{unsized-compared}
use Rattle.sim_checks.proofs.bounds_are_compared.Goals as goal

pub returns-clause-using : goal.returns-clause-using
returns-clause-using f w number_of s c parts depth t q e p size sound complete is x =
    bounds-compared w number_of s c parts depth t sound complete e p size is q x

pub returns-clause-shrinking : goal.returns-clause-shrinking
returns-clause-shrinking f w number_of s c parts depth t u q e p size sound complete target begins is x =
    shrinking-compared w number_of s c parts depth t u sound complete target begins e p size is q x

pub returns-clause-no_size : goal.returns-clause-no_size
returns-clause-no_size f w number_of s c parts depth t q e p size sound none x = unsized-compared w number_of s c parts depth t sound e p size none q x
