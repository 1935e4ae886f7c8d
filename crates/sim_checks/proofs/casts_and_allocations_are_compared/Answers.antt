use Rattle.sim_checks.proofs.Calling.{casts-compared, allocations-compared, unsized-allocations-compared}
use Rattle.sim_checks.proofs.casts_and_allocations_are_compared.Goals as goal

pub returns-clause-cast : goal.returns-clause-cast
returns-clause-cast f w number_of s c parts depth t u q e p node below x = casts-compared w number_of s c parts depth t u e p node q below x

pub returns-clause-allocation : goal.returns-clause-allocation
returns-clause-allocation f w s m parts kind t q e made size needed at some wide is h =
    allocations-compared w s m parts t e made size needed at some wide is kind q h

pub returns-clause-no_size : goal.returns-clause-no_size
returns-clause-no_size f w s m parts kind t q e made size needed at unsized none h =
    unsized-allocations-compared w s m parts t e made size needed at unsized none kind q h
