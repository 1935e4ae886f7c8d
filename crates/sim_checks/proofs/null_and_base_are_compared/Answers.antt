use Rattle.sim_checks.proofs.Pointing.{null-compared, base-compared}
use Rattle.sim_checks.proofs.null_and_base_are_compared.Goals as goal

pub returns-clause-null : goal.returns-clause-null
returns-clause-null f w number_of s c parts depth kind t q e p which x = null-compared w number_of s c parts depth kind t q e p which x

pub returns-clause-base : goal.returns-clause-base
returns-clause-base f w number_of s c parts depth t q e p x = base-compared w number_of s c parts depth t q e p x
