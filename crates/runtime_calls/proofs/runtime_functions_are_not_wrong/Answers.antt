use Rattle.runtime_calls.proofs.NotWrong.{call_right, allocation_right}
use Rattle.runtime_calls.proofs.runtime_functions_are_not_wrong.Goals as goal

pub returns-clause-calls : goal.returns-clause-calls
returns-clause-calls c = call_right

pub returns-clause-allocations : goal.returns-clause-allocations
returns-clause-allocations c = allocation_right
