use Rattle.std.proofs.Common.{sym, ◌∙◌}
use Rattle.runtime_calls.specs.Prototypes.{prototype_of}
use Rattle.c_check_operators.proofs.CallLaws.{runtime_first}
use Rattle.c_check_operators.proofs.calls.runtime_fault.Goals as goal

pub returns-in-Some : goal.returns-in-Some
returns-in-Some c = runtime_first c.args.types.now c.parameters_of-parameters.result.now (prototype_of c.args.function).parameters c.args.at c.args.values.now c.in-Some.fault
    c.parameters_of-parameters.ensures (sym c.in-Some.is ∙ c.runtime_argument_fault.ensures)
