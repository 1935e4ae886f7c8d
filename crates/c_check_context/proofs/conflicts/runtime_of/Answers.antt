use Rattle.c_check_operators.proofs.RuntimeLaws.{found_named}
use Rattle.c_check_context.proofs.conflicts.runtime_of.Goals as goal

pub returns : goal.returns
returns c = found_named c.args.name.now c.runtime.result c.runtime.ensures
