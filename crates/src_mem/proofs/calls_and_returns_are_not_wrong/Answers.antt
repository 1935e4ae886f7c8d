use Rattle.src_mem.proofs.CallsRight.{entry_right}
use Rattle.src_mem.proofs.calls_and_returns_are_not_wrong.Goals as goal

pub returns-clause-entry : goal.returns-clause-entry
returns-clause-entry c = entry_right
