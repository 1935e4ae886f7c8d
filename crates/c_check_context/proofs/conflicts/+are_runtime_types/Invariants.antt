use Rattle.std.proofs.Common.{length}
use Rattle.c_check_context.proofs.conflicts.+are_runtime_types.Given as goal

abbrev pub decreases-are_runtime_types : goal.decreases-are_runtime_types
decreases-are_runtime_types l = length l.wanted.now
