use Rattle.std.proofs.Common.{◌≡◌, length}
use Rattle.c_check_operators.proofs.CallLaws.{argument_broken}
use Rattle.c_check_operators.proofs.calls.argument_fault.Given as goal

abbrev pub invariant-arguments : goal.invariant-arguments
invariant-arguments l = argument_broken l.types l.wanted l.given ≡ argument_broken l.types l.parameters l.values

abbrev pub decreases-arguments : goal.decreases-arguments
decreases-arguments l = length l.wanted
