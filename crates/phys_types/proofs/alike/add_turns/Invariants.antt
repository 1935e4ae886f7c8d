use Rattle.phys_types.specs.Found.{Gains}
use Rattle.phys_types.specs.InTurn.{IsInTurn}
use Rattle.phys_types.specs.Standing.{StandBefore}
use Rattle.phys_types.proofs.alike.add_turns.Given as goal

abbrev pub invariant-turns : goal.invariant-turns
invariant-turns l = Gains (StandBefore l.i (IsInTurn l.xs) (IsInTurn l.ys)) l.fn.found l.found
