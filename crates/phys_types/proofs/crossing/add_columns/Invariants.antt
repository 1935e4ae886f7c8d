use Rattle.phys_types.specs.Found.{Gains}
use Rattle.phys_types.specs.Standing.{StandInColumns}
use Rattle.phys_types.proofs.crossing.add_columns.Given as goal

abbrev pub invariant-columns : goal.invariant-columns
invariant-columns l = Gains (StandInColumns l.step l.xs l.ys l.first) l.initial.found l.found
