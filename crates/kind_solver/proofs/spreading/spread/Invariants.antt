use Rattle.std.proofs.Common.{sum_by}
use Rattle.kind_solver.specs.Order.{late}
use Rattle.kind_solver.proofs.Rounds.{Rounds}
use Rattle.kind_solver.proofs.spreading.spread.Given as goal

abbrev pub invariant-loop : goal.invariant-loop
invariant-loop l = Rounds l.edges l.initial.causes l.causes

abbrev pub decreases-loop : goal.decreases-loop
decreases-loop l = sum_by late l.causes
