use Rattle.std.proofs.Common.{take}
use Rattle.kind_solver.proofs.Rounds.{Round}
use Rattle.kind_solver.proofs.spreading.spread_round.Given as goal

abbrev pub invariant-loop-edge : goal.invariant-loop-edge
invariant-loop-edge l = Round l.edges l.initial.causes (take l.edge-index l.edges) l.causes l.changed
