use Rattle.kind_solver.specs.Tables.{ReadsOff}
use Rattle.kind_solver.proofs.solver.read_off.Given as goal

abbrev pub invariant-loop-node : goal.invariant-loop-node
invariant-loop-node l = ReadsOff l.wild l.needs l.types l.node l.kinds.items l.causes.items
