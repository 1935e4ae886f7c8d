use Rattle.phys_types.specs.Found.{Gains}
use Rattle.phys_types.proofs.Crossed.{Before, AreHeldAt}
use Rattle.phys_types.proofs.crossing.add_each.Given as goal

abbrev pub invariant-pointers : goal.invariant-pointers
invariant-pointers l = Gains (Before (AreHeldAt l.ps l.qs) l.p-index) l.initial.found l.found
