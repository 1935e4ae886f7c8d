use Rattle.phys_types.specs.Found.{held, Gains}
use Rattle.phys_types.proofs.Crossed.{Before, IsWithAt}
use Rattle.phys_types.proofs.crossing.add_with.Given as goal

abbrev pub invariant-others : goal.invariant-others
invariant-others l = Gains (Before (IsWithAt (held l.p) l.qs) l.q-index) l.initial.found l.found
