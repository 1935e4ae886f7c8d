use Rattle.kind_constraints.proofs.LargestMember.{IsLargestSoFar}
use Rattle.kind_constraints.proofs.unions.largest.Given as goal

abbrev pub invariant-members : goal.invariant-members
invariant-members l = IsLargestSoFar l.types l.v l.i l.found
