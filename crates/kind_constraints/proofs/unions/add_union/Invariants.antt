use Rattle.std.proofs.Common.{take}
use Rattle.c_types.specs.Flows.{StandAlike}
use Rattle.c_types.specs.Table.{members_at}
use Rattle.phys_types.specs.Found.{Gains}
use Rattle.kind_constraints.specs.Adding.{RelatedBySome}
use Rattle.kind_constraints.proofs.unions.add_union.Given as goal

abbrev pub invariant-members : goal.invariant-members
invariant-members l = Gains (RelatedBySome (take l.i (members_at l.types l.v)) (λ u. StandAlike l.types u l.largest)) l.fn.found l.found
