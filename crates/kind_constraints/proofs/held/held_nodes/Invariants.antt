use Rattle.std.proofs.Common.{take}
use Rattle.c_types.specs.Flows.{StandAlike}
use Rattle.phys_types.specs.Found.{no_pairs, Gains}
use Rattle.kind_constraints.specs.Adding.{RelatedBySome}
use Rattle.kind_constraints.proofs.held.held_nodes.Given as goal

abbrev pub invariant-held : goal.invariant-held
invariant-held l = Gains (RelatedBySome (take l.x-index l.x-items) (λ x. StandAlike l.types x x)) no_pairs l.found
