use Rattle.std.proofs.Common.{take}
use Rattle.phys_types.specs.Found.{Gains}
use Rattle.kind_constraints.specs.Adding.{RelatedBySome}
use Rattle.kind_constraints.specs.Asked.{IsAnswered}
use Rattle.kind_constraints.specs.Pieces.{IsFlowTop}
use Rattle.kind_constraints.proofs.tops.add_flow_tops.Given as goal

abbrev pub invariant-pairs : goal.invariant-pairs
invariant-pairs l = record {
  found : Gains (RelatedBySome (take l.pair-index l.pairs) (IsFlowTop l.asked.types.now)) l.fn.found l.found;
  answered : IsAnswered l.asked.types.now l.asked.sites.now l.answered;
}
