use Rattle.cc_base.specs.Kinds.{kind_at}
use Rattle.rtti_nodes.specs.Numbering.{AreCoarse}
use Rattle.rtti_nodes.proofs.numbering.refined.Given as goal

abbrev pub invariant-times : goal.invariant-times
invariant-times l = AreCoarse l.types (kind_at l.kinds) l.numbers.items
