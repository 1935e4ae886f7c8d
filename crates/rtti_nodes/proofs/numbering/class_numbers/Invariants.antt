use Rattle.cc_base.specs.Kinds.{kind_at}
use Rattle.rtti_nodes.specs.Numbering.{AreCoarse}
use Rattle.rtti_nodes.proofs.numbering.class_numbers.Given as goal

abbrev pub invariant-looks : goal.invariant-looks
invariant-looks l = AreCoarse l.types (kind_at l.kinds) l.numbers.items
