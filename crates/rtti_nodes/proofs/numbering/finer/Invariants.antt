use Rattle.cc_base.specs.Kinds.{kind_at}
use Rattle.rtti_nodes.proofs.Depths.{AreFiner}
use Rattle.rtti_nodes.proofs.numbering.finer.Given as goal

abbrev pub invariant-types : goal.invariant-types
invariant-types l = AreFiner l.types (kind_at l.kinds) l.numbers l.finer.items l.t
