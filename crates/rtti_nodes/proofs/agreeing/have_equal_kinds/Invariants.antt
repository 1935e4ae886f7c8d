use Rattle.std.proofs.Common.{◌≡◌, ℕ, ◌<◌, get_or}
use Rattle.cc_base.specs.declared.number.NodeId.{NodeId}
use Rattle.cc_base.specs.Kinds.{kind_at}
use Rattle.rtti_nodes.proofs.agreeing.have_equal_kinds.Given as goal

abbrev pub invariant-pairs : goal.invariant-pairs
invariant-pairs l = (i : ℕ) (d : NodeId × NodeId) → i < l.pair-index → kind_at l.kinds (get_or l.pairs i d).0 ≡ kind_at l.kinds (get_or l.pairs i d).1
