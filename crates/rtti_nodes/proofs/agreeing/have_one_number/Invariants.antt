use Rattle.std.proofs.Common.{◌≡◌, ℕ, ◌<◌, get_or}
use Rattle.cc_base.specs.declared.number.TypeId.{TypeId}
use Rattle.phys_types.specs.Numbers.{number_in}
use Rattle.rtti_nodes.proofs.agreeing.have_one_number.Given as goal

abbrev pub invariant-pairs : goal.invariant-pairs
invariant-pairs l = (i : ℕ) (d : TypeId × TypeId) → i < l.pair-index → number_in l.numbers (get_or l.pairs i d).0 ≡ number_in l.numbers (get_or l.pairs i d).1
