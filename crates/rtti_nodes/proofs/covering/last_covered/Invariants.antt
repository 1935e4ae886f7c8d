use Rattle.std.proofs.Common.{◌≡◌, ℕ, ◌≤◌, length, slice_get, Some}
use Rattle.cc_base.specs.declared.number.TypeId.{TypeId}
use Rattle.cc_base.specs.Kinds.{kind_at}
use Rattle.c_types.specs.Flows.{Covers}
use Rattle.rtti_nodes.proofs.covering.last_covered.Given as goal

abbrev pub invariant-firsts : goal.invariant-firsts
invariant-firsts l = record {
  within : l.last ≤ length l.firsts;
  behind : (i : ℕ) (u : TypeId) → l.last ≤ i → slice_get l.firsts i ≡ Some u → Covers l.known (kind_at l.kinds) l.t u → ⊥;
}

abbrev pub decreases-firsts : goal.decreases-firsts
decreases-firsts l = l.last
