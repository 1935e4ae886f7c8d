use Rattle.std.proofs.Common.{◌≡◌, ℕ, ◌<◌, slice_get, Some}
use Rattle.cc_base.specs.declared.number.TypeId.{TypeId}
use Rattle.cc_base.specs.Kinds.{kind_at}
use Rattle.c_types.specs.Flows.{IsOfOneClass}
use Rattle.cure_tables.proofs.function_types.place_of.Given as goal

abbrev pub invariant-firsts : goal.invariant-firsts
invariant-firsts l = (j : ℕ) (u : TypeId) → j < l.i → slice_get l.firsts j ≡ Some u → IsOfOneClass l.known (kind_at l.kinds) l.t u → ⊥
