-- The type of a member that is not there.
use Rattle.std.proofs.Common.{◌≡◌, ℕ, ◌≤◌, ◌⊎◌, inl, inr, Bool, false, List, [], length, sym, ◌∙◌, ap, true≢false, IsTrue, get_or, arith}
use Rattle.std.proofs.lemmas.List.{get_or_past}
use Rattle.cc_base.specs.declared.number.TypeId.{TypeId}
use Rattle.c_types.specs.Table.{Table, Entry, shape_at, members_at, void_entry, is_aggregate_shape}
use Rattle.c_types.specs.Layouts.{member_at}
use Rattle.c_types.specs.Sound.{IsWellFormed}

no_members : (b : Bool) (members : List TypeId) → IsTrue b ⊎ (members ≡ []) → b ≡ false → members ≡ []
no_members b members (inl s) n = absurd (true≢false (sym s ∙ n))
no_members b members (inr e) n = e

none_there : (members : List TypeId) (i : ℕ) (t : TypeId) → members ≡ [] → get_or members i t ≡ t
none_there members i t e = ap (λ (ms : List TypeId). get_or ms i t) e ∙ get_or_past [] i t (omega arith)

-- what is no type has no member
pub no_type : (T : Table) (t : TypeId) (i : ℕ) → length T ≤ t.0 → member_at T t i ≡ t
no_type T t i h = none_there (members_at T t) i t (ap (λ (e : Entry). e.members) (get_or_past T t.0 void_entry h))

-- what is no struct or union has none
pub no_member : (T : Table) (t : TypeId) (i : ℕ) → IsWellFormed T → is_aggregate_shape (shape_at T t) ≡ false → member_at T t i ≡ t
no_member T t i w n = none_there (members_at T t) i t (no_members (is_aggregate_shape (shape_at T t)) (members_at T t) (w.each t).plain n)

-- a struct or union has no more than its members
pub no_such_member : (T : Table) (t : TypeId) (i : ℕ) → length (members_at T t) ≤ i → member_at T t i ≡ t
no_such_member T t i h = get_or_past (members_at T t) i t h
