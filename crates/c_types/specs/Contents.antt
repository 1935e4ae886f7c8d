-- What a type holds by value: mixed unions, and pointers.
use Rattle.std.specs.Prelude.{◌≡◌, ℕ, length, slice_get, Some, IsTrue, IsFalse, nat_lt}
use Rattle.std.specs.List.{Contains}
use Rattle.cc_base.specs.declared.number.TypeId.{TypeId}
use Rattle.c_types.specs.Table.{Table, members_at}
use Rattle.c_types.specs.Cells.{mixed}
use Rattle.c_types.specs.Equality.{cells_of}
use Rattle.c_types.specs.Flows.{HeldPointer, pointer_at}

-- t holds, by value, the mixed union v
abbrev pub HoldsMixed : Table → TypeId → TypeId → Type 0
HoldsMixed table t v = (i j : ℕ) × (slice_get (cells_of table t) i ≡ Some (mixed v j))

-- The pointers that a type holds: those in its cells, or in its result and parameters, and those that a member of a mixed union in it
-- holds.
pub data Holds (table : Table) : TypeId → HeldPointer → Type 0 where
  at_place : (t : TypeId) (i : ℕ) (p : HeldPointer) → pointer_at table t i ≡ Some p → Holds table t p
  in_member : (t v m : TypeId) (p : HeldPointer) → HoldsMixed table t v → Contains (members_at table v) m → Holds table m p → Holds table t p

-- m is the largest member, the first where several are
pub record IsLargest (table : Table) (v m : TypeId) : Type 0 where
  pub place : ℕ
  pub found : slice_get (members_at table v) place ≡ Some m
  pub before : (i : ℕ) (u : TypeId) → slice_get (members_at table v) i ≡ Some u → IsTrue (nat_lt i place) → IsTrue (nat_lt (length (cells_of table u)) (length (cells_of table m)))
  pub after : (i : ℕ) (u : TypeId) → slice_get (members_at table v) i ≡ Some u → IsFalse (nat_lt (length (cells_of table m)) (length (cells_of table u)))
