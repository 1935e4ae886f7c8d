use Rattle.std.specs.Prelude.{◌≡◌, ℕ, ◌<◌, ◌≤◌, List, length, slice_index_or, IsTrue}
use Rattle.cc_base.specs.declared.number.TypeId.{TypeId}
use Rattle.c_types.specs.Table.{Table, IsType}
use Rattle.c_types.specs.Equality.{physically_equal}

-- Of each type the first one like it: one type for each class of types.

-- f is the first type with the number of t
pub record IsFirstWith (number : TypeId → ℕ) (t f : TypeId) : Type 0 where
  pub same : number f ≡ number t
  pub first : (u : TypeId) → number u ≡ number t → f.0 ≤ u.0

-- of each of the first n types the first with its number
pub record AreFirstsWith (number : TypeId → ℕ) (n : ℕ) (firsts : List TypeId) : Type 0 where
  pub count : length firsts ≡ n
  pub first : (t d : TypeId) → t.0 < n → IsFirstWith number t (slice_index_or firsts t.0 d)

-- f is the first type of the table that is physically equal to t
pub record IsFirstEqual (table : Table) (t f : TypeId) : Type 0 where
  pub equal : IsTrue (physically_equal table t f)
  pub first : (u : TypeId) → IsType table u → IsTrue (physically_equal table t u) → f.0 ≤ u.0

-- of each type of the table the first that is physically equal
pub record AreFirstEquals (table : Table) (firsts : List TypeId) : Type 0 where
  pub count : length firsts ≡ length table
  pub first : (t d : TypeId) → IsType table t → IsFirstEqual table t (slice_index_or firsts t.0 d)
