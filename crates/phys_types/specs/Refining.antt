use Rattle.std.specs.Prelude.{List, ℕ, IsTrue}
use Rattle.std.specs.Cmp.{IsEquivalence}
use Rattle.cc_base.specs.declared.number.TypeId.{TypeId}
use Rattle.c_types.specs.Table.{Table}
use Rattle.c_types.specs.Cells.{Relation}
use Rattle.c_types.specs.Equality.{physically_equal}
use Rattle.phys_types.specs.Numbers.{number_in, same_number}

-- Numbers of types are made finer, but physically equal types keep one number.

-- physically equal types have one number
abbrev pub IsCoarser : Table → List ℕ → Type 0
IsCoarser table numbers = (t u : TypeId) → IsTrue (physically_equal table t u) → IsTrue (same_number (number_in numbers) t u)

-- an equivalence that holds of physically equal types
pub record IsWide (table : Table) (E : Relation) : Type 0 where
  pub equal : (t u : TypeId) → IsTrue (physically_equal table t u) → IsTrue (E t u)
  pub equivalence : IsEquivalence E
