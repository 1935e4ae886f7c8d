use Rattle.std.specs.Prelude.{◌≡◌, ℕ, List}
use Rattle.cc_base.specs.declared.number.TypeId.{TypeId}
use Rattle.c_types.specs.Table.{Table, IsType}
use Rattle.c_types.specs.Equality.{physically_equal}
use Rattle.phys_types.specs.declared.keeping.Repeated.{Repeated}
use Rattle.phys_types.specs.declared.spot.Layout.{Layout}
use Rattle.c_types.specs.Sound.{IsWellFormed}
use Rattle.phys_types.specs.Numbers.{same_number}
use Rattle.phys_types.specs.Orders.{IsWholeOrder}
use Rattle.phys_types.specs.Rounds.{AreSettled}
use Rattle.phys_types.specs.Shown.{IsLayoutOf}

-- Two types as they are compared: numbers that tell physical equality, and the layouts under it.
pub record IsPair (table : Table) (number : TypeId → ℕ) (t : TypeId) (x : Layout) (u : TypeId) (y : Layout) : Type 0 where
  pub equal : (a b : TypeId) → IsType table a → IsType table b → same_number number a b ≡ physically_equal table a b
  pub first : IsLayoutOf table (physically_equal table) t x
  pub second : IsLayoutOf table (physically_equal table) u y

-- What is kept of all types of a table: they are in order, their numbers tell physical equality, and their layouts are under it.
pub record IsKnown (table : Table) (order : List TypeId) (places numbers : List ℕ) (layouts : List Repeated) : Type 0 where
  pub formed : IsWellFormed table
  pub whole : IsWholeOrder table order places
  pub settled : AreSettled table order numbers layouts
