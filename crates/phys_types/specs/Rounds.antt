use Rattle.std.specs.Prelude.{◌≡◌, ℕ, suc, ◌<◌, Bool, List, [], ◌∷◌, length, take, slice_index_or, if◌then◌else◌, IsTrue}
use Rattle.std.specs.List.{All, Contains}
use Rattle.cc_base.specs.declared.number.TypeId.{TypeId}
use Rattle.c_types.specs.Table.{Table, IsType, parts_at}
use Rattle.c_types.specs.Cells.{Relation}
use Rattle.c_types.specs.Equality.{made_alike, physically_equal}
use Rattle.phys_types.specs.declared.keeping.Repeated.{Repeated}
use Rattle.phys_types.specs.Numbers.{number_in, same_number}
use Rattle.phys_types.specs.Shown.{IsKeptOf, IsLowKept, IsKept}

-- Rounds of numbers: types have one number where they are made alike under the numbers before.

-- an order of types in which the parts of a type come before it, and where each has its place
pub record IsOrder (table : Table) (order : List TypeId) (places : List ℕ) : Type 0 where
  pub types : All (IsType table) order
  pub fits : length places ≡ length table
  pub placed : (i : ℕ) (d : TypeId) → i < length order → slice_index_or places (slice_index_or order i d).0 0 ≡ i
  pub parts : (i : ℕ) (d p : TypeId) → i < length order → Contains (parts_at table (slice_index_or order i d)) p → Contains (take i order) p

-- the place of the first that passes, or how many there are
abbrev pub first_place : {A : Type 0} → (A → Bool) → List A → ℕ
first_place test [] = 0
first_place test (x ∷ xs) = if test x then 0 else suc (first_place test xs)

-- what is kept is of the first types
abbrev pub AreShown : Table → Relation → List TypeId → List Repeated → Type 0
AreShown table E order layouts =
    (i : ℕ) (d : TypeId) (x : Repeated) → i < length layouts → IsKeptOf table E (slice_index_or order i d) (slice_index_or layouts i x)

-- each type's number is the place of the first type that is made like it
pub record IsRound (table : Table) (E : Relation) (order : List TypeId) (numbers : List ℕ) (layouts : List Repeated) : Type 0 where
  pub fits : length numbers ≡ length table
  pub all : length layouts ≡ length order
  pub shown : AreShown table E order layouts
  pub numbered : (i : ℕ) (d : TypeId) → i < length order
      → slice_index_or numbers (slice_index_or order i d).0 0 ≡ first_place (λ u. made_alike table E u (slice_index_or order i d)) order

-- types of one number are made alike
abbrev pub AreStable : Table → List TypeId → List ℕ → Type 0
AreStable table order numbers =
    (t u : TypeId) → Contains order t → Contains order u → IsTrue (same_number (number_in numbers) t u)
    → IsTrue (made_alike table (same_number (number_in numbers)) t u)

-- types of the table have one number exactly where they are physically equal
abbrev pub TellEqual : Table → List ℕ → Type 0
TellEqual table numbers = (t u : TypeId) → IsType table t → IsType table u → same_number (number_in numbers) t u ≡ physically_equal table t u

-- the numbers tell physical equality apart
pub record AreSettled (table : Table) (order : List TypeId) (numbers : List ℕ) (layouts : List Repeated) : Type 0 where
  pub equal : (t u : TypeId) → Contains order t → Contains order u → same_number (number_in numbers) t u ≡ physically_equal table t u
  pub all : length layouts ≡ length order
  pub shown : (E : Relation) → ((t u : TypeId) → Contains order t → Contains order u → E t u ≡ physically_equal table t u) → AreShown table E order layouts

-- the layouts of all types are kept, and none is larger than a type can be
pub record AreAllKept (table : Table) (places : List ℕ) (layouts : List Repeated) : Type 0 where
  pub kept : (t : TypeId) → IsType table t → IsKept places layouts t
  pub low : All IsLowKept layouts
  pub shown : (t : TypeId) (d : Repeated) → IsType table t → IsKeptOf table (physically_equal table) t (slice_index_or layouts (slice_index_or places t.0 0) d)
