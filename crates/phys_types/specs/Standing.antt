use Rattle.std.specs.Prelude.{◌≡◌, ◌⊎◌, ℕ, ◌<◌, ◌%◌, List, slice_get, Option, Some, None, IsTrue}
use Rattle.std.specs.List.{Contains}
use Rattle.cc_base.specs.declared.number.TypeId.{TypeId}
use Rattle.c_types.specs.Table.{Table, IsType, shape_at}
use Rattle.c_types.specs.Equality.{physically_equal}
use Rattle.c_types.specs.Flows.{HeldPointer, pointer_of_shape, CorrespondByPlace}
use Rattle.phys_types.specs.declared.held.Held.{Held}
use Rattle.phys_types.specs.declared.spot.Item.{Item}
use Rattle.phys_types.specs.declared.spot.Item.TheVariants.{Pointer, Mixed}
use Rattle.phys_types.specs.declared.spot.Spot.{Spot}
use Rattle.phys_types.specs.Found.{held}

-- Which pointers of two lists stand alike.

abbrev pub pointer_of_item : Item → Option HeldPointer
pointer_of_item (Pointer node to) = Some (record { node = node; to = to })
pointer_of_item item = None

-- the mixed union that an item is
abbrev pub union_of_item : Item → Option TypeId
union_of_item (Mixed t size) = Some t
union_of_item item = None

-- the mixed union v stands among the spots
abbrev pub HoldsUnion : List Spot → TypeId → Type 0
HoldsUnion ss v = (s : Spot) × Contains ss s × (union_of_item s.item ≡ Some v)

abbrev pub shown : Option Held → Option HeldPointer
shown None = None
shown (Some p) = Some (held p)

-- there are two pointers, p and q
abbrev pub AreBoth : Option HeldPointer → Option HeldPointer → HeldPointer → HeldPointer → Type 0
AreBoth x y p q = (x ≡ Some p) × (y ≡ Some q)

-- the spot number i is the pointer p
abbrev pub IsAtSpot : List Spot → ℕ → HeldPointer → Type 0
IsAtSpot ss i p = (s : Spot) × (slice_get ss i ≡ Some s) × (pointer_of_item s.item ≡ Some p)

-- the type number i is that of the pointer p
abbrev pub IsAtSlot : Table → List TypeId → ℕ → HeldPointer → Type 0
IsAtSlot table ts i p = (t : TypeId) × (slice_get ts i ≡ Some t) × (pointer_of_shape (shape_at table t) ≡ Some p)

-- p and q have one number
abbrev pub StandInTurn : (ℕ → HeldPointer → Type 0) → (ℕ → HeldPointer → Type 0) → HeldPointer → HeldPointer → Type 0
StandInTurn P Q p q = (i : ℕ) × P i p × Q i q

-- p and q have one number, below n
abbrev pub StandBefore : ℕ → (ℕ → HeldPointer → Type 0) → (ℕ → HeldPointer → Type 0) → HeldPointer → HeldPointer → Type 0
StandBefore n P Q p q = (i : ℕ) × (i < n) × P i p × Q i q

-- p is at one of the spots with the numbers c, c + k, c + 2k and so on
abbrev pub IsInColumn : ℕ → ℕ → List Spot → HeldPointer → Type 0
IsInColumn k c ss p = (i : ℕ) × (i % k ≡ c) × IsAtSpot ss i p

-- p and q are in one column of two lists, or of one of them
abbrev pub StandInColumn : ℕ → List Spot → List Spot → ℕ → HeldPointer → HeldPointer → Type 0
StandInColumn k xs ys c p q =
    (IsInColumn k c xs p × IsInColumn k c ys q) ⊎ (IsInColumn k c xs p × IsInColumn k c xs q) ⊎ (IsInColumn k c ys p × IsInColumn k c ys q)

-- p and q are in one of the first n columns
abbrev pub StandInColumns : ℕ → List Spot → List Spot → ℕ → HeldPointer → HeldPointer → Type 0
StandInColumns k xs ys n p q = (c : ℕ) × (c < n) × StandInColumn k xs ys c p q

-- p is one of the pointers
abbrev pub IsHeld : List Held → HeldPointer → Type 0
IsHeld ps p = (h : Held) × Contains ps h × (held h ≡ p)

-- r is the pointer p, and s is one of the pointers
abbrev pub IsWith : HeldPointer → List Held → HeldPointer → HeldPointer → Type 0
IsWith p qs r s = (r ≡ p) × IsHeld qs s

-- p is one of the first pointers, q one of the others
abbrev pub AreHeld : List Held → List Held → HeldPointer → HeldPointer → Type 0
AreHeld ps qs p q = IsHeld ps p × IsHeld qs q

-- t and u are physically equal types of the table
pub record AreEqualTypes (table : Table) (t u : TypeId) : Type 0 where
  pub first : IsType table t
  pub second : IsType table u
  pub equal : IsTrue (physically_equal table t u)

-- p and q correspond by place in two of the types
abbrev pub CorrespondInSome : Table → List (TypeId × TypeId) → HeldPointer → HeldPointer → Type 0
CorrespondInSome table pairs p q = (t u : TypeId) × Contains pairs (t, u) × CorrespondByPlace table t u p q
