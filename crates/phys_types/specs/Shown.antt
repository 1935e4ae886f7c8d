use Rattle.std.specs.Prelude.{◌≡◌, ℕ, ◌*◌, ◌<◌, ◌≤◌, ◌⊎◌, Bool, true, false, ◌&&◌, List, [], ◌∷◌, length, slice_index_or, nat_le, nat_lt, if◌then◌else◌, IsTrue, ⊤}
use Rattle.std.specs.List.{All, Contains, fold, list_all, list_any}
use Rattle.cc_base.specs.declared.number.TypeId.{TypeId}
use Rattle.c_types.specs.declared.shape.TypeShape.{TypeShape}
use Rattle.c_types.specs.declared.shape.TypeShape.TheVariants.{Struct}
use Rattle.c_types.specs.Table.{Table, shape_at, parts_at}
use Rattle.c_types.specs.Layouts.{size_of}
use Rattle.c_types.specs.Cells.{Relation, cells_at, holds_pointer}
use Rattle.phys_types.specs.declared.keeping.Repeated.{Repeated}
use Rattle.phys_types.specs.declared.spot.Layout.{Layout}
use Rattle.phys_types.specs.Spots.{cells_from, AreSpots, copies}
use Rattle.phys_types.specs.declared.spot.Item.TheVariants.{Mixed}
use Rattle.phys_types.specs.declared.spot.Spot.{Spot}
use Rattle.phys_types.specs.Numbers.{AreLow, begin_with_spots}

-- Layouts that are kept of types.

-- the layout shows the cells of t, where unions are mixed or not by E
pub record IsLayoutOf (table : Table) (E : Relation) (t : TypeId) (layout : Layout) : Type 0 where
  pub spots : AreSpots (size_of table) 0 layout.spots.items layout.size
  pub cells : cells_from 0 layout.spots.items layout.size ≡ cells_at table E t
  pub holds : layout.holds ≡ holds_pointer table t

-- no layout is larger than a type can be
abbrev pub IsLow : Layout → Type 0
IsLow layout = AreLow layout.spots.items × (layout.size ≤ 1048576)

-- all copies of what is kept

abbrev pub all_size : Repeated → ℕ
all_size k = k.count * k.part.size

abbrev pub all_spots : Repeated → List Spot
all_spots k = copies k.count k.part.size 0 k.part.spots.items

-- the copies show the cells of t
pub record IsKeptOf (table : Table) (E : Relation) (t : TypeId) (k : Repeated) : Type 0 where
  pub some : 0 < k.count
  pub spots : AreSpots (size_of table) 0 k.part.spots.items k.part.size
  pub cells : cells_from 0 (all_spots k) (all_size k) ≡ cells_at table E t
  pub holds : k.part.holds ≡ holds_pointer table t

-- all copies are no larger than a type can be
abbrev pub IsLowKept : Repeated → Type 0
IsLowKept k = IsLow k.part × (k.count * k.part.size ≤ 1048576)

-- what is kept at the place of t
abbrev pub IsKept : List ℕ → List Repeated → TypeId → Type 0
IsKept places built t = (t.0 < length places) × (slice_index_or places t.0 0 < length built)

-- the parts of t have their layouts
abbrev pub ArePartsKept : Table → List ℕ → List Repeated → TypeId → Type 0
ArePartsKept table places built t = All (IsKept places built) (parts_at table t)

-- the layouts of the parts of t are right
abbrev pub ArePartsShown : Table → Relation → List ℕ → List Repeated → TypeId → Type 0
ArePartsShown table E places built t =
    (p : TypeId) (d : Repeated) → Contains (parts_at table t) p → IsKeptOf table E p (slice_index_or built (slice_index_or places p.0 0) d)

abbrev pub is_struct_shape : TypeShape → Bool
is_struct_shape (Struct tag) = true
is_struct_shape shape = false

abbrev pub IsStruct : Table → TypeId → Type 0
IsStruct table t = IsTrue (is_struct_shape (shape_at table t))

-- the layouts are those of the types, one by one
abbrev pub AreLayoutsOf : Table → Relation → List TypeId → List Layout → Type 0
AreLayoutsOf table E [] [] = ⊤
AreLayoutsOf table E (t ∷ ts) (x ∷ xs) = IsLayoutOf table E t x × AreLayoutsOf table E ts xs
AreLayoutsOf table E ts xs = ⊥

-- the larger layout, the first of two of one size
abbrev pub larger : Layout → Layout → Layout
larger x y = if nat_lt x.size y.size then y else x

-- the cells of x begin with those of y
abbrev pub begins_spots : (TypeId → ℕ) → Layout → Layout → Bool
begins_spots number x y = nat_le y.size x.size && begin_with_spots number y.size x.spots.items y.spots.items

-- the spots of a union of this size with these members
abbrev pub union_spots : (TypeId → ℕ) → TypeId → ℕ → List Layout → List Layout → List Spot
union_spots number t size parts [] = []
union_spots number t size parts (x ∷ xs) =
    if list_any (λ p. p.holds) parts
    then (if list_all (begins_spots number (fold larger x parts)) parts
    then (fold larger x parts).spots.items
    else record { start = 0; item = Mixed t size } ∷ [])
    else []

pub record IsUnionOf (number : TypeId → ℕ) (t : TypeId) (size : ℕ) (parts : List Layout) (layout : Layout) : Type 0 where
  pub size_is : layout.size ≡ size
  pub spots_are : layout.spots.items ≡ union_spots number t size parts parts
  pub holds_are : layout.holds ≡ list_any (λ p. p.holds) parts

-- what a layout is made of
pub record IsMadeOf (size : ℕ) (spots : List Spot) (holds : Bool) (layout : Layout) : Type 0 where
  pub size_is : layout.size ≡ size
  pub spots_are : layout.spots.items ≡ spots
  pub holds_are : layout.holds ≡ holds

-- n copies of x are kept: as they are, or as a part and a count
abbrev pub IsTimes : ℕ → Layout → Repeated → Type 0
IsTimes n x k =
    ((k.count ≡ n) × IsMadeOf x.size x.spots.items x.holds k.part)
    ⊎ ((k.count ≡ 1) × IsMadeOf (n * x.size) (copies n x.size 0 x.spots.items) x.holds k.part)
