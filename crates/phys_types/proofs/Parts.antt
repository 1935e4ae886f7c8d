use Rattle.std.proofs.Common.{◌≡◌, ℕ, zero, suc, ◌+◌, ◌<◌, ◌≤◌, Bool, true, false, List, [], ◌∷◌, length, get_or, refl, ap, sym, subst, ◌∙◌, true≢false, arith}
use Rattle.std.specs.List.{All, Contains}
use Rattle.std.proofs.lemmas.List.Elements.{Contains-get_or}
use Rattle.cc_base.specs.declared.number.TypeId.{TypeId}
use Rattle.c_types.specs.declared.shape.TypeShape.{TypeShape}
use Rattle.c_types.specs.declared.shape.TypeShape.TheVariants.{Void, Integer, Pointer, Array, Function, Struct, Union}
use Rattle.c_types.specs.Table.{Table, IsComplete, IsUnion, is_union_shape, shape_at, members_at, parts_at, parts_of_shape, is_complete_entry}
use Rattle.c_types.specs.Layouts.{size_of, offset_of}
use Rattle.c_types.specs.Cells.{Cell, Relation, cells_at, cells_of_shape}
use Rattle.c_types.specs.Sound.{IsWellFormed}
use Rattle.c_types.proofs.Cells.{cells_are, length_cells}
use Rattle.phys_types.specs.declared.keeping.Repeated.{Repeated}
use Rattle.phys_types.specs.declared.spot.Layout.{Layout}
use Rattle.phys_types.specs.declared.spot.Spot.{Spot}
use Rattle.phys_types.specs.Spots.{AreSpots, item_size}
use Rattle.phys_types.specs.Numbers.{AreLow}
use Rattle.phys_types.specs.Shown.{IsLayoutOf, IsLow, IsKeptOf, IsLowKept, IsKept, ArePartsKept, ArePartsShown, is_struct_shape, IsStruct}
use Rattle.phys_types.proofs.Spreading.{spots_end, length_all}
use Rattle.phys_types.proofs.Structs.{struct_tag, offset_low}

-- What is kept of the parts of a type.

struct_parts : (s : TypeShape) (ms : List TypeId) → is_struct_shape s ≡ true → parts_of_shape s ms ≡ ms
struct_parts (Struct tag) ms h = refl
struct_parts Void ms h = absurd (true≢false (sym h))
struct_parts (Integer b s) ms h = absurd (true≢false (sym h))
struct_parts (Pointer n t) ms h = absurd (true≢false (sym h))
struct_parts (Array e n) ms h = absurd (true≢false (sym h))
struct_parts (Function ps r) ms h = absurd (true≢false (sym h))
struct_parts (Union t) ms h = absurd (true≢false (sym h))

union_parts : (s : TypeShape) (ms : List TypeId) → is_union_shape s ≡ true → parts_of_shape s ms ≡ ms
union_parts (Union tag) ms h = refl
union_parts Void ms h = absurd (true≢false (sym h))
union_parts (Integer b s) ms h = absurd (true≢false (sym h))
union_parts (Pointer n t) ms h = absurd (true≢false (sym h))
union_parts (Array e n) ms h = absurd (true≢false (sym h))
union_parts (Function ps r) ms h = absurd (true≢false (sym h))
union_parts (Struct t) ms h = absurd (true≢false (sym h))

pub parts_of_struct : (table : Table) (t : TypeId) → IsStruct table t → parts_at table t ≡ members_at table t
parts_of_struct table t h = struct_parts (shape_at table t) (members_at table t) h

pub parts_of_union : (table : Table) (t : TypeId) → IsUnion table t → parts_at table t ≡ members_at table t
parts_of_union table t h = union_parts (shape_at table t) (members_at table t) h

pub low_at : (places : List ℕ) (built : List Repeated) (t : TypeId) (part : Repeated) → IsKept places built t → All IsLowKept built
    → ((d : Repeated) → part ≡ get_or built (get_or places t.0 0) d) → IsLowKept part
low_at places built t part k low e = subst IsLowKept (sym (e part)) (low (get_or places t.0 0) part k.1)

module _ (table : Table) (t : TypeId) (parts : parts_at table t ≡ members_at table t) (places : List ℕ) (built : List Repeated) where
  pub member_kept : (i : ℕ) (ty : TypeId) → i < length (members_at table t) → ty ≡ get_or (members_at table t) i t → ArePartsKept table places built t → IsKept places built ty
  member_kept i ty l e k = subst (IsKept places built) (sym e) (subst (All (IsKept places built)) parts k i t l)

  pub member_shown : (E : Relation) (i : ℕ) (ty : TypeId) → i < length (members_at table t) → ty ≡ get_or (members_at table t) i t
      → ArePartsShown table E places built t → (d : Repeated) → IsKeptOf table E (get_or (members_at table t) i t) (get_or built (get_or places ty.0 0) d)
  member_shown E i ty l e h d =
      subst (IsKeptOf table E (get_or (members_at table t) i t)) (sym (ap (λ (u : TypeId). get_or built (get_or places u.0 0) d) e))
      (h (get_or (members_at table t) i t) d (subst (λ xs. Contains xs (get_or (members_at table t) i t)) (sym parts) (Contains-get_or (members_at table t) i t l)))

pub offset_small : (table : Table) → IsWellFormed table → (t : TypeId) (i : ℕ) → IsStruct table t → IsComplete table t → i < length (members_at table t) → offset_of table t i ≤ 1048576
offset_small table w t i s c l =
    let tag = struct_tag (shape_at table t) s in
    let b = offset_low table w t tag.0 i tag.1 l in
    let z = (w.sized t c).most in omega arith

-- ---- a layout that shows a type is no larger than a type

module _ (size : TypeId → ℕ) where
  pub low_spots : (at : ℕ) (ss : List Spot) (end : ℕ) → AreSpots size at ss end → end ≤ 1048576 → AreLow ss
  low_spots at [] end h b i d l = absurd (omega arith)
  low_spots at (s ∷ ss) end h b zero d l = let e = spots_end size (s.start + item_size s.item) ss end h.2 in omega arith
  low_spots at (s ∷ ss) end h b (suc i) d l = low_spots (s.start + item_size s.item) ss end h.2 b i d (omega arith)

few_cells : (table : Table) (E : Relation) (f : TypeId → List Cell) (t : TypeId) (s : TypeShape) (ms : List TypeId) → is_complete_entry s ms ≡ false
    → length (cells_of_shape table E f t s ms) ≤ 1
few_cells table E f t Void ms h = omega arith
few_cells table E f t (Function ps r) ms h = omega arith
few_cells table E f t (Struct tag) [] h = omega arith
few_cells table E f t (Union tag) [] h = omega arith
few_cells table E f t (Struct tag) (m ∷ ms) h = absurd (true≢false h)
few_cells table E f t (Union tag) (m ∷ ms) h = absurd (true≢false h)
few_cells table E f t (Integer b s) ms h = absurd (true≢false h)
few_cells table E f t (Pointer n u) ms h = absurd (true≢false h)
few_cells table E f t (Array e n) ms h = absurd (true≢false h)

pub cells_low : (table : Table) → IsWellFormed table → (E : Relation) (t : TypeId) → length (cells_at table E t) ≤ 1048576
cells_low table w E t = by (is_complete_entry (shape_at table t) (members_at table t)) refl
  where
    by : (b : Bool) → is_complete_entry (shape_at table t) (members_at table t) ≡ b → length (cells_at table E t) ≤ 1048576
    by true e = let l = length_cells table w E t e in let m = (w.sized t e).most in omega arith
    by false e =
        let f = few_cells table E (cells_at table E) t (shape_at table t) (members_at table t) e in
        let l = ap length (cells_are table w.order.0 w.order.1 E t) in omega arith

pub layout_low : (table : Table) → IsWellFormed table → (E : Relation) (t : TypeId) (layout : Layout) → IsLayoutOf table E t layout → IsLow layout
layout_low table w E t layout h =
    let s : layout.size ≤ 1048576 = (let l = cells_low table w E t in let e = sym (length_all (size_of table) layout.spots.items layout.size h.spots) ∙ ap length h.cells in omega arith) in
    (low_spots (size_of table) 0 layout.spots.items layout.size h.spots s, s)
