use Rattle.std.proofs.Common.{◌≡◌, ℕ, zero, suc, ◌<◌, ◌==◌, Bool, true, false, if◌then◌else◌, List, [], ◌∷◌, length, get_or, slice_get, Option, None, Some, refl, ap, sym, subst, ◌∙◌, inl, inr, true≢false, arith}
use Rattle.std.specs.List.{Contains}
use Rattle.std.specs.Int.{IsGcd}
use Rattle.std.proofs.lemmas.Nat.Gcd.{IsGcd-swap}
use Rattle.std.proofs.lemmas.Option.{slice_get_within, get_or_from_slice_get}
use Rattle.std.proofs.lemmas.List.Elements.{All-contains}
use native.Mathlib.Nat.{mod-eq_of_lt}
use Rattle.cc_base.specs.declared.number.TypeId.{TypeId}
use Rattle.c_types.specs.declared.shape.TypeShape.{TypeShape}
use Rattle.c_types.specs.declared.shape.TypeShape.TheVariants.{Void, Integer, Pointer as PointerShape, Array, Function, Struct, Union}
use Rattle.c_types.specs.declared.flow_class.FlowClass.{FlowClass}
use Rattle.c_types.specs.declared.flow_class.FlowClass.TheVariants.{Equal, UpTile, Up, DownTile, Down, Tile, Bad}
use Rattle.c_types.specs.Table.{Table, IsType, shape_at, named_by, is_function, is_function_shape}
use Rattle.c_types.specs.Cells.{Cell, raw, pointer, mixed, incomplete, alike}
use Rattle.c_types.specs.Equality.{physically_equal, cells_of, begins_with, repeated_cell, tile}
use Rattle.c_types.specs.Flows.{flow_class, HeldPointer, pointer_of_shape, and_then, pointer_in, pointer_at, StandAlike, StandModulo, StandInTiles, CorrespondAtTop, Correspond, top, inside}
use Rattle.c_types.specs.Sound.{IsWellFormed}
use Rattle.c_types.proofs.Lists.{contains_head}
use Rattle.c_types.proofs.Shapes.{second_true}
use Rattle.type_laws.proofs.Relations.{equal_equiv}
use Rattle.type_laws.proofs.Pointers.{Mirrors, equal_mirrors, begins_mirrors}
use Rattle.phys_types.specs.Standing.{IsAtSlot, AreEqualTypes}
use Rattle.phys_types.proofs.Agreeing.{PointsInto, cells_into}
use Rattle.phys_types.proofs.Classes.{types_closed, into_at, function_tag, function_tiles, tile_turned}
use Rattle.phys_types.proofs.Makeups.{named_types}
use Rattle.phys_types.proofs.LawLemmas.{opened, tiles_across, tiles_within}
use Rattle.phys_types.proofs.SpotPointers.{found_in}

-- What corresponding pointers point to is physically equal.

same_pointer : (p q : HeldPointer) → Some p ≡ Some q → p ≡ q
same_pointer p q h = cc

no_pointer : (p : HeldPointer) → None ≡ Some p → ⊥
no_pointer p h = cc

-- ---- the cell of a pointer

pub cell_at : (xs : List Cell) (i : ℕ) (p : HeldPointer) → found_in xs i ≡ Some p → (i < length xs) × (get_or xs i raw ≡ pointer p.node p.to 0)
cell_at [] i p h = absurd (no_pointer p h)
cell_at (pointer node to zero ∷ xs) zero p h = (omega arith, ap (λ (z : HeldPointer). pointer z.node z.to 0) (same_pointer (record { node = node; to = to }) p h))
cell_at (pointer node to (suc k) ∷ xs) zero p h = absurd (no_pointer p h)
cell_at (raw ∷ xs) zero p h = absurd (no_pointer p h)
cell_at (mixed t k ∷ xs) zero p h = absurd (no_pointer p h)
cell_at (incomplete t ∷ xs) zero p h = absurd (no_pointer p h)
cell_at (x ∷ xs) (suc i) p h = let r = cell_at xs i p h in (omega (arith, r.0), r.1)

then_some : {A : Type 0} (o : Option A) (f : A → Option HeldPointer) (p : HeldPointer) → and_then o f ≡ Some p → (x : A) × (o ≡ Some x) × (f x ≡ Some p)
then_some None f p h = absurd (no_pointer p h)
then_some (Some x) f p h = (x, refl, h)

module _ (table : Table) where
  -- the pointers of a data type are those of its cells
  pub at_cell : (t : TypeId) (i : ℕ) → is_function table t ≡ false → pointer_at table t i ≡ found_in (cells_of table t) i
  at_cell t i = by (shape_at table t)
    where
      by : (s : TypeShape) → is_function_shape s ≡ false → pointer_in table t s i ≡ found_in (cells_of table t) i
      by Void h = refl
      by (Integer b s) h = refl
      by (PointerShape n u) h = refl
      by (Array e n) h = refl
      by (Function ps r) h = absurd (true≢false h)
      by (Struct g) h = refl
      by (Union g) h = refl

  -- and those of a function type are its result and parameters
  pub at_slot : (t : TypeId) (ps : List TypeId) (r : TypeId) (i : ℕ) (p : HeldPointer) → shape_at table t ≡ Function ps r → pointer_at table t i ≡ Some p → IsAtSlot table (r ∷ ps) i p
  at_slot t ps r i p e h = then_some (slice_get (r ∷ ps) i) (λ x. pointer_of_shape (shape_at table x)) p (ap (λ s. pointer_in table t s i) (sym e) ∙ h)

  pub slot_at : (t : TypeId) (ps : List TypeId) (r : TypeId) (i : ℕ) (p : HeldPointer) → shape_at table t ≡ Function ps r → IsAtSlot table (r ∷ ps) i p → pointer_at table t i ≡ Some p
  slot_at t ps r i p e (x, a, b) = ap (λ s. pointer_in table t s i) e ∙ ap (λ o. and_then o (λ x. pointer_of_shape (shape_at table x))) a ∙ b

  tiled_data : IsWellFormed table → (t u : TypeId) → tile table t u ≡ true → is_function table t ≡ false
  tiled_data w t u e = by (is_function table t) refl
    where
      by : (b : Bool) → is_function table t ≡ b → is_function table t ≡ false
      by true f = absurd (true≢false (sym e ∙ function_tiles table w t u f))
      by false f = f

  pub tiled_both : IsWellFormed table → (t u : TypeId) → tile table t u ≡ true → (is_function table t ≡ false) × (is_function table u ≡ false)
  tiled_both w t u e = (tiled_data w t u e, tiled_data w u t (sym (tile_turned table t u) ∙ e))

  -- ---- the types that are pointed to

  shape_pointer : (s : TypeShape) (p : HeldPointer) → pointer_of_shape s ≡ Some p → Contains (named_by s) p.to
  shape_pointer (PointerShape node to) p h = subst (λ (z : HeldPointer). Contains (to ∷ []) z.to) (same_pointer (record { node = node; to = to }) p h) (contains_head to [])
  shape_pointer Void p h = absurd (no_pointer p h)
  shape_pointer (Integer b s) p h = absurd (no_pointer p h)
  shape_pointer (Array e n) p h = absurd (no_pointer p h)
  shape_pointer (Function ps r) p h = absurd (no_pointer p h)
  shape_pointer (Struct g) p h = absurd (no_pointer p h)
  shape_pointer (Union g) p h = absurd (no_pointer p h)

  pub pointee_typed : IsWellFormed table → (t : TypeId) (i : ℕ) (p : HeldPointer) → IsType table t → pointer_at table t i ≡ Some p → IsType table p.to
  pointee_typed w t i p k h = by (is_function table t) refl
    where
      by : (b : Bool) → is_function table t ≡ b → IsType table p.to
      by true f =
          let g = function_tag table (shape_at table t) f in
          let s = at_slot t g.0 g.1 i p g.2 h in
          let c : Contains (g.1 ∷ g.0) s.0 = (i, slice_get_within (g.1 ∷ g.0) i s.0 s.1, get_or_from_slice_get (g.1 ∷ g.0) i s.0 s.0 s.1) in
          let x : IsType table s.0 = All-contains (IsType table) (g.1 ∷ g.0) s.0 (named_types table w t g.0 g.1 g.2) c in
          (types_closed table w).named s.0 p.to x (shape_pointer (shape_at table s.0) p s.2)
      by false f =
          let c = cell_at (cells_of table t) i p (sym (at_cell t i f) ∙ h) in
          subst (PointsInto (IsType table)) c.1 (into_at (IsType table) (cells_of table t) i (cells_into table w (IsType table) (types_closed table w) (physically_equal table) t k))

module _ (table : Table) (w : IsWellFormed table) where
  mirrored_equal : (t u : TypeId) → Mirrors table t u → (p q : HeldPointer) → StandAlike table t u p q → physically_equal table p.to q.to ≡ true
  mirrored_equal t u m p q (i, a, b) =
      let c = opened table t u m i q b in
      ap (λ (z : HeldPointer). physically_equal table z.to q.to) (same_pointer p c.0 (sym a ∙ c.1)) ∙ c.2

  mirrored_back : (t u : TypeId) → Mirrors table u t → (p q : HeldPointer) → StandAlike table t u p q → physically_equal table p.to q.to ≡ true
  mirrored_back t u m p q (i, a, b) = (equal_equiv table).symm p.to q.to ∙ mirrored_equal u t m q p (i, b, a)

  repeated_own : (xs : List Cell) (i : ℕ) (p : HeldPointer) → found_in xs i ≡ Some p → repeated_cell xs i ≡ pointer p.node p.to 0
  repeated_own xs i p h = let c = cell_at xs i p h in ap (λ k. get_or xs k raw) (mod-eq_of_lt c.0) ∙ c.1

  alike_pointers : (x y : Cell) (p q : HeldPointer) → x ≡ pointer p.node p.to 0 → y ≡ pointer q.node q.to 0 → alike (physically_equal table) x y ≡ true → physically_equal table p.to q.to ≡ true
  alike_pointers x y p q e f h =
      second_true (0 == 0) (physically_equal table p.to q.to) (sym (λ i. alike (physically_equal table) (e i) (f i)) ∙ h)

  module _ (t u : TypeId) (a : IsType table t) (b : IsType table u) (e : tile table t u ≡ true) (g : ℕ) (d : IsGcd (length (cells_of table t)) (length (cells_of table u)) g) where
    across_equal : (p q : HeldPointer) → StandModulo table g t u p q → physically_equal table p.to q.to ≡ true
    across_equal p q (i, j, m, x, y) =
        let f = tiled_both table w t u e in
        alike_pointers (repeated_cell (cells_of table t) i) (repeated_cell (cells_of table u) j) p q
        (repeated_own (cells_of table t) i p (sym (at_cell table t i f.0) ∙ x)) (repeated_own (cells_of table u) j q (sym (at_cell table u j f.1) ∙ y))
        (tiles_across table w t u g a b e d i j m)

    within_equal : (p q : HeldPointer) → StandModulo table g t t p q → physically_equal table p.to q.to ≡ true
    within_equal p q (i, j, m, x, y) =
        let f = tiled_both table w t u e in
        alike_pointers (repeated_cell (cells_of table t) i) (repeated_cell (cells_of table t) j) p q
        (repeated_own (cells_of table t) i p (sym (at_cell table t i f.0) ∙ x)) (repeated_own (cells_of table t) j q (sym (at_cell table t j f.0) ∙ y))
        (tiles_within table w t u g a b e d i j m)

  tiles_equal : (t u : TypeId) → IsType table t → IsType table u → tile table t u ≡ true → (p q : HeldPointer) → StandInTiles table t u p q → physically_equal table p.to q.to ≡ true
  tiles_equal t u a b e p q (g, d, s) = elim s [
    | inl h ↦ across_equal t u a b e g d p q h
    | inr k ↦ elim k [
      | inl h ↦ within_equal t u a b e g d p q h
      | inr h ↦ within_equal u t b a (sym (tile_turned table t u) ∙ e) g (IsGcd-swap (length (cells_of table t)) (length (cells_of table u)) g d) p q h
    ]
  ]

  -- ---- what a class tells

  abbrev pub Tells : TypeId → TypeId → FlowClass → Type 0
  Tells t u Equal = physically_equal table t u ≡ true
  Tells t u UpTile = (begins_with table t u ≡ true) × (tile table t u ≡ true)
  Tells t u Up = begins_with table t u ≡ true
  Tells t u DownTile = (begins_with table u t ≡ true) × (tile table t u ≡ true)
  Tells t u Down = begins_with table u t ≡ true
  Tells t u Tile = (begins_with table t u ≡ false) × (begins_with table u t ≡ false) × (tile table t u ≡ true)
  Tells t u Bad = Unit {0}

  pub class_tells : (t u : TypeId) → Tells t u (flow_class table t u)
  class_tells t u = by (physically_equal table t u) (begins_with table t u) (begins_with table u t) (tile table t u) refl refl refl refl
    where
      by : (e a b c : Bool) → physically_equal table t u ≡ e → begins_with table t u ≡ a → begins_with table u t ≡ b → tile table t u ≡ c
          → Tells t u (if e then Equal else (if a then (if c then UpTile else Up) else (if b then (if c then DownTile else Down) else (if c then Tile else Bad))))
      by true a b c h i j k = h
      by false true b true h i j k = (i, k)
      by false true b false h i j k = i
      by false false true true h i j k = (j, k)
      by false false true false h i j k = j
      by false false false true h i j k = (i, j, k)
      by false false false false h i j k = tt

  -- ---- at every depth

  alike_typed : (t u : TypeId) → IsType table t → IsType table u → (p q : HeldPointer) (i j : ℕ) → pointer_at table t i ≡ Some p → pointer_at table u j ≡ Some q
      → physically_equal table p.to q.to ≡ true → AreEqualTypes table p.to q.to
  alike_typed t u a b p q i j x y e = record { first = pointee_typed table w t i p a x; second = pointee_typed table w u j q b y; equal = e }

  stand_typed : (t u : TypeId) → IsType table t → IsType table u → (p q : HeldPointer) → StandAlike table t u p q → physically_equal table p.to q.to ≡ true → AreEqualTypes table p.to q.to
  stand_typed t u a b p q (i, x, y) e = alike_typed t u a b p q i i x y e

  tiles_typed : (t u : TypeId) → IsType table t → IsType table u → (p q : HeldPointer) → StandInTiles table t u p q → physically_equal table p.to q.to ≡ true → AreEqualTypes table p.to q.to
  tiles_typed t u a b p q (g, d, s) e = elim s [
    | inl h ↦ alike_typed t u a b p q h.0 h.1 h.3 h.4 e
    | inr k ↦ elim k [
      | inl h ↦ alike_typed t t a a p q h.0 h.1 h.3 h.4 e
      | inr h ↦ alike_typed u u b b p q h.0 h.1 h.3 h.4 e
    ]
  ]

  top_class : (t u : TypeId) → IsType table t → IsType table u → (c : FlowClass) → Tells t u c → (p q : HeldPointer) → CorrespondAtTop table c t u p q → AreEqualTypes table p.to q.to
  top_class t u a b Equal k p q h = stand_typed t u a b p q h (mirrored_equal t u (equal_mirrors table w t u k) p q h)
  top_class t u a b UpTile k p q h = tiles_typed t u a b p q h (tiles_equal t u a b k.1 p q h)
  top_class t u a b Up k p q h = stand_typed t u a b p q h (mirrored_equal t u (begins_mirrors table t u k) p q h)
  top_class t u a b DownTile k p q h = tiles_typed t u a b p q h (tiles_equal t u a b k.1 p q h)
  top_class t u a b Down k p q h = stand_typed t u a b p q h (mirrored_back t u (begins_mirrors table u t k) p q h)
  top_class t u a b Tile k p q h = tiles_typed t u a b p q h (tiles_equal t u a b k.2 p q h)
  top_class t u a b Bad k p q h = absurd h

  pub top_alike : (t u : TypeId) → IsType table t → IsType table u → (p q : HeldPointer) → CorrespondAtTop table (flow_class table t u) t u p q → AreEqualTypes table p.to q.to
  top_alike t u a b p q h = top_class t u a b (flow_class table t u) (class_tells t u) p q h

  -- pointers at the same places of equal types point to equal types
  pub equal_inside : (t u : TypeId) → AreEqualTypes table t u → (p q : HeldPointer) → StandAlike table t u p q → AreEqualTypes table p.to q.to
  equal_inside t u e p q h = stand_typed t u e.first e.second p q h (mirrored_equal t u (equal_mirrors table w t u e.equal) p q h)

  pub all_alike : (Top : HeldPointer → HeldPointer → Type 0) → ((p q : HeldPointer) → Top p q → AreEqualTypes table p.to q.to) → (p q : HeldPointer) → Correspond table Top p q → AreEqualTypes table p.to q.to
  all_alike Top f p q (top a b h) = f p q h
  all_alike Top f p q (inside a b c d h k) = equal_inside a.to b.to (all_alike Top f a b h) p q k
