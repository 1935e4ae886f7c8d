use Rattle.std.proofs.Common.{◌≡◌, ℕ, zero, suc, ◌+◌, ◌*◌, ◌/◌, ◌%◌, ◌<◌, ◌≤◌, Bool, true, false, not, ◌&&◌, ◌||◌, List, [], ◌∷◌, length, get_or, map, nat_lt, nat_le, if◌then◌else◌, refl, ap, sym, subst, ◌∙◌, inl, inr, true≢false, arith}
use Rattle.std.specs.List.{Contains, list_all, range_with_len}
use Rattle.std.specs.Int.{IsGcd}
use Rattle.std.proofs.lemmas.Bool.{cases_lt, ltb-true, ltb-false, leb-true}
use Rattle.std.proofs.lemmas.List.{length-map, get_or_past}
use Rattle.std.proofs.lemmas.List.Elements.{All-contains}
use Rattle.std.proofs.lemmas.Nat.Gcd.{mod-eq-zero_of_dvd}
use native.Mathlib.Nat.{mod-eq_of_lt}
use Rattle.cc_base.specs.declared.number.TypeId.{TypeId}
use Rattle.c_types.specs.declared.shape.TypeShape.{TypeShape}
use Rattle.c_types.specs.declared.shape.TypeShape.TheVariants.{Void, Integer, Pointer, Array, Function, Struct, Union}
use Rattle.c_types.specs.Table.{Table, is_aggregate_shape, is_function_shape, parts_of_shape, IsType, IsComplete, is_complete, void_entry, shape_at, members_at, parts_at, named_by, is_function, is_empty}
use Rattle.c_types.specs.Layouts.{size_of}
use Rattle.c_types.specs.Cells.{Cell, raw, alike, begins, cells_at, cells_of_shape}
use Rattle.c_types.specs.declared.flow_class.FlowClass.{FlowClass}
use Rattle.c_types.specs.declared.flow_class.FlowClass.TheVariants.{Equal, UpTile, Up, DownTile, Down, Tile, Bad}
use Rattle.c_types.specs.Flows.{flow_class}
use Rattle.c_types.specs.Equality.{physically_equal, cells_of, begins_with, repeated_cell, repeat_alike, tile}
use Rattle.c_types.specs.Sound.{IsWellFormed}
use Rattle.c_types.proofs.Shapes.{first_true, second_true}
use Rattle.type_laws.proofs.Relations.{alike_equiv, equal_equiv}
use Rattle.c_types.proofs.Cells.{cells_are}
use Rattle.phys_types.specs.declared.spot.Layout.{Layout}
use Rattle.phys_types.specs.Spots.{cells_from, AreSpots}
use Rattle.phys_types.specs.Numbers.{same_number, repeat_spots}
use Rattle.phys_types.specs.Reach.{IsClosed}
use Rattle.phys_types.specs.Shown.{IsLayoutOf, begins_spots}
use Rattle.phys_types.proofs.Spreading.{length_all}
use Rattle.phys_types.proofs.Fronts.{fronts, begins_is, cells_from_spots, both_true}
use Rattle.phys_types.proofs.Periods.{repeated, repeated_at, repeats_from_agreeing, agreeing_from_repeats}
use Rattle.phys_types.proofs.Settling.{settle, same_from_alike, alike_from_same, front_same, settled_at}
use Rattle.phys_types.proofs.Repeating.{repeats_from_spots, spots_from_repeats}
use Rattle.phys_types.proofs.Agreeing.{PointsInto, EachInto, alike_agree, begins_agree, cells_into}
use Rattle.phys_types.proofs.Tiled.{positive_divisor}
use Rattle.phys_types.proofs.Unions.{same_answer, begins_shown}

-- The class of a flow, from what the spots tell.

range_passes : (p : ℕ → Bool) (a n i : ℕ) → list_all p (range_with_len a n) ≡ true → i < n → p (a + i) ≡ true
range_passes p a zero i h l = absurd (omega arith)
range_passes p a (suc n) zero h l = ap p (plus a) ∙ first_true (p a) _ h
  where
    plus : (a : ℕ) → a + 0 ≡ a
    plus a = omega arith
range_passes p a (suc n) (suc i) h l = ap p (plus a i) ∙ range_passes p (a + 1) n i (second_true (p a) _ h) (omega arith)
  where
    plus : (a i : ℕ) → a + suc i ≡ a + 1 + i
    plus a i = omega arith

passes_range : (p : ℕ → Bool) (a n : ℕ) → ((i : ℕ) → i < n → p (a + i) ≡ true) → list_all p (range_with_len a n) ≡ true
passes_range p a zero h = refl
passes_range p a (suc n) h =
    both_true (p a) _ (ap p (plus a) ∙ h zero (omega arith)) (passes_range p (a + 1) n (λ i l. ap p (more a i) ∙ h (suc i) (omega arith)))
  where
    plus : (a : ℕ) → a ≡ a + 0
    plus a = omega arith

    more : (a i : ℕ) → a + 1 + i ≡ a + suc i
    more a i = omega arith

pub into_at : (S : TypeId → Type 0) (xs : List Cell) (i : ℕ) → EachInto S xs → PointsInto S (get_or xs i raw)
into_at S [] i h = tt
into_at S (x ∷ xs) zero h = h.0
into_at S (x ∷ xs) (suc i) h = into_at S xs i h.1

aggregate_parts : (s : TypeShape) (ms : List TypeId) → is_aggregate_shape s ≡ true → parts_of_shape s ms ≡ ms
aggregate_parts (Struct tag) ms h = refl
aggregate_parts (Union tag) ms h = refl
aggregate_parts Void ms h = absurd (true≢false (sym h))
aggregate_parts (Integer b s) ms h = absurd (true≢false (sym h))
aggregate_parts (Pointer n t) ms h = absurd (true≢false (sym h))
aggregate_parts (Array e n) ms h = absurd (true≢false (sym h))
aggregate_parts (Function ps r) ms h = absurd (true≢false (sym h))

-- the types of a table are a closed set
pub types_closed : (table : Table) → IsWellFormed table → IsClosed table (IsType table)
types_closed table w = record {
  named = λ t u h c. All-contains (IsType table) (named_by (shape_at table t)) u (w.each t).named c;
  members = λ t u h c. member t u c;
}
  where
    is_type : (q : TypeId) → IsComplete table q → IsType table q
    is_type q c = elim (cases_lt q.0 (length table)) [
      | inl b ↦ b
      | inr g ↦ absurd (true≢false (sym c ∙ ap is_complete (get_or_past table q.0 void_entry g)))
    ]

    member : (t u : TypeId) → Contains (members_at table t) u → IsType table u
    member t u c = elim (w.each t).plain [
      | inl a ↦ is_type u (All-contains (IsComplete table) (parts_at table t) u (w.each t).parts (subst (λ xs. Contains xs u) (sym (aggregate_parts (shape_at table t) (members_at table t) a)) c))
      | inr e ↦ absurd (let k = ap length e in omega (arith, c.1))
    ]

module _ (table : Table) (w : IsWellFormed table) (number : TypeId → ℕ)
    (equal : (a b : TypeId) → IsType table a → IsType table b → same_number number a b ≡ physically_equal table a b) where
  -- ---- two lists of cells

  module _ (xs ys : List Cell) (hx : EachInto (IsType table) xs) (hy : EachInto (IsType table) ys) where
    settled_repeated : (zs : List Cell) (i : ℕ) → repeated raw (map (settle number) zs) i ≡ settle number (repeated_cell zs i)
    settled_repeated zs i =
        repeated_at raw (map (settle number) zs) i ∙ ap (λ n. get_or (map (settle number) zs) (i % n) raw) (length-map zs (settle number)) ∙ settled_at number zs (i % length zs)

    same_alike : (i : ℕ) → alike (same_number number) (repeated_cell xs i) (repeated_cell ys i) ≡ alike (physically_equal table) (repeated_cell xs i) (repeated_cell ys i)
    same_alike i =
        alike_agree (IsType table) (same_number number) (physically_equal table) equal (repeated_cell xs i) (repeated_cell ys i)
        (into_at (IsType table) xs (i % length xs) hx) (into_at (IsType table) ys (i % length ys) hy)

    pub agreeing : repeat_alike (physically_equal table) xs ys ≡ true → (i : ℕ) → i < length xs * length ys
        → repeated raw (map (settle number) xs) i ≡ repeated raw (map (settle number) ys) i
    agreeing h i l =
        let a : alike (physically_equal table) (repeated_cell xs i) (repeated_cell ys i) ≡ true =
        ap (λ j. alike (physically_equal table) (repeated_cell xs j) (repeated_cell ys j)) (plus i)
        ∙ range_passes (λ i. alike (physically_equal table) (repeated_cell xs i) (repeated_cell ys i)) 0 (length xs * length ys) i h l in
        settled_repeated xs i ∙ same_from_alike number (repeated_cell xs i) (repeated_cell ys i) (same_alike i ∙ a) ∙ sym (settled_repeated ys i)
      where
        plus : (i : ℕ) → i ≡ 0 + i
        plus i = omega arith

    pub alike_from_settled : (i j : ℕ) → repeated raw (map (settle number) xs) i ≡ repeated raw (map (settle number) ys) j
        → alike (physically_equal table) (repeated_cell xs i) (repeated_cell ys j) ≡ true
    alike_from_settled i j h =
        sym (alike_agree (IsType table) (same_number number) (physically_equal table) equal (repeated_cell xs i) (repeated_cell ys j)
        (into_at (IsType table) xs (i % length xs) hx) (into_at (IsType table) ys (j % length ys) hy))
        ∙ alike_from_same number (repeated_cell xs i) (repeated_cell ys j) (sym (settled_repeated xs i) ∙ h ∙ settled_repeated ys j)

    pub from_agreeing : ((i : ℕ) → repeated raw (map (settle number) xs) i ≡ repeated raw (map (settle number) ys) i) → repeat_alike (physically_equal table) xs ys ≡ true
    from_agreeing h =
        passes_range (λ i. alike (physically_equal table) (repeated_cell xs i) (repeated_cell ys i)) 0 (length xs * length ys)
        (λ i l. sym (same_alike (0 + i)) ∙ alike_from_same number (repeated_cell xs (0 + i)) (repeated_cell ys (0 + i))
        (sym (settled_repeated xs (0 + i)) ∙ h (0 + i) ∙ settled_repeated ys (0 + i)))

  -- ---- beginning and tiling

  begins_cells : (x y : Layout) (t u : TypeId) → IsType table t → IsType table u → IsLayoutOf table (physically_equal table) t x → IsLayoutOf table (physically_equal table) u y
      → begins_spots number x y ≡ begins (physically_equal table) (cells_of table t) (cells_of table u)
  begins_cells x y t u a b h k =
      begins_shown table number x y h.spots k.spots
      ∙ (λ i. begins (same_number number) (h.cells i) (k.cells i))
      ∙ begins_agree (IsType table) (same_number number) (physically_equal table) equal (cells_of table t) (cells_of table u)
      (cells_into table w (IsType table) (types_closed table w) (physically_equal table) t a) (cells_into table w (IsType table) (types_closed table w) (physically_equal table) u b)

  pub begins_right : (x y : Layout) (t u : TypeId) → IsType table t → IsType table u → IsLayoutOf table (physically_equal table) t x → IsLayoutOf table (physically_equal table) u y
      → is_function table t ≡ false → is_function table u ≡ false → begins_spots number x y ≡ begins_with table t u
  begins_right x y t u a b h k f g = begins_cells x y t u a b h k ∙ sym (λ i. not (f i) && (not (g i) && begins (physically_equal table) (cells_of table t) (cells_of table u)))

  abbrev tile_lists : List Cell → List Cell → Bool
  tile_lists xs ys = not (is_empty xs) && (not (is_empty ys) && repeat_alike (physically_equal table) xs ys)

  none_empty : (xs : List Cell) → 0 < length xs → not (is_empty xs) ≡ true
  none_empty [] h = absurd (omega arith)
  none_empty (x ∷ xs) h = refl

  all_empty : (xs : List Cell) → length xs ≡ 0 → not (is_empty xs) ≡ false
  all_empty [] h = refl
  all_empty (x ∷ xs) h = absurd (omega arith)

  whole_units : (m g : ℕ) → 0 < g → m % g ≡ 0 → m ≡ m / g * g
  whole_units m g p h = omega arith

  tiles_lists : (x : Layout) (n g : ℕ) (ys : List Cell) → AreSpots (size_of table) 0 x.spots.items x.size → EachInto (IsType table) (cells_from 0 x.spots.items x.size)
      → EachInto (IsType table) ys → length ys ≡ n → fronts (same_number number) (cells_from 0 x.spots.items x.size) ys ≡ true → n ≤ x.size → IsGcd x.size n g
      → (nat_lt 0 n && repeat_spots number x.size g x.spots.items) ≡ tile_lists (cells_from 0 x.spots.items x.size) ys
  tiles_lists x n g ys a hx hy e f l d = by (nat_lt 0 n) refl
    where
      lx : length (cells_from 0 x.spots.items x.size) ≡ x.size
      lx = length_all (size_of table) x.spots.items x.size a

      some : nat_lt 0 n ≡ true → 0 < n
      some p = ltb-true 0 n p

      sx : List Cell
      sx = map (settle number) (cells_from 0 x.spots.items x.size)

      long : length (map (settle number) (cells_from 0 x.spots.items x.size)) ≡ x.size
      long = length-map (cells_from 0 x.spots.items x.size) (settle number) ∙ length_all (size_of table) x.spots.items x.size a

      short : length (map (settle number) ys) ≡ n
      short = length-map ys (settle number) ∙ e

      gcd : IsGcd (length (map (settle number) (cells_from 0 x.spots.items x.size))) (length (map (settle number) ys)) g
      gcd = subst (λ m. IsGcd m (length (map (settle number) ys)) g) (sym (length-map (cells_from 0 x.spots.items x.size) (settle number) ∙ length_all (size_of table) x.spots.items x.size a))
          (subst (λ k. IsGcd x.size k g) (sym (length-map ys (settle number) ∙ e)) d)

      here : 0 < n → repeat_spots number x.size g x.spots.items ≡ repeat_alike (physically_equal table) (cells_from 0 x.spots.items x.size) ys
      here p =
          let q : 0 < g = positive_divisor x.size n g d (λ z. omega arith) in
          let c = whole_units x.size g q (mod-eq-zero_of_dvd g d.0) in
          let lm = length-map (cells_from 0 x.spots.items x.size) (settle number) ∙ length_all (size_of table) x.spots.items x.size a in
          let ln = length-map ys (settle number) ∙ e in
          same_answer (repeat_spots number x.size g x.spots.items) (repeat_alike (physically_equal table) (cells_from 0 x.spots.items x.size) ys)
          (λ r. from_agreeing (cells_from 0 x.spots.items x.size) ys hx hy
          (agreeing_from_repeats raw (map (settle number) (cells_from 0 x.spots.items x.size)) (map (settle number) ys) g (omega arith) (omega arith) (omega arith) gcd
          (front_same number (cells_from 0 x.spots.items x.size) ys f)
          (repeats_from_spots number (size_of table) x.size g x.spots.items a q c (omega arith) r)))
          (λ r. spots_from_repeats number (size_of table) x.size g x.spots.items a q c (omega arith)
          (repeats_from_agreeing raw (map (settle number) (cells_from 0 x.spots.items x.size)) (map (settle number) ys) g (omega arith) (omega arith) gcd
          (λ i b. agreeing (cells_from 0 x.spots.items x.size) ys hx hy r i
          (subst (λ k. i < k) (λ j. length-map (cells_from 0 x.spots.items x.size) (settle number) j * length-map ys (settle number) j) b))))

      by : (b : Bool) → nat_lt 0 n ≡ b → (b && repeat_spots number x.size g x.spots.items)
          ≡ (not (is_empty (cells_from 0 x.spots.items x.size)) && (not (is_empty ys) && repeat_alike (physically_equal table) (cells_from 0 x.spots.items x.size) ys))
      by true p =
          let z = some p in let k = length_all (size_of table) x.spots.items x.size a in
          here z ∙ sym (λ i. none_empty (cells_from 0 x.spots.items x.size) (omega arith) i && (none_empty ys (omega arith) i && repeat_alike (physically_equal table) (cells_from 0 x.spots.items x.size) ys))
      by false p =
          let z = ltb-false 0 n p in
          sym ((λ i. not (is_empty (cells_from 0 x.spots.items x.size)) && (all_empty ys (omega arith) i && repeat_alike (physically_equal table) (cells_from 0 x.spots.items x.size) ys))
          ∙ nothing (not (is_empty (cells_from 0 x.spots.items x.size))))
        where
          nothing : (b : Bool) → (b && false) ≡ false
          nothing true = refl
          nothing false = refl

  pub tile_right : (x y : Layout) (t u : TypeId) (g : ℕ) (b : Bool) → IsType table t → IsType table u → IsLayoutOf table (physically_equal table) t x → IsLayoutOf table (physically_equal table) u y
      → begins_spots number x y ≡ true → IsGcd x.size y.size g → b ≡ (nat_lt 0 y.size && repeat_spots number x.size g x.spots.items) → b ≡ tile table t u
  tile_right x y t u g b tt' uu h k e d f =
      let into : EachInto (IsType table) (cells_from 0 x.spots.items x.size) =
      subst (EachInto (IsType table)) (sym h.cells) (cells_into table w (IsType table) (types_closed table w) (physically_equal table) t tt') in
      let other : EachInto (IsType table) (cells_from 0 y.spots.items y.size) =
      subst (EachInto (IsType table)) (sym k.cells) (cells_into table w (IsType table) (types_closed table w) (physically_equal table) u uu) in
      let less : y.size ≤ x.size = leb-true y.size x.size (first_true (nat_le y.size x.size) _ e) in
      f
      ∙ tiles_lists x y.size g (cells_from 0 y.spots.items y.size) h.spots into other (length_all (size_of table) y.spots.items y.size k.spots)
      (cells_from_spots number (size_of table) 0 x.spots.items y.spots.items x.size y.size h.spots k.spots less (second_true (nat_le y.size x.size) _ e)) less d
      ∙ (λ i. tile_lists (h.cells i) (k.cells i))

-- ---- the order of the two, and functions

all_same : (p q : ℕ → Bool) (is : List ℕ) → ((i : ℕ) → p i ≡ q i) → list_all p is ≡ list_all q is
all_same p q [] h = refl
all_same p q (i ∷ is) h = λ j. h i j && all_same p q is h j

module _ (table : Table) where
  pub tile_turned : (t u : TypeId) → tile table t u ≡ tile table u t
  tile_turned t u =
      swap (not (is_empty (cells_of table t))) (not (is_empty (cells_of table u))) (repeat_alike (physically_equal table) (cells_of table t) (cells_of table u))
      ∙ ap (λ b. not (is_empty (cells_of table u)) && (not (is_empty (cells_of table t)) && b))
      (all_same (λ i. alike (physically_equal table) (repeated_cell (cells_of table t) i) (repeated_cell (cells_of table u) i))
      (λ i. alike (physically_equal table) (repeated_cell (cells_of table u) i) (repeated_cell (cells_of table t) i))
      (range_with_len 0 (length (cells_of table t) * length (cells_of table u)))
      (λ i. (alike_equiv (equal_equiv table)).symm (repeated_cell (cells_of table t) i) (repeated_cell (cells_of table u) i))
      ∙ ap (λ n. list_all (λ i. alike (physically_equal table) (repeated_cell (cells_of table u) i) (repeated_cell (cells_of table t) i)) (range_with_len 0 n))
      (turn (length (cells_of table t)) (length (cells_of table u))))
    where
      swap : (a b c : Bool) → (a && (b && c)) ≡ (b && (a && c))
      swap true true c = refl
      swap true false c = refl
      swap false true c = refl
      swap false false c = refl

      turn : (a b : ℕ) → a * b ≡ b * a
      turn a b = omega arith

  pub function_tag : (s : TypeShape) → is_function_shape s ≡ true → (ps : List TypeId) × (r : TypeId) × (s ≡ Function ps r)
  function_tag (Function ps r) h = (ps, r, refl)
  function_tag Void h = absurd (true≢false (sym h))
  function_tag (Integer b s) h = absurd (true≢false (sym h))
  function_tag (Pointer n t) h = absurd (true≢false (sym h))
  function_tag (Array e n) h = absurd (true≢false (sym h))
  function_tag (Struct g) h = absurd (true≢false (sym h))
  function_tag (Union g) h = absurd (true≢false (sym h))

  function_cells : IsWellFormed table → (t : TypeId) → is_function table t ≡ true → cells_of table t ≡ []
  function_cells w t h =
      let f = function_tag (shape_at table t) h in
      cells_are table w.order.0 w.order.1 (physically_equal table) t
      ∙ ap (λ s. cells_of_shape table (physically_equal table) (cells_at table (physically_equal table)) t s (members_at table t)) f.2

  pub function_tiles : IsWellFormed table → (t u : TypeId) → is_function table t ≡ true → tile table t u ≡ false
  function_tiles w t u h = ap (λ xs. not (is_empty xs) && (not (is_empty (cells_of table u)) && repeat_alike (physically_equal table) xs (cells_of table u))) (function_cells w t h)

  by_index : (xs ys : List Cell) → length ys ≤ length xs → ((i : ℕ) → i < length ys → alike (physically_equal table) (get_or xs i raw) (get_or ys i raw) ≡ true)
      → fronts (physically_equal table) xs ys ≡ true
  by_index xs [] l h = refl
  by_index [] (y ∷ ys) l h = absurd (omega arith)
  by_index (x ∷ xs) (y ∷ ys) l h = both_true (alike (physically_equal table) x y) _ (h zero (omega arith)) (by_index xs ys (omega arith) (λ i b. h (suc i) (omega arith)))

  front_of_tiles : (xs ys : List Cell) → length ys ≤ length xs → repeat_alike (physically_equal table) xs ys ≡ true → begins (physically_equal table) xs ys ≡ true
  front_of_tiles xs ys l h =
      begins_is (physically_equal table) xs ys
      ∙ by_index xs ys l (λ i b.
      let below : i < length xs * length ys = grind arith in
      let a = range_passes (λ i. alike (physically_equal table) (repeated_cell xs i) (repeated_cell ys i)) 0 (length xs * length ys) i h below in
      (λ j. alike (physically_equal table) (get_or xs (small i (length xs) (omega arith) j) raw) (get_or ys (small i (length ys) b j) raw)) ∙ a)
    where
      small : (i n : ℕ) → i < n → i ≡ (0 + i) % n
      small i n b = sym (mod-eq_of_lt b) ∙ ap (λ k. k % n) (plus i)
        where
          plus : (i : ℕ) → i ≡ 0 + i
          plus i = omega arith

  pub tile_one_way : (t u : TypeId) → is_function table t ≡ false → is_function table u ≡ false → begins_with table t u ≡ false → begins_with table u t ≡ false → tile table t u ≡ false
  tile_one_way t u f g a b = by (tile table t u) refl
    where
      ways : tile table t u ≡ true → ⊥
      ways e = elim (cases_lt (length (cells_of table t)) (length (cells_of table u))) [
        | inl l ↦
            let r = second_true (not (is_empty (cells_of table t))) _ (second_true (not (is_empty (cells_of table u))) _ (sym (tile_turned t u) ∙ e)) in
            true≢false (sym (λ i. not (g i) && (not (f i) && front_of_tiles (cells_of table u) (cells_of table t) (omega arith) r i)) ∙ b)
        | inr l ↦
            let r = second_true (not (is_empty (cells_of table u))) _ (second_true (not (is_empty (cells_of table t))) _ e) in
            true≢false (sym (λ i. not (f i) && (not (g i) && front_of_tiles (cells_of table t) (cells_of table u) (omega arith) r i)) ∙ a)
      ]

      by : (c : Bool) → tile table t u ≡ c → tile table t u ≡ false
      by true e = absurd (ways e)
      by false e = e

  -- ---- the rows

  pub equal_class : (t u : TypeId) → physically_equal table t u ≡ true → Equal ≡ flow_class table t u
  equal_class t u e = sym (λ i. if e i then Equal else rest)
    where
      rest : FlowClass
      rest = if begins_with table t u then (if tile table t u then UpTile else Up) else (if begins_with table u t then (if tile table t u then DownTile else Down) else (if tile table t u then Tile else Bad))

  pub bad_class : (t u : TypeId) → physically_equal table t u ≡ false → begins_with table t u ≡ false → begins_with table u t ≡ false → tile table t u ≡ false → Bad ≡ flow_class table t u
  bad_class t u e a b c =
      sym (λ i. if e i then Equal else (if a i then (if tile table t u then UpTile else Up) else (if b i then (if tile table t u then DownTile else Down) else (if c i then Tile else Bad))))

  pub function_class : IsWellFormed table → (t u : TypeId) → physically_equal table t u ≡ false → (is_function table t || is_function table u) ≡ true → Bad ≡ flow_class table t u
  function_class w t u e h = by (is_function table t) (is_function table u) refl refl h
    where
      none : (a b : Bool) → (a && false) ≡ false
      none true b = refl
      none false b = refl

      by : (a b : Bool) → is_function table t ≡ a → is_function table u ≡ b → (a || b) ≡ true → Bad ≡ flow_class table t u
      by true b f g k =
          bad_class t u e (λ i. not (f i) && (not (is_function table u) && begins (physically_equal table) (cells_of table t) (cells_of table u)))
          ((λ i. not (is_function table u) && (not (f i) && begins (physically_equal table) (cells_of table u) (cells_of table t))) ∙ none (not (is_function table u)) b)
          (function_tiles w t u f)
      by false true f g k =
          bad_class t u e ((λ i. not (is_function table t) && (not (g i) && begins (physically_equal table) (cells_of table t) (cells_of table u))) ∙ none (not (is_function table t)) true)
          (λ i. not (g i) && (not (is_function table t) && begins (physically_equal table) (cells_of table u) (cells_of table t)))
          (tile_turned t u ∙ function_tiles w u t g)
      by false false f g k = absurd (true≢false (sym k))

  pub up_class : (t u : TypeId) (b : Bool) → physically_equal table t u ≡ false → begins_with table t u ≡ true → b ≡ tile table t u → (if b then UpTile else Up) ≡ flow_class table t u
  up_class t u b e a c =
      (λ i. if c i then UpTile else Up)
      ∙ sym (λ i. if e i then Equal else (if a i then (if tile table t u then UpTile else Up) else (if begins_with table u t then (if tile table t u then DownTile else Down) else (if tile table t u then Tile else Bad))))

  pub down_class : (t u : TypeId) (b : Bool) → physically_equal table t u ≡ false → begins_with table t u ≡ false → begins_with table u t ≡ true → b ≡ tile table u t
      → (if b then DownTile else Down) ≡ flow_class table t u
  down_class t u b e a d c =
      (λ i. if (c ∙ tile_turned u t) i then DownTile else Down)
      ∙ sym (λ i. if e i then Equal else (if a i then (if tile table t u then UpTile else Up) else (if d i then (if tile table t u then DownTile else Down) else (if tile table t u then Tile else Bad))))
