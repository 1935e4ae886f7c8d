use Rattle.std.proofs.Common.{◌≡◌, ℕ, zero, suc, ◌+◌, ◌-◌, ◌*◌, ◌/◌, ◌%◌, ◌<◌, ◌≤◌, Bool, true, false, ◌&&◌, List, [], ◌∷◌, ◌++◌, length, get_or, take, map, replicate, nat_le, nat_lt, if◌then◌else◌, refl, ap, sym, subst, ◌∙◌, inl, inr, true≢false, arith}
use Rattle.std.specs.List.{repeat}
use Rattle.std.proofs.lemmas.Bool.{cases_lt, ltb-true, ltb-false, le-leb, leb-true, leb-false}
use Rattle.std.proofs.lemmas.Nat.{mod_below}
use Rattle.std.proofs.lemmas.List.{length-append, length-map, length-replicate, take-append-le, take-replicate, get_or_append_left, get_or-append-add, ext_get_or, get_or-take}
use Rattle.std.proofs.lemmas.List.FromFn.{get_or-map-range_with_len}
use Rattle.std.proofs.Math.Seq.{take-append-add}
use Rattle.std.proofs.Math.Nat.{add-mod_left, mod_self}
use native.Mathlib.Nat.{mod-eq_of_lt}
use Rattle.cc_base.specs.declared.number.TypeId.{TypeId}
use Rattle.c_types.specs.Cells.{Cell, raw, pointer, mixed, incomplete, Relation, alike, all_alike}
use Rattle.c_types.proofs.Shapes.{first_true, second_true}
use Rattle.phys_types.specs.declared.spot.Item.{Item}
use Rattle.phys_types.specs.declared.spot.Item.TheVariants.{Pointer, Mixed, Incomplete}
use Rattle.phys_types.specs.declared.spot.Spot.{Spot}
use Rattle.phys_types.specs.Spots.{item_size, item_cells, cells_from, HasSize, AreSpots, copies}
use Rattle.phys_types.specs.Numbers.{same_number, same_spot, same_spots, begin_with_spots, spots_before, end_within, repeat_spots}
use Rattle.phys_types.proofs.Spreading.{spots_end, length_from, length_all, length_item, spots_copied, cells_copied}
use Rattle.phys_types.proofs.Fronts.{fronts, spots_from_cells, cells_from_spots, both_true}
use Rattle.phys_types.proofs.Settling.{settle, all_same_from_alike, all_alike_from_same, settled_at}
use Rattle.phys_types.proofs.Periods.{Repeats, repeats_is, is_repeated}

-- Cells are their first ones again and again where the spots are.

pub item_positive : (size : TypeId → ℕ) (x : Item) → HasSize size x → 0 < item_size x
item_positive size (Pointer node to) h = omega arith
item_positive size (Mixed t n) h = h.1
item_positive size (Incomplete t) h = omega arith

-- ---- as many spots, the same one by one

fronts_all : (E : Relation) (xs ys : List Cell) → length xs ≡ length ys → fronts E xs ys ≡ true → all_alike E xs ys ≡ true
fronts_all E [] [] l h = refl
fronts_all E [] (y ∷ ys) l h = absurd (omega arith)
fronts_all E (x ∷ xs) [] l h = absurd (omega arith)
fronts_all E (x ∷ xs) (y ∷ ys) l h = both_true (alike E x y) _ (first_true (alike E x y) _ h) (fronts_all E xs ys (omega arith) (second_true (alike E x y) _ h))

all_fronts : (E : Relation) (xs ys : List Cell) → all_alike E xs ys ≡ true → fronts E xs ys ≡ true
all_fronts E xs [] h = refl
all_fronts E [] (y ∷ ys) h = absurd (true≢false (sym h))
all_fronts E (x ∷ xs) (y ∷ ys) h = both_true (alike E x y) _ (first_true (alike E x y) _ h) (all_fronts E xs ys (second_true (alike E x y) _ h))

module _ (number size : TypeId → ℕ) where
  pub begin_from_same : (n : ℕ) (ss rs : List Spot) → same_spots number ss rs ≡ true → begin_with_spots number n ss rs ≡ true
  begin_from_same n [] [] h = refl
  begin_from_same n [] (r ∷ rs) h = absurd (true≢false (sym h))
  begin_from_same n (s ∷ ss) [] h = absurd (true≢false (sym h))
  begin_from_same n (s ∷ ss) (r ∷ rs) h =
      both_true (same_spot number s r) _ (first_true (same_spot number s r) _ h) (begin_from_same n ss rs (second_true (same_spot number s r) _ h))

  same_from_begin : (at n : ℕ) (ss rs : List Spot) → AreSpots size at ss n → begin_with_spots number n ss rs ≡ true → same_spots number ss rs ≡ true
  same_from_begin at n [] [] a h = refl
  same_from_begin at n (s ∷ ss) [] a h =
      let e = spots_end size (s.start + item_size s.item) ss n a.2 in let p = item_positive size s.item a.1 in
      let l : n ≤ s.start = leb-true n s.start h in absurd (omega arith)
  same_from_begin at n [] (r ∷ rs) a h = absurd (true≢false (sym h))
  same_from_begin at n (s ∷ ss) (r ∷ rs) a h =
      both_true (same_spot number s r) _ (first_true (same_spot number s r) _ h)
      (same_from_begin (s.start + item_size s.item) n ss rs a.2 (second_true (same_spot number s r) _ h))

  -- equally many cells are alike where the spots are the same
  pub cells_from_same : (at n : ℕ) (ss rs : List Spot) → AreSpots size at ss n → AreSpots size at rs n → same_spots number ss rs ≡ true
      → all_alike (same_number number) (cells_from at ss n) (cells_from at rs n) ≡ true
  cells_from_same at n ss rs a b h =
      fronts_all (same_number number) (cells_from at ss n) (cells_from at rs n) (length_from size at ss n a ∙ sym (length_from size at rs n b))
      (cells_from_spots number size at ss rs n n a b (omega arith) (begin_from_same n ss rs h))

  pub same_from_cells : (at n : ℕ) (ss rs : List Spot) → AreSpots size at ss n → AreSpots size at rs n
      → all_alike (same_number number) (cells_from at ss n) (cells_from at rs n) ≡ true → same_spots number ss rs ≡ true
  same_from_cells at n ss rs a b h =
      same_from_begin at n ss rs a
      (spots_from_cells number size at ss rs n n a b (all_fronts (same_number number) (cells_from at ss n) (cells_from at rs n) h)).1

-- ---- the first cells

module _ (size : TypeId → ℕ) where
  pub before_are_spots : (at g m : ℕ) (ss : List Spot) → AreSpots size at ss m → at ≤ g → end_within g (spots_before g ss) ≡ true → AreSpots size at (spots_before g ss) g
  before_are_spots at g m [] a l h = l
  before_are_spots at g m (s ∷ ss) a l h = by (λ k. before_are_spots (s.start + item_size s.item) g m ss a.2 k) (nat_lt s.start g) refl h
    where
      by : (s.start + item_size s.item ≤ g → end_within g (spots_before g ss) ≡ true → AreSpots size (s.start + item_size s.item) (spots_before g ss) g)
          → (b : Bool) → nat_lt s.start g ≡ b → end_within g (if b then s ∷ spots_before g ss else []) ≡ true → AreSpots size at (if b then s ∷ spots_before g ss else []) g
      by rest true e k = (
        a.0,
        a.1,
        rest (leb-true (s.start + item_size s.item) g (first_true (nat_le (s.start + item_size s.item) g) _ k))
            (second_true (nat_le (s.start + item_size s.item) g) _ k),
      )
      by rest false e k = l

  gap_and_item : (at g : ℕ) (s : Spot) → at ≤ s.start → s.start + item_size s.item ≤ g
      → g - at ≡ length (replicate (s.start - at) raw) + (length (item_cells s.item) + (g - (s.start + item_size s.item)))
  gap_and_item at g s l k = let c = length-replicate (s.start - at) raw in let d = length_item s.item in omega arith

  pub cells_before : (at g m : ℕ) (ss : List Spot) → AreSpots size at ss m → at ≤ g → g ≤ m → end_within g (spots_before g ss) ≡ true
      → cells_from at (spots_before g ss) g ≡ take (g - at) (cells_from at ss m)
  cells_before at g m [] a l k h = sym (take-replicate (g - at) (m - at) raw (omega arith))
  cells_before at g m (s ∷ ss) a l k h = by (λ q. cells_before (s.start + item_size s.item) g m ss a.2 q k) (nat_lt s.start g) refl h
    where
      by : (s.start + item_size s.item ≤ g → end_within g (spots_before g ss) ≡ true
          → cells_from (s.start + item_size s.item) (spots_before g ss) g ≡ take (g - (s.start + item_size s.item)) (cells_from (s.start + item_size s.item) ss m))
          → (b : Bool) → nat_lt s.start g ≡ b → end_within g (if b then s ∷ spots_before g ss else []) ≡ true
          → cells_from at (if b then s ∷ spots_before g ss else []) g ≡ take (g - at) (cells_from at (s ∷ ss) m)
      by rest true e k' =
          let q : s.start + item_size s.item ≤ g = leb-true (s.start + item_size s.item) g (first_true (nat_le (s.start + item_size s.item) g) _ k') in
          ap (λ xs. replicate (s.start - at) raw ++ (item_cells s.item ++ xs))
          (rest q (second_true (nat_le (s.start + item_size s.item) g) _ k'))
          ∙ ap (λ xs. replicate (s.start - at) raw ++ xs)
          (sym (take-append-add (item_cells s.item) (cells_from (s.start + item_size s.item) ss m) (g - (s.start + item_size s.item))))
          ∙ sym (take-append-add (replicate (s.start - at) raw) (item_cells s.item ++ cells_from (s.start + item_size s.item) ss m)
          (length (item_cells s.item) + (g - (s.start + item_size s.item))))
          ∙ ap (λ n. take n (cells_from at (s ∷ ss) m)) (sym (gap_and_item at g s a.0 q))
      by rest false e k' =
          let q = ltb-false s.start g e in
          let c = length-replicate (s.start - at) raw in
          sym (take-append-le (g - at) (replicate (s.start - at) raw) (item_cells s.item ++ cells_from (s.start + item_size s.item) ss m) (omega arith)
          ∙ take-replicate (g - at) (s.start - at) raw (omega arith))

-- ---- where an item lies across a place

abbrev index_of : Cell → ℕ
index_of raw = 0
index_of (pointer node to i) = i
index_of (mixed t i) = i
index_of (incomplete t) = 0

index_settled : (number : TypeId → ℕ) (x : Cell) → index_of (settle number x) ≡ index_of x
index_settled number raw = refl
index_settled number (pointer node to i) = refl
index_settled number (mixed t i) = refl
index_settled number (incomplete t) = refl

index_in_item : (x : Item) (j : ℕ) → j < item_size x → index_of (get_or (item_cells x) j raw) ≡ j
index_in_item (Pointer node to) j l = ap index_of (get_or-map-range_with_len (pointer node to) 0 8 j j raw l (omega arith))
index_in_item (Mixed t n) j l = ap index_of (get_or-map-range_with_len (mixed t) 0 n j j raw l (omega arith))
index_in_item (Incomplete t) zero l = refl
index_in_item (Incomplete t) (suc j) l = absurd (omega arith)

module _ (size : TypeId → ℕ) where
  index_first : (ss : List Spot) (m : ℕ) → AreSpots size 0 ss m → index_of (get_or (cells_from 0 ss m) 0 raw) ≡ 0
  index_first [] m a = by (m - 0)
    where
      by : (n : ℕ) → index_of (get_or (replicate n raw) 0 raw) ≡ 0
      by zero = refl
      by (suc n) = refl
  index_first (s ∷ ss) m a = by (s.start - 0)
    where
      item : index_of (get_or (item_cells s.item ++ cells_from (s.start + item_size s.item) ss m) 0 raw) ≡ 0
      item =
          let p = item_positive size s.item a.1 in let l = length_item s.item in
          ap index_of (get_or_append_left (item_cells s.item) (cells_from (s.start + item_size s.item) ss m) raw 0 (omega arith)) ∙ index_in_item s.item 0 p

      by : (n : ℕ) → index_of (get_or (replicate n raw ++ (item_cells s.item ++ cells_from (s.start + item_size s.item) ss m)) 0 raw) ≡ 0
      by zero = item
      by (suc n) = refl

  -- the cell at a place that a spot lies across isn't an item's first
  index_across : (at g m : ℕ) (ss : List Spot) → AreSpots size at ss m → at ≤ g → end_within g (spots_before g ss) ≡ false
      → 0 < index_of (get_or (cells_from at ss m) (g - at) raw)
  index_across at g m [] a l h = absurd (true≢false h)
  index_across at g m (s ∷ ss) a l h = by (index_across (s.start + item_size s.item) g m ss a.2) (nat_lt s.start g) refl h
    where
      past : (g - at ≡ length (replicate (s.start - at) raw) + (g - s.start))
          → get_or (cells_from at (s ∷ ss) m) (g - at) raw ≡ get_or (item_cells s.item ++ cells_from (s.start + item_size s.item) ss m) (g - s.start) raw
      past e =
          ap (λ n. get_or (cells_from at (s ∷ ss) m) n raw) e
          ∙ get_or-append-add (replicate (s.start - at) raw) (item_cells s.item ++ cells_from (s.start + item_size s.item) ss m) (g - s.start) raw

      here : (s.start + item_size s.item ≤ g → end_within g (spots_before g ss) ≡ false
          → 0 < index_of (get_or (cells_from (s.start + item_size s.item) ss m) (g - (s.start + item_size s.item)) raw)) → s.start < g → (b : Bool) → nat_le (s.start + item_size s.item) g ≡ b → (b && end_within g (spots_before g ss)) ≡ false
          → 0 < index_of (get_or (cells_from at (s ∷ ss) m) (g - at) raw)
      here rest q true e k =
          let n : s.start + item_size s.item ≤ g = leb-true (s.start + item_size s.item) g e in
          let c = length-replicate (s.start - at) raw in let d = length_item s.item in let z = a.0 in
          let split : g - s.start ≡ length (item_cells s.item) + (g - (s.start + item_size s.item)) = omega arith in
          let r = rest n k in
          subst (λ x. 0 < index_of x)
          (sym (past (omega arith)
          ∙ ap (λ j. get_or (item_cells s.item ++ cells_from (s.start + item_size s.item) ss m) j raw) split
          ∙ get_or-append-add (item_cells s.item) (cells_from (s.start + item_size s.item) ss m) (g - (s.start + item_size s.item)) raw)) r
      here rest q false e k =
          let n = leb-false (s.start + item_size s.item) g e in
          let c = length-replicate (s.start - at) raw in let d = length_item s.item in let z = a.0 in
          let i = index_in_item s.item (g - s.start) (omega arith) in
          let w = ap index_of (past (omega arith) ∙ get_or_append_left (item_cells s.item) (cells_from (s.start + item_size s.item) ss m) raw (g - s.start) (omega arith)) in
          omega arith

      by : (s.start + item_size s.item ≤ g → end_within g (spots_before g ss) ≡ false
          → 0 < index_of (get_or (cells_from (s.start + item_size s.item) ss m) (g - (s.start + item_size s.item)) raw))
          → (b : Bool) → nat_lt s.start g ≡ b → end_within g (if b then s ∷ spots_before g ss else []) ≡ false
          → 0 < index_of (get_or (cells_from at (s ∷ ss) m) (g - at) raw)
      by rest true e k = here rest (ltb-true s.start g e) (nat_le (s.start + item_size s.item) g) refl k
      by rest false e k = absurd (true≢false k)

-- ---- a list again and again, by places

length_repeat : (n : ℕ) (xs : List Cell) → length (repeat n xs) ≡ n * length xs
length_repeat zero xs = omega arith
length_repeat (suc n) xs = let h = length_repeat n xs in let e = length-append xs (repeat n xs) in grind arith

repeat_at : (n : ℕ) (xs : List Cell) (g i : ℕ) → length xs ≡ g → i < n * g → get_or (repeat n xs) i raw ≡ get_or xs (i % g) raw
repeat_at zero xs g i e l = absurd (omega arith)
repeat_at (suc n) xs g i e l = elim (cases_lt i g) [
  | inl b ↦
      let m : i % g ≡ i = mod-eq_of_lt b in
      get_or_append_left xs (repeat n xs) raw i (omega arith) ∙ ap (λ k. get_or xs k raw) (sym m)
  | inr b ↦
      let k : i - g < n * g = grind arith in
      let s : i ≡ length xs + (i - g) = omega arith in
      let m : (i - g) % g ≡ i % g = less g i b in
      ap (λ j. get_or (xs ++ repeat n xs) j raw) s
      ∙ get_or-append-add xs (repeat n xs) (i - g) raw
      ∙ repeat_at n xs g (i - g) e k
      ∙ ap (λ j. get_or xs j raw) m
]
  where
    back : (g i : ℕ) → g ≤ i → g + (i - g) ≡ i
    back g i l = omega arith

    less : (g i : ℕ) → g ≤ i → (i - g) % g ≡ i % g
    less g i l = sym (add-mod_left g (i - g)) ∙ ap (λ k. k % g) (back g i l)

-- ---- the decision

module _ (number size : TypeId → ℕ) (m g : ℕ) (ss : List Spot) (spots : AreSpots size 0 ss m) (some : 0 < g) (whole : m ≡ m / g * g) where
  first : List Spot
  first = spots_before g ss

  length_settled : length (map (settle number) (cells_from 0 ss m)) ≡ m
  length_settled = length-map (cells_from 0 ss m) (settle number) ∙ length_all size ss m spots

  all_copies : AreSpots size 0 (spots_before g ss) g → AreSpots size 0 (copies (m / g) g 0 (spots_before g ss)) m
  all_copies h = subst (λ n. AreSpots size 0 (copies (m / g) g 0 (spots_before g ss)) n) (zero_and whole) (spots_copied size (m / g) g 0 (spots_before g ss) h)
    where
      zero_and : m ≡ m / g * g → 0 + m / g * g ≡ m
      zero_and e = omega arith

  copied_cells : AreSpots size 0 (spots_before g ss) g → cells_from 0 (copies (m / g) g 0 (spots_before g ss)) m ≡ repeat (m / g) (cells_from 0 (spots_before g ss) g)
  copied_cells h =
      ap (λ n. cells_from 0 (copies (m / g) g 0 (spots_before g ss)) n) (zero_and whole) ∙ cells_copied size (m / g) g 0 (spots_before g ss) h
    where
      zero_and : m ≡ m / g * g → m ≡ 0 + m / g * g
      zero_and e = omega arith

  fewer : 0 < m → g ≤ m
  fewer p = le_multiple (m / g) g m whole p
    where
      le_multiple : (k g m : ℕ) → m ≡ k * g → 0 < m → g ≤ m
      le_multiple zero g m e p = absurd (omega arith)
      le_multiple (suc k) g m e p = grind arith

  settled_copies : (i : ℕ) → AreSpots size 0 (spots_before g ss) g → i < m
      → get_or (map (settle number) (repeat (m / g) (cells_from 0 (spots_before g ss) g))) i raw ≡ settle number (get_or (cells_from 0 (spots_before g ss) g) (i % g) raw)
  settled_copies i h l =
      settled_at number (repeat (m / g) (cells_from 0 (spots_before g ss) g)) i
      ∙ ap (settle number) (repeat_at (m / g) (cells_from 0 (spots_before g ss) g) g i (length_all size (spots_before g ss) g h) (subst (λ n. i < n) whole l))

  pub repeats_from_spots : 0 < m → repeat_spots number m g ss ≡ true → Repeats raw (map (settle number) (cells_from 0 ss m)) g
  repeats_from_spots p h =
      let e = first_true (end_within g (spots_before g ss)) _ h in
      let f = before_are_spots size 0 g m ss spots (omega arith) e in
      let same = all_same_from_alike number (cells_from 0 ss m) (cells_from 0 (copies (m / g) g 0 (spots_before g ss)) m)
      (cells_from_same number size 0 m ss (copies (m / g) g 0 (spots_before g ss)) spots (all_copies f) (second_true (end_within g (spots_before g ss)) _ h)) in
      let at : (i : ℕ) → i < m → get_or (map (settle number) (cells_from 0 ss m)) i raw ≡ settle number (get_or (cells_from 0 (spots_before g ss) g) (i % g) raw) =
      λ i l. ap (λ xs. get_or xs i raw) (same ∙ ap (map (settle number)) (copied_cells f)) ∙ settled_copies i f l in
      repeats_is raw (map (settle number) (cells_from 0 ss m)) g
      (λ i l. let n : i < m = subst (λ n. i < n) length_settled l in
      let o : i % g < m = (let b : i % g ≤ i = omega arith in omega arith) in
      at i n ∙ ap (λ j. settle number (get_or (cells_from 0 (spots_before g ss) g) j raw)) (sym (twice i)) ∙ sym (at (i % g) o))
    where
      twice : (i : ℕ) → i % g % g ≡ i % g
      twice i = mod-eq_of_lt (mod_below i g some)

  -- an item that lies across the end of the first cells is an obstacle
  no_obstacle : 0 < m → Repeats raw (map (settle number) (cells_from 0 ss m)) g → end_within g (spots_before g ss) ≡ false → ⊥
  no_obstacle p h e = elim (cases_lt g m) [
    | inl l ↦
        let r = is_repeated raw (map (settle number) (cells_from 0 ss m)) g h g (subst (λ n. g < n) (sym length_settled) l) in
        let i : 0 < index_of (get_or (cells_from 0 ss m) g raw) =
        subst (λ k. 0 < index_of (get_or (cells_from 0 ss m) k raw)) (minus_zero g) (index_across size 0 g m ss spots (omega arith) e) in
        let z = index_first size ss m spots in
        let q : index_of (get_or (cells_from 0 ss m) g raw) ≡ index_of (get_or (cells_from 0 ss m) 0 raw) =
        sym (index_settled number (get_or (cells_from 0 ss m) g raw)) ∙ ap index_of (sym (settled_at number (cells_from 0 ss m) g) ∙ r
        ∙ ap (λ j. get_or (map (settle number) (cells_from 0 ss m)) j raw) (mod_self g) ∙ settled_at number (cells_from 0 ss m) 0)
        ∙ index_settled number (get_or (cells_from 0 ss m) 0 raw) in
        absurd (omega arith)
    | inr l ↦ true≢false (sym (ends_all g l) ∙ e)
  ]
    where
      minus_zero : (n : ℕ) → n - 0 ≡ n
      minus_zero n = omega arith

      ends : (at : ℕ) (rs : List Spot) → AreSpots size at rs m → m ≤ g → end_within g (spots_before g rs) ≡ true
      ends at [] a l = refl
      ends at (r ∷ rs) a l = by (nat_lt r.start g) (ends (r.start + item_size r.item) rs a.2 l)
        where
          by : (b : Bool) → end_within g (spots_before g rs) ≡ true → end_within g (if b then r ∷ spots_before g rs else []) ≡ true
          by true k = both_true (nat_le (r.start + item_size r.item) g) _ (le-leb (r.start + item_size r.item) g (let s = spots_end size (r.start + item_size r.item) rs m a.2 in omega arith)) k
          by false k = refl

      ends_all : (n : ℕ) → m ≤ g → end_within g (spots_before g ss) ≡ true
      ends_all n l = ends 0 ss spots l

  pub spots_from_repeats : 0 < m → Repeats raw (map (settle number) (cells_from 0 ss m)) g → repeat_spots number m g ss ≡ true
  spots_from_repeats p h = by (end_within g (spots_before g ss)) refl
    where
      same : end_within g (spots_before g ss) ≡ true → same_spots number ss (copies (m / g) g 0 (spots_before g ss)) ≡ true
      same e =
          let f = before_are_spots size 0 g m ss spots (omega arith) e in
          let c = cells_before size 0 g m ss spots (omega arith) (fewer p) e in
          let lists : map (settle number) (cells_from 0 ss m) ≡ map (settle number) (repeat (m / g) (cells_from 0 (spots_before g ss) g)) =
          ext_get_or raw (map (settle number) (cells_from 0 ss m)) (map (settle number) (repeat (m / g) (cells_from 0 (spots_before g ss) g)))
          (length_settled ∙ whole ∙ ap (λ n. m / g * n) (sym (length_all size (spots_before g ss) g f))
          ∙ sym (length-map (repeat (m / g) (cells_from 0 (spots_before g ss) g)) (settle number) ∙ length_repeat (m / g) (cells_from 0 (spots_before g ss) g)))
          (λ i l. let n : i < m = subst (λ n. i < n) length_settled l in
          is_repeated raw (map (settle number) (cells_from 0 ss m)) g h i l
          ∙ settled_at number (cells_from 0 ss m) (i % g)
          ∙ ap (settle number) (sym (ap (λ xs. get_or xs (i % g) raw) c ∙ get_or-take (g - 0) (cells_from 0 ss m) (i % g) raw (let b = mod_below i g some in omega arith)))
          ∙ sym (settled_copies i f n)) in
          same_from_cells number size 0 m ss (copies (m / g) g 0 (spots_before g ss)) spots (all_copies f)
          (all_alike_from_same number (cells_from 0 ss m) (cells_from 0 (copies (m / g) g 0 (spots_before g ss)) m)
          (lists ∙ ap (map (settle number)) (sym (copied_cells f))))

      by : (b : Bool) → end_within g (spots_before g ss) ≡ b → repeat_spots number m g ss ≡ true
      by true e = both_true (end_within g (spots_before g ss)) _ e (same e)
      by false e = absurd (no_obstacle p h e)
