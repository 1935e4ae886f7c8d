use Rattle.std.proofs.Common.{◌≡◌, ℕ, zero, suc, ◌+◌, ◌-◌, ◌≤◌, Bool, true, false, ◌&&◌, List, [], ◌∷◌, ◌++◌, map, replicate, ◌==◌, refl, ap, sym, subst, ◌∙◌, true≢false, arith}
use Rattle.std.specs.List.{range_with_len}
use Rattle.std.proofs.lemmas.Bool.Decides.{Decides-eqb, nat_tests}
use Rattle.cc_base.specs.declared.number.TypeId.{TypeId}
use Rattle.c_types.specs.Cells.{Cell, raw, pointer, mixed, incomplete, Relation, same_type, alike, begins}
use Rattle.c_types.proofs.Shapes.{first_true, second_true}
use Rattle.type_laws.proofs.Relations.{same_id}
use Rattle.phys_types.specs.declared.spot.Item.{Item}
use Rattle.phys_types.specs.declared.spot.Item.TheVariants.{Pointer, Mixed, Incomplete}
use Rattle.phys_types.specs.declared.spot.Spot.{Spot}
use Rattle.phys_types.specs.Spots.{item_size, item_cells, cells_from, HasSize, AreSpots}
use Rattle.phys_types.specs.Numbers.{same_number, same_item, same_spot, begin_with_spots}
use Rattle.phys_types.proofs.Spreading.{spots_end}

-- Cells begin with other cells where the spots do.

-- each of ys is alike to the cell of xs beside it
abbrev pub fronts : Relation → List Cell → List Cell → Bool
fronts E xs [] = true
fronts E [] (y ∷ ys) = false
fronts E (x ∷ xs) (y ∷ ys) = alike E x y && fronts E xs ys

pub begins_is : (E : Relation) (xs ys : List Cell) → begins E xs ys ≡ fronts E xs ys
begins_is E xs [] = refl
begins_is E [] (y ∷ ys) = refl
begins_is E (x ∷ xs) (y ∷ ys) = ap (λ b. alike E x y && b) (begins_is E xs ys)

pub both_true : (a b : Bool) → a ≡ true → b ≡ true → (a && b) ≡ true
both_true a b p q = λ i. p i && q i

eight_true : (a b : Bool) → (a && (a && (a && (a && (a && (a && (a && (a && b)))))))) ≡ true → (a ≡ true) × (b ≡ true)
eight_true true b h = (refl, h)
eight_true false b h = absurd (true≢false (sym h))

true_eight : (a b : Bool) → a ≡ true → b ≡ true → (a && (a && (a && (a && (a && (a && (a && (a && b)))))))) ≡ true
true_eight a b p q = λ i. p i && (p i && (p i && (p i && (p i && (p i && (p i && (p i && q i)))))))

-- the first cell, if there is one, isn't raw
abbrev StartsAtItem : List Cell → Type 0
StartsAtItem [] = Unit {0}
StartsAtItem (raw ∷ xs) = ⊥
StartsAtItem (x ∷ xs) = Unit {0}

abbrev HasCell : List Cell → Type 0
HasCell [] = ⊥
HasCell (x ∷ xs) = Unit {0}

starts_item : (size : TypeId → ℕ) (x : Item) (xs : List Cell) → HasSize size x → StartsAtItem (item_cells x ++ xs) × HasCell (item_cells x ++ xs)
starts_item size (Pointer node to) xs h = (tt, tt)
starts_item size (Mixed t zero) xs h = let b = h.1 in absurd (omega arith)
starts_item size (Mixed t (suc n)) xs h = (tt, tt)
starts_item size (Incomplete t) xs h = (tt, tt)

module _ (E : Relation) where
  raw_first : (ys : List Cell) (xs : List Cell) → StartsAtItem ys → HasCell ys → fronts E (raw ∷ xs) ys ≡ true → ⊥
  raw_first [] xs s c h = c
  raw_first (raw ∷ ys) xs s c h = s
  raw_first (pointer node to i ∷ ys) xs s c h = true≢false (sym h)
  raw_first (mixed t i ∷ ys) xs s c h = true≢false (sym h)
  raw_first (incomplete t ∷ ys) xs s c h = true≢false (sym h)

  raw_second : (xs ys : List Cell) → StartsAtItem xs → fronts E xs (raw ∷ ys) ≡ true → ⊥
  raw_second [] ys s h = true≢false (sym h)
  raw_second (raw ∷ xs) ys s h = s
  raw_second (pointer node to i ∷ xs) ys s h = true≢false (sym h)
  raw_second (mixed t i ∷ xs) ys s h = true≢false (sym h)
  raw_second (incomplete t ∷ xs) ys s h = true≢false (sym h)

  -- gaps before items are equally long
  gaps : (g h : ℕ) (xs ys : List Cell) → StartsAtItem xs → StartsAtItem ys → HasCell ys
      → fronts E (replicate g raw ++ xs) (replicate h raw ++ ys) ≡ true → (g ≡ h) × (fronts E xs ys ≡ true)
  gaps zero zero xs ys s r c k = (refl, k)
  gaps zero (suc h) xs ys s r c k = absurd (raw_second xs (replicate h raw ++ ys) s k)
  gaps (suc g) zero xs ys s r c k = absurd (raw_first ys (replicate g raw ++ xs) r c k)
  gaps (suc g) (suc h) xs ys s r c k = let e = gaps g h xs ys s r c k in (ap suc e.0, e.1)

  -- raw cells alone are no more than the gap
  gap_over : (g h : ℕ) (xs : List Cell) → StartsAtItem xs → fronts E (replicate g raw ++ xs) (replicate h raw) ≡ true → h ≤ g
  gap_over g zero xs s k = omega arith
  gap_over zero (suc h) xs s k = absurd (raw_second xs (replicate h raw) s k)
  gap_over (suc g) (suc h) xs s k = let e = gap_over g h xs s k in omega arith

  over_gap : (g h : ℕ) (xs : List Cell) → h ≤ g → fronts E (replicate g raw ++ xs) (replicate h raw) ≡ true
  over_gap g zero xs k = refl
  over_gap zero (suc h) xs k = absurd (omega arith)
  over_gap (suc g) (suc h) xs k = over_gap g h xs (omega arith)

  same_gap : (g : ℕ) (xs ys : List Cell) → fronts E xs ys ≡ true → fronts E (replicate g raw ++ xs) (replicate g raw ++ ys) ≡ true
  same_gap zero xs ys h = h
  same_gap (suc g) xs ys h = same_gap g xs ys h

  mixed_rest : (t u : TypeId) (is : List ℕ) (xs ys : List Cell) → fronts E (map (mixed t) is ++ xs) (map (mixed u) is ++ ys) ≡ true → fronts E xs ys ≡ true
  mixed_rest t u [] xs ys h = h
  mixed_rest t u (i ∷ is) xs ys h = mixed_rest t u is xs ys (second_true (same_type t u && (i == i)) _ h)

  mixed_front : (t u : TypeId) (is : List ℕ) (xs ys : List Cell) → same_type t u ≡ true → fronts E xs ys ≡ true → fronts E (map (mixed t) is ++ xs) (map (mixed u) is ++ ys) ≡ true
  mixed_front t u [] xs ys e h = h
  mixed_front t u (i ∷ is) xs ys e h =
      both_true (same_type t u && (i == i)) _ (both_true (same_type t u) (i == i) e ((Decides-eqb i i).1 refl)) (mixed_front t u is xs ys e h)

module _ (number size : TypeId → ℕ) where
  E : Relation
  E = same_number number

  same_size : (x y : Item) → HasSize size x → HasSize size y → same_item number x y ≡ true → item_size x ≡ item_size y
  same_size (Pointer n t) (Pointer m u) h k e = refl
  same_size (Mixed t n) (Mixed u m) h k e = h.0 ∙ ap (λ (i : ℕ). size (record { 0 = i })) (same_id t u e) ∙ sym k.0
  same_size (Incomplete t) (Incomplete u) h k e = refl
  same_size x y h k e = absurd (true≢false (sym e))

  items_apart : (x y : Item) (xs ys : List Cell) → HasSize size x → HasSize size y
      → fronts (same_number number) (item_cells x ++ xs) (item_cells y ++ ys) ≡ true
      → (same_item number x y ≡ true) × (fronts (same_number number) xs ys ≡ true)
  items_apart (Pointer n t) (Pointer m u) xs ys h k e = eight_true (number t == number u) (fronts (same_number number) xs ys) e
  items_apart (Incomplete t) (Incomplete u) xs ys h k e = (first_true (same_type t u) _ e, second_true (same_type t u) _ e)
  items_apart (Mixed t zero) y xs ys h k e = let b = h.1 in absurd (omega arith)
  items_apart (Mixed t (suc n)) (Mixed u zero) xs ys h k e = let b = k.1 in absurd (omega arith)
  items_apart (Mixed t (suc n)) (Mixed u (suc m)) xs ys h k e =
      let s = first_true (same_type t u) (0 == 0) (first_true (same_type t u && (0 == 0)) _ e) in
      let l : suc m ≡ suc n = k.0 ∙ sym (ap (λ (i : ℕ). size (record { 0 = i })) (same_id t u s)) ∙ sym h.0 in (
        s,
        mixed_rest (same_number number) t u (range_with_len 0 (suc n)) xs ys
            (subst (λ j. fronts (same_number number) (map (mixed t) (range_with_len 0 (suc n)) ++ xs) (map (mixed u) (range_with_len 0 j) ++ ys) ≡ true) l e),
      )
  items_apart (Pointer n t) (Mixed u zero) xs ys h k e = let b = k.1 in absurd (omega arith)
  items_apart (Pointer n t) (Mixed u (suc m)) xs ys h k e = absurd (true≢false (sym e))
  items_apart (Pointer n t) (Incomplete u) xs ys h k e = absurd (true≢false (sym e))
  items_apart (Mixed t (suc n)) (Pointer m u) xs ys h k e = absurd (true≢false (sym e))
  items_apart (Mixed t (suc n)) (Incomplete u) xs ys h k e = absurd (true≢false (sym e))
  items_apart (Incomplete t) (Pointer m u) xs ys h k e = absurd (true≢false (sym e))
  items_apart (Incomplete t) (Mixed u zero) xs ys h k e = let b = k.1 in absurd (omega arith)
  items_apart (Incomplete t) (Mixed u (suc m)) xs ys h k e = absurd (true≢false (sym e))

  items_joined : (x y : Item) (xs ys : List Cell) → HasSize size x → HasSize size y → same_item number x y ≡ true
      → fronts (same_number number) xs ys ≡ true → fronts (same_number number) (item_cells x ++ xs) (item_cells y ++ ys) ≡ true
  items_joined (Pointer n t) (Pointer m u) xs ys h k e f = true_eight (number t == number u) (fronts (same_number number) xs ys) e f
  items_joined (Mixed t n) (Mixed u m) xs ys h k e f =
      let l = same_size (Mixed t n) (Mixed u m) h k e in
      subst (λ j. fronts (same_number number) (map (mixed t) (range_with_len 0 n) ++ xs) (map (mixed u) (range_with_len 0 j) ++ ys) ≡ true) l
      (mixed_front (same_number number) t u (range_with_len 0 n) xs ys e f)
  items_joined (Incomplete t) (Incomplete u) xs ys h k e f = both_true (same_type t u) _ e f
  items_joined x y xs ys h k e f = absurd (true≢false (sym e))

  start_of : (s : Spot) → (at end : ℕ) (ss : List Spot) → AreSpots size at (s ∷ ss) end
      → StartsAtItem (item_cells s.item ++ cells_from (s.start + item_size s.item) ss end) × HasCell (item_cells s.item ++ cells_from (s.start + item_size s.item) ss end)
  start_of s at end ss h = starts_item size s.item (cells_from (s.start + item_size s.item) ss end) h.1

  same_start : (a b p : ℕ) → p ≤ a → p ≤ b → a - p ≡ b - p → a ≡ b
  same_start a b p h k e = omega arith

  at_least : (a b p : ℕ) → p ≤ a → p ≤ b → a - p ≤ b - p → a ≤ b
  at_least a b p h k l = omega arith

  none_after : (n : ℕ) → replicate n raw ≡ replicate n raw ++ []
  none_after zero = refl
  none_after (suc n) = ap (λ l. raw ∷ l) (none_after n)

  -- cells that begin with others have spots that do
  pub spots_from_cells : (at : ℕ) (ss rs : List Spot) (m n : ℕ) → AreSpots size at ss m → AreSpots size at rs n
      → fronts (same_number number) (cells_from at ss m) (cells_from at rs n) ≡ true → (n ≤ m) × (begin_with_spots number n ss rs ≡ true)
  spots_from_cells at [] [] m n a b h =
      let l = gap_over (same_number number) (m - at) (n - at) [] tt (ap (λ xs. fronts (same_number number) xs (replicate (n - at) raw)) (sym (none_after (m - at))) ∙ h) in
      (at_least n m at b a l, refl)
  spots_from_cells at (s ∷ ss) [] m n a b h =
      let l = gap_over (same_number number) (s.start - at) (n - at) (item_cells s.item ++ cells_from (s.start + item_size s.item) ss m) (start_of s at m ss a).0 h in
      let k : n ≤ s.start = at_least n s.start at b a.0 l in
      let e = spots_end size (s.start + item_size s.item) ss m a.2 in
      (omega arith, grind (arith, nat_tests))
  spots_from_cells at [] (r ∷ rs) m n a b h =
      let i = start_of r at n rs b in
      let g = gaps (same_number number) (m - at) (r.start - at) [] (item_cells r.item ++ cells_from (r.start + item_size r.item) rs n) tt i.0 i.1
      (ap (λ xs. fronts (same_number number) xs (replicate (r.start - at) raw ++ (item_cells r.item ++ cells_from (r.start + item_size r.item) rs n))) (sym (none_after (m - at))) ∙ h) in
      absurd (no_front (item_cells r.item ++ cells_from (r.start + item_size r.item) rs n) i.1 g.1)
    where
      no_front : (ys : List Cell) → HasCell ys → fronts (same_number number) [] ys ≡ true → ⊥
      no_front [] c f = c
      no_front (y ∷ ys) c f = true≢false (sym f)
  spots_from_cells at (s ∷ ss) (r ∷ rs) m n a b h =
      let i = start_of s at m ss a in let j = start_of r at n rs b in
      let g = gaps (same_number number) (s.start - at) (r.start - at) (item_cells s.item ++ cells_from (s.start + item_size s.item) ss m)
      (item_cells r.item ++ cells_from (r.start + item_size r.item) rs n) i.0 j.0 j.1 h in
      let p = items_apart s.item r.item (cells_from (s.start + item_size s.item) ss m) (cells_from (r.start + item_size r.item) rs n) a.1 b.1 g.1 in
      let e : s.start ≡ r.start = same_start s.start r.start at a.0 b.0 g.0 in
      let z = same_size s.item r.item a.1 b.1 p.0 in
      let next : s.start + item_size s.item ≡ r.start + item_size r.item = omega arith in
      let rest = spots_from_cells (s.start + item_size s.item) ss rs m n a.2 (subst (λ k. AreSpots size k rs n) (sym next) b.2)
      (subst (λ k. fronts (same_number number) (cells_from (s.start + item_size s.item) ss m) (cells_from k rs n) ≡ true) (sym next) p.1) in
      (rest.0, both_true (same_spot number s r) _ (both_true (s.start == r.start) _ ((Decides-eqb s.start r.start).1 e) p.0) rest.1)

  pub cells_from_spots : (at : ℕ) (ss rs : List Spot) (m n : ℕ) → AreSpots size at ss m → AreSpots size at rs n
      → n ≤ m → begin_with_spots number n ss rs ≡ true → fronts (same_number number) (cells_from at ss m) (cells_from at rs n) ≡ true
  cells_from_spots at [] [] m n a b l h =
      ap (λ xs. fronts (same_number number) xs (replicate (n - at) raw)) (none_after (m - at)) ∙ over_gap (same_number number) (m - at) (n - at) [] (omega arith)
  cells_from_spots at (s ∷ ss) [] m n a b l h =
      let k : n ≤ s.start = grind (arith, nat_tests) in
      over_gap (same_number number) (s.start - at) (n - at) (item_cells s.item ++ cells_from (s.start + item_size s.item) ss m) (omega arith)
  cells_from_spots at [] (r ∷ rs) m n a b l h = absurd (true≢false (sym h))
  cells_from_spots at (s ∷ ss) (r ∷ rs) m n a b l h =
      let f = first_true (same_spot number s r) _ h in
      let e : s.start ≡ r.start = (Decides-eqb s.start r.start).0 (first_true (s.start == r.start) _ f) in
      let i = second_true (s.start == r.start) (same_item number s.item r.item) f in
      let z = same_size s.item r.item a.1 b.1 i in
      let next : s.start + item_size s.item ≡ r.start + item_size r.item = omega arith in
      let rest = cells_from_spots (s.start + item_size s.item) ss rs m n a.2 (subst (λ k. AreSpots size k rs n) (sym next) b.2) l (second_true (same_spot number s r) _ h) in
      let joined = items_joined s.item r.item (cells_from (s.start + item_size s.item) ss m) (cells_from (r.start + item_size r.item) rs n) a.1 b.1 i
      (subst (λ k. fronts (same_number number) (cells_from (s.start + item_size s.item) ss m) (cells_from k rs n) ≡ true) next rest) in
      subst (λ k. fronts (same_number number) (replicate (s.start - at) raw ++ (item_cells s.item ++ cells_from (s.start + item_size s.item) ss m))
      (replicate (k - at) raw ++ (item_cells r.item ++ cells_from (r.start + item_size r.item) rs n)) ≡ true) e
      (same_gap (same_number number) (s.start - at) (item_cells s.item ++ cells_from (s.start + item_size s.item) ss m)
      (item_cells r.item ++ cells_from (r.start + item_size r.item) rs n) joined)
