use Rattle.std.proofs.Common.{◌≡◌, ℕ, zero, suc, ◌+◌, ◌-◌, ◌≤◌, true, List, [], ◌∷◌, ◌++◌, length, map, replicate, slice_get, Option, None, Some, refl, ap, sym, subst, ◌∙◌, inl, inr, ◌⊎◌, arith, true≢false}
use Rattle.std.proofs.lemmas.Bool.Decides.{Decides-eqb}
use Rattle.std.specs.List.{range_with_len}
use Rattle.cc_base.specs.declared.number.TypeId.{TypeId}
use Rattle.c_types.specs.Cells.{Cell, raw, mixed, incomplete, pointer_cells}
use Rattle.c_types.specs.Flows.{HeldPointer, pointer_in_cell, and_then}
use Rattle.c_types.proofs.Shapes.{first_true, second_true}
use Rattle.phys_types.specs.declared.spot.Item.{Item}
use Rattle.phys_types.specs.declared.spot.Item.TheVariants.{Pointer, Mixed, Incomplete}
use Rattle.phys_types.specs.declared.spot.Spot.{Spot}
use Rattle.phys_types.specs.Spots.{item_size, item_cells, cells_from, AreSpots}
use Rattle.phys_types.specs.Numbers.{same_item, same_spot, begin_with_spots}
use Rattle.phys_types.specs.Standing.{pointer_of_item}
use Rattle.phys_types.proofs.Repeating.{item_positive}

-- The pointers of a list of cells are those of its spots.

-- the pointer whose first byte is the cell number i
abbrev pub found_in : List Cell → ℕ → Option HeldPointer
found_in xs i = and_then (slice_get xs i) pointer_in_cell

no_pointer : (p : HeldPointer) → None ≡ Some p → ⊥
no_pointer p h = cc

-- ---- raw cells

after_raw : (n : ℕ) (ys : List Cell) (i : ℕ) (p : HeldPointer) → found_in (replicate n raw ++ ys) i ≡ Some p → (j : ℕ) × (i ≡ n + j) × (found_in ys j ≡ Some p)
after_raw zero ys i p h = (i, omega arith, h)
after_raw (suc n) ys zero p h = absurd (no_pointer p h)
after_raw (suc n) ys (suc i) p h = let r = after_raw n ys i p h in (r.0, (let e = r.1 in omega arith), r.2)

none_raw : (n i : ℕ) (p : HeldPointer) → found_in (replicate n raw) i ≡ Some p → ⊥
none_raw zero i p h = no_pointer p h
none_raw (suc n) zero p h = no_pointer p h
none_raw (suc n) (suc i) p h = none_raw n i p h

past_raw : (n : ℕ) (ys : List Cell) (j : ℕ) → found_in (replicate n raw ++ ys) (n + j) ≡ found_in ys j
past_raw zero ys j = ap (found_in ys) (none j)
  where
    none : (j : ℕ) → 0 + j ≡ j
    none j = omega arith
past_raw (suc n) ys j = ap (found_in (replicate (suc n) raw ++ ys)) (next n j) ∙ past_raw n ys j
  where
    next : (n j : ℕ) → suc n + j ≡ suc (n + j)
    next n j = omega arith

-- ---- an item

after_mixed : (t : TypeId) (is : List ℕ) (ys : List Cell) (i : ℕ) (p : HeldPointer) → found_in (map (mixed t) is ++ ys) i ≡ Some p
    → (j : ℕ) × (i ≡ length is + j) × (found_in ys j ≡ Some p)
after_mixed t [] ys i p h = (i, omega arith, h)
after_mixed t (k ∷ is) ys zero p h = absurd (no_pointer p h)
after_mixed t (k ∷ is) ys (suc i) p h = let r = after_mixed t is ys i p h in (r.0, (let e = r.1 in omega arith), r.2)

past_mixed : (t : TypeId) (is : List ℕ) (ys : List Cell) (j : ℕ) → found_in (map (mixed t) is ++ ys) (length is + j) ≡ found_in ys j
past_mixed t [] ys j = ap (found_in ys) (none j)
  where
    none : (j : ℕ) → 0 + j ≡ j
    none j = omega arith
past_mixed t (k ∷ is) ys j = ap (found_in (map (mixed t) (k ∷ is) ++ ys)) (next (length is) j) ∙ past_mixed t is ys j
  where
    next : (n j : ℕ) → suc n + j ≡ suc (n + j)
    next n j = omega arith

range_length : (a n : ℕ) → length (range_with_len a n) ≡ n
range_length a zero = refl
range_length a (suc n) = ap suc (range_length (a + 1) n)

-- a pointer at a cell from an item on is the item, or comes after it
in_item : (x : Item) (ys : List Cell) (i : ℕ) (p : HeldPointer) → found_in (item_cells x ++ ys) i ≡ Some p
    → ((i ≡ 0) × (pointer_of_item x ≡ Some p)) ⊎ ((j : ℕ) × (i ≡ item_size x + j) × (found_in ys j ≡ Some p))
in_item (Pointer node to) ys zero p h = inl (refl, h)
in_item (Pointer node to) ys (suc zero) p h = absurd (no_pointer p h)
in_item (Pointer node to) ys (suc (suc zero)) p h = absurd (no_pointer p h)
in_item (Pointer node to) ys (suc (suc (suc zero))) p h = absurd (no_pointer p h)
in_item (Pointer node to) ys (suc (suc (suc (suc zero)))) p h = absurd (no_pointer p h)
in_item (Pointer node to) ys (suc (suc (suc (suc (suc zero))))) p h = absurd (no_pointer p h)
in_item (Pointer node to) ys (suc (suc (suc (suc (suc (suc zero)))))) p h = absurd (no_pointer p h)
in_item (Pointer node to) ys (suc (suc (suc (suc (suc (suc (suc zero))))))) p h = absurd (no_pointer p h)
in_item (Pointer node to) ys (suc (suc (suc (suc (suc (suc (suc (suc j)))))))) p h = inr (j, omega arith, h)
in_item (Mixed t n) ys i p h =
    let r = after_mixed t (range_with_len 0 n) ys i p h in inr (r.0, r.1 ∙ ap (λ m. m + r.0) (range_length 0 n), r.2)
in_item (Incomplete t) ys zero p h = absurd (no_pointer p h)
in_item (Incomplete t) ys (suc i) p h = inr (i, omega arith, h)

past_item : (x : Item) (ys : List Cell) (j : ℕ) → found_in (item_cells x ++ ys) (item_size x + j) ≡ found_in ys j
past_item (Pointer node to) ys j = ap (found_in (pointer_cells node to ++ ys)) (next j)
  where
    next : (j : ℕ) → 8 + j ≡ suc (suc (suc (suc (suc (suc (suc (suc j)))))))
    next j = omega arith
past_item (Mixed t n) ys j = ap (λ m. found_in (map (mixed t) (range_with_len 0 n) ++ ys) (m + j)) (sym (range_length 0 n)) ∙ past_mixed t (range_with_len 0 n) ys j
past_item (Incomplete t) ys j = ap (found_in (incomplete t ∷ ys)) (next j)
  where
    next : (j : ℕ) → 1 + j ≡ suc j
    next j = omega arith

at_item : (x : Item) (ys : List Cell) (p : HeldPointer) → pointer_of_item x ≡ Some p → found_in (item_cells x ++ ys) 0 ≡ Some p
at_item (Pointer node to) ys p h = h
at_item (Mixed t n) ys p h = absurd (no_pointer p h)
at_item (Incomplete t) ys p h = absurd (no_pointer p h)

-- ---- spots

module _ (size : TypeId → ℕ) where
  pub spot_of_cell : (at end : ℕ) (ss : List Spot) (i : ℕ) (p : HeldPointer) → AreSpots size at ss end → found_in (cells_from at ss end) i ≡ Some p
      → (k : ℕ) × (s : Spot) × (slice_get ss k ≡ Some s) × (pointer_of_item s.item ≡ Some p) × (s.start ≡ at + i)
  spot_of_cell at end [] i p a h = absurd (none_raw (end - at) i p h)
  spot_of_cell at end (s ∷ ss) i p a h =
      let r = after_raw (s.start - at) (item_cells s.item ++ cells_from (s.start + item_size s.item) ss end) i p h in
      let e = r.1 in let l = a.0 in
      elim (in_item s.item (cells_from (s.start + item_size s.item) ss end) r.0 p r.2) [
        | inl f ↦ (0, s, refl, f.1, (let g = f.0 in omega arith))
        | inr f ↦
            let b = spot_of_cell (s.start + item_size s.item) end ss f.0 p a.2 f.2 in
            let g = f.1 in let z = b.4 in (suc b.0, b.1, b.2, b.3, omega arith)
      ]

  pub spot_after : (at end : ℕ) (ss : List Spot) (k : ℕ) (s : Spot) → AreSpots size at ss end → slice_get ss k ≡ Some s → at ≤ s.start
  spot_after at end [] k s a h = absurd (no_spot s h)
    where
      no_spot : (s : Spot) → None ≡ Some s → ⊥
      no_spot s h = cc
  spot_after at end (r ∷ ss) zero s a h = subst (λ (x : Spot). at ≤ x.start) (same r s h) a.0
    where
      same : (r s : Spot) → Some r ≡ Some s → r ≡ s
      same r s h = cc
  spot_after at end (r ∷ ss) (suc k) s a h = let b = spot_after (r.start + item_size r.item) end ss k s a.2 h in let l = a.0 in omega arith

  pub cell_of_spot : (at end : ℕ) (ss : List Spot) (k : ℕ) (s : Spot) (p : HeldPointer) → AreSpots size at ss end → slice_get ss k ≡ Some s → pointer_of_item s.item ≡ Some p
      → found_in (cells_from at ss end) (s.start - at) ≡ Some p
  cell_of_spot at end [] k s p a h f = absurd (no_spot s h)
    where
      no_spot : (s : Spot) → None ≡ Some s → ⊥
      no_spot s h = cc
  cell_of_spot at end (r ∷ ss) zero s p a h f =
      ap (λ (x : Spot). found_in (cells_from at (r ∷ ss) end) (x.start - at)) (sym (same r s h))
      ∙ ap (found_in (cells_from at (r ∷ ss) end)) (none (r.start - at))
      ∙ past_raw (r.start - at) (item_cells r.item ++ cells_from (r.start + item_size r.item) ss end) 0
      ∙ at_item r.item (cells_from (r.start + item_size r.item) ss end) p (ap (λ (x : Spot). pointer_of_item x.item) (same r s h) ∙ f)
    where
      same : (r s : Spot) → Some r ≡ Some s → r ≡ s
      same r s h = cc

      none : (n : ℕ) → n ≡ n + 0
      none n = omega arith
  cell_of_spot at end (r ∷ ss) (suc k) s p a h f =
      let b = spot_after (r.start + item_size r.item) end ss k s a.2 h in
      let l = a.0 in
      let e : s.start - at ≡ (r.start - at) + (item_size r.item + (s.start - (r.start + item_size r.item))) = omega arith in
      ap (found_in (cells_from at (r ∷ ss) end)) e
      ∙ past_raw (r.start - at) (item_cells r.item ++ cells_from (r.start + item_size r.item) ss end) (item_size r.item + (s.start - (r.start + item_size r.item)))
      ∙ past_item r.item (cells_from (r.start + item_size r.item) ss end) (s.start - (r.start + item_size r.item))
      ∙ cell_of_spot (r.start + item_size r.item) end ss k s p a.2 h f

  -- no two spots begin at one place
  pub one_place : (at end : ℕ) (ss : List Spot) (i j : ℕ) (s r : Spot) → AreSpots size at ss end → slice_get ss i ≡ Some s → slice_get ss j ≡ Some r → s.start ≡ r.start → i ≡ j
  one_place at end [] i j s r a h k e = absurd (no_spot s h)
    where
      no_spot : (s : Spot) → None ≡ Some s → ⊥
      no_spot s h = cc
  one_place at end (x ∷ ss) zero zero s r a h k e = refl
  one_place at end (x ∷ ss) zero (suc j) s r a h k e = absurd (later x s r ss j a h k e)
    where
      same : (r s : Spot) → Some r ≡ Some s → r ≡ s
      same r s h = cc

      later : (x s r : Spot) (ss : List Spot) (j : ℕ) → AreSpots size at (x ∷ ss) end → Some x ≡ Some s → slice_get ss j ≡ Some r → s.start ≡ r.start → ⊥
      later x s r ss j a h k e =
          let b = spot_after (x.start + item_size x.item) end ss j r a.2 k in let p = item_positive size x.item a.1 in
          let f = ap (λ (z : Spot). z.start) (same x s h) in omega arith
  one_place at end (x ∷ ss) (suc i) zero s r a h k e = absurd (later x r s ss i a k h (sym e))
    where
      same : (r s : Spot) → Some r ≡ Some s → r ≡ s
      same r s h = cc

      later : (x s r : Spot) (ss : List Spot) (j : ℕ) → AreSpots size at (x ∷ ss) end → Some x ≡ Some s → slice_get ss j ≡ Some r → s.start ≡ r.start → ⊥
      later x s r ss j a h k e =
          let b = spot_after (x.start + item_size x.item) end ss j r a.2 k in let p = item_positive size x.item a.1 in
          let f = ap (λ (z : Spot). z.start) (same x s h) in omega arith
  one_place at end (x ∷ ss) (suc i) (suc j) s r a h k e = ap suc (one_place (x.start + item_size x.item) end ss i j s r a.2 h k e)

-- ---- the first spots of one list are those of another

module _ (number : TypeId → ℕ) (n : ℕ) where
  pub front_there : (ss rs : List Spot) (k : ℕ) (r : Spot) → begin_with_spots number n ss rs ≡ true → slice_get rs k ≡ Some r
      → (s : Spot) × (slice_get ss k ≡ Some s) × (s.start ≡ r.start)
  front_there ss [] k r h e = absurd (no_spot r e)
    where
      no_spot : (s : Spot) → None ≡ Some s → ⊥
      no_spot s h = cc
  front_there [] (x ∷ rs) k r h e = absurd (true≢false (sym h))
  front_there (s ∷ ss) (x ∷ rs) zero r h e =
      (s, refl, (Decides-eqb s.start x.start).0 (first_true _ (same_item number s.item x.item) (first_true (same_spot number s x) _ h)) ∙ ap (λ (z : Spot). z.start) (same x r e))
    where
      same : (r s : Spot) → Some r ≡ Some s → r ≡ s
      same r s h = cc
  front_there (s ∷ ss) (x ∷ rs) (suc k) r h e = front_there ss rs k r (second_true (same_spot number s x) _ h) e
