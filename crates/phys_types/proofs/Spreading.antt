use Rattle.std.proofs.Common.{◌≡◌, ℕ, zero, suc, ◌+◌, ◌-◌, ◌*◌, ◌≤◌, List, [], ◌∷◌, ◌++◌, length, map, replicate, refl, ap, sym, subst, ◌∙◌, append_assoc, arith}
use Rattle.std.specs.List.{range_with_len, repeat}
use Rattle.std.proofs.lemmas.List.{append-nil, length-append, length-map, length-replicate, replicate-append-replicate}
use Rattle.cc_base.specs.declared.number.TypeId.{TypeId}
use Rattle.c_types.specs.Cells.{Cell, raw, mixed, padded_to}
use Rattle.phys_types.specs.declared.spot.Item.{Item}
use Rattle.phys_types.specs.declared.spot.Item.TheVariants.{Pointer, Mixed, Incomplete}
use Rattle.phys_types.specs.declared.spot.Spot.{Spot}
use Rattle.phys_types.specs.Spots.{item_size, item_cells, cells_from, AreSpots, shifted, copies}

-- How many cells spots have, and the spots of lists that are joined, moved and repeated.

length_range : (a n : ℕ) → length (range_with_len a n) ≡ n
length_range a zero = refl
length_range a (suc n) = ap suc (length_range (a + 1) n)

pub length_item : (x : Item) → length (item_cells x) ≡ item_size x
length_item (Pointer node to) = refl
length_item (Mixed t n) = length-map (range_with_len 0 n) (mixed t) ∙ length_range 0 n
length_item (Incomplete t) = refl

module _ (size : TypeId → ℕ) where
  pub spots_end : (at : ℕ) (ss : List Spot) (end : ℕ) → AreSpots size at ss end → at ≤ end
  spots_end at [] end h = h
  spots_end at (s ∷ ss) end h = let r = spots_end (s.start + item_size s.item) ss end h.2 in let b = h.0 in omega arith

  pub length_from : (at : ℕ) (ss : List Spot) (end : ℕ) → AreSpots size at ss end → length (cells_from at ss end) ≡ end - at
  length_from at [] end h = length-replicate (end - at) raw
  length_from at (s ∷ ss) end h =
      let r = length_from (s.start + item_size s.item) ss end h.2 in
      let e = spots_end (s.start + item_size s.item) ss end h.2 in
      let a = length-append (replicate (s.start - at) raw) (item_cells s.item ++ cells_from (s.start + item_size s.item) ss end) in
      let b = length-append (item_cells s.item) (cells_from (s.start + item_size s.item) ss end) in
      let c = length-replicate (s.start - at) raw in
      let d = length_item s.item in
      let l = h.0 in omega arith

  pub length_all : (ss : List Spot) (end : ℕ) → AreSpots size 0 ss end → length (cells_from 0 ss end) ≡ end
  length_all ss end h = let l = length_from 0 ss end h in omega arith

  -- a later end is more raw cells
  pub spots_to : (at : ℕ) (ss : List Spot) (end more : ℕ) → AreSpots size at ss end → end ≤ more → AreSpots size at ss more
  spots_to at [] end more h l = omega arith
  spots_to at (s ∷ ss) end more h l = (h.0, h.1, spots_to (s.start + item_size s.item) ss end more h.2 l)

  split : (a b c : ℕ) → a ≤ b → b ≤ c → (b - a) + (c - b) ≡ c - a
  split a b c h k = omega arith

  gap : (a b c : ℕ) → a ≤ b → b ≤ c → (xs : List Cell) → replicate (b - a) raw ++ (replicate (c - b) raw ++ xs) ≡ replicate (c - a) raw ++ xs
  gap a b c h k xs =
      sym (append_assoc (replicate (b - a) raw) (replicate (c - b) raw) xs)
      ∙ ap (λ r. r ++ xs) (replicate-append-replicate (b - a) (c - b) raw ∙ ap (λ n. replicate n raw) (split a b c h k))

  -- cells one after another
  pub cells_joined : (at : ℕ) (ss : List Spot) (mid : ℕ) (rs : List Spot) (end : ℕ) → AreSpots size at ss mid → AreSpots size mid rs end
      → cells_from at ss mid ++ cells_from mid rs end ≡ cells_from at (ss ++ rs) end
  cells_joined at [] mid [] end h k = replicate-append-replicate (mid - at) (end - mid) raw ∙ ap (λ n. replicate n raw) (split at mid end h k)
  cells_joined at [] mid (r ∷ rs) end h k = gap at mid r.start h k.0 (item_cells r.item ++ cells_from (r.start + item_size r.item) rs end)
  cells_joined at (s ∷ ss) mid rs end h k =
      append_assoc (replicate (s.start - at) raw) (item_cells s.item ++ cells_from (s.start + item_size s.item) ss mid) (cells_from mid rs end)
      ∙ ap (λ xs. replicate (s.start - at) raw ++ xs)
      (append_assoc (item_cells s.item) (cells_from (s.start + item_size s.item) ss mid) (cells_from mid rs end)
      ∙ ap (λ xs. item_cells s.item ++ xs) (cells_joined (s.start + item_size s.item) ss mid rs end h.2 k))

  pub spots_joined : (at : ℕ) (ss : List Spot) (mid : ℕ) (rs : List Spot) (end : ℕ) → AreSpots size at ss mid → AreSpots size mid rs end
      → AreSpots size at (ss ++ rs) end
  spots_joined at [] mid [] end h k = omega arith
  spots_joined at [] mid (r ∷ rs) end h k = (let b = k.0 in omega arith, k.1, k.2)
  spots_joined at (s ∷ ss) mid rs end h k = (h.0, h.1, spots_joined (s.start + item_size s.item) ss mid rs end h.2 k)

  -- cells further on
  shift_sum : (a b n : ℕ) → a + n + b ≡ a + b + n
  shift_sum a b n = omega arith

  shift_gap : (a b n : ℕ) → (a + n) - (b + n) ≡ a - b
  shift_gap a b n = omega arith

  pub cells_shifted : (n at : ℕ) (ss : List Spot) (end : ℕ) → cells_from (at + n) (map (shifted n) ss) (end + n) ≡ cells_from at ss end
  cells_shifted n at [] end = ap (λ k. replicate k raw) (shift_gap end at n)
  cells_shifted n at (s ∷ ss) end =
      λ i. replicate (shift_gap s.start at n i) raw
      ++ (item_cells s.item ++ ((ap (λ k. cells_from k (map (shifted n) ss) (end + n)) (shift_sum s.start (item_size s.item) n)
      ∙ cells_shifted n (s.start + item_size s.item) ss end) i))

  pub spots_shifted : (n at : ℕ) (ss : List Spot) (end : ℕ) → AreSpots size at ss end → AreSpots size (at + n) (map (shifted n) ss) (end + n)
  spots_shifted n at [] end h = omega arith
  spots_shifted n at (s ∷ ss) end h = (
    let b = h.0 in omega arith,
    h.1,
    subst (λ k. AreSpots size k (map (shifted n) ss) (end + n)) (sym (shift_sum s.start (item_size s.item) n)) (spots_shifted n (s.start + item_size s.item) ss end h.2),
  )

  -- cells again and again
  more : (a n k : ℕ) → a + k + n * k ≡ a + suc n * k
  more a n k = grind arith

  zero_plus : (n : ℕ) → 0 + n ≡ n
  zero_plus n = omega arith

  from_zero : (n k : ℕ) → k + n ≡ n + k
  from_zero n k = omega arith

  pub moved_spots : (n at : ℕ) (ss : List Spot) → AreSpots size 0 ss n → AreSpots size at (map (shifted at) ss) (at + n)
  moved_spots n at ss h =
      subst (λ m. AreSpots size at (map (shifted at) ss) m) (from_zero at n)
      (subst (λ m. AreSpots size m (map (shifted at) ss) (n + at)) (zero_plus at) (spots_shifted at 0 ss n h))

  pub moved_cells : (n at : ℕ) (ss : List Spot) → cells_from at (map (shifted at) ss) (at + n) ≡ cells_from 0 ss n
  moved_cells n at ss =
      ap (λ m. cells_from at (map (shifted at) ss) m) (sym (from_zero at n))
      ∙ ap (λ m. cells_from m (map (shifted at) ss) (n + at)) (sym (zero_plus at))
      ∙ cells_shifted at 0 ss n

  pub spots_copied : (n k at : ℕ) (ss : List Spot) → AreSpots size 0 ss k → AreSpots size at (copies n k at ss) (at + n * k)
  spots_copied zero k at ss h = omega arith
  spots_copied (suc n) k at ss h =
      spots_joined at (map (shifted at) ss) (at + k) (copies n k (at + k) ss) (at + suc n * k) (moved_spots k at ss h)
      (subst (λ m. AreSpots size (at + k) (copies n k (at + k) ss) m) (more at n k) (spots_copied n k (at + k) ss h))

  pub cells_copied : (n k at : ℕ) (ss : List Spot) → AreSpots size 0 ss k → cells_from at (copies n k at ss) (at + n * k) ≡ repeat n (cells_from 0 ss k)
  cells_copied zero k at ss h = ap (λ m. replicate m raw) (nothing at k)
    where
      nothing : (a b : ℕ) → a + 0 * b - a ≡ 0
      nothing a b = omega arith
  cells_copied (suc n) k at ss h =
      let rest : AreSpots size (at + k) (copies n k (at + k) ss) (at + suc n * k) =
      subst (λ m. AreSpots size (at + k) (copies n k (at + k) ss) m) (more at n k) (spots_copied n k (at + k) ss h) in
      sym (cells_joined at (map (shifted at) ss) (at + k) (copies n k (at + k) ss) (at + suc n * k) (moved_spots k at ss h) rest)
      ∙ ap (λ xs. xs ++ cells_from (at + k) (copies n k (at + k) ss) (at + suc n * k)) (moved_cells k at ss)
      ∙ ap (λ xs. cells_from 0 ss k ++ xs)
      (ap (λ m. cells_from (at + k) (copies n k (at + k) ss) m) (sym (more at n k)) ∙ cells_copied n k (at + k) ss h)

  -- raw cells up to a later end
  pub cells_padded : (n m : ℕ) (ss : List Spot) → AreSpots size 0 ss n → n ≤ m → padded_to m (cells_from 0 ss n) ≡ cells_from 0 ss m
  cells_padded n m ss h l =
      ap (λ k. cells_from 0 ss n ++ replicate (m - k) raw) (length_all ss n h)
      ∙ cells_joined 0 ss n [] m h l
      ∙ ap (λ xs. cells_from 0 xs m) (append-nil ss)
