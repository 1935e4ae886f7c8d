-- The pointers of copies of a layout are those of one copy, in turn.
use Rattle.std.proofs.Common.{◌≡◌, ℕ, zero, suc, ◌+◌, ◌-◌, ◌*◌, ◌%◌, ◌<◌, ◌≤◌, ◌⊎◌, inl, inr, List, [], ◌∷◌, length, min, get_or, map, slice_get, Some, None, refl, ap, sym, subst, ◌∙◌, arith}
use Rattle.std.proofs.Math.Nat.{mod-mod_of_dvd}
use Rattle.std.proofs.lemmas.Nat.{mod_below}
use Rattle.std.proofs.lemmas.Nat.Gcd.{dvd_of_mod-eq-zero}
use Rattle.std.proofs.lemmas.List.{length-append, length-map}
use Rattle.std.proofs.lemmas.Option.{slice_get_within, slice_get-get_or}
use native.Mathlib.Nat.{mod-eq_of_lt}
use Rattle.cc_base.specs.declared.number.TypeId.{TypeId}
use Rattle.c_types.specs.Table.{Table}
use Rattle.c_types.specs.Layouts.{size_of}
use Rattle.c_types.specs.Cells.{Relation}
use Rattle.c_types.specs.Flows.{HeldPointer}
use Rattle.c_types.specs.Sound.{IsWellFormed}
use Rattle.phys_types.specs.declared.keeping.Repeated.{Repeated}
use Rattle.phys_types.specs.declared.spot.Layout.{Layout}
use Rattle.phys_types.specs.declared.spot.Spot.{Spot}
use Rattle.phys_types.specs.Found.{Pairs, Gains}
use Rattle.phys_types.specs.Spots.{item_size, AreSpots, shifted, copies}
use Rattle.phys_types.specs.Shown.{IsLayoutOf, IsKeptOf, all_size, all_spots}
use Rattle.phys_types.specs.Standing.{pointer_of_item, IsAtSpot, StandInTurn, StandBefore}
use Rattle.phys_types.specs.InTurn.{IsInTurn, IsTurn}
use Rattle.phys_types.proofs.Columns.{append_at, less_mod}
use Rattle.phys_types.proofs.FoundLemmas.{gains_as, gains_nothing}
use Rattle.phys_types.proofs.Kept.{kept_spots, kept_low}
use Rattle.phys_types.proofs.Repeating.{item_positive}

no_spot : (s : Spot) → None ≡ Some s → ⊥
no_spot s h = cc

same_there : (s r : Spot) → Some s ≡ Some r → s ≡ r
same_there s r h = cc

-- ---- the spots of copies

pub length_copies : (n g at : ℕ) (ss : List Spot) → length (copies n g at ss) ≡ n * length ss
length_copies zero g at ss = none (length ss)
  where
    none : (a : ℕ) → 0 ≡ 0 * a
    none a = omega arith
length_copies (suc n) g at ss =
    length-append (map (shifted at) ss) (copies n g (at + g) ss)
    ∙ (λ i. length-map ss (shifted at) i + length_copies n g (at + g) ss i) ∙ next (length ss) n
  where
    next : (a n : ℕ) → a + n * a ≡ suc n * a
    next a n = grind arith

shifted_item : (n : ℕ) (ss : List Spot) (i : ℕ) (s : Spot) → slice_get (map (shifted n) ss) i ≡ Some s → (f : Spot) × (slice_get ss i ≡ Some f) × (f.item ≡ s.item)
shifted_item n [] i s h = absurd (no_spot s h)
shifted_item n (x ∷ ss) zero s h = (x, refl, ap (λ (z : Spot). z.item) (same_there (shifted n x) s h))
shifted_item n (x ∷ ss) (suc i) s h = shifted_item n ss i s h

-- a spot of the copies has the item of one of the first copy
copied_item : (n g at : ℕ) (first : List Spot) (i : ℕ) (s : Spot) → slice_get (copies n g at first) i ≡ Some s
    → (f : Spot) × (slice_get first (i % length first) ≡ Some f) × (f.item ≡ s.item)
copied_item zero g at first i s h = absurd (no_spot s h)
copied_item (suc n) g at first i s h = elim (append_at (map (shifted at) first) (copies n g (at + g) first) i s h) [
  | inl a ↦
      let l = length-map first (shifted at) in
      let b : i < length first = (let c = a.0 in omega arith) in
      let r = shifted_item at first i s a.1 in
      (r.0, ap (slice_get first) (mod-eq_of_lt b) ∙ r.1, r.2)
  | inr a ↦
      let l = length-map first (shifted at) in
      let b : length first ≤ i = (let c = a.0 in omega arith) in
      let r = copied_item n g (at + g) first (i - length first) s (ap (λ k. slice_get (copies n g (at + g) first) (i - k)) (sym l) ∙ a.1) in
      (r.0, ap (slice_get first) (sym (less_mod (length first) i b)) ∙ r.1, r.2)
]

module _ (n g : ℕ) (first : List Spot) where
  pub in_turn : (i : ℕ) (p : HeldPointer) → IsAtSpot (copies n g 0 first) i p → (i < n * length first) × IsInTurn first i p
  in_turn i p (s, a, b) =
      let l = length_copies n g 0 first in let c = slice_get_within (copies n g 0 first) i s a in
      let f = copied_item n g 0 first i s a in
      ((omega arith), (f.0, f.1, ap pointer_of_item f.2 ∙ b))

  pub in_copies : (i : ℕ) (p : HeldPointer) → i < n * length first → IsInTurn first i p → IsAtSpot (copies n g 0 first) i p
  in_copies i p l (r, a, b) =
      let z = length_copies n g 0 first in
      let m : i < length (copies n g 0 first) = omega arith in
      let s : Spot = get_or (copies n g 0 first) i r in
      let e : slice_get (copies n g 0 first) i ≡ Some s = slice_get-get_or (copies n g 0 first) i r m in
      let f = copied_item n g 0 first i s e in
      (s, e, ap pointer_of_item (sym f.2 ∙ ap (λ (v : Spot). v.item) (same_there f.0 r (sym f.1 ∙ a))) ∙ b)

-- ---- pairs

-- one turn further on stands the same
turned_back : (first : List Spot) (n i : ℕ) (p : HeldPointer) → n % length first ≡ 0 → IsInTurn first i p → IsInTurn first (i % n) p
turned_back first n i p e (s, a, b) =
    (s, ap (slice_get first) (mod-mod_of_dvd (length first) i (dvd_of_mod-eq-zero (length first) e)) ∙ a, b)

module _ (m g : ℕ) (xs : List Spot) (n h : ℕ) (ys : List Spot) where
  abbrev InBoth : HeldPointer → HeldPointer → Type 0
  InBoth = StandInTurn (IsAtSpot (copies m g 0 xs)) (IsAtSpot (copies n h 0 ys))

  pub turns_alike : (c k l : ℕ) (a b : Pairs) → k ≡ m * length xs → l ≡ n * length ys → c ≤ k → c ≤ l
      → (c ≡ min k l) ⊎ IsTurn (length xs) (length ys) c → Gains (StandBefore c (IsInTurn xs) (IsInTurn ys)) a b → Gains InBoth a b
  turns_alike c k l a b e f d d' t z =
      gains_as (StandBefore c (IsInTurn xs) (IsInTurn ys)) InBoth a b
      (λ p q s.
      let v = s.1 in
      (s.0, in_copies m g xs s.0 p (omega arith) s.2, in_copies n h ys s.0 q (omega arith) s.3))
      (λ p q s.
      let u = in_turn m g xs s.0 p s.1 in let v = in_turn n h ys s.0 q s.2 in
      elim t [
        | inl w ↦ (s.0, (let u0 = u.0 in let v0 = v.0 in omega arith), u.1, v.1)
        | inr w ↦ (s.0 % c, mod_below s.0 c w.0, turned_back xs c s.0 p w.1 u.1, turned_back ys c s.0 q w.2 v.1)
      ])
      z

  -- of lists of these lengths
  pub turn_of : (c k l a b : ℕ) → k ≡ length xs → l ≡ length ys → (c ≡ min a b) ⊎ IsTurn k l c → (c ≡ min a b) ⊎ IsTurn (length xs) (length ys) c
  turn_of c k l a b e f t = subst (λ i. (c ≡ min a b) ⊎ IsTurn (length xs) i c) f (subst (λ i. (c ≡ min a b) ⊎ IsTurn i l c) e t)

  -- where one has no spots, there are none
  pub none_alike : (a : Pairs) → (length xs ≡ 0) ⊎ (length ys ≡ 0) → Gains InBoth a a
  none_alike a e = gains_nothing InBoth a (λ p q s.
      let u = (in_turn m g xs s.0 p s.1).0 in let v = (in_turn n h ys s.0 q s.2).0 in
      elim e [
        | inl w ↦ nothing s.0 m (length xs) w u
        | inr w ↦ nothing s.0 n (length ys) w v
      ])
    where
      nothing : (i a b : ℕ) → b ≡ 0 → i < a * b → ⊥
      nothing i a b w l = let z : a * b ≡ a * 0 = ap (λ (c : ℕ). a * c) w in omega arith

-- ---- a layout of all copies

length_within : (size : TypeId → ℕ) (ss : List Spot) (at end : ℕ) → AreSpots size at ss end → at + length ss ≤ end
length_within size [] at end h = omega arith
length_within size (s ∷ ss) at end h =
    let l = length_within size ss (s.start + item_size s.item) end h.2 in let p = item_positive size s.item h.1 in let b = h.0 in omega arith

module _ (table : Table) (w : IsWellFormed table) (E : Relation) (t : TypeId) (k : Repeated) (h : IsKeptOf table E t k) where
  all_few : length (all_spots k) ≤ 1048576
  all_few =
      let l = length_within (size_of table) (all_spots k) 0 (all_size k) (kept_spots table E t k h) in
      let m = (kept_low table E t w k h).1 in omega arith

  pub kept_few : k.count * length k.part.spots.items ≤ 1048576
  kept_few = let l = length_copies k.count k.part.size 0 k.part.spots.items in let m = all_few in omega arith

  pub kept_whole : (x : Layout) × (all_spots k ≡ x.spots.items) × (x.size ≡ all_size k) × (x.holds ≡ k.part.holds) × IsLayoutOf table E t x
  kept_whole =
      let v = k.part.spots in
      let f = all_few in (
        record {
          size = all_size k;
          spots = record {
            ptr = v.ptr;
            len = length (all_spots k);
            cap = length (all_spots k);
            alloc = v.alloc;
            items = all_spots k;
            ok = (refl, omega arith);
            small = omega arith;
          };
          holds = k.part.holds;
        },
        refl,
        refl,
        refl,
        record { spots = kept_spots table E t k h; cells = h.cells; holds = h.holds },
      )
