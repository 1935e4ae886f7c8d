-- Layouts of copies of the same part begin with one another.
use Rattle.std.proofs.Common.{◌≡◌, ℕ, zero, suc, ◌+◌, ◌*◌, ◌≤◌, true, ◌&&◌, ◌==◌, List, [], ◌∷◌, ◌++◌, map, nat_le, refl, ap, sym, subst, ◌∙◌, true≢false, arith}
use Rattle.std.proofs.Math.Nat.{mul-le-mul_right}
use Rattle.std.proofs.lemmas.Bool.{le-leb}
use Rattle.std.proofs.lemmas.Bool.Decides.{Decides-eqb}
use Rattle.cc_base.specs.declared.number.TypeId.{TypeId}
use Rattle.c_types.proofs.Shapes.{first_true, second_true}
use Rattle.phys_types.specs.declared.keeping.Repeated.{Repeated}
use Rattle.phys_types.specs.declared.spot.Layout.{Layout}
use Rattle.phys_types.specs.declared.spot.Spot.{Spot}
use Rattle.phys_types.specs.Spots.{shifted, copies}
use Rattle.phys_types.specs.Numbers.{same_item, same_spot, same_spots, start_from, begin_with_spots}
use Rattle.phys_types.specs.Shown.{all_size, all_spots, begins_spots}
use Rattle.phys_types.proofs.Fronts.{both_true}

module _ (number : TypeId → ℕ) where
  moved_same : (at : ℕ) (s r : Spot) → same_spot number s r ≡ true → same_spot number (shifted at s) (shifted at r) ≡ true
  moved_same at s r h =
      both_true (s.start + at == r.start + at) (same_item number s.item r.item)
      ((Decides-eqb (s.start + at) (r.start + at)).1 (ap (λ n. n + at) ((Decides-eqb s.start r.start).0 (first_true (s.start == r.start) _ h))))
      (second_true (s.start == r.start) _ h)

  joined_begin : (at n : ℕ) (ps qs xs ys : List Spot) → same_spots number ps qs ≡ true → begin_with_spots number n xs ys ≡ true
      → begin_with_spots number n (map (shifted at) ps ++ xs) (map (shifted at) qs ++ ys) ≡ true
  joined_begin at n [] [] xs ys h k = k
  joined_begin at n [] (q ∷ qs) xs ys h k = absurd (true≢false (sym h))
  joined_begin at n (p ∷ ps) [] xs ys h k = absurd (true≢false (sym h))
  joined_begin at n (p ∷ ps) (q ∷ qs) xs ys h k =
      both_true (same_spot number (shifted at p) (shifted at q)) _
      (moved_same at p q (first_true (same_spot number p q) _ h))
      (joined_begin at n ps qs xs ys (second_true (same_spot number p q) _ h) k)

  joined_same : (at : ℕ) (ps qs xs ys : List Spot) → same_spots number ps qs ≡ true → same_spots number xs ys ≡ true
      → same_spots number (map (shifted at) ps ++ xs) (map (shifted at) qs ++ ys) ≡ true
  joined_same at [] [] xs ys h k = k
  joined_same at [] (q ∷ qs) xs ys h k = absurd (true≢false (sym h))
  joined_same at (p ∷ ps) [] xs ys h k = absurd (true≢false (sym h))
  joined_same at (p ∷ ps) (q ∷ qs) xs ys h k =
      both_true (same_spot number (shifted at p) (shifted at q)) _
      (moved_same at p q (first_true (same_spot number p q) _ h))
      (joined_same at ps qs xs ys (second_true (same_spot number p q) _ h) k)

  copies_same : (n size at : ℕ) (ps qs : List Spot) → same_spots number ps qs ≡ true → same_spots number (copies n size at ps) (copies n size at qs) ≡ true
  copies_same zero size at ps qs h = refl
  copies_same (suc n) size at ps qs h = joined_same at ps qs _ _ h (copies_same n size (at + size) ps qs h)

  pub same_by_part : (x y : Repeated) → x.part.size ≡ y.part.size → x.count ≡ y.count → same_spots number x.part.spots.items y.part.spots.items ≡ true
      → (all_size x ≡ all_size y) × (same_spots number (all_spots x) (all_spots y) ≡ true)
  same_by_part x y e f h = (
    (λ i. f i * e i),
    (λ i. same_spots number (copies (f i) (e i) 0 x.part.spots.items) (all_spots y)) ∙ copies_same y.count y.part.size 0 x.part.spots.items y.part.spots.items h,
  )

  copies_start : (n size at from : ℕ) (ss : List Spot) → from ≤ at → start_from from (copies n size at ss) ≡ true
  copies_start zero size at from ss h = refl
  copies_start (suc n) size at from [] h = copies_start n size (at + size) from [] (omega arith)
  copies_start (suc n) size at from (s ∷ ss) h = le-leb from (s.start + at) (omega arith)

  copies_begin : (m n size at : ℕ) (ps qs : List Spot) → m ≤ n → same_spots number ps qs ≡ true
      → begin_with_spots number (at + m * size) (copies n size at ps) (copies m size at qs) ≡ true
  copies_begin zero n size at ps qs l h = copies_start n size at (at + 0 * size) ps (omega arith)
  copies_begin (suc m) zero size at ps qs l h = absurd (omega arith)
  copies_begin (suc m) (suc n) size at ps qs l h =
      subst (λ k. begin_with_spots number k (copies (suc n) size at ps) (copies (suc m) size at qs) ≡ true) (next at size m)
      (joined_begin at (at + size + m * size) ps qs _ _ h (copies_begin m n size (at + size) ps qs (omega arith) h))
    where
      next : (a s m : ℕ) → a + s + m * s ≡ a + suc m * s
      next a s m = grind arith

  pub begins_by_part : (x y : Repeated) → x.part.size ≡ y.part.size → y.count ≤ x.count → same_spots number x.part.spots.items y.part.spots.items ≡ true
      → (nat_le (all_size y) (all_size x) && begin_with_spots number (all_size y) (all_spots x) (all_spots y)) ≡ true
  begins_by_part x y e l h =
      both_true (nat_le (all_size y) (all_size x)) _
      (le-leb (all_size y) (all_size x) (subst (λ n. all_size y ≤ x.count * n) (sym e) (mul-le-mul_right y.part.size l)))
      (subst (λ n. begin_with_spots number n (all_spots x) (all_spots y) ≡ true) (none (all_size y))
      (subst (λ n. begin_with_spots number (0 + y.count * y.part.size) (copies x.count n 0 x.part.spots.items) (all_spots y) ≡ true) (sym e)
      (copies_begin y.count x.count y.part.size 0 x.part.spots.items y.part.spots.items l h)))
    where
      none : (n : ℕ) → 0 + n ≡ n
      none n = omega arith

  -- of layouts that are all the copies
  pub whole_begins : (x y : Repeated) (v z : Layout) → all_spots x ≡ v.spots.items → v.size ≡ all_size x → all_spots y ≡ z.spots.items → z.size ≡ all_size y
      → (nat_le (all_size y) (all_size x) && begin_with_spots number (all_size y) (all_spots x) (all_spots y)) ≡ true → begins_spots number v z ≡ true
  whole_begins x y v z a b c d h =
      (λ i. nat_le (d i) (b i) && begin_with_spots number (d i) (sym a i) (sym c i)) ∙ h
