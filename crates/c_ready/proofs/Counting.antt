-- How often a node stands in a list; nodes that are numbered stand there once.
use Rattle.std.specs.List.{range_with_len}
use Rattle.std.proofs.Common.{◌≡◌, ℕ, zero, suc, ◌<◌, ◌+◌, ◌≤◌, ◌==◌, Bool, true, false, List, [], ◌∷◌, ◌++◌, map, length, refl, ap, arith, if◌then◌else◌}
use Rattle.std.proofs.lemmas.Bool.Decides.{nat_tests}
use Rattle.cc_base.specs.declared.number.NodeId.{NodeId}
use Rattle.c_ready.proofs.Basics.{eq_from}

unfoldable pub one : ℕ → NodeId → ℕ
one n m = if m.0 == n then 1 else 0

pub one-self : (m : NodeId) → one m.0 m ≡ 1
unfolding one
one-self m = ap (λ (b : Bool). if b then 1 else 0) (self m.0)
  where
    self : (n : ℕ) → (n == n) ≡ true
    self n = grind (arith, nat_tests)

abbrev pub count : ℕ → List NodeId → ℕ
count n [] = 0
count n (m ∷ ms) = one n m + count n ms

pub count-append : (n : ℕ) (xs ys : List NodeId) → count n (xs ++ ys) ≡ count n xs + count n ys
count-append n [] ys = omega arith
count-append n (x ∷ xs) ys = let r = count-append n xs ys in omega (arith, r)

once : (n a c : ℕ) (m : NodeId) (b : Bool) → (m.0 == n) ≡ b → m.0 ≡ a → (n < a + 1 → c ≡ 0) → c ≤ 1 → (n < a → one n m + c ≡ 0) × (one n m + c ≤ 1)
unfolding one
once n a c m true q first none most =
    let e = eq_from m.0 n q in
    let z = none (omega (arith, e, first)) in
    let o : one n m ≡ 1 = ap (λ (b : Bool). if b then 1 else 0) q in
    ((λ less. absurd (omega (arith, e, first, less))), omega (arith, z, o))
once n a c m false q first none most =
    let o : one n m ≡ 0 = ap (λ (b : Bool). if b then 1 else 0) q in
    ((λ less. let z = none (omega (arith, less)) in omega (arith, z, o)), omega (arith, o, most))

pub range-once : (n a k : ℕ) → (nodes : List NodeId) → map (λ (m : NodeId). m.0) nodes ≡ range_with_len a k
    → (n < a → count n nodes ≡ 0) × (count n nodes ≤ 1)
range-once n a k [] h = ((λ q. refl), omega arith)
range-once n a zero (m ∷ ms) h = let l = ap (λ (xs : List ℕ). length xs) h in absurd (omega (arith, l))
range-once n a (suc k) (m ∷ ms) h =
    let r = range-once n (a + 1) k ms (tails (map (λ (x : NodeId). x.0) ms) (range_with_len (a + 1) k) m.0 a h) in
    once n a (count n ms) m (m.0 == n) refl (heads (map (λ (x : NodeId). x.0) ms) (range_with_len (a + 1) k) m.0 a h) r.0 r.1
  where
    heads : (xs ys : List ℕ) (x y : ℕ) → x ∷ xs ≡ y ∷ ys → x ≡ y
    heads xs ys x y e = cc

    tails : (xs ys : List ℕ) (x y : ℕ) → x ∷ xs ≡ y ∷ ys → xs ≡ ys
    tails xs ys x y e = cc
