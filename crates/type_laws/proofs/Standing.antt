-- Relations on the types of a table that are taken away step by step, and stand still after as many steps as there are pairs.
use Rattle.std.proofs.Common.{◌≡◌, ℕ, zero, suc, ◌+◌, ◌*◌, ◌-◌, ◌/◌, ◌%◌, ◌<◌, ◌≤◌, Bool, true, false, ◌&&◌, cond, List, [], ◌∷◌, length, nat_lt, refl, ap, sym, subst, ◌∙◌, inl, inr, ◌⊎◌, true≢false, arith}
use Rattle.std.specs.List.{Contains, count_by, range_with_len}
use Rattle.std.proofs.lemmas.Bool.{cases_lt, ltb-true}
use Rattle.std.proofs.lemmas.Nat.{div-mul-add}
use Rattle.std.proofs.Math.Nat.{mul-add-mod_self_right}
use Rattle.std.proofs.lemmas.List.FromFn.{get_or-range_with_len}
use Rattle.std.proofs.lemmas.List.Sums.{sum_by-cons, count_by-le-length}
use native.Mathlib.Nat.{mod-eq_of_lt}
use Rattle.cc_base.specs.declared.number.TypeId.{TypeId}
use Rattle.c_types.specs.Cells.{Relation}

-- Counting

module _ (p q : ℕ → Bool) (sub : (i : ℕ) → p i ≡ true → q i ≡ true) where
  one : Bool → ℕ
  one b = cond b 1 0

  count_less : (is : List ℕ) → count_by p is ≤ count_by q is
  count_less [] = omega arith
  count_less (i ∷ is) = by (p i) (q i) refl refl (count_less is)
    where
      by : (a b : Bool) → p i ≡ a → q i ≡ b → count_by p is ≤ count_by q is → count_by p (i ∷ is) ≤ count_by q (i ∷ is)
      by true true x y h =
          let e = sum_by-cons (λ j. cond (p j) 1 0) i is ∙ ap (λ b. cond {A = ℕ} b 1 0 + count_by p is) x in
          let f = sum_by-cons (λ j. cond (q j) 1 0) i is ∙ ap (λ b. cond {A = ℕ} b 1 0 + count_by q is) y in omega arith
      by false true x y h =
          let e = sum_by-cons (λ j. cond (p j) 1 0) i is ∙ ap (λ b. cond {A = ℕ} b 1 0 + count_by p is) x in
          let f = sum_by-cons (λ j. cond (q j) 1 0) i is ∙ ap (λ b. cond {A = ℕ} b 1 0 + count_by q is) y in omega arith
      by false false x y h =
          let e = sum_by-cons (λ j. cond (p j) 1 0) i is ∙ ap (λ b. cond {A = ℕ} b 1 0 + count_by p is) x in
          let f = sum_by-cons (λ j. cond (q j) 1 0) i is ∙ ap (λ b. cond {A = ℕ} b 1 0 + count_by q is) y in omega arith
      by true false x y h = absurd (true≢false (sym (sub i x) ∙ y))

  -- as many means the same ones
  count_same : (is : List ℕ) → count_by q is ≤ count_by p is → (k : ℕ) → Contains is k → p k ≡ q k
  count_same [] h k c = absurd (omega (arith, c.1))
  count_same (i ∷ is) h k c = by (p i) (q i) refl refl (λ g. count_same is g k) (count_less is)
    where
      at : p i ≡ q i → ((count_by q is ≤ count_by p is) → Contains is k → p k ≡ q k) → (count_by q is ≤ count_by p is) → p k ≡ q k
      at e rest g = place c
        where
          place : Contains (i ∷ is) k → p k ≡ q k
          place (zero, l, s) = subst (λ j. p j ≡ q j) s e
          place (suc n, l, s) = rest g (n, omega arith, s)

      by : (a b : Bool) → p i ≡ a → q i ≡ b → ((count_by q is ≤ count_by p is) → Contains is k → p k ≡ q k) → count_by p is ≤ count_by q is → p k ≡ q k
      by true true x y rest l =
          let e = sum_by-cons (λ j. cond (p j) 1 0) i is ∙ ap (λ b. cond {A = ℕ} b 1 0 + count_by p is) x in
          let f = sum_by-cons (λ j. cond (q j) 1 0) i is ∙ ap (λ b. cond {A = ℕ} b 1 0 + count_by q is) y in
          at (x ∙ sym y) rest (omega arith)
      by false false x y rest l =
          let e = sum_by-cons (λ j. cond (p j) 1 0) i is ∙ ap (λ b. cond {A = ℕ} b 1 0 + count_by p is) x in
          let f = sum_by-cons (λ j. cond (q j) 1 0) i is ∙ ap (λ b. cond {A = ℕ} b 1 0 + count_by q is) y in
          at (x ∙ sym y) rest (omega arith)
      by false true x y rest l =
          let e = sum_by-cons (λ j. cond (p j) 1 0) i is ∙ ap (λ b. cond {A = ℕ} b 1 0 + count_by p is) x in
          let f = sum_by-cons (λ j. cond (q j) 1 0) i is ∙ ap (λ b. cond {A = ℕ} b 1 0 + count_by q is) y in
          absurd (omega arith)
      by true false x y rest l = absurd (true≢false (sym (sub i x) ∙ y))

length_range : (a n : ℕ) → length (range_with_len a n) ≡ n
length_range a zero = refl
length_range a (suc n) = ap suc (length_range (a + 1) n)

in_range : (n i : ℕ) → i < n → Contains (range_with_len 0 n) i
in_range n i b = (i, subst (λ k. i < k) (sym (length_range 0 n)) b, get_or-range_with_len 0 n i i b ∙ omega arith)

-- the levels of a relation: each is a step from the one before, and within it; of what isn't among the first n types no step takes
-- anything away
pub record AreLevels (n : ℕ) (step : Relation → Relation) (level : ℕ → Relation) : Type 0 where
  pub next : (k : ℕ) → level (suc k) ≡ step (level k)
  pub falls : (k : ℕ) (t u : TypeId) → level (suc k) t u ≡ true → level k t u ≡ true
  pub outside : (k : ℕ) (t u : TypeId) → (nat_lt t.0 n && nat_lt u.0 n) ≡ false → level (suc k) t u ≡ level k t u

module _ (n : ℕ) (step : Relation → Relation) (level : ℕ → Relation) (is : AreLevels n step level) where
  -- pair number i is (i / n, i % n)
  pair : Relation → ℕ → Bool
  pair E i = E (record { 0 = i / n }) (record { 0 = i % n })

  pairs : ℕ → ℕ
  pairs k = count_by (pair (level k)) (range_with_len 0 (n * n))

  fewer : (k i : ℕ) → pair (level (suc k)) i ≡ true → pair (level k) i ≡ true
  unfolding pair
  fewer k i = is.falls k (record { 0 = i / n }) (record { 0 = i % n })

  pair_at : (E : Relation) (t u : TypeId) → u.0 < n → pair E (t.0 * n + u.0) ≡ E t u
  unfolding pair
  pair_at E t u b = λ i. E (record { 0 = div-mul-add t.0 n u.0 b i }) (record { 0 = (mul-add-mod_self_right t.0 n u.0 ∙ mod-eq_of_lt b) i })

  pair_number : (t u : ℕ) → t < n → u < n → t * n + u < n * n
  pair_number t u a b = grind arith

  -- where no pair is lost, the two levels are the same
  same_level : (k : ℕ) → pairs k ≤ pairs (suc k) → (t u : TypeId) → level (suc k) t u ≡ level k t u
  unfolding pairs
  same_level k h t u = by (nat_lt t.0 n) (nat_lt u.0 n) refl refl
    where
      by : (a b : Bool) → nat_lt t.0 n ≡ a → nat_lt u.0 n ≡ b → level (suc k) t u ≡ level k t u
      by true true x y =
          let c = ltb-true t.0 n x in let d = ltb-true u.0 n y in
          sym (pair_at (level (suc k)) t u d)
          ∙ count_same (pair (level (suc k))) (pair (level k)) (fewer k) (range_with_len 0 (n * n)) h
          (t.0 * n + u.0) (in_range (n * n) (t.0 * n + u.0) (pair_number t.0 u.0 c d))
          ∙ pair_at (level k) t u d
      by true false x y = is.outside k t u (λ i. x i && y i)
      by false true x y = is.outside k t u (λ i. x i && y i)
      by false false x y = is.outside k t u (λ i. x i && y i)

  same_function : (k : ℕ) → pairs k ≤ pairs (suc k) → level (suc k) ≡ level k
  same_function k h = λ i. λ t. λ u. same_level k h t u i

  drop : (k : ℕ) → ((j : ℕ) × (j ≤ k) × (level (suc j) ≡ level j)) ⊎ (pairs k + k ≤ n * n)
  unfolding pairs
  drop zero =
      inr (let c = count_by-le-length (pair (level zero)) (range_with_len 0 (n * n)) in
      let l = length_range 0 (n * n) in omega arith)
  drop (suc k) = elim (drop k) [
    | inl s ↦ inl (s.0, omega (arith, s.1), s.2)
    | inr h ↦ elim (cases_lt (pairs (suc k)) (pairs k)) [
      | inl l ↦ inr (omega arith)
      | inr g ↦ inl (k, omega arith, same_function k g)
    ]
  ]

  stays : (j : ℕ) → level (suc j) ≡ level j → (m : ℕ) → level (m + j) ≡ level j
  stays j e zero = ap level (omega arith)
  stays j e (suc m) = ap level (suc_plus m j) ∙ is.next (m + j) ∙ ap step (stays j e m) ∙ sym (is.next j) ∙ e
    where
      suc_plus : (a b : ℕ) → suc a + b ≡ suc (a + b)
      suc_plus a b = omega arith

  -- a level up to the square where the next is the same
  found : (j : ℕ) × (j ≤ n * n) × (level (suc j) ≡ level j)
  found = elim (drop (n * n)) [
    | inl s ↦ s
    | inr h ↦ elim (cases_lt (pairs (suc (n * n))) (pairs (n * n))) [
      | inl l ↦ absurd (omega arith)
      | inr g ↦ (n * n, omega arith, same_function (n * n) g)
    ]
  ]

  from_found : (k : ℕ) → found.0 ≤ k → level k ≡ level found.0
  from_found k h = ap level (split k found.0 h) ∙ stays found.0 found.2 (k - found.0)
    where
      split : (a b : ℕ) → b ≤ a → a ≡ (a - b) + b
      split a b l = omega arith

  -- from the square on the levels are the same
  pub stand : (k : ℕ) → n * n ≤ k → level k ≡ level (n * n)
  stand k h = from_found k (let b = found.1 in omega arith) ∙ sym (from_found (n * n) found.1)
