use Rattle.std.proofs.Common.{◌≡◌, ◌≢◌, ℕ, zero, suc, ◌+◌, ◌<◌, ◌≤◌, Bool, true, false, List, [], ◌∷◌, ◌++◌, length, get_or, set, take, drop, if◌then◌else◌, ◌==◌, refl, ap, sym, subst, ◌∙◌, inl, inr, arith}
use Rattle.std.specs.List.{All, Contains}
use Rattle.std.specs.Cmp.{IsEquivalence}
use Rattle.std.proofs.lemmas.Bool.{cases_lt}
use Rattle.std.proofs.lemmas.Bool.Decides.{Decides-eqb}
use Rattle.std.proofs.lemmas.Cmp.{on_equiv, nat_eq_equiv}
use Rattle.std.proofs.lemmas.List.{get_or-set_same, get_or-set_other, get_or_append_left, get_or_push, length_push, length-set, length-take-le, get_or-take, get_or_default}
use Rattle.std.proofs.lemmas.List.Elements.{Contains-get_or}
use Rattle.cc_base.specs.declared.number.TypeId.{TypeId}
use Rattle.c_types.specs.Table.{Table, IsType, parts_at}
use Rattle.c_types.specs.Cells.{Relation}
use Rattle.c_types.specs.Equality.{made_alike}
use Rattle.c_types.specs.Sound.{IsWellFormed}
use Rattle.type_laws.proofs.Relations.{made_alike_equiv}
use Rattle.phys_types.specs.declared.keeping.Repeated.{Repeated}
use Rattle.phys_types.specs.Numbers.{same_number, number_in}
use Rattle.phys_types.specs.Rounds.{IsOrder, AreShown, IsRound, first_place}
use Rattle.phys_types.specs.Shown.{IsKeptOf, IsLowKept, ArePartsKept, ArePartsShown}
use Rattle.phys_types.proofs.Kept.{kept_low}
use Rattle.phys_types.proofs.Unions.{same_answer}

-- A round, type by type.

-- ---- the first that passes

module _ {A : Type 0} where
  pub place_within : (p : A → Bool) (xs : List A) → first_place p xs ≤ length xs
  place_within p [] = omega arith
  place_within p (x ∷ xs) = by (p x) (place_within p xs)
    where
      by : (b : Bool) → first_place p xs ≤ length xs → (if b then 0 else suc (first_place p xs)) ≤ length (x ∷ xs)
      by true h = omega arith
      by false h = omega arith

  place_same : (p q : A → Bool) (xs : List A) → ((x : A) → p x ≡ q x) → first_place p xs ≡ first_place q xs
  place_same p q [] h = refl
  place_same p q (x ∷ xs) h = λ i. if h x i then 0 else suc (place_same p q xs h i)

  -- what is found there passes
  place_passes : (p : A → Bool) (xs : List A) (d : A) → first_place p xs < length xs → p (get_or xs (first_place p xs) d) ≡ true
  place_passes p [] d l = absurd (omega arith)
  place_passes p (x ∷ xs) d l = by (p x) refl l (place_passes p xs d)
    where
      by : (b : Bool) → p x ≡ b → (if b then 0 else suc (first_place p xs)) < length (x ∷ xs) → (first_place p xs < length xs → p (get_or xs (first_place p xs) d) ≡ true)
          → p (get_or (x ∷ xs) (if b then 0 else suc (first_place p xs)) d) ≡ true
      by true e k r = e
      by false e k r = r (omega arith)

  -- the front decides where the next one passes
  place_front : (p : A → Bool) (xs : List A) (i : ℕ) (d : A) → i < length xs → p (get_or xs i d) ≡ true → first_place p (take i xs) ≡ first_place p xs
  place_front p [] i d l e = absurd (omega arith)
  place_front p (x ∷ xs) zero d l e = λ i. if sym e i then 0 else suc (first_place p xs)
  place_front p (x ∷ xs) (suc i) d l e = ap (λ n. if p x then 0 else suc n) (place_front p xs i d (omega arith) e)

  place_below : (p : A → Bool) (xs : List A) (i : ℕ) (d : A) → i < length xs → p (get_or xs i d) ≡ true → first_place p xs < length xs
  place_below p [] i d l e = absurd (omega arith)
  place_below p (x ∷ xs) zero d l e = let h : first_place p (x ∷ xs) ≡ 0 = (λ i. if e i then 0 else suc (first_place p xs)) in omega arith
  place_below p (x ∷ xs) (suc i) d l e = by (p x) (place_below p xs i d (omega arith) e)
    where
      by : (b : Bool) → first_place p xs < length xs → (if b then 0 else suc (first_place p xs)) < length (x ∷ xs)
      by true h = omega arith
      by false h = omega arith

  pub place_here : (p : A → Bool) (xs : List A) (i : ℕ) (d : A) → i < length xs → p (get_or xs i d) ≡ true → first_place p (drop i xs) ≡ 0
  place_here p [] i d l e = absurd (omega arith)
  place_here p (x ∷ xs) zero d l e = λ i. if e i then 0 else suc (first_place p xs)
  place_here p (x ∷ xs) (suc i) d l e = place_here p xs i d (omega arith) e

  pub place_later : (p : A → Bool) (xs : List A) (i : ℕ) (d : A) → i < length xs → p (get_or xs i d) ≡ false → first_place p (drop i xs) ≡ suc (first_place p (drop (i + 1) xs))
  place_later p [] i d l e = absurd (omega arith)
  place_later p (x ∷ xs) zero d l e = λ i. if e i then 0 else suc (first_place p xs)
  place_later p (x ∷ xs) (suc i) d l e = place_later p xs i d (omega arith) e ∙ ap (λ n. suc (first_place p (drop n (x ∷ xs)))) (next i)
    where
      next : (i : ℕ) → suc (i + 1) ≡ suc i + 1
      next i = omega arith

  pub place_end : (p : A → Bool) (xs : List A) (i : ℕ) → length xs ≤ i → first_place p (drop i xs) ≡ 0
  place_end p [] zero l = refl
  place_end p [] (suc i) l = refl
  place_end p (x ∷ xs) zero l = absurd (omega arith)
  place_end p (x ∷ xs) (suc i) l = place_end p xs i (omega arith)

-- what is made like the same first one is made alike
pub place_tells : (R : TypeId → TypeId → Bool) → IsEquivalence R → (xs : List TypeId) (t u : TypeId) → Contains xs t → Contains xs u
    → (first_place (λ x. R x t) xs == first_place (λ x. R x u) xs) ≡ R t u
place_tells R q xs t u (i, a, e) (j, b, f) =
    same_answer (first_place (λ x. R x t) xs == first_place (λ x. R x u) xs) (R t u)
    (λ h.
    let k = (Decides-eqb (first_place (λ x. R x t) xs) (first_place (λ x. R x u) xs)).0 h in
    let l = place_below (λ x. R x t) xs i t a (ap (λ x. R x t) e ∙ q.refl t) in
    let c = place_passes (λ x. R x t) xs t l in
    let d = place_passes (λ x. R x u) xs t (omega arith) in
    sym (q.congr (get_or xs (first_place (λ x. R x t) xs) t) t u c) ∙ ap (λ n. R (get_or xs n t) u) k ∙ d)
    (λ h. (Decides-eqb (first_place (λ x. R x t) xs) (first_place (λ x. R x u) xs)).1
    (place_same (λ x. R x t) (λ x. R x u) xs (λ x. q.symm x t ∙ q.congr t u x h ∙ q.symm u x)))

-- one more of the first n
pub alike_here : (p : TypeId → Bool) (order : List TypeId) (n i r : ℕ) (d : TypeId) (b : Bool) → i < n → n ≤ length order
    → b ≡ p (get_or order i d) → b ≡ true → i + first_place p (drop i (take n order)) ≡ r → i ≡ r
alike_here p order n i r d b l m e f h =
    let g = get_or-take n order i d l in
    let z = place_here p (take n order) i d (let k = length-take-le n order m in omega arith) (ap p g ∙ sym e ∙ f) in omega arith

pub alike_later : (p : TypeId → Bool) (order : List TypeId) (n i r : ℕ) (d : TypeId) (b : Bool) → i < n → n ≤ length order
    → b ≡ p (get_or order i d) → b ≡ false → i + first_place p (drop i (take n order)) ≡ r → (i + 1) + first_place p (drop (i + 1) (take n order)) ≡ r
alike_later p order n i r d b l m e f h =
    let g = get_or-take n order i d l in
    let z = place_later p (take n order) i d (let k = length-take-le n order m in omega arith) (ap p g ∙ sym e ∙ f) in omega arith

-- ---- type by type

-- what the first i types have given
pub record RoundSoFar (table : Table) (E : Relation) (order : List TypeId) (i : ℕ) (numbers : List ℕ) (layouts : List Repeated) : Type 0 where
  pub fits : length numbers ≡ length table
  pub so_far : length layouts ≡ i
  pub shown : AreShown table E order layouts
  pub numbered : (k : ℕ) (d : TypeId) → k < i → get_or numbers (get_or order k d).0 0 ≡ first_place (λ u. made_alike table E u (get_or order k d)) order

module _ (table : Table) (w : IsWellFormed table) (order : List TypeId) (places : List ℕ) (o : IsOrder table order places) where
  -- two places of the order hold two types
  apart : (i k : ℕ) (d e : TypeId) → i < length order → k < i → (get_or order k e).0 ≢ (get_or order i d).0
  apart i k d e l m h =
      let a = o.placed i d l in let b = o.placed k e (omega arith) in
      let c : get_or places (get_or order k e).0 0 ≡ get_or places (get_or order i d).0 0 = ap (λ n. get_or places n 0) h in
      omega arith

  part_place : (i : ℕ) (d p : TypeId) → i < length order → Contains (parts_at table (get_or order i d)) p
      → (j : ℕ) × (j < i) × (get_or order j p ≡ p) × (get_or places p.0 0 ≡ j) × (p.0 < length places)
  part_place i d p l c =
      let k = o.parts i d p l c in
      let b : k.0 < i = (let n = length-take-le i order (omega arith) in omega (arith, k.1)) in
      let e : get_or order k.0 p ≡ p = sym (get_or-take i order k.0 p b) ∙ k.2 in (
        k.0,
        b,
        e,
        ap (λ (u : TypeId). get_or places u.0 0) (sym e) ∙ o.placed k.0 p (omega arith),
        (let t : IsType table p = subst (IsType table) e (o.types k.0 p (omega arith)) in let f = o.fits in omega arith),
      )

  pub parts_kept : (i : ℕ) (d : TypeId) (layouts : List Repeated) → i < length order → length layouts ≡ i → ArePartsKept table places layouts (get_or order i d)
  parts_kept i d layouts l e k f m =
      let c = part_place i d (get_or (parts_at table (get_or order i d)) k f) l (Contains-get_or (parts_at table (get_or order i d)) k f m) in
      (c.4, let n = c.3 in let b = c.1 in omega arith)

  pub parts_shown : (E : Relation) (i : ℕ) (d : TypeId) (layouts : List Repeated) → i < length order → length layouts ≡ i → AreShown table E order layouts
      → ArePartsShown table E places layouts (get_or order i d)
  parts_shown E i d layouts l e s p x c =
      let k = part_place i d p l c in
      subst (λ n. IsKeptOf table E p (get_or layouts n x)) (sym k.3)
      (subst (λ u. IsKeptOf table E u (get_or layouts k.0 x)) k.2 (s k.0 p x (let b = k.1 in omega arith)))

  pub all_low : (E : Relation) (layouts : List Repeated) → AreShown table E order layouts → All IsLowKept layouts
  all_low E layouts s i x l = kept_low table E (get_or order i (record { 0 = 0 })) w (get_or layouts i x) (s i (record { 0 = 0 }) x l)

  pub round_start : (E : Relation) (numbers : List ℕ) → length numbers ≡ length table → RoundSoFar table E order 0 numbers []
  round_start E numbers f = record {
    fits = f;
    so_far = refl;
    shown = λ i d x l. absurd (omega arith);
    numbered = λ k d l. absurd (omega arith);
  }

  pub round_more : (E : Relation) → IsEquivalence E → (i : ℕ) (d : TypeId) (numbers next : List ℕ) (layouts more : List Repeated) (layout : Repeated) (place : ℕ) → i < length order
      → place ≡ first_place (λ u. made_alike table E u (get_or order i d)) (take i order)
      → next ≡ set numbers (get_or order i d).0 place → more ≡ layouts ++ layout ∷ []
      → IsKeptOf table E (get_or order i d) layout → RoundSoFar table E order i numbers layouts → RoundSoFar table E order (i + 1) next more
  round_more E q i d numbers next layouts more layout place l p n m h s =
      let t : TypeId = get_or order i d in
      let own : made_alike table E (get_or order i d) (get_or order i d) ≡ true = (made_alike_equiv table q).refl (get_or order i d) in
      let here : place ≡ first_place (λ u. made_alike table E u (get_or order i d)) order = p ∙ place_front (λ u. made_alike table E u (get_or order i d)) order i d l own in
      let low : (get_or order i d).0 < length numbers = (let a = o.types i d l in let f = s.fits in omega arith) in
      record {
        fits = ap length n ∙ length-set numbers (get_or order i d).0 place ∙ s.fits;
        so_far = ap length m ∙ length_push layouts layout ∙ ap (λ k. k + 1) s.so_far;
        shown = λ k e x b. elim (cases_lt k i) [
          | inl c ↦
              subst (λ xs. IsKeptOf table E (get_or order k e) (get_or xs k x)) (sym m)
              (subst (IsKeptOf table E (get_or order k e)) (sym (get_or_append_left layouts (layout ∷ []) x k (let f = s.so_far in omega arith))) (s.shown k e x (let f = s.so_far in omega arith)))
          | inr c ↦
              let g : i ≡ k = (let z = ap length m ∙ length_push layouts layout in let f = s.so_far in omega arith) in
              subst (λ j. IsKeptOf table E (get_or order j e) (get_or more j x)) g
              (subst (λ u. IsKeptOf table E u (get_or more i x)) (get_or_default order i d e l)
              (subst (λ xs. IsKeptOf table E (get_or order i d) (get_or xs i x)) (sym m)
              (subst (IsKeptOf table E (get_or order i d)) (sym (get_or_push layouts layout x i s.so_far)) h)))
        ];
        numbered = λ k e b. elim (cases_lt k i) [
          | inl c ↦
              ap (λ xs. get_or xs (get_or order k e).0 0) n
              ∙ get_or-set_other numbers (get_or order i d).0 (get_or order k e).0 place 0 (apart i k d e l c)
              ∙ s.numbered k e c
          | inr c ↦
              let g : i ≡ k = omega arith in
              subst (λ j. get_or next (get_or order j e).0 0 ≡ first_place (λ u. made_alike table E u (get_or order j e)) order) g
              (subst (λ v. get_or next v.0 0 ≡ first_place (λ u. made_alike table E u v) order) (get_or_default order i d e l)
              (ap (λ xs. get_or xs (get_or order i d).0 0) n ∙ get_or-set_same numbers (get_or order i d).0 place 0 low ∙ here))
        ];
      }

  pub round_done : (E : Relation) (i : ℕ) (numbers : List ℕ) (layouts : List Repeated) → length order ≤ i → i ≤ length order → RoundSoFar table E order i numbers layouts → IsRound table E order numbers layouts
  round_done E i numbers layouts a b s = record {
    fits = s.fits;
    all = let f = s.so_far in omega arith;
    shown = s.shown;
    numbered = λ k d l. s.numbered k d (omega arith);
  }

  -- the numbers of a round tell apart what isn't made alike
  pub round_tells : (E : Relation) → IsEquivalence E → (numbers : List ℕ) (layouts : List Repeated) → IsRound table E order numbers layouts
      → (t u : TypeId) → Contains order t → Contains order u → same_number (number_in numbers) t u ≡ made_alike table E t u
  round_tells E q numbers layouts r t u (i, a, e) (j, b, f) =
      same_answer (same_number (number_in numbers) t u) (made_alike table E t u)
      (λ h.
      let k : first_place (λ x. made_alike table E x t) order ≡ first_place (λ x. made_alike table E x u) order =
      sym (number_is i t a e) ∙ (Decides-eqb (number_in numbers t) (number_in numbers u)).0 h ∙ number_is j u b f in
      let l = place_below (λ x. made_alike table E x t) order i t a (ap (λ x. made_alike table E x t) e ∙ q2.refl t) in
      let c = place_passes (λ x. made_alike table E x t) order t l in
      let d = place_passes (λ x. made_alike table E x u) order t (omega arith) in
      sym (q2.congr (get_or order (first_place (λ x. made_alike table E x t) order) t) t u c)
      ∙ ap (λ n. made_alike table E (get_or order n t) u) k ∙ d)
      (λ h. (Decides-eqb (number_in numbers t) (number_in numbers u)).1 (number_is i t a e
      ∙ place_same (λ x. made_alike table E x t) (λ x. made_alike table E x u) order (λ x. q2.symm x t ∙ q2.congr t u x h ∙ q2.symm u x)
      ∙ sym (number_is j u b f)))
    where
      q2 : IsEquivalence (made_alike table E)
      q2 = made_alike_equiv table q

      number_is : (n : ℕ) (v : TypeId) → n < length order → get_or order n v ≡ v → number_in numbers v ≡ first_place (λ x. made_alike table E x v) order
      number_is n v l g = subst (λ z. number_in numbers z ≡ first_place (λ x. made_alike table E x z) order) g (r.numbered n v l)

pub number_equiv : (number : TypeId → ℕ) → IsEquivalence (same_number number)
number_equiv number = on_equiv number nat_eq_equiv
