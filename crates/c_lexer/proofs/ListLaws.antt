-- Fronts of lists, and the first element that passes a test.
use Rattle.std.proofs.Common.{◌≡◌, ℕ, Bool, true, false, cond, List, [], ◌∷◌, ◌++◌, length, Some, None, refl, sym, ◌∙◌, subst}
use Rattle.std.specs.Prelude.{find, nat_eq, drop, bytes_eq}
use Rattle.std.specs.List.{list_all, starts_with}
use Rattle.std.proofs.lemmas.Bool.{and_parts, false≢true}
use Rattle.std.proofs.lemmas.Bool.Decides.{Decides-eqb}
use Rattle.std.proofs.lemmas.Slice.Eq.{starts_is, bytes_eq-Decides}

-- Two fronts of one list: they are equal, or one goes on where the other ends.

pub data Fronts (xs ys us vs : List ℕ) : Type 0 where
  equal : xs ≡ ys → us ≡ vs → Fronts xs ys us vs
  first_shorter : (c : ℕ) (more : List ℕ) → ys ≡ xs ++ c ∷ more → us ≡ c ∷ (more ++ vs) → Fronts xs ys us vs
  second_shorter : (c : ℕ) (more : List ℕ) → xs ≡ ys ++ c ∷ more → vs ≡ c ∷ (more ++ us) → Fronts xs ys us vs

fronts_more : (x y : ℕ) (xs ys us vs : List ℕ) → x ≡ y → Fronts xs ys us vs → Fronts (x ∷ xs) (y ∷ ys) us vs
fronts_more x y xs ys us vs e (equal p q) = equal (cc) q
fronts_more x y xs ys us vs e (first_shorter c more p q) = first_shorter c more (cc) q
fronts_more x y xs ys us vs e (second_shorter c more p q) = second_shorter c more (cc) q

pub fronts : (xs ys us vs : List ℕ) → xs ++ us ≡ ys ++ vs → Fronts xs ys us vs
fronts [] [] us vs e = equal refl e
fronts [] (y ∷ ys) us vs e = first_shorter y ys refl e
fronts (x ∷ xs) [] us vs e = second_shorter x xs refl (sym e)
fronts (x ∷ xs) (y ∷ ys) us vs e =
    let heads : x ≡ y = cc in
    let tails : xs ++ us ≡ ys ++ vs = cc in
    fronts_more x y xs ys us vs heads (fronts xs ys us vs tails)

-- `starts_with` and `==` as facts

pub starts_from : (text front rest : List ℕ) → text ≡ front ++ rest → starts_with nat_eq text front ≡ true
starts_from text front rest e = (starts_is Decides-eqb text front (starts_with nat_eq text front) refl).1 rest e

pub starts_gives : (text front : List ℕ) → starts_with nat_eq text front ≡ true → text ≡ front ++ drop (length front) text
starts_gives text front e = (starts_is Decides-eqb text front (starts_with nat_eq text front) refl).0 e

pub bytes_eq_gives : (xs ys : List ℕ) → bytes_eq xs ys ≡ true → xs ≡ ys
bytes_eq_gives xs ys e = (bytes_eq-Decides xs ys).0 e

pub bytes_eq_from : (xs ys : List ℕ) → xs ≡ ys → bytes_eq xs ys ≡ true
bytes_eq_from xs ys e = (bytes_eq-Decides xs ys).1 e

-- what is found passes the test, and every test that all pass

module _ {X : Type 0} (p q : X → Bool) where
  found_here : (x m : X) (b : Bool) → p x ≡ b → b ≡ true → q x ≡ true → Some x ≡ Some m → (p m ≡ true) × (q m ≡ true)
  found_here x m b is_b b_true passes e =
      let same : x ≡ m = cc in
      subst (λ y. (p y ≡ true) × (q y ≡ true)) same (is_b ∙ b_true, passes)

  pub find_has : (xs : List X) (m : X) → find p xs ≡ Some m → list_all q xs ≡ true → (p m ≡ true) × (q m ≡ true)
  find_has [] m found all = cc
  find_has (x ∷ xs) m found all =
      let parts = and_parts (q x) (list_all q xs) all in
      (elim (p x) as (λ b. p x ≡ b → cond b (Some x) (find p xs) ≡ Some m → (p m ≡ true) × (q m ≡ true)) [
        | true ↦ λ is_b f. found_here x m true is_b refl parts.0 f
        | false ↦ λ is_b f. find_has xs m f parts.1
      ]) refl found

  -- where nothing is found, nothing that implies the test is found
  pub find_weaker : (xs : List X) → ((x : X) → q x ≡ true → p x ≡ true) → find p xs ≡ None → find q xs ≡ None
  find_weaker [] implies none = refl
  find_weaker (x ∷ xs) implies none =
      (elim (p x) as (λ b. p x ≡ b → cond b (Some x) (find p xs) ≡ None → cond (q x) (Some x) (find q xs) ≡ None) [
        | true ↦ λ is_b f. cc
        | false ↦ λ is_b f.
            (elim (q x) as (λ d. q x ≡ d → cond d (Some x) (find q xs) ≡ None) [
              | true ↦ λ is_d. absurd (false≢true (sym is_b ∙ implies x is_d))
              | false ↦ λ is_d. find_weaker xs implies f
            ]) refl
      ]) refl none
