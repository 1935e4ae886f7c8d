-- Lists that grow, one element after another.
use Rattle.std.specs.Prelude.{◌↔◌}
use Rattle.std.proofs.Common.{◌≡◌, ℕ, ◌+◌, ◌<◌, ◌≤◌, Bool, true, false, List, [], ◌∷◌, ◌++◌, length, get_or, take, if◌then◌else◌, append_assoc, refl, ap, sym, subst, ◌∙◌, inl, inr, ◌⊎◌, ⊎_elim, arith}
use Rattle.std.specs.List.{Contains, list_any}
use Rattle.std.proofs.lemmas.List.{take_more, take_all, append-nil}
use Rattle.std.proofs.lemmas.List.Elements.{Contains-append_left, Contains-append_right, Contains-push_cases}
use Rattle.indexmap.specs.IndexSet.{insert_key}
use Rattle.indexmap.proofs.CallerLemmas.{Contains-insert_key}
use Rattle.c_types.proofs.Lists.{contains_head}
use Rattle.c_types.specs.Flows.{HeldPointer}
use Rattle.phys_types.specs.Found.{Pairs, Gains}
use Rattle.phys_types.proofs.FoundLemmas.{insert_kept, insert_only, gains_more, gains_nothing}
use Rattle.kind_constraints.specs.Adding.{Adds, OfSome, RelatedBySome}

pub none_in : {X : Type 0} (x : X) → Contains [] x → ⊥
none_in x c = omega (arith, c.1)

module _ {Y : Type 0} where
  pub push_adds : (ys : List Y) (y : Y) → Adds (λ z. z ≡ y) ys (ys ++ y ∷ [])
  push_adds ys y z = (
    λ c. ⊎_elim (λ k. inl k) (λ e. inr (sym e)) (Contains-push_cases ys y z c),
    λ h. ⊎_elim (λ c. Contains-append_left ys (y ∷ []) z c) (λ e. subst (λ x. Contains (ys ++ y ∷ []) x) (sym e) (Contains-append_right ys (y ∷ []) y (contains_head y []))) h,
  )

  pub insert_adds : (eq : Y → Y → Bool) → ((x y : Y) → eq x y ≡ true → x ≡ y) → (ys : List Y) (y : Y) → Adds (λ z. z ≡ y) ys (insert_key eq ys y)
  insert_adds eq same ys y z = (
    λ c. ⊎_elim (λ k. inl k) (λ e. inr (sym e)) (insert_only eq ys y z c),
    λ h. ⊎_elim (λ c. insert_kept eq ys y z c) (λ e. subst (λ x. Contains (insert_key eq ys y) x) (sym e) (Contains-insert_key eq same ys y)) h,
  )

  pub adds_as : (P Q : Y → Type 0) (old new : List Y) → ((y : Y) → P y → Q y) → ((y : Y) → Q y → P y) → Adds P old new → Adds Q old new
  adds_as P Q old new f g h y = (
    λ c. ⊎_elim (λ k. inl k) (λ k. inr (f y k)) ((h y).0 c),
    λ k. (h y).1 (⊎_elim (λ c. inl c) (λ c. inr (g y c)) k),
  )

  pub adds_then : (P Q : Y → Type 0) (a b c : List Y) → Adds P a b → Adds Q b c → Adds (λ y. P y ⊎ Q y) a c
  adds_then P Q a b c h k y = (
    λ m. ⊎_elim (λ n. ⊎_elim (λ o. inl o) (λ o. inr (inl o)) ((h y).0 n)) (λ n. inr (inr n)) ((k y).0 m),
    λ m. (k y).1 (⊎_elim (λ n. inl ((h y).1 (inl n))) (λ n. ⊎_elim (λ o. inl ((h y).1 (inr o))) (λ o. inr o) n) m),
  )

  pub adds_nothing : (P : Y → Type 0) (ys : List Y) → ((y : Y) → P y → ⊥) → Adds P ys ys
  adds_nothing P ys none y = (λ c. inl c, λ h. ⊎_elim (λ c. c) (λ p. absurd (none y p)) h)

  -- where nothing was there
  pub adds_all : (P : Y → Type 0) (new : List Y) → Adds P [] new → (y : Y) → Contains new y ↔ P y
  adds_all P new h y = (λ c. ⊎_elim (λ k. absurd (none_in y k)) (λ k. k) ((h y).0 c), λ p. (h y).1 (inr p))

module _ {X Y : Type 0} (R : X → Y → Type 0) where
  some_more : (xs : List X) (i : ℕ) (d : X) (y : Y) → i < length xs → OfSome (take (i + 1) xs) R y → OfSome (take i xs) R y ⊎ R (get_or xs i d) y
  some_more xs i d y l h = there (subst (λ ys. OfSome ys R y) (take_more xs i d l) h)
    where
      there : OfSome (take i xs ++ get_or xs i d ∷ []) R y → OfSome (take i xs) R y ⊎ R (get_or xs i d) y
      there (x, c, r) = ⊎_elim (λ k. inl (x, k, r)) (λ e. inr (subst (λ z. R z y) (sym e) r)) (Contains-push_cases (take i xs) (get_or xs i d) x c)

  more_some : (xs : List X) (i : ℕ) (d : X) (y : Y) → i < length xs → OfSome (take i xs) R y ⊎ R (get_or xs i d) y → OfSome (take (i + 1) xs) R y
  more_some xs i d y l h = subst (λ ys. OfSome ys R y) (sym (take_more xs i d l)) (⊎_elim
      (λ k. (k.0, Contains-append_left (take i xs) (get_or xs i d ∷ []) k.0 k.1, k.2))
      (λ r. (get_or xs i d, Contains-append_right (take i xs) (get_or xs i d ∷ []) (get_or xs i d) (contains_head (get_or xs i d) []), r)) h)

  pub adds_start : (xs : List X) (old : List Y) → Adds (OfSome (take 0 xs) R) old old
  adds_start xs old = adds_nothing (OfSome (take 0 xs) R) old (λ y h. absurd (none_in h.0 h.1))

  pub adds_more : (xs : List X) (i : ℕ) (d : X) (old now new : List Y) → i < length xs → Adds (OfSome (take i xs) R) old now → Adds (R (get_or xs i d)) now new
      → Adds (OfSome (take (i + 1) xs) R) old new
  adds_more xs i d old now new l h k = adds_as (λ y. OfSome (take i xs) R y ⊎ R (get_or xs i d) y) (OfSome (take (i + 1) xs) R) old new (λ y r. more_some xs i d y l r) (λ y r. some_more xs i d y l r)
      (adds_then (OfSome (take i xs) R) (R (get_or xs i d)) old now new h k)

  pub adds_done : (xs : List X) (i : ℕ) (old now : List Y) → length xs ≤ i → Adds (OfSome (take i xs) R) old now → Adds (OfSome xs R) old now
  adds_done xs i old now l h = subst (λ ys. Adds (OfSome ys R) old now) (take_all i xs l) h

-- What stands behind what was there

module _ {Y : Type 0} where
  pub insert_behind : (eq : Y → Y → Bool) (ys : List Y) (y : Y) → (rest : List Y) × (insert_key eq ys y ≡ ys ++ rest)
  insert_behind eq ys y = by (list_any (eq y) ys)
    where
      by : (b : Bool) → (rest : List Y) × ((if b then ys else ys ++ y ∷ []) ≡ ys ++ rest)
      by true = ([], sym (append-nil ys))
      by false = (y ∷ [], refl)

  pub behind_then : (a b c : List Y) → ((rest : List Y) × (b ≡ a ++ rest)) → ((rest : List Y) × (c ≡ b ++ rest)) → (rest : List Y) × (c ≡ a ++ rest)
  behind_then a b c h k = (h.0 ++ k.0, k.1 ∙ ap (λ xs. xs ++ k.0) h.1 ∙ append_assoc a h.0 k.0)

-- Pairs of pointers

module _ {X : Type 0} (R : X → HeldPointer → HeldPointer → Type 0) where
  pub gains_start : (xs : List X) (a : Pairs) → Gains (RelatedBySome (take 0 xs) R) a a
  gains_start xs a = gains_nothing (RelatedBySome (take 0 xs) R) a (λ p q h. none_in h.0 h.1)

  pub gains_one_more : (xs : List X) (i : ℕ) (d : X) (a b c : Pairs) → i < length xs → Gains (RelatedBySome (take i xs) R) a b → Gains (R (get_or xs i d)) b c
      → Gains (RelatedBySome (take (i + 1) xs) R) a c
  gains_one_more xs i d a b c l h k =
      gains_more (RelatedBySome (take i xs) R) (R (get_or xs i d)) (RelatedBySome (take (i + 1) xs) R) a b c
      (λ p q r. some_more (λ x (o : Unit {0}). R x p q) xs i d tt l r)
      (λ p q r. more_some (λ x (o : Unit {0}). R x p q) xs i d tt l (inl r))
      (λ p q r. more_some (λ x (o : Unit {0}). R x p q) xs i d tt l (inr r))
      h k

  pub gains_all : (xs : List X) (i : ℕ) (a b : Pairs) → length xs ≤ i → Gains (RelatedBySome (take i xs) R) a b → Gains (RelatedBySome xs R) a b
  gains_all xs i a b l h = subst (λ ys. Gains (RelatedBySome ys R) a b) (take_all i xs l) h
