use Rattle.std.proofs.Common.{ℕ, zero, suc, Bool, true, false, cond, List, [], ◌∷◌, Option, None, Some, ◌≡◌, ◌⊎◌, ◌<◌, refl, sym, subst, Contains, All, length, get_or, filter, arith, inl, inr}
use Rattle.std.specs.List.{flat_map, AllByRecursion}
use Rattle.std.specs.Option.{option_to_list}
use Rattle.std.specs.Prelude.{option_map}
use Rattle.std.proofs.lemmas.List.Elements.{All-nil, All-append, All-head, All-tail, Contains-append_left, Contains-append_right, Contains-append_cases}
use Rattle.std.proofs.lemmas.Bool.{false≢true}

-- Members of lists that are made of others.

pub Contains-head : {X : Type 0} (x : X) (xs : List X) → Contains (x ∷ xs) x
Contains-head x xs = (0, omega arith, refl)

pub Contains-tail : {X : Type 0} (x y : X) (xs : List X) → Contains xs y → Contains (x ∷ xs) y
Contains-tail x y xs h = (suc h.0, omega (arith, h.1), h.2)

contains_at : {X : Type 0} (x y : X) (xs : List X) (k : ℕ) → k < length (x ∷ xs) → get_or (x ∷ xs) k y ≡ y → (x ≡ y) ⊎ Contains xs y
contains_at x y xs zero h e = inl e
contains_at x y xs (suc k) h e = inr (k, omega (arith, h), e)

pub Contains-cases : {X : Type 0} (x y : X) (xs : List X) → Contains (x ∷ xs) y → (x ≡ y) ⊎ Contains xs y
Contains-cases x y xs h = contains_at x y xs h.0 h.1 h.2

pub contains_nothing : {X : Type 0} (y : X) → Contains [] y → ⊥
contains_nothing y h = absurd (omega (arith, h.1))

pub into_flat_map : {X Y : Type 0} (f : X → List Y) (xs : List X) (x : X) (y : Y) → Contains xs x → Contains (f x) y
    → Contains (flat_map f xs) y
into_flat_map f [] x y h g = absurd (contains_nothing x h)
into_flat_map f (a ∷ xs) x y h g =
    elim (Contains-cases a x xs h) [
      | inl e ↦ Contains-append_left (f a) (flat_map f xs) y (subst (λ z. Contains (f z) y) (sym e) g)
      | inr later ↦ Contains-append_right (f a) (flat_map f xs) y (into_flat_map f xs x y later g)
    ]

pub from_flat_map : {X Y : Type 0} (f : X → List Y) (xs : List X) (y : Y) → Contains (flat_map f xs) y
    → (x : X) × Contains xs x × Contains (f x) y
from_flat_map f [] y h = absurd (contains_nothing y h)
from_flat_map f (a ∷ xs) y h =
    elim (Contains-append_cases (f a) (flat_map f xs) y h) [
      | inl here ↦ (a, Contains-head a xs, here)
      | inr later ↦ let found = from_flat_map f xs y later in (found.0, Contains-tail a found.0 xs found.1, found.2)
    ]

contains_cond : {X : Type 0} (b : Bool) (x y : X) (xs ys : List X) → Contains (cond b (x ∷ xs) xs) y
    → ((b ≡ true) × (x ≡ y)) ⊎ Contains xs y
contains_cond true x y xs ys h = elim (Contains-cases x y xs h) [ inl e ↦ inl (refl, e) | inr later ↦ inr later ]
contains_cond false x y xs ys h = inr h

pub from_filter : {X : Type 0} (p : X → Bool) (xs : List X) (y : X) → Contains (filter p xs) y
    → Contains xs y × (p y ≡ true)
from_filter p [] y h = absurd (contains_nothing y h)
from_filter p (x ∷ xs) y h =
    elim (contains_cond (p x) x y (filter p xs) xs h) [
      | inl e ↦ (subst (λ z. Contains (x ∷ xs) z) e.1 (Contains-head x xs), subst (λ z. p z ≡ true) e.1 e.0)
      | inr later ↦ let found = from_filter p xs y later in (Contains-tail x y xs found.0, found.1)
    ]

into_cond : {X : Type 0} (b : Bool) (x y : X) (xs : List X) → Contains xs y → Contains (cond b (x ∷ xs) xs) y
into_cond true x y xs h = Contains-tail x y xs h
into_cond false x y xs h = h

at_cond : {X : Type 0} (b : Bool) (x : X) (xs : List X) → b ≡ true → Contains (cond b (x ∷ xs) xs) x
at_cond true x xs h = Contains-head x xs
at_cond false x xs h = absurd (false≢true h)

pub into_filter : {X : Type 0} (p : X → Bool) (xs : List X) (y : X) → Contains xs y → p y ≡ true → Contains (filter p xs) y
into_filter p [] y h passes = absurd (contains_nothing y h)
into_filter p (x ∷ xs) y h passes =
    elim (Contains-cases x y xs h) [
      | inl e ↦ subst (λ z. Contains (cond (p x) (x ∷ filter p xs) (filter p xs)) z) e
          (at_cond (p x) x (filter p xs) (subst (λ z. p z ≡ true) (sym e) passes))
      | inr later ↦ into_cond (p x) x y (filter p xs) (into_filter p xs y later passes)
    ]

-- What each element of a list gives to all of its piece, the list gives to all pieces.
pub All-flat_map : {X Y : Type 0} (P : X → Type 0) (Q : Y → Type 0) (f : X → List Y)
    → ((x : X) → P x → All Q (f x)) → (xs : List X) → All P xs → All Q (flat_map f xs)
All-flat_map P Q f gives [] h = All-nil Q
All-flat_map P Q f gives (x ∷ xs) h =
    All-append Q (f x) (flat_map f xs) (gives x (All-head P x xs h)) (All-flat_map P Q f gives xs (All-tail P x xs h))

pub all_of_option : {X Y : Type 0} (P : Y → Type 0) (f : X → Y) (o : Option X) → ((x : X) → o ≡ Some x → P (f x))
    → AllByRecursion P (option_to_list (option_map f o))
all_of_option P f None gives = tt
all_of_option P f (Some x) gives = (gives x refl, tt)
