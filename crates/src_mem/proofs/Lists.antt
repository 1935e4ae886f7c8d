-- Elements of lists by number, before and after one is replaced.
use Rattle.std.proofs.Common.{◌≡◌, ◌≢◌, ℕ, zero, suc, List, [], ◌∷◌, ◌++◌, map, slice_get, slice_set, Some, refl, ap, subst}

pub get-set_same : {A : Type 0} (l : List A) (i : ℕ) (x y : A) → slice_get l i ≡ Some x → slice_get (slice_set l i y) i ≡ Some y
get-set_same [] i x y h = absurd (cc (h))
get-set_same (z ∷ l) zero x y h = refl
get-set_same (z ∷ l) (suc i) x y h = get-set_same l i x y h

pub get-set_other : {A : Type 0} (l : List A) (i j : ℕ) (y : A) → i ≢ j → slice_get (slice_set l i y) j ≡ slice_get l j
get-set_other [] i j y h = refl
get-set_other (z ∷ l) zero zero y h = absurd (h refl)
get-set_other (z ∷ l) zero (suc j) y h = refl
get-set_other (z ∷ l) (suc i) zero y h = refl
get-set_other (z ∷ l) (suc i) (suc j) y h = get-set_other l i j y (λ e. h (ap suc e))

-- an element of two lists in a row is one of the first or of the second
pub get-append : {A : Type 0} (P : A → Type 0) (l m : List A) → ((i : ℕ) (x : A) → slice_get l i ≡ Some x → P x) → ((i : ℕ) (x : A) → slice_get m i ≡ Some x → P x)
    → (i : ℕ) (x : A) → slice_get (l ++ m) i ≡ Some x → P x
get-append P [] m first second i x h = second i x h
get-append P (z ∷ l) m first second zero x h = first zero x h
get-append P (z ∷ l) m first second (suc i) x h = get-append P l m (λ j. first (suc j)) second i x h

-- an element of a mapped list is what an element is mapped to
pub get-map : {A B : Type 0} (P : B → Type 0) (f : A → B) (l : List A) → ((i : ℕ) (x : A) → slice_get l i ≡ Some x → P (f x)) → (i : ℕ) (y : B) → slice_get (map f l) i ≡ Some y → P y
get-map P f [] each i y h = absurd (cc (h))
get-map P f (z ∷ l) each zero y h = subst P (cc (h)) (each zero z refl)
get-map P f (z ∷ l) each (suc i) y h = get-map P f l (λ j. each (suc j)) i y h
