-- Facts of lists that several proofs use.
use Rattle.std.specs.List.{All}
use Rattle.std.proofs.Common.{List, [], ◌∷◌, flat_map}
use Rattle.std.proofs.lemmas.List.Elements.{All-nil, All-cons, All-append}
use Rattle.c_ready.proofs.Basics.{all-left, all-right}
use Rattle.cil_form.specs.Sites.{Each}
use Rattle.std.proofs.lemmas.List.Elements.{All-head, All-tail}

pub each-of : {A : Type 0} (P : A → Type 0) (xs : List A) → All P xs → Each P xs
each-of P [] h = tt
each-of P (x ∷ xs) h = (All-head P x xs h, each-of P xs (All-tail P x xs h))

pub every : {A : Type 0} (P : A → Type 0) → ((x : A) → P x) → (xs : List A) → All P xs
every P f [] = All-nil P
every P f (x ∷ xs) = All-cons P x xs (f x) (every P f xs)

pub only : {A : Type 0} (P : A → Type 0) (x : A) → P x → All P (x ∷ [])
only P x p = All-cons P x [] p (All-nil P)

pub pair : {A : Type 0} (P : A → Type 0) (x y : A) → P x → P y → All P (x ∷ y ∷ [])
pair P x y p q = All-cons P x (y ∷ []) p (only P y q)

-- what each element gives, one after another

pub unflat : {A B : Type 0} (P : B → Type 0) (f : A → List B) (xs : List A) → All P (flat_map f xs) → All (λ x. All P (f x)) xs
unflat P f [] h = All-nil (λ x. All P (f x))
unflat P f (x ∷ xs) h =
    All-cons (λ y. All P (f y)) x xs (all-left P (f x) (flat_map f xs) h) (unflat P f xs (all-right P (f x) (flat_map f xs) h))

pub flat : {A B : Type 0} (P : B → Type 0) (f : A → List B) (xs : List A) → All (λ x. All P (f x)) xs → All P (flat_map f xs)
flat P f [] h = All-nil P
flat P f (x ∷ xs) h =
    All-append P (f x) (flat_map f xs) (All-head (λ y. All P (f y)) x xs h) (flat P f xs (All-tail (λ y. All P (f y)) x xs h))
