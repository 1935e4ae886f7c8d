-- Facts of lists, options and tests that several proofs use.
use Rattle.std.specs.List.{All}
use Rattle.std.proofs.Common.{◌≡◌, ℕ, zero, suc, Bool, true, false, not, ◌==◌, List, [], ◌∷◌, ◌++◌, map, flat_map, length, slice_get, Some, refl, ap, sym, subst, ◌∙◌, true≢false, bytes_eq, arith, rules}
use Rattle.std.proofs.lemmas.Bool.Decides.{nat_tests}
use Rattle.std.proofs.lemmas.List.{append-nil, append_assoc}
use Rattle.std.proofs.lemmas.List.Elements.{All-nil, All-cons, All-head, All-tail}
use Rattle.std.proofs.lemmas.Option.{none-some}
use Rattle.c_types.specs.Table.{is_empty}
use Rattle.c_typing.specs.Scopes.{Name}

pub some-same : {A : Type 0} (a b : A) → Some a ≡ Some b → a ≡ b
some-same a b h = cc

pub no_true : {A : Type 0} → false ≡ true → A
no_true h = absurd (true≢false (sym h))

pub not_true : (b : Bool) → not b ≡ true → b ≡ false
not_true true h = no_true h
not_true false h = refl

pub eq_from : (a b : ℕ) → (a == b) ≡ true → a ≡ b
eq_from a b h = grind (arith, nat_tests)

pub bytes-same : (a b : Name) → bytes_eq a b ≡ true → a ≡ b
bytes-same a b h = search rules

-- All

pub all-left : {A : Type 0} (P : A → Type 0) (xs ys : List A) → All P (xs ++ ys) → All P xs
all-left P [] ys h = All-nil P
all-left P (x ∷ xs) ys h = All-cons P x xs (All-head P x (xs ++ ys) h) (all-left P xs ys (All-tail P x (xs ++ ys) h))

pub all-right : {A : Type 0} (P : A → Type 0) (xs ys : List A) → All P (xs ++ ys) → All P ys
all-right P [] ys h = h
all-right P (x ∷ xs) ys h = all-right P xs ys (All-tail P x (xs ++ ys) h)

pub at-index : {A : Type 0} (P : A → Type 0) (xs : List A) → All P xs → (i : ℕ) (x : A) → slice_get xs i ≡ Some x → P x
at-index P [] h i x q = absurd (none-some x q)
at-index P (y ∷ ys) h zero x q = subst P (some-same y x q) (All-head P y ys h)
at-index P (y ∷ ys) h (suc i) x q = at-index P ys (All-tail P y ys h) i x q

pub unmap : {A B : Type 0} (P : B → Type 0) (f : A → B) (xs : List A) → All P (map f xs) → All (λ x. P (f x)) xs
unmap P f [] h = All-nil (λ x. P (f x))
unmap P f (x ∷ xs) h = All-cons (λ y. P (f y)) x xs (All-head P (f x) (map f xs) h) (unmap P f xs (All-tail P (f x) (map f xs) h))

-- what each element gives, one after another

pub flat-both : {A B : Type 0} (f : A → List B) (xs ys : List A) → flat_map f (xs ++ ys) ≡ flat_map f xs ++ flat_map f ys
flat-both f [] ys = refl
flat-both f (x ∷ xs) ys = ap (λ zs. f x ++ zs) (flat-both f xs ys) ∙ sym (append_assoc (f x) (flat_map f xs) (flat_map f ys))

pub flat-append : {A B : Type 0} (f : A → List B) (xs : List A) (y : A) → flat_map f (xs ++ y ∷ []) ≡ flat_map f xs ++ f y
flat-append f xs y = flat-both f xs (y ∷ []) ∙ ap (λ zs. flat_map f xs ++ zs) (append-nil (f y))

pub flat-left : {A B : Type 0} (P : B → Type 0) (f : A → List B) (xs ys : List A) → All P (flat_map f (xs ++ ys)) → All P (flat_map f xs)
flat-left P f xs ys h = all-left P (flat_map f xs) (flat_map f ys) (subst (All P) (flat-both f xs ys) h)

pub flat-right : {A B : Type 0} (P : B → Type 0) (f : A → List B) (xs ys : List A) → All P (flat_map f (xs ++ ys)) → All P (flat_map f ys)
flat-right P f xs ys h = all-right P (flat_map f xs) (flat_map f ys) (subst (All P) (flat-both f xs ys) h)

-- two lists of one length are both empty, or neither is
pub no-empty : {A B : Type 0} (xs : List A) (ys : List B) → length xs ≡ length ys → is_empty xs ≡ false → is_empty ys ≡ false
no-empty [] ys h x = absurd (true≢false x)
no-empty (x ∷ xs) [] h q = absurd (omega (arith, h))
no-empty (x ∷ xs) (y ∷ ys) h q = refl
