-- Facts of lists that the laws of whole programs use.
use Rattle.std.specs.List.{All, Contains}
use Rattle.std.proofs.Common.{◌≡◌, ℕ, zero, suc, List, [], ◌∷◌, map, Some, slice_get, inl, inr, refl, ap, sym, subst}
use Rattle.std.proofs.lemmas.List.Elements.{All-nil, All-cons, All-head, All-tail, All-weaker, All-contains, All-contains_itself}
use Rattle.std.proofs.lemmas.Option.{none-some}
use Rattle.cil_form.specs.Sites.{Each}
use Rattle.lower_shape.proofs.Addresses.{In}

pub all-in : {A : Type 0} (xs : List A) → All (λ x. In x xs) xs
all-in [] = All-nil (λ x. In x [])
all-in (x ∷ xs) =
    All-cons (λ y. In y (x ∷ xs)) x xs (inl refl) (All-weaker (λ y. In y xs) (λ y. In y (x ∷ xs)) (λ y h. inr h) xs (all-in xs))

pub in-contained : {A : Type 0} (xs : List A) (x : A) → Contains xs x → In x xs
in-contained xs x c = All-contains (λ y. In y xs) xs x (all-in xs) c

pub at-in : {A : Type 0} (P : A → Type 0) (xs : List A) (x : A) → All P xs → In x xs → P x
at-in P [] x h q = absurd q
at-in P (y ∷ ys) x h (inl e) = subst P (sym e) (All-head P y ys h)
at-in P (y ∷ ys) x h (inr q) = at-in P ys x (All-tail P y ys h) q

pub contained-in : {A : Type 0} (xs : List A) (x : A) → In x xs → Contains xs x
contained-in xs x q = at-in (Contains xs) xs x (All-contains_itself xs) q

pub in-map : {A B : Type 0} (f : A → B) (xs : List A) (x : A) → In x xs → In (f x) (map f xs)
in-map f [] x q = absurd q
in-map f (y ∷ ys) x (inl e) = inl (ap f e)
in-map f (y ∷ ys) x (inr q) = inr (in-map f ys x q)

-- what is among the images is one
pub in-image : {A B : Type 0} (f : A → B) (xs : List A) (y : B) → In y (map f xs) → (x : A) × In x xs × (f x ≡ y)
in-image f [] y q = absurd q
in-image f (x ∷ xs) y (inl e) = (x, inl refl, sym e)
in-image f (x ∷ xs) y (inr q) = let r = in-image f xs y q in (r.0, inr r.1, r.2)

pub all-each : {A : Type 0} (P : A → Type 0) (xs : List A) → Each P xs → All P xs
all-each P [] h = All-nil P
all-each P (x ∷ xs) h = All-cons P x xs h.0 (all-each P xs h.1)

pub slice-map : {A B : Type 0} (f : A → B) (xs : List A) (i : ℕ) (x : A) → slice_get xs i ≡ Some x → slice_get (map f xs) i ≡ Some (f x)
slice-map f [] i x e = absurd (none-some x e)
slice-map f (y ∷ ys) zero x e = ap (λ o. Some (f o)) (same y x e)
  where
    same : {A : Type 0} (a b : A) → Some a ≡ Some b → a ≡ b
    same a b g = cc
slice-map f (y ∷ ys) (suc i) x e = slice-map f ys i x e
