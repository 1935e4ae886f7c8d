-- What holds of each element of a list.
use Rattle.std.specs.Prelude.{sum_by}
use Rattle.std.proofs.Common.{◌≡◌, refl, ap, sym, subst, ◌∙◌, ℕ, zero, suc, ◌+◌, ◌*◌, ◌<◌, ◌≤◌, List, [], ◌∷◌, ◌++◌, length, map, flat_map, take, get_or, slice_get, Some, arith}
use Rattle.std.specs.List.{All}
use Rattle.std.proofs.lemmas.Option.{slice_get-get_or, get_or_from_slice_get}
use Rattle.std.proofs.lemmas.List.Sums.{sum_by-cons}
use Rattle.cil_form.specs.Sites.{Each}

pub same_some : {A : Type 0} (x y : A) → Some x ≡ Some y → x ≡ y
same_some x y h = cc

pub within : {A : Type 0} (xs : List A) (i : ℕ) (x : A) → slice_get xs i ≡ Some x → i < length xs
within [] i x h = absurd (cc (h))
within (y ∷ xs) zero x h = omega arith
within (y ∷ xs) (suc i) x h = let k = within xs i x h in omega arith

pub all_at : {A : Type 0} (P : A → Type 0) (xs : List A) → All P xs → (i : ℕ) (x : A) → slice_get xs i ≡ Some x → P x
all_at P xs h i x e = subst P (get_or_from_slice_get xs i x x e) (h i x (within xs i x e))

pub each_at : {A : Type 0} (P : A → Type 0) (xs : List A) → Each P xs → (i : ℕ) (x : A) → slice_get xs i ≡ Some x → P x
each_at P [] h i x e = absurd (cc (e))
each_at P (y ∷ ys) h zero x e = subst P (same_some y x e) h.0
each_at P (y ∷ ys) h (suc i) x e = each_at P ys h.1 i x e

pub all_by : {A : Type 0} (P : A → Type 0) (xs : List A) → ((i : ℕ) (x : A) → slice_get xs i ≡ Some x → P x) → All P xs
all_by P xs h i d l = h i (get_or xs i d) (slice_get-get_or xs i d l)

pub mapped_get : {A B : Type 0} (f : A → B) (xs : List A) (i : ℕ) (x : A) → slice_get xs i ≡ Some x → slice_get (map f xs) i ≡ Some (f x)
mapped_get f [] i x e = absurd (cc (e))
mapped_get f (y ∷ ys) zero x e = ap (λ z. Some (f z)) (same_some y x e)
mapped_get f (y ∷ ys) (suc i) x e = mapped_get f ys i x e

pub mapped_length : {A B : Type 0} (f : A → B) (xs : List A) → length (map f xs) ≡ length xs
mapped_length f [] = refl
mapped_length f (x ∷ xs) = ap suc (mapped_length f xs)

-- of each of these, whose images are those
pub all_mapped : {A B : Type 0} (P : B → Type 0) (Q : A → Type 0) (f : A → B) (xs : List A) (ys : List B) → map f xs ≡ ys → Each P ys → ((x : A) → P (f x) → Q x) → All Q xs
all_mapped P Q f xs ys e h more =
    all_by Q xs (λ i x g. more x (each_at P ys h i (f x) (ap (λ zs. slice_get zs i) (sym e) ∙ mapped_get f xs i x g)))

pub each_front : {A : Type 0} (P : A → Type 0) (xs ys : List A) → Each P (xs ++ ys) → Each P xs
each_front P [] ys h = tt
each_front P (x ∷ xs) ys h = (h.0, each_front P xs ys h.1)

pub each_back : {A : Type 0} (P : A → Type 0) (xs ys : List A) → Each P (xs ++ ys) → Each P ys
each_back P [] ys h = h
each_back P (x ∷ xs) ys h = each_back P xs ys h.1

pub each_flat : {A B : Type 0} (P : B → Type 0) (f : A → List B) (xs : List A) → Each P (flat_map f xs) → (i : ℕ) (x : A) → slice_get xs i ≡ Some x → Each P (f x)
each_flat P f [] h i x e = absurd (cc (e))
each_flat P f (y ∷ ys) h zero x e = subst (λ z. Each P (f z)) (same_some y x e) (each_front P (f y) (flat_map f ys) h)
each_flat P f (y ∷ ys) h (suc i) x e = each_flat P f ys (each_back P (f y) (flat_map f ys) h) i x e

pub sum_few : {A : Type 0} (f : A → ℕ) (xs : List A) → ((x : A) → f x ≤ 3) → sum_by f xs ≤ 3 * length xs
sum_few f [] h = omega arith
sum_few f (x ∷ xs) h = let r = sum_few f xs h in let k = h x in let b = sum_by-cons f x xs in omega (arith, r, k, b)

pub sum_sixteen : {A : Type 0} (g : A → ℕ) (xs : List A) → ((x : A) → 16 ≤ g x) → 16 * length xs ≤ sum_by g xs
sum_sixteen g [] h = omega arith
sum_sixteen g (x ∷ xs) h = let r = sum_sixteen g xs h in let k = h x in let b = sum_by-cons g x xs in omega (arith, r, k, b)

pub take_next : {A : Type 0} (xs : List A) (n : ℕ) (x : A) → slice_get xs n ≡ Some x → take (n + 1) xs ≡ take n xs ++ x ∷ []
take_next [] n x e = absurd (cc (e))
take_next (y ∷ ys) zero x e = ap (λ z. z ∷ []) (same_some y x e)
take_next (y ∷ ys) (suc n) x e =
    ap (λ m. take m (y ∷ ys)) (let f : suc n + 1 ≡ suc (n + 1) = omega arith in f) ∙ ap (λ zs. y ∷ zs) (take_next ys n x e)

pub take_all : {A : Type 0} (xs : List A) (n : ℕ) → length xs ≡ n → take n xs ≡ xs
take_all [] zero e = refl
take_all [] (suc n) e = refl
take_all (x ∷ xs) zero e = absurd (omega arith)
take_all (x ∷ xs) (suc n) e = ap (λ zs. x ∷ zs) (take_all xs n (omega arith))

pub item_at : {A : Type 0} (xs ys : List A) (i : ℕ) (x : A) → xs ≡ ys → x ≡ get_or xs i x → i < length xs → slice_get ys i ≡ Some x
item_at xs ys i x same is l = ap (λ zs. slice_get zs i) (sym same) ∙ slice_get-get_or xs i x l ∙ ap (λ z. Some z) (sym is)
