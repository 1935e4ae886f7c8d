-- Types with their sizes, one after another.
use Rattle.std.proofs.Common.{◌≡◌, ℕ, zero, suc, ◌+◌, ◌<◌, List, [], ◌∷◌, ◌++◌, length, map, take, get_or, refl, ap, sym, ◌∙◌, arith}

map_next : {A B : Type 0} (f : A → B) (xs : List A) (i : ℕ) (d : A) → i < length xs → map f (take (i + 1) xs) ≡ map f (take i xs) ++ f (get_or xs i d) ∷ []
map_next f [] i d h = absurd (omega (arith, h))
map_next f (x ∷ xs) zero d h = refl
map_next f (x ∷ xs) (suc i) d h = ap (λ n. map f (take n (x ∷ xs))) (let e : suc i + 1 ≡ suc (i + 1) = omega arith in e) ∙ ap (λ ys. f x ∷ ys) (map_next f xs i d (omega (arith, h)))

pub pushed_next : {A B : Type 0} (f : A → B) (xs : List A) (ys zs : List B) (i : ℕ) (d : A) (y : B) → i < length xs → ys ≡ map f (take i xs) → zs ≡ ys ++ y ∷ [] → y ≡ f (get_or xs i d)
    → zs ≡ map f (take (i + 1) xs)
pushed_next f xs ys zs i d y l a b e = b ∙ (λ j. a j ++ e j ∷ []) ∙ sym (map_next f xs i d l)
