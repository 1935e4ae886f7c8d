use Rattle.std.proofs.Common.{◌≡◌, ℕ, zero, suc, ◌+◌, ◌<◌, List, [], ◌∷◌, length, get_or, take, drop, map, refl, ap, subst, ◌∙◌, arith}
use Rattle.std.specs.List.{Contains, fold}
use Rattle.std.proofs.lemmas.List.{take-append-drop, map_more}
use Rattle.std.proofs.lemmas.List.Sums.{fold-append}
use Rattle.std.proofs.lemmas.List.Elements.{Contains-append_left}

-- Lists and what they contain.

pub contains_head : {X : Type 0} (x : X) (xs : List X) → Contains (x ∷ xs) x
contains_head x xs = (zero, omega arith, refl)

pub contains_tail : {X : Type 0} (x : X) (xs : List X) (y : X) → Contains xs y → Contains (x ∷ xs) y
contains_tail x xs y c = (suc c.0, omega (arith, c.1), c.2)

-- two functions that agree on the elements give the same list
pub map_same : {X Y : Type 0} (f g : X → Y) (xs : List X) → ((x : X) → Contains xs x → f x ≡ g x) → map f xs ≡ map g xs
map_same f g [] h = refl
map_same f g (x ∷ xs) h = λ i. h x (contains_head x xs) i ∷ map_same f g xs (λ y c. h y (contains_tail x xs y c)) i

pub contains_take : {X : Type 0} (n : ℕ) (xs : List X) (y : X) → Contains (take n xs) y → Contains xs y
contains_take n xs y c = subst (λ l. Contains l y) (take-append-drop n xs) (Contains-append_left (take n xs) (drop n xs) y c)

-- a fold over a mapped list, one element further
pub fold_map_more : {X Y B : Type 0} (f : B → Y → B) (a : B) (g : X → Y) (xs : List X) (i : ℕ) (d : X) → i < length xs
    → fold f a (map g (take (i + 1) xs)) ≡ f (fold f a (map g (take i xs))) (g (get_or xs i d))
fold_map_more f a g xs i d h =
    ap (fold f a) (map_more g xs i d h) ∙ fold-append f a (map g (take i xs)) (g (get_or xs i d) ∷ [])
