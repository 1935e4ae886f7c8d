-- Lists up to an element, with it.
use Rattle.std.proofs.Common.{◌≡◌, ap, sym, ℕ, zero, suc, ◌+◌, ◌<◌, List, [], ◌∷◌, map, fold, take, get_or, length, add-one, arith}
use Rattle.c_tree.specs.Views.{added}

pub with_next : {X A : Type 0} (view : X → A → A) (xs : List X) (i : ℕ) (x : X) → i < length xs → x ≡ get_or xs i x
    → (a : A) → added a (map view (take (suc i) xs)) ≡ view x (added a (map view (take i xs)))
with_next view [] i x within at a = absurd (omega arith)
with_next view (y ∷ ys) zero x within at a = ap (λ z. view z a) (sym at)
with_next view (y ∷ ys) (suc i) x within at a = with_next view ys i x (omega arith) at (view y a)

-- of elements that are seen by what they add
pub one_more : {X A : Type 0} (view : X → A → A) (xs : List X) (i : ℕ) (x : X) → i < length xs → x ≡ get_or xs i x
    → (a : A) → added a (map view (take (i + 1) xs)) ≡ view x (added a (map view (take i xs)))
one_more view xs i x within at a = rw add-one (with_next view xs i x within at a)

pub with_one : {X Y A : Type 0} (add : A → Y → A) (view : X → Y) (xs : List X) (i : ℕ) (x : X) → i < length xs → x ≡ get_or xs i x
    → (a : A) → fold add a (map view (take (suc i) xs)) ≡ add (fold add a (map view (take i xs))) (view x)
with_one add view [] i x within at a = absurd (omega arith)
with_one add view (y ∷ ys) zero x within at a = ap (λ z. add a (view z)) (sym at)
with_one add view (y ∷ ys) (suc i) x within at a = with_one add view ys i x (omega arith) at (add a (view y))

-- of elements that are seen by themselves
pub one_longer : {X Y A : Type 0} (add : A → Y → A) (view : X → Y) (xs : List X) (i : ℕ) (x : X) → i < length xs → x ≡ get_or xs i x
    → (a : A) → fold add a (map view (take (i + 1) xs)) ≡ add (fold add a (map view (take i xs))) (view x)
one_longer add view xs i x within at a = rw add-one (with_one add view xs i x within at a)
