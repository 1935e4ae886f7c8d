-- A list whose elements are judged one after another: it is judged as far as its elements are, and stops where one of them does.
use Rattle.std.proofs.Common.{◌≡◌, ◌≢◌, refl, ap, sym, subst, ◌∙◌, ℕ, zero, suc, ◌+◌, ◌<◌, List, [], ◌∷◌, map, take, get_or, length, add-one, arith}
use Rattle.std.specs.List.{fold}
use Rattle.cc_base.specs.declared.fault.Fault.{Fault}
use Rattle.cc_base.specs.declared.fault.Fault.TheVariants.{NoMemory}
use Rattle.c_tree.specs.Views.{added}
use Rattle.c_tree.proofs.ListLaws.{with_next}
use Rattle.c_typing.specs.Judging.{State, Outcome, Judging, Stops}

-- where the list before stops, so does the list with one more
abbrev pub Stays : {X A B : Type 0} → (A → Judging B) → (X → A → A) → Type 0
Stays {X} {A} {B} judge view = (x : X) (a : A) (s t : State) (fault : Fault) → judge a s ≡ Stops fault t → judge (view x a) s ≡ Stops fault t

pub stays_behind : {X A B : Type 0} (judge : A → Judging B) (view : X → A → A) → Stays judge view
    → (xs : List X) (a : A) (s t : State) (fault : Fault) → judge a s ≡ Stops fault t → judge (added a (map view xs)) s ≡ Stops fault t
stays_behind judge view stays [] a s t fault p = p
stays_behind judge view stays (x ∷ xs) a s t fault p = stays_behind judge view stays xs (view x a) s t fault (stays x a s t fault p)

stopped_at : {X A B : Type 0} (judge : A → Judging B) (view : X → A → A) → Stays judge view
    → (xs : List X) (i : ℕ) (x : X) → i < length xs → x ≡ get_or xs i x
    → (a : A) (s t : State) (fault : Fault) → judge (view x (added a (map view (take i xs)))) s ≡ Stops fault t → judge (added a (map view xs)) s ≡ Stops fault t
stopped_at judge view stays [] i x within here a s t fault p = absurd (omega arith)
stopped_at judge view stays (y ∷ ys) zero x within here a s t fault p =
    stays_behind judge view stays ys (view y a) s t fault (subst (λ z. judge (view z a) s ≡ Stops fault t) here p)
stopped_at judge view stays (y ∷ ys) (suc i) x within here a s t fault p = stopped_at judge view stays ys i x (omega arith) here (view y a) s t fault p

-- one element more is judged
pub goes : {X A B : Type 0} (judge : A → Judging B) (view : X → A → A) (xs : List X) (i : ℕ) (x : X) → i < length xs → x ≡ get_or xs i x
    → (a : A) (s : State) (o : Outcome B) → judge (view x (added a (map view (take i xs)))) s ≡ o → judge (added a (map view (take (i + 1) xs))) s ≡ o
goes judge view xs i x within here a s o judged = rw add-one (ap (λ z. judge z s) (with_next view xs i x within here a) ∙ judged)

-- an element stops, unless memory does
pub fails : {X A B : Type 0} (judge : A → Judging B) (view : X → A → A) → Stays judge view
    → (xs : List X) (i : ℕ) (x : X) → i < length xs → x ≡ get_or xs i x
    → (a : A) (s t : State) (fault : Fault) → (fault ≢ NoMemory → judge (view x (added a (map view (take i xs)))) s ≡ Stops fault t)
    → fault ≢ NoMemory → judge (added a (map view xs)) s ≡ Stops fault t
fails judge view stays xs i x within here a s t fault p real = stopped_at judge view stays xs i x within here a s t fault (p real)

-- the same for lists whose elements are seen by themselves

pub folded : {X Y A : Type 0} (add : A → Y → A) (view : X → Y) (xs : List X) (a : A) → added a (map (λ x. λ b. add b (view x)) xs) ≡ fold add a (map view xs)
folded add view [] a = refl
folded add view (x ∷ xs) a = folded add view xs (add a (view x))

pub goes_on : {X Y A B : Type 0} (judge : A → Judging B) (add : A → Y → A) (view : X → Y) (xs : List X) (i : ℕ) (x : X) → i < length xs → x ≡ get_or xs i x
    → (a : A) (s : State) (o : Outcome B) → judge (add (fold add a (map view (take i xs))) (view x)) s ≡ o → judge (fold add a (map view (take (i + 1) xs))) s ≡ o
goes_on {X = X} {A = A} judge add view xs i x within here a s o judged =
    let step = λ (z : X). λ (b : A). add b (view z) in
    ap (λ z. judge z s) (sym (folded add view (take (i + 1) xs) a))
    ∙ goes judge step xs i x within here a s o (ap (λ z. judge (add z (view x)) s) (folded add view (take i xs) a) ∙ judged)

pub fails_on : {X Y A B : Type 0} (judge : A → Judging B) (add : A → Y → A) (view : X → Y)
    → ((y : Y) (a : A) (s t : State) (fault : Fault) → judge a s ≡ Stops fault t → judge (add a y) s ≡ Stops fault t)
    → (xs : List X) (i : ℕ) (x : X) → i < length xs → x ≡ get_or xs i x
    → (a : A) (s t : State) (fault : Fault) → (fault ≢ NoMemory → judge (add (fold add a (map view (take i xs))) (view x)) s ≡ Stops fault t)
    → fault ≢ NoMemory → judge (fold add a (map view xs)) s ≡ Stops fault t
fails_on {X = X} {A = A} judge add view stays xs i x within here a s t fault p real =
    let step = λ (z : X). λ (b : A). add b (view z) in
    ap (λ z. judge z s) (sym (folded add view xs a))
    ∙ stopped_at judge step (λ z. stays (view z)) xs i x within here a s t fault (ap (λ z. judge (add z (view x)) s) (folded add view (take i xs) a) ∙ p real)
