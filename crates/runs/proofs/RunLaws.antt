-- The laws of runs: one after another, and how two runs are compared piece by piece.
use Rattle.std.proofs.Common.{ℕ, zero, suc, ◌≡◌, refl, subst, sym, Bool, true, false}
use Rattle.runs.specs.Outcome.{Outcome, Ended, Done, Run, done, from, either, Matches}
use Rattle.runs.specs.Control.{Control, Goes, Leaves, Gives, then_go, out_of, block, go_round, rounds, Alike}

-- three outcomes in a row may be put together from either side
pub from-from : {E S A B C : Type 0} (m : Outcome E S A) (f : A → Run E S B) (g : B → Run E S C) → from (from m f) g ≡ from m (λ a s. from (f a s) g)
from-from (Ended e s) f g = refl
from-from (Done a s) f g = refl

-- going on with the value alone changes nothing
pub from-done : {E S A : Type 0} (m : Outcome E S A) → from m (λ a s. Done a s) ≡ m
from-done (Ended e s) = refl
from-done (Done a s) = refl

-- going on alike after one outcome
pub from-same : {E S A B : Type 0} (m : Outcome E S A) (f g : A → Run E S B) → ((a : A) (s : S) → f a s ≡ g a s) → from m f ≡ from m g
from-same (Ended e s) f g same = refl
from-same (Done a s) f g same = same a s

-- the bind lemma: where two outcomes match, and all that may follow matches, the whole matches
pub matches-from : {E D S T A B A' B' : Type 0} (R : A → S → B → T → Type 0) (Q : E → S → D → T → Type 0) (R' : A' → S → B' → T → Type 0)
    (m : Outcome E S A) (n : Outcome D T B) (f : A → Run E S A') (g : B → Run D T B')
    → Matches R Q m n → ((a : A) (s : S) (b : B) (t : T) → R a s b t → Matches R' Q (f a s) (g b t)) → Matches R' Q (from m f) (from n g)
matches-from R Q R' (Ended e s) (Ended d t) f g h next = h
matches-from R Q R' (Ended e s) (Done b t) f g h next = absurd h
matches-from R Q R' (Done a s) (Ended d t) f g h next = absurd h
matches-from R Q R' (Done a s) (Done b t) f g h next = next a s b t h

-- what two outcomes match in may be weakened
pub matches-weaker : {E D S T A B : Type 0} (R R' : A → S → B → T → Type 0) (Q Q' : E → S → D → T → Type 0)
    (m : Outcome E S A) (n : Outcome D T B)
    → ((a : A) (s : S) (b : B) (t : T) → R a s b t → R' a s b t) → ((e : E) (s : S) (d : D) (t : T) → Q e s d t → Q' e s d t)
    → Matches R Q m n → Matches R' Q' m n
matches-weaker R R' Q Q' (Ended e s) (Ended d t) values ended h = ended e s d t h
matches-weaker R R' Q Q' (Ended e s) (Done b t) values ended h = h
matches-weaker R R' Q Q' (Done a s) (Ended d t) values ended h = h
matches-weaker R R' Q Q' (Done a s) (Done b t) values ended h = values a s b t h

-- equal outcomes match in the same
pub matches-as : {E D S T A B : Type 0} (R : A → S → B → T → Type 0) (Q : E → S → D → T → Type 0)
    (m m' : Outcome E S A) (n n' : Outcome D T B) → m ≡ m' → n ≡ n' → Matches R Q m' n' → Matches R Q m n
matches-as R Q m m' n n' p q h = subst (λ x. Matches R Q x n) (sym p) (subst (λ y. Matches R Q m' y) (sym q) h)

-- a run matches itself, in equal values and states
pub matches-same : {E S A : Type 0} (m : Outcome E S A) → Matches (λ a s b t. (a ≡ b) × (s ≡ t)) (λ e s d t. (e ≡ d) × (s ≡ t)) m m
matches-same (Ended e s) = (refl, refl)
matches-same (Done a s) = (refl, refl)

-- the first of two outcomes may be put for its equal
pub matches-left : {E D S T A B : Type 0} (R : A → S → B → T → Type 0) (Q : E → S → D → T → Type 0)
    (m m' : Outcome E S A) (n : Outcome D T B) → m ≡ m' → Matches R Q m' n → Matches R Q m n
matches-left R Q m m' n e h = subst (λ x. Matches R Q x n) (sym e) h

-- what follows a choice follows each side
pub from-either : {E S A B : Type 0} (b : Bool) (m n : Run E S A) (f : A → Run E S B) (s : S)
    → from (either b m n s) f ≡ either b (λ r. from (m r) f) (λ r. from (n r) f) s
from-either true m n f s = refl
from-either false m n f s = refl

-- where a run is one run and then another, it is so after any control too
pub then_go-split : {E S V : Type 0} (whole first second : Run E S (Control V)) (x : Control V) (s : S) → whole s ≡ from (first s) (λ y. then_go y second) → then_go x whole s ≡ from (then_go x first s) (λ y. then_go y second)
then_go-split whole first second Goes s h = h
then_go-split whole first second (Leaves k) s h = refl
then_go-split whole first second (Gives v) s h = refl

-- Rounds that stay in their loop

-- a round ends, leaves the loop alone, or gives a value
abbrev pub StaysIn : {V : Type 0} → Control V → Type 0
StaysIn Goes = Unit {0}
StaysIn (Leaves zero) = Unit {0}
StaysIn (Leaves (suc k)) = ⊥
StaysIn (Gives v) = Unit {0}

-- a loop is passed: what stands behind it goes on, or a value is given
abbrev pub IsPassed : {V : Type 0} → Control V → Type 0
IsPassed Goes = Unit {0}
IsPassed (Leaves k) = ⊥
IsPassed (Gives v) = Unit {0}

-- what holds of the value that a run gives, if it gives one
abbrev pub AllDone : {E S A : Type 0} → (A → Type 0) → Outcome E S A → Type 0
AllDone P (Ended e s) = Unit {0}
AllDone P (Done a s) = P a

pub all-from : {E S A B : Type 0} (P : B → Type 0) (o : Outcome E S A) (f : A → Run E S B) → ((a : A) (s : S) → AllDone P (f a s)) → AllDone P (from o f)
all-from P (Ended e s) f h = tt
all-from P (Done a s) f h = h a s

all-after : {E S A B : Type 0} (P : B → Type 0) (Q : A → Type 0) (o : Outcome E S A) (f : A → Run E S B)
    → AllDone Q o → ((a : A) (s : S) → Q a → AllDone P (f a s)) → AllDone P (from o f)
all-after P Q (Ended e s) f q h = tt
all-after P Q (Done a s) f q h = h a s q

round-passed : {E S V : Type 0} (x : Control V) (again : Run E S (Control V)) (s : S) → StaysIn x → AllDone IsPassed (again s) → AllDone IsPassed (go_round x again s)
round-passed Goes again s q h = h
round-passed (Leaves zero) again s q h = tt
round-passed (Leaves (suc k)) again s q h = absurd q
round-passed (Gives v) again s q h = tt

-- a loop whose rounds stay in it is passed
pub rounds-passed : {E S V : Type 0} (spent : E) (round : Run E S (Control V)) → ((s : S) → AllDone StaysIn (round s))
    → (n : ℕ) (s : S) → AllDone IsPassed (rounds spent n round s)
rounds-passed spent round h zero s = tt
rounds-passed spent round h (suc n) s =
    all-after IsPassed StaysIn (round s) (λ x. go_round x (rounds spent n round)) (h s) (λ x r q. round-passed x (rounds spent n round) r q (rounds-passed spent round h n r))

-- Two machines

-- Below, `I` relates the states of two machines where both go on, `J k` where both leave the k-th block around, `G` their values and states
-- where both give one, and `Q` their endings.

-- code after code
pub alike-then : {E D S T V W : Type 0} (I I' : S → T → Type 0) (J : ℕ → S → T → Type 0) (G : V → S → W → T → Type 0) (Q : E → S → D → T → Type 0)
    (x : Control V) (s : S) (y : Control W) (t : T) (f : Run E S (Control V)) (g : Run D T (Control W))
    → Alike I J G x s y t → (I s t → Matches (Alike I' J G) Q (f s) (g t)) → Matches (Alike I' J G) Q (then_go x f s) (then_go y g t)
alike-then I I' J G Q Goes s Goes t f g h next = next h
alike-then I I' J G Q Goes s (Leaves k) t f g h next = absurd h
alike-then I I' J G Q Goes s (Gives w) t f g h next = absurd h
alike-then I I' J G Q (Leaves k) s Goes t f g h next = absurd h
alike-then I I' J G Q (Leaves k) s (Leaves j) t f g h next = h
alike-then I I' J G Q (Leaves k) s (Gives w) t f g h next = h
alike-then I I' J G Q (Gives v) s Goes t f g h next = absurd h
alike-then I I' J G Q (Gives v) s (Leaves j) t f g h next = h
alike-then I I' J G Q (Gives v) s (Gives w) t f g h next = h

-- Out of a block: what relates where it is left, and where it goes on, relates behind it; and what relates where a block further out is left
-- relates there.
pub alike-out : {S T V W : Type 0} (I : S → T → Type 0) (J K : ℕ → S → T → Type 0) (G : V → S → W → T → Type 0)
    → ((s : S) (t : T) → J zero s t → I s t) → ((k : ℕ) (s : S) (t : T) → J (suc k) s t → K k s t)
    → (x : Control V) (s : S) (y : Control W) (t : T) → Alike I J G x s y t → Alike I K G (out_of x) s (out_of y) t
alike-out I J K G here outer Goes s Goes t h = h
alike-out I J K G here outer Goes s (Leaves zero) t h = absurd h
alike-out I J K G here outer Goes s (Leaves (suc k)) t h = absurd h
alike-out I J K G here outer Goes s (Gives w) t h = absurd h
alike-out I J K G here outer (Leaves zero) s Goes t h = absurd h
alike-out I J K G here outer (Leaves (suc k)) s Goes t h = absurd h
alike-out I J K G here outer (Leaves zero) s (Leaves zero) t h = here s t h.1
alike-out I J K G here outer (Leaves zero) s (Leaves (suc j)) t h = absurd (cc (h.0))
alike-out I J K G here outer (Leaves (suc k)) s (Leaves zero) t h = absurd (cc (h.0))
alike-out I J K G here outer (Leaves (suc k)) s (Leaves (suc j)) t h = (cc (h.0), outer k s t h.1)
alike-out I J K G here outer (Leaves zero) s (Gives w) t h = absurd h
alike-out I J K G here outer (Leaves (suc k)) s (Gives w) t h = absurd h
alike-out I J K G here outer (Gives v) s Goes t h = absurd h
alike-out I J K G here outer (Gives v) s (Leaves zero) t h = absurd h
alike-out I J K G here outer (Gives v) s (Leaves (suc j)) t h = absurd h
alike-out I J K G here outer (Gives v) s (Gives w) t h = h

-- two blocks match where their bodies do
pub alike-block : {E D S T V W : Type 0} (I : S → T → Type 0) (J K : ℕ → S → T → Type 0) (G : V → S → W → T → Type 0) (Q : E → S → D → T → Type 0)
    → ((s : S) (t : T) → J zero s t → I s t) → ((k : ℕ) (s : S) (t : T) → J (suc k) s t → K k s t)
    → (f : Run E S (Control V)) (g : Run D T (Control W)) (s : S) (t : T)
    → Matches (Alike I J G) Q (f s) (g t) → Matches (Alike I K G) Q (block f s) (block g t)
alike-block I J K G Q here outer f g s t h =
    matches-from (Alike I J G) Q (Alike I K G) (f s) (g t) (λ x. done (out_of x)) (λ y. done (out_of y)) h
    (λ x s' y t' k. alike-out I J K G here outer x s' y t' k)

-- Around a loop after one round, which `B` relates at its beginning and end; `I` relates what stands behind the loop.
alike-round : {E D S T V W : Type 0} (I B : S → T → Type 0) (J K : ℕ → S → T → Type 0) (G : V → S → W → T → Type 0) (Q : E → S → D → T → Type 0)
    → ((s : S) (t : T) → J zero s t → I s t) → ((k : ℕ) (s : S) (t : T) → J (suc k) s t → K k s t)
    → (x : Control V) (s : S) (y : Control W) (t : T) (f : Run E S (Control V)) (g : Run D T (Control W))
    → Alike B J G x s y t → (B s t → Matches (Alike I K G) Q (f s) (g t)) → Matches (Alike I K G) Q (go_round x f s) (go_round y g t)
alike-round I B J K G Q here outer Goes s Goes t f g h next = next h
alike-round I B J K G Q here outer Goes s (Leaves zero) t f g h next = absurd h
alike-round I B J K G Q here outer Goes s (Leaves (suc k)) t f g h next = absurd h
alike-round I B J K G Q here outer Goes s (Gives w) t f g h next = absurd h
alike-round I B J K G Q here outer (Leaves zero) s Goes t f g h next = absurd h
alike-round I B J K G Q here outer (Leaves (suc k)) s Goes t f g h next = absurd h
alike-round I B J K G Q here outer (Leaves zero) s (Leaves zero) t f g h next = here s t h.1
alike-round I B J K G Q here outer (Leaves zero) s (Leaves (suc j)) t f g h next = absurd (cc (h.0))
alike-round I B J K G Q here outer (Leaves (suc k)) s (Leaves zero) t f g h next = absurd (cc (h.0))
alike-round I B J K G Q here outer (Leaves (suc k)) s (Leaves (suc j)) t f g h next = (cc (h.0), outer k s t h.1)
alike-round I B J K G Q here outer (Leaves zero) s (Gives w) t f g h next = absurd h
alike-round I B J K G Q here outer (Leaves (suc k)) s (Gives w) t f g h next = absurd h
alike-round I B J K G Q here outer (Gives v) s Goes t f g h next = absurd h
alike-round I B J K G Q here outer (Gives v) s (Leaves zero) t f g h next = absurd h
alike-round I B J K G Q here outer (Gives v) s (Leaves (suc j)) t f g h next = absurd h
alike-round I B J K G Q here outer (Gives v) s (Gives w) t f g h next = h

-- two loops with one bound match where one round matches one round, and running out does
pub alike-rounds : {E D S T V W : Type 0} (I B : S → T → Type 0) (J K : ℕ → S → T → Type 0) (G : V → S → W → T → Type 0) (Q : E → S → D → T → Type 0)
    → ((s : S) (t : T) → J zero s t → I s t) → ((k : ℕ) (s : S) (t : T) → J (suc k) s t → K k s t)
    → (spent : E) (over : D) (f : Run E S (Control V)) (g : Run D T (Control W))
    → ((s : S) (t : T) → B s t → Q spent s over t) → ((s : S) (t : T) → B s t → Matches (Alike B J G) Q (f s) (g t))
    → (n : ℕ) (s : S) (t : T) → B s t → Matches (Alike I K G) Q (rounds spent n f s) (rounds over n g t)
alike-rounds I B J K G Q here outer spent over f g out once zero s t h = out s t h
alike-rounds I B J K G Q here outer spent over f g out once (suc n) s t h =
    matches-from (Alike B J G) Q (Alike I K G) (f s) (g t) (λ x. go_round x (rounds spent n f)) (λ y. go_round y (rounds over n g)) (once s t h)
    (λ x s' y t' k. alike-round I B J K G Q here outer x s' y t' (rounds spent n f) (rounds over n g) k
    (alike-rounds I B J K G Q here outer spent over f g out once n s' t'))
