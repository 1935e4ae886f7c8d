-- What a run gives, and how runs are put one after another.
-- The meanings of source programs, of three-address code and of cured code are all runs: they share this type, and so
-- the laws by which two of them are compared. `E` is the type of endings, `S` of states, `A` of values.
use Rattle.std.specs.Prelude.{Bool, true, false}

infixr 20 ◌>>=◌
infixr 20 ◌>>◌
-- a run has ended for good, or has given a value and goes on; either way with the state that it left
pub data Outcome (E S A : Type 0) : Type 0 where
  Ended : E → S → Outcome E S A
  Done : A → S → Outcome E S A

-- a run goes from a state to its outcome
abbrev pub Run : Type 0 → Type 0 → Type 0 → Type 0
Run E S A = S → Outcome E S A

-- the run that gives this value and leaves the state as it is
abbrev pub done : {E S A : Type 0} → A → Run E S A
done a = λ s. Done a s

-- the run that ends
abbrev pub ends : {E S A : Type 0} → E → Run E S A
ends e = λ s. Ended e s

-- the run that makes a new state
abbrev pub leaves : {E S : Type 0} → (S → S) → Run E S (Unit {0})
leaves f = λ s. Done tt (f s)

-- how an outcome goes on: an ended run stays ended, else the next run begins in the state that was left
abbrev pub from : {E S A B : Type 0} → Outcome E S A → (A → Run E S B) → Outcome E S B
from (Ended e s) f = Ended e s
from (Done a s) f = f a s

-- one run after another, the second with the value of the first
abbrev pub ◌>>=◌ : {E S A B : Type 0} → Run E S A → (A → Run E S B) → Run E S B
◌>>=◌ m f = λ s. from (m s) f

-- one run after another
abbrev pub ◌>>◌ : {E S A B : Type 0} → Run E S A → Run E S B → Run E S B
◌>>◌ m n = λ s. from (m s) (λ _. n)

-- a run that goes on only where a test holds, and ends where it doesn't
abbrev pub allowed : {E S A : Type 0} → Bool → E → Run E S A → Run E S A
allowed true e next = next
allowed false e next = ends e

-- one run or the other
abbrev pub either : {E S A : Type 0} → Bool → Run E S A → Run E S A → Run E S A
either true a b = a
either false a b = b

-- Two outcomes match where both have ended with endings and states that `Q` relates, or both have given values and
-- states that `R` relates.
abbrev pub Matches : {E D S T A B : Type 0} → (A → S → B → T → Type 0) → (E → S → D → T → Type 0) → Outcome E S A → Outcome D T B → Type 0
Matches R Q (Ended e s) (Ended d t) = Q e s d t
Matches R Q (Ended e s) (Done b t) = ⊥
Matches R Q (Done a s) (Ended d t) = ⊥
Matches R Q (Done a s) (Done b t) = R a s b t
