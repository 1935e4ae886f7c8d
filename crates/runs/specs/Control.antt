-- How structured code is left: by its end, by leaving enclosing blocks, or with a value.
use Rattle.std.specs.Prelude.{ℕ, zero, suc, ◌≡◌}
use Rattle.runs.specs.Outcome.{Run, done, ends, ◌>>=◌}

-- what a piece of code has done when it is over: it goes on with what follows, leaves the k-th enclosing block or
-- loop, counted from 0 outwards, or gives the value of the function that it stands in
pub data Control (V : Type 0) : Type 0 where
  Goes : Control V
  Leaves : ℕ → Control V
  Gives : V → Control V

-- what follows a piece of code runs only where the code goes on
abbrev pub then_go : {E S V : Type 0} → Control V → Run E S (Control V) → Run E S (Control V)
then_go Goes next = next
then_go (Leaves k) next = done (Leaves k)
then_go (Gives v) next = done (Gives v)

-- how control leaves a block: leaving block 0 from inside it is going on after it
abbrev pub out_of : {V : Type 0} → Control V → Control V
out_of Goes = Goes
out_of (Leaves zero) = Goes
out_of (Leaves (suc k)) = Leaves k
out_of (Gives v) = Gives v

-- a block runs once
abbrev pub block : {E S V : Type 0} → Run E S (Control V) → Run E S (Control V)
block body = body >>= (λ x. done (out_of x))

-- after a round, a loop goes round again where the body goes on, and is left as a block is
abbrev pub go_round : {E S V : Type 0} → Control V → Run E S (Control V) → Run E S (Control V)
go_round Goes again = again
go_round (Leaves zero) again = done Goes
go_round (Leaves (suc k)) again = done (Leaves k)
go_round (Gives v) again = done (Gives v)

-- at most n rounds of a loop, and `spent` as the ending where there would be more
-- a round takes its turn itself, so that a loop that begins with n turns left makes at most n rounds
abbrev pub rounds : {E S V : Type 0} → E → ℕ → Run E S (Control V) → Run E S (Control V)
rounds spent zero round = ends spent
rounds spent (suc n) round = round >>= (λ x. go_round x (rounds spent n round))

-- Two controls are alike where both go on, in states that `I` relates; both leave the k-th block around, in states that `J k` relates; or
-- both give values, which `G` relates with their states.
abbrev pub Alike : {V W S T : Type 0} → (S → T → Type 0) → (ℕ → S → T → Type 0) → (V → S → W → T → Type 0) → Control V → S → Control W → T → Type 0
Alike I J G Goes s Goes t = I s t
Alike I J G Goes s (Leaves k) t = ⊥
Alike I J G Goes s (Gives w) t = ⊥
Alike I J G (Leaves k) s Goes t = ⊥
Alike I J G (Leaves k) s (Leaves j) t = (k ≡ j) × J k s t
Alike I J G (Leaves k) s (Gives w) t = ⊥
Alike I J G (Gives v) s Goes t = ⊥
Alike I J G (Gives v) s (Leaves j) t = ⊥
Alike I J G (Gives v) s (Gives w) t = G v s w t
