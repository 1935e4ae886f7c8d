-- What was given by steps, and where they stopped.
use Rattle.std.proofs.Common.{◌≡◌, ◌≢◌, refl, ap, sym, subst, ◌∙◌, Bool, true, false, Result}
use Rattle.cc_base.specs.declared.fault.Fault.{Fault}
use Rattle.cc_base.specs.declared.fault.Fault.TheVariants.{NoMemory}
use Rattle.c_typing.specs.Declaring.{once_left, stopped_outside}
use Rattle.c_typing.specs.Judging.{State, Outcome, Judging, Gives, Stops, Answers, next, pure}

value_in : {A : Type 0} → A → Outcome A → A
value_in d (Gives a s) = a
value_in d (Stops f s) = d

state_in : {A : Type 0} → Outcome A → State
state_in (Gives a s) = s
state_in (Stops f s) = s

is_given : {A : Type 0} → Outcome A → Bool
is_given (Gives a s) = true
is_given (Stops f s) = false

pub gives-value : {A : Type 0} (a b : A) (s r : State) → Gives a s ≡ Gives b r → a ≡ b
unfolding value_in
gives-value a b s r h = ap (value_in a) h

pub gives-state : {A : Type 0} (a b : A) (s r : State) → Gives a s ≡ Gives b r → s ≡ r
unfolding state_in
gives-state a b s r h = ap state_in h

never-gives : {A P : Type 0} (a : A) (f : Fault) (s r : State) → Stops f s ≡ Gives a r → P
unfolding is_given
never-gives a f s r h = absurd (let e : false ≡ true = ap is_given h in cc)

pub never-stops : {A P : Type 0} (a : A) (f : Fault) (s r : State) → Gives a s ≡ Stops f r → P
unfolding is_given
never-stops a f s r h = absurd (let e : true ≡ false = ap is_given h in cc)

-- where two steps give something, the first gave something, and the second went on from there
pub next-gives : {A B : Type 0} (o : Outcome A) (f : A → Judging B) (b : B) (r : State) → next o f ≡ Gives b r
    → (a : A) × (s : State) × (o ≡ Gives a s) × (f a s ≡ Gives b r)
next-gives (Gives a s) f b r h = (a, s, refl, h)
next-gives (Stops fault s) f b r h = never-gives b fault s r h

stopped_at : {A B : Type 0} → Fault → State → Outcome B → Outcome A
stopped_at f s (Gives b m) = Stops f s
stopped_at f s (Stops g m) = Stops g m

-- a stop is one of any kind of outcome
stops-too : (A B : Type 0) (f g : Fault) (s r : State) → ◌≡◌ {A = Outcome B} (Stops f s) (Stops g r) → ◌≡◌ {A = Outcome A} (Stops f s) (Stops g r)
unfolding stopped_at
stops-too A B f g s r h = ap (stopped_at {A = A} f s) h

-- a step that only makes something of what is given stops nowhere
pub made-stops : {A B : Type 0} (o : Outcome A) (f : A → B) (fault : Fault) (r : State) → next o (λ a. pure (f a)) ≡ Stops fault r → o ≡ Stops fault r
made-stops (Gives a s) f fault r h = never-stops (f a) fault s r h
made-stops {A = A} {B = B} (Stops other s) f fault r h = stops-too A B other fault s r h

-- three steps, the first two taken together
pub next-next : {A B C : Type 0} (o : Outcome A) (f : A → Judging B) (h : B → Judging C) → next (next o f) h ≡ next o (λ a. λ s. next (f a s) h)
next-next (Gives a s) f h = refl
next-next (Stops fault s) f h = refl

-- what answers the judging of one thing answers that of another that is the same
pub answers-moved : {X A B : Type 0} (view : B → A) (judge : X → Outcome A) (x y : X) (r : Result B Fault) (t : State) → Answers view (judge x) r t → x ≡ y → Answers view (judge y) r t
answers-moved view judge x y r t answers same = subst (λ z. Answers view (judge z) r t) same answers

-- a stop in a scope of its own, which is left
pub stop_outside : {A : Type 0} (o : Outcome A) (fault : Fault) (m r : State) → r ≡ once_left m → (fault ≢ NoMemory → o ≡ Stops fault m)
    → fault ≢ NoMemory → stopped_outside o ≡ Stops fault r
stop_outside {A} o fault m r left real n = ap stopped_outside (real n) ∙ sym (ap (λ (q : State). Stops fault q) left)
