-- Runs that aren't wrong, and what they give.
use Rattle.std.proofs.Common.{◌≡◌, ℕ, Bool, true, false, List, [], ◌∷◌, refl, sym, subst}
use Rattle.cc_base.specs.declared.place.Place.{Place}
use Rattle.cc_base.specs.declared.kind.Kind.{Kind}
use Rattle.runs.specs.Outcome.{Outcome, Ended, Done, done, leaves, allowed, from}
use Rattle.src_mem.specs.Pointers.{Location, At}
use Rattle.src_mem.specs.Memory.{Object}
use Rattle.src_mem.specs.State.{Ending, Exited, Stopped, Turns, Wants, Wrong, State, Act, Setting, given, touched}
use Rattle.src_mem.specs.Checks.{Condition, check_of, holds, checked, all_placed}
use Rattle.src_mem.specs.Primitives.{Spot, access}
use Rattle.src_mem.specs.Laws.{Gives}
use Rattle.facts_kept.specs.Kept.{AllHold}
use Rattle.src_mem.proofs.Spots.{IsRight, spot-right}

pub gives-from : {A B : Type 0} (P : A → State → Type 0) (Q : B → State → Type 0) (m : Outcome Ending State A) (f : A → Act B)
    → Gives m P → ((a : A) (s : State) → P a s → Gives (f a s) Q) → Gives (from m f) Q
gives-from P Q (Done a s) f h next = next a s h
gives-from P Q (Ended Turns s) f h next = tt
gives-from P Q (Ended Wants s) f h next = tt
gives-from P Q (Ended (Exited n) s) f h next = tt
gives-from P Q (Ended (Stopped c p) s) f h next = tt
gives-from P Q (Ended Wrong s) f h next = h

abbrev pub goes_on : Act (Unit {0})
goes_on = done tt

-- conditions that are tried stop a run, or hold
pub gives-checked : {B : Type 0} (w : Setting) (place : Condition → Place) (cs : List Condition) (next : Act B) (s : State) (P : B → State → Type 0)
    → (AllHold w s.memory cs → Gives (next s) P) → Gives (from (all_placed w place cs s) (λ a. next)) P
gives-checked w place [] next s P h = h tt
gives-checked w place (c ∷ cs) next s P h = by (holds w s.memory c) refl (gives-checked w place cs next s P)
  where
    by : (b : Bool) → holds w s.memory c ≡ b → ((AllHold w s.memory cs → Gives (next s) P) → Gives (from (all_placed w place cs s) (λ a. next)) P)
        → Gives (from (from (allowed b (Stopped (check_of c) (place c)) goes_on s) (λ a. all_placed w place cs)) (λ a. next)) P
    by false e rest = tt
    by true e rest = rest (λ k. h (e, k))

-- and so does one condition
pub gives-tried : {B : Type 0} (w : Setting) (place : Place) (c : Condition) (next : Act B) (s : State) (P : B → State → Type 0)
    → (holds w s.memory c ≡ true → Gives (next s) P) → Gives (from (checked w place c s) (λ a. next)) P
gives-tried w place c next s P h = by (holds w s.memory c) refl
  where
    by : (b : Bool) → holds w s.memory c ≡ b → Gives (from (allowed b (Stopped (check_of c) place) goes_on s) (λ a. next)) P
    by false e = tt
    by true e = h e

-- an access that is right goes on where it falls
pub gives-access : {A : Type 0} (k : Kind) (l : Location) (m : ℕ) (next : Spot → Act A) (s : State) (o : Object) (at : ℕ) (P : A → State → Type 0)
    → IsRight k s.memory.objects l m o at → Gives (next (record { number = l.object; object = o; at = at }) (touched l.object at m s)) P
    → Gives (access k (At l) m next s) P
gives-access k l m next s o at P right h =
    subst (λ r. Gives (given r (λ at. λ t. from (leaves (touched at.number at.at m) t) (λ a. next at)) s) P)
    (sym (spot-right k s.memory.objects l m o at right)) h

-- what follows from what a run gives
pub gives-more : {A : Type 0} (P Q : A → State → Type 0) (m : Outcome Ending State A) → Gives m P → ((a : A) (s : State) → P a s → Q a s) → Gives m Q
gives-more P Q (Done a s) h next = next a s h
gives-more P Q (Ended Turns s) h next = tt
gives-more P Q (Ended Wants s) h next = tt
gives-more P Q (Ended (Exited n) s) h next = tt
gives-more P Q (Ended (Stopped c p) s) h next = tt
gives-more P Q (Ended Wrong s) h next = h
