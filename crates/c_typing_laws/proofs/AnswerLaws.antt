-- What an answer of the code is, by what judging gives or refuses.
use Rattle.std.proofs.Common.{◌≡◌, Result, Ok, Err, IfOk, ap, sym, ◌∙◌, true≢false, Bool, true, false}
use Rattle.cc_base.specs.declared.place.Place.{Place}
use Rattle.cc_base.specs.declared.fault.Fault.{Fault}
use Rattle.cc_base.specs.declared.fault.Fault.TheVariants.{Refused, TooLarge, NoMemory}
use Rattle.cc_base.specs.declared.fault.Rule.{Rule}
use Rattle.c_typing.specs.Judging.{State, Outcome, Gives, Stops, Answers}

-- what is given is what the law says
pub given-ok : {A B : Type 0} (view : B → A) (m : Outcome A) (result : Result B Fault) (r : State) (P : A → Type 0)
    → ((a : A) → m ≡ Gives a r → P a) → Answers view m result r → IfOk result (λ b. P (view b))
given-ok view m (Ok b) r P law h = law (view b) h
given-ok view m (Err f) r P law h = tt

abbrev is_wanting : Fault → Bool
is_wanting NoMemory = true
is_wanting (Refused p t) = false
is_wanting (TooLarge p l) = false

abbrev fault_of : {B : Type 0} → Fault → Result B Fault → Fault
fault_of d (Ok b) = d
fault_of d (Err f) = f

-- what is refused is what the law says
pub refused-err : {A B : Type 0} (view : B → A) (m : Outcome A) (result : Result B Fault) (r : State) (P : Place → Rule → Type 0)
    → ((p : Place) (t : Rule) → m ≡ Stops (Refused p t) r → P p t) → Answers view m result r
    → (p : Place) (t : Rule) → result ≡ Err (Refused p t) → P p t
refused-err view m (Ok b) r P law h p t e = absurd (true≢false (ap (λ x. is_wanting (fault_of NoMemory x)) e))
refused-err view m (Err f) r P law h p t e =
    let same : f ≡ Refused p t = ap (fault_of f) e in
    law p t (h (λ n. true≢false (ap is_wanting (sym n ∙ same))) ∙ ap (λ g. Stops g r) same)
