-- What judging gives is accepted.
use Rattle.std.proofs.Common.{◌≡◌, ◌≢◌, Result, Ok, Err, ℕ, List, Bool, true, false, true≢false, refl, ap, sym, subst, ◌∙◌}
use Rattle.cc_base.specs.declared.fault.Fault.{Fault}
use Rattle.cc_base.specs.declared.fault.Fault.TheVariants.{Refused, TooLarge, NoMemory}
use Rattle.c_types.specs.Table.{Table}
use Rattle.c_tree.specs.TypedParts.{Made}
use Rattle.c_typing.specs.Judging.{State, Outcome, Answers}
use Rattle.c_typing_given.specs.Given.{IsGivenAs, IsReached}
use Rattle.c_typing_unique.specs.Points.{Point}
use Rattle.c_check_expr.specs.Accepted.{IsTaken}
use Rattle.c_check_walk.proofs.OutcomeLaws.{gives-value, gives-state, never-stops}

abbrev pub is_wanting : Fault → Bool
is_wanting NoMemory = true
is_wanting (Refused p t) = false
is_wanting (TooLarge p l) = false

pub memory_alone : (f : Fault) → (f ≢ NoMemory → ⊥) → f ≡ NoMemory
memory_alone NoMemory h = refl
memory_alone (Refused p t) h = absurd (h (λ e. true≢false (ap is_wanting (sym e))))
memory_alone (TooLarge p l) h = absurd (h (λ e. true≢false (ap is_wanting (sym e))))

pub accepted : {A B : Type 0} (view : B → A) (outcome : Outcome A) (a : A) (T : Table) (made : List Made) (s : State) (b : Point) (count : ℕ) (result : Result B Fault) (after : State)
    → IsGivenAs T made outcome a s b count → Answers view outcome result after → IsTaken view a T made s b count result after
accepted view outcome a T made s b count (Ok answer) after g h =
    let same = sym h ∙ g.gives in
    let there = gives-state (view answer) a after g.after same in
    (gives-value (view answer) a after g.after same, subst (λ (r : State). IsReached T made s r b count) (sym there) g.reached)
accepted view outcome a T made s b count (Err fault) after g h = memory_alone fault (λ n. never-stops a fault g.after after (sym g.gives ∙ h n))
