-- What `++` and `--` give where no rule is broken, and where they stop then: `q` is the operand's part, `r` what is made of it.
use Rattle.std.proofs.Common.{◌≡◌, ℕ, ◌≤◌, [], ◌∷◌, None}
use Rattle.cc_base.specs.declared.place.Place.{Place}
use Rattle.cc_base.specs.declared.fault.Fault.{Fault}
use Rattle.c_tree.specs.declared.operator.Step.{Step}
use Rattle.c_tree.specs.TypedTree as typed
use Rattle.c_tree.specs.TypedTree.{TypedPlace}
use Rattle.c_typing.specs.declared.operand.Operand.{Operand}
use Rattle.c_typing.specs.declared.operand.Part.{Part}
use Rattle.c_typing.specs.Held.{held_with}
use Rattle.c_typing.specs.Judging.{State, Gives, Stops}
use Rattle.c_typing.specs.OperandViews.{part_view, operand_view}
use Rattle.c_typing.specs.Operations.{step_part, step_before, step_after}
use Rattle.c_typing.specs.Tests.{first_broken, step_tests}
use Rattle.c_check_operators.proofs.ConstructLaws.{made_operand, one_gives, one_stops}

pub before_gives : (operator : Step) (at : Place) (x : Operand) (n : ℕ) (q r : Part) (s t : State)
    → first_broken (step_tests s.table s.seen.scopes at (part_view x.part)) ≡ None → held_with 0 (x.held ∷ []) ≤ 256 → n ≡ held_with 0 (x.held ∷ []) → q ≡ x.part
    → step_part (λ p. typed.StepBefore operator at p) at (part_view q) s ≡ Gives (part_view r) t
    → step_before operator at (operand_view x) s ≡ Gives (made_operand at n (part_view r)) t
unfolding step_before
before_gives operator at x n q r s t e m k w g = one_gives (λ s. step_tests s.table s.seen.scopes at (part_view x.part)) at x.held n (λ y. step_part (λ p. typed.StepBefore operator at p) at y) x.part q r s t e m k w g

pub before_stops : (operator : Step) (at : Place) (x : Operand) (q : Part) (s t : State)
    → first_broken (step_tests s.table s.seen.scopes at (part_view x.part)) ≡ None → held_with 0 (x.held ∷ []) ≤ 256 → q ≡ x.part
    → (f : Fault) → step_part (λ p. typed.StepBefore operator at p) at (part_view q) s ≡ Stops f t
    → step_before operator at (operand_view x) s ≡ Stops f t
unfolding step_before
before_stops operator at x q s t e m w f g = one_stops (λ s. step_tests s.table s.seen.scopes at (part_view x.part)) at x.held (λ y. step_part (λ p. typed.StepBefore operator at p) at y) x.part q s t f e m w g

pub after_gives : (operator : Step) (at : Place) (x : Operand) (n : ℕ) (q r : Part) (s t : State)
    → first_broken (step_tests s.table s.seen.scopes at (part_view x.part)) ≡ None → held_with 0 (x.held ∷ []) ≤ 256 → n ≡ held_with 0 (x.held ∷ []) → q ≡ x.part
    → step_part (λ p. typed.StepAfter p operator at) at (part_view q) s ≡ Gives (part_view r) t
    → step_after operator at (operand_view x) s ≡ Gives (made_operand x.place n (part_view r)) t
unfolding step_after
after_gives operator at x n q r s t e m k w g = one_gives (λ s. step_tests s.table s.seen.scopes at (part_view x.part)) x.place x.held n (λ y. step_part (λ p. typed.StepAfter p operator at) at y) x.part q r s t e m k w g

pub after_stops : (operator : Step) (at : Place) (x : Operand) (q : Part) (s t : State)
    → first_broken (step_tests s.table s.seen.scopes at (part_view x.part)) ≡ None → held_with 0 (x.held ∷ []) ≤ 256 → q ≡ x.part
    → (f : Fault) → step_part (λ p. typed.StepAfter p operator at) at (part_view q) s ≡ Stops f t
    → step_after operator at (operand_view x) s ≡ Stops f t
unfolding step_after
after_stops operator at x q s t e m w f g = one_stops (λ s. step_tests s.table s.seen.scopes at (part_view x.part)) x.place x.held (λ y. step_part (λ p. typed.StepAfter p operator at) at y) x.part q s t f e m w g
