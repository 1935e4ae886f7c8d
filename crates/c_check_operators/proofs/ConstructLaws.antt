-- What a construct with one operand gives where no rule is broken and it doesn't hold too much, and where it stops then.
use Rattle.std.proofs.Common.{◌≡◌, ℕ, ◌≤◌, Bool, false, nat_lt, List, [], ◌∷◌, Option, None, if◌then◌else◌, sym, ap, ◌∙◌, arith}
use Rattle.std.proofs.lemmas.Bool.Decides.{nat_tests}
use Rattle.cc_base.specs.declared.place.Place.{Place}
use Rattle.cc_base.specs.declared.fault.Fault.{Fault}
use Rattle.cc_base.specs.declared.fault.Fault.TheVariants.{TooLarge}
use Rattle.cc_base.specs.declared.fault.Limit.TheVariants.{Held}
use Rattle.c_typing.specs.declared.operand.Part.{Part}
use Rattle.c_typing.specs.Held.{held_with}
use Rattle.c_typing.specs.Judging.{State, Outcome, Judging, Gives, Stops, unless, next, pure, ◌>>=◌, holding}
use Rattle.c_typing.specs.Operands.{Operand}
use Rattle.c_typing.specs.Operations.{construct}
use Rattle.c_typing.specs.OperandViews.{part_view}
use Rattle.c_typing.specs.Tests.{Elaborated, Test, first_broken}

abbrev pub made_operand : Place → ℕ → Elaborated → Operand
made_operand begin h x = record { part = x; place = begin; held = h }

unless_none : (o : Option Fault) (go : Judging Operand) (s : State) → o ≡ None → unless o go s ≡ go s
unless_none o go s e = ap (λ (x : Option Fault). unless x go s) e

few_held : (b : Bool) (begin : Place) (n : ℕ) (s : State) (k : ℕ → Judging Operand) → b ≡ false → next (if b then Stops (TooLarge begin Held) s else Gives n s) k ≡ k n s
few_held b begin n s k e = ap (λ (x : Bool). next (if x then Stops (TooLarge begin Held) s else Gives n s) k) e

not_more : (n : ℕ) → n ≤ 256 → nat_lt 256 n ≡ false
not_more n m = grind (arith, nat_tests)

-- what is made of the operand goes on
goes_on : (rules : State → List Test) (begin : Place) (h : ℕ) (made : Judging Elaborated) (s : State)
    → first_broken (rules s) ≡ None → held_with 0 (h ∷ []) ≤ 256
    → construct rules begin (h ∷ []) made s ≡ next (made s) (λ x. pure (made_operand begin (held_with 0 (h ∷ [])) x))
unfolding construct holding
goes_on rules begin h made s e m =
    unless_none (first_broken (rules s)) (holding begin (held_with 0 (h ∷ [])) >>= (λ n. made >>= (λ x. pure (made_operand begin n x)))) s e
    ∙ few_held (nat_lt 256 (held_with 0 (h ∷ []))) begin (held_with 0 (h ∷ [])) s (λ n. made >>= (λ x. pure (made_operand begin n x))) (not_more (held_with 0 (h ∷ [])) m)

-- of a part q that is the operand's part p
pub one_gives : (rules : State → List Test) (begin : Place) (h n : ℕ) (made : Elaborated → Judging Elaborated) (p q r : Part) (s t : State)
    → first_broken (rules s) ≡ None → held_with 0 (h ∷ []) ≤ 256 → n ≡ held_with 0 (h ∷ []) → q ≡ p → made (part_view q) s ≡ Gives (part_view r) t
    → construct rules begin (h ∷ []) (made (part_view p)) s ≡ Gives (made_operand begin n (part_view r)) t
one_gives rules begin h n made p q r s t e m k w g =
    goes_on rules begin h (made (part_view p)) s e m
    ∙ ap (λ (o : Outcome Elaborated). next o (λ x. pure (made_operand begin (held_with 0 (h ∷ [])) x))) (ap (λ (y : Part). made (part_view y) s) (sym w) ∙ g)
    ∙ ap (λ (i : ℕ). Gives (made_operand begin i (part_view r)) t) (sym k)

pub one_stops : (rules : State → List Test) (begin : Place) (h : ℕ) (made : Elaborated → Judging Elaborated) (p q : Part) (s t : State) (f : Fault)
    → first_broken (rules s) ≡ None → held_with 0 (h ∷ []) ≤ 256 → q ≡ p → made (part_view q) s ≡ Stops f t
    → construct rules begin (h ∷ []) (made (part_view p)) s ≡ Stops f t
one_stops rules begin h made p q s t f e m w g =
    goes_on rules begin h (made (part_view p)) s e m
    ∙ ap (λ (o : Outcome Elaborated). next o (λ x. pure (made_operand begin (held_with 0 (h ∷ [])) x))) (ap (λ (y : Part). made (part_view y) s) (sym w) ∙ g)
