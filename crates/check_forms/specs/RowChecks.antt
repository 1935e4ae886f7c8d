-- The instructions of what a primitive asks, and what they do.
use Rattle.std.specs.Prelude.{◌≡◌, ℕ, true, List, [], ◌∷◌, ◌++◌, length, Option, Some, None, if◌then◌else◌}
use Rattle.flat_mem.specs.Memory.{Memory}
use Rattle.runs.specs.Outcome.{Outcome, Ended, Done, from}
use Rattle.runs.specs.Control.{Control, Goes, then_go}
use Rattle.cured_code.specs.declared.instr.Instr.{Instr}
use Rattle.cured_code.specs.declared.parts.Parts.{Parts}
use Rattle.cured_code.specs.FlatState.{Ending, Stopped, Local, slot}
use Rattle.cured_code.specs.FlatMachine.{Context, run}
use Rattle.check_forms.specs.Conditions.{flat_holds}
use Rattle.check_forms.specs.Rows.{Asked}
use Rattle.check_forms.specs.Tests.{IsTest, slots_behind}
use Rattle.check_forms.specs.Lines.{Work, test_of, IsOther, AreApart, AreHeld, IsSafe}

-- the instructions of each condition, in order
abbrev pub AreChecks : Work → List Asked → List Instr → Type 0
AreChecks k [] is = is ≡ []
AreChecks k (a ∷ rest) is =
    (x : List Instr) × (y : List Instr) × IsTest a.check a.place (test_of k a.condition) x × AreChecks k rest y × (is ≡ x ++ y)

-- the first of the conditions that is false
abbrev pub first_false : Parts → Memory → List Asked → (ℕ → ℕ) → Option Asked
first_false parts m [] e = None
first_false parts m (a ∷ rest) e = if flat_holds parts m a.condition e then first_false parts m rest e else Some a

-- the run is stopped by its check at its place, or goes on
abbrev pub stopped_by : Option Asked → Local → Outcome Ending Local (Control (List ℕ))
stopped_by None c = Done Goes c
stopped_by (Some a) c = Ended (Stopped a.check a.place) c

-- what the lines leave in the slots, one condition after another
abbrev pub slots_after : Work → Parts → Memory → List Asked → (ℕ → ℕ) → ℕ → ℕ
slots_after k parts m [] e = e
slots_after k parts m (a ∷ rest) e = slots_after k parts m rest (slots_behind parts m (test_of k a.condition) e)

-- The instructions stop by the check, at the place, of the first condition that is false, else they go on. Either way the state is as
-- it was, and of the slots none has changed but working ones; where they go on, these hold what the tests leave.
pub record AreChecked (k : Work) (conditions : List Asked) (is : List Instr) (w : Context) (c : Local) : Type 0 where
  pub after : Local
  pub runs : (rest : List Instr) → run (is ++ rest) w c ≡ from (stopped_by (first_false w.parts c.state.memory conditions (slot c)) after)
      (λ x. then_go x (run rest w))
  pub state : after.state ≡ c.state
  pub slots : (a : ℕ) → IsOther k a → slot after a ≡ slot c a
  pub count : length after.slots ≡ length c.slots
  pub behind : first_false w.parts c.state.memory conditions (slot c) ≡ None → slot after ≡ slots_after k w.parts c.state.memory conditions (slot c)

-- What the law of a row takes: working slots are apart from operands, slots of numbers hold them, and what a condition looks up is
-- there once those before it hold.

abbrev pub AreAllApart : Work → List Asked → Type 0
AreAllApart k [] = Unit {0}
AreAllApart k (a ∷ rest) = AreApart k a.condition × AreAllApart k rest

abbrev pub AreAllHeld : (ℕ → ℕ) → List Asked → Type 0
AreAllHeld e [] = Unit {0}
AreAllHeld e (a ∷ rest) = AreHeld e a.condition × AreAllHeld e rest

abbrev pub AreSafe : Parts → Memory → List Asked → (ℕ → ℕ) → Type 0
AreSafe parts m [] e = Unit {0}
AreSafe parts m (a ∷ rest) e = IsSafe m a.condition e × (flat_holds parts m a.condition e ≡ true → AreSafe parts m rest e)
