-- How the lines of a check go, as data: straight lines, stops where a slot is 0, and parts that run where a slot is not 0. What such a
-- test does is a function of the slots: whether it passes, and what it leaves in them.
use Rattle.std.specs.Prelude.{◌≡◌, ℕ, Bool, true, false, ◌&&◌, List, [], ◌∷◌, ◌++◌, length, if◌then◌else◌}
use Rattle.cc_base.specs.declared.fault.Check.{Check}
use Rattle.cc_base.specs.declared.place.Place.{Place}
use Rattle.flat_mem.specs.Memory.{Memory}
use Rattle.integers.specs.Words.{is_true_word}
use Rattle.runs.specs.Outcome.{from, allowed}
use Rattle.runs.specs.Control.{then_go}
use Rattle.cured_code.specs.declared.instr.Instr.{Instr}
use Rattle.cured_code.specs.declared.instr.Instr.TheVariants as instr
use Rattle.cured_code.specs.declared.instr.Code.{Code}
use Rattle.cured_code.specs.declared.parts.Parts.{Parts}
use Rattle.cured_code.specs.FlatState.{Local, Stopped, slot, goes}
use Rattle.cured_code.specs.FlatMachine.{Context, run}
use Rattle.cured_code.specs.Straight.{Line, instrs, behind, CanRun}

pub data Test : Type 0 where
  -- nothing is tested
  Pass : Test
  -- it passes where the slot isn't 0
  Flag : (a : ℕ) → Test
  -- after lines
  After : (lines : List Line) (t : Test) → Test
  -- one test where the slot isn't 0, else the other
  Choose : (a : ℕ) (t u : Test) → Test
  -- one after the other
  Then : (t u : Test) → Test

-- the slots behind a test that passes, or where it stops, and whether it passes

abbrev mutual
  pub slots_behind : Parts → Memory → Test → (ℕ → ℕ) → ℕ → ℕ
  slots_behind parts m Pass e = e
  slots_behind parts m (Flag a) e = e
  slots_behind parts m (After lines t) e = slots_behind parts m t (behind parts m lines e)
  slots_behind parts m (Choose a t u) e = if is_true_word (e a) then slots_behind parts m t e else slots_behind parts m u e
  slots_behind parts m (Then t u) e = if passes parts m t e then slots_behind parts m u (slots_behind parts m t e) else slots_behind parts m t e

  pub passes : Parts → Memory → Test → (ℕ → ℕ) → Bool
  passes parts m Pass e = true
  passes parts m (Flag a) e = is_true_word (e a)
  passes parts m (After lines t) e = passes parts m t (behind parts m lines e)
  passes parts m (Choose a t u) e = if is_true_word (e a) then passes parts m t e else passes parts m u e
  passes parts m (Then t u) e = passes parts m t e && passes parts m u (slots_behind parts m t e)

-- no line that runs traps, and each sets one of so many slots
abbrev pub CanTest : ℕ → Parts → Memory → Test → (ℕ → ℕ) → Type 0
CanTest count parts m Pass e = Unit {0}
CanTest count parts m (Flag a) e = Unit {0}
CanTest count parts m (After lines t) e = CanRun count parts m lines e × CanTest count parts m t (behind parts m lines e)
CanTest count parts m (Choose a t u) e =
    (is_true_word (e a) ≡ true → CanTest count parts m t e) × (is_true_word (e a) ≡ false → CanTest count parts m u e)
CanTest count parts m (Then t u) e = CanTest count parts m t e × (passes parts m t e ≡ true → CanTest count parts m u (slots_behind parts m t e))

-- These are the instructions of a test that stops with this check at this place.
abbrev pub IsTest : Check → Place → Test → List Instr → Type 0
IsTest check at Pass is = is ≡ []
IsTest check at (Flag a) is = is ≡ instr.Check check at a ∷ []
IsTest check at (After lines t) is = (rest : List Instr) × IsTest check at t rest × (is ≡ instrs lines ++ rest)
IsTest check at (Choose a t u) is = (x : Code) × (y : Code) × IsTest check at t x.0.items × IsTest check at u y.0.items × (is ≡ instr.If a x y ∷ [])
IsTest check at (Then t u) is = (first : List Instr) × (rest : List Instr) × IsTest check at t first × IsTest check at u rest × (is ≡ first ++ rest)

-- What the instructions of a check do: they go on in a state with these slots where it holds, and stop the run where it doesn't; nothing
-- else has changed either way.
pub record Checked (check : Check) (at : Place) (holds : Bool) (e : ℕ → ℕ) (is : List Instr) (w : Context) (c : Local) : Type 0 where
  pub after : Local
  pub runs : (rest : List Instr) → run (is ++ rest) w c ≡ from (allowed holds (Stopped check at) (goes (λ d. d)) after)
      (λ x. then_go x (run rest w))
  pub state : after.state ≡ c.state
  pub slots : slot after ≡ e
  pub count : length after.slots ≡ length c.slots
