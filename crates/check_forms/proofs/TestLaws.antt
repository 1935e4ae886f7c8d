-- The law of tests: their instructions stop exactly where the test doesn't pass, and leave the slots that it says.
use Rattle.std.proofs.Common.{◌≡◌, ℕ, Bool, true, false, List, [], ◌∷◌, ◌++◌, length, refl, ap, sym, subst, ◌∙◌, ◌&&◌, if◌then◌else◌}
use mathlib.Core.Path.{fun_ext}
use Rattle.cc_base.specs.declared.fault.Check.{Check}
use Rattle.cc_base.specs.declared.place.Place.{Place}
use Rattle.integers.specs.Words.{is_true_word}
use Rattle.runs.specs.Outcome.{from, either}
use Rattle.runs.specs.Control.{then_go}
use Rattle.cured_code.specs.declared.instr.Instr.{Instr}
use Rattle.cured_code.specs.declared.instr.Instr.TheVariants as instr
use Rattle.cured_code.specs.declared.instr.Code.{Code}
use Rattle.cured_code.specs.FlatState.{State, Local, slot}
use Rattle.cured_code.specs.FlatMachine.{Context, run}
use Rattle.cured_code.specs.Straight.{Line, instrs, behind, IsBehind}
use Rattle.cured_code.proofs.RunLaws.{run-append, act-if}
use Rattle.cured_code.proofs.StraightLaws.{straight}
use Rattle.check_forms.specs.Tests.{Test, Pass, Flag, After, Choose, Then, slots_behind, passes, CanTest, IsTest, Checked}

pub append-append : (a b d : List Instr) → (a ++ b) ++ d ≡ a ++ (b ++ d)
append-append [] b d = refl
append-append (i ∷ a) b d = ap (λ r. i ∷ r) (append-append a b d)

-- what a test does, in the slots of its start
abbrev pub Does : Check → Place → Test → List Instr → Context → Local → Type 0
Does check at t is w c = Checked check at (passes w.parts c.state.memory t (slot c)) (slots_behind w.parts c.state.memory t (slot c)) is w c

abbrev pub Can : Test → Context → Local → Type 0
Can t w c = CanTest (length c.slots) w.parts c.state.memory t (slot c)

-- lines in front of a test
behind-lines : (check : Check) (at : Place) (holds : Bool) (e : ℕ → ℕ) (lines : List Line) (rest : List Instr) (w : Context) (c : Local)
    (b : IsBehind lines w c)
    → Checked check at holds e rest w b.after → Checked check at holds e (instrs lines ++ rest) w c
behind-lines check at holds e lines rest w c b x = record {
  after = x.after;
  runs = λ more. ap (λ is. run is w c) (append-append (instrs lines) rest more) ∙ b.runs (rest ++ more) ∙ x.runs more;
  state = x.state ∙ b.state;
  slots = x.slots;
  count = x.count ∙ b.count;
}

-- the part of an `if` that runs
if-true : (check : Check) (at : Place) (holds : Bool) (e : ℕ → ℕ) (a : ℕ) (x y : Code) (w : Context) (c : Local) → is_true_word (slot c a) ≡ true
    → Checked check at holds e x.0.items w c → Checked check at holds e (instr.If a x y ∷ []) w c
if-true check at holds e a x y w c h k = record {
  after = k.after;
  runs = λ more.
      ap (λ o. from o (λ z. then_go z (run more w))) (act-if a x y w c ∙ ap (λ q. either q (run x.0.items w) (run y.0.items w) c) h)
      ∙ sym (run-append x.0.items more w c) ∙ k.runs more;
  state = k.state;
  slots = k.slots;
  count = k.count;
}

if-false : (check : Check) (at : Place) (holds : Bool) (e : ℕ → ℕ) (a : ℕ) (x y : Code) (w : Context) (c : Local) → is_true_word (slot c a) ≡ false
    → Checked check at holds e y.0.items w c → Checked check at holds e (instr.If a x y ∷ []) w c
if-false check at holds e a x y w c h k = record {
  after = k.after;
  runs = λ more.
      ap (λ o. from o (λ z. then_go z (run more w))) (act-if a x y w c ∙ ap (λ q. either q (run x.0.items w) (run y.0.items w) c) h)
      ∙ sym (run-append y.0.items more w c) ∙ k.runs more;
  state = k.state;
  slots = k.slots;
  count = k.count;
}

-- one check after another that holds
pub checked-then : (check : Check) (at : Place) (holds : Bool) (d e : ℕ → ℕ) (first rest : List Instr) (w : Context) (c : Local)
    (x : Checked check at true d first w c)
    → Checked check at holds e rest w x.after → Checked check at holds e (first ++ rest) w c
checked-then check at holds d e first rest w c x y = record {
  after = y.after;
  runs = λ more. ap (λ is. run is w c) (append-append first rest more) ∙ x.runs (rest ++ more) ∙ y.runs more;
  state = y.state ∙ x.state;
  slots = y.slots;
  count = y.count ∙ x.count;
}

-- one that stops keeps what follows from running
pub checked-stops : (check : Check) (at : Place) (e : ℕ → ℕ) (first rest : List Instr) (w : Context) (c : Local)
    → Checked check at false e first w c
    → Checked check at false e (first ++ rest) w c
checked-stops check at e first rest w c x = record {
  after = x.after;
  runs = λ more. ap (λ is. run is w c) (append-append first rest more) ∙ x.runs (rest ++ more);
  state = x.state;
  slots = x.slots;
  count = x.count;
}

-- a state whose slots and memory are known has the test's value on them
at-slots : (check : Check) (at : Place) (t : Test) (is : List Instr) (w : Context) (d : Local) (s : State) (e : ℕ → ℕ) → d.state ≡ s → slot d ≡ e
    → Does check at t is w d
    → Checked check at (passes w.parts s.memory t e) (slots_behind w.parts s.memory t e) is w d
at-slots check at t is w d s e h k x =
    subst (λ (f : ℕ → ℕ). Checked check at (passes w.parts s.memory t f) (slots_behind w.parts s.memory t f) is w d) k
    (subst (λ (r : State). Checked check at (passes w.parts r.memory t (slot d)) (slots_behind w.parts r.memory t (slot d)) is w d) h x)

can-slots : (t : Test) (w : Context) (d : Local) (n : ℕ) (s : State) (e : ℕ → ℕ) → length d.slots ≡ n → d.state ≡ s → slot d ≡ e
    → CanTest n w.parts s.memory t e → Can t w d
can-slots t w d n s e l h k x =
    subst (λ (f : ℕ → ℕ). CanTest (length d.slots) w.parts d.state.memory t f) (sym k)
    (subst (λ (r : State). CanTest (length d.slots) w.parts r.memory t e) (sym h)
    (subst (λ (j : ℕ). CanTest j w.parts s.memory t e) (sym l) x))

-- a test behind lines
after-lines : (check : Check) (at : Place) (lines : List Line) (t : Test) (rest : List Instr) (w : Context) (c : Local) → Can (After lines t) w c
    → ((d : Local) → Can t w d → Does check at t rest w d) → Does check at (After lines t) (instrs lines ++ rest) w c
after-lines check at lines t rest w c can next = of (straight lines w c can.0)
  where
    of : IsBehind lines w c → Does check at (After lines t) (instrs lines ++ rest) w c
    of b =
        let now : slot b.after ≡ behind w.parts c.state.memory lines (slot c) = fun_ext b.slots in
        behind-lines check at _ _ lines rest w c b
        (at-slots check at t rest w b.after c.state (behind w.parts c.state.memory lines (slot c)) b.state now
        (next b.after (can-slots t w b.after (length c.slots) c.state (behind w.parts c.state.memory lines (slot c)) b.count b.state now can.1)))

-- one of two tests
chosen : (check : Check) (at : Place) (a : ℕ) (t u : Test) (x y : Code) (w : Context) (c : Local) (q : Bool) → is_true_word (slot c a) ≡ q
    → (is_true_word (slot c a) ≡ true → Does check at t x.0.items w c) → (is_true_word (slot c a) ≡ false → Does check at u y.0.items w c)
    → Does check at (Choose a t u) (instr.If a x y ∷ []) w c
chosen check at a t u x y w c true e then_part else_part = if-true check at _ _ a x y w c e
    (subst (λ (q : Bool). Checked check at (if q then passes w.parts c.state.memory t (slot c) else passes w.parts c.state.memory u (slot c))
    (if q then slots_behind w.parts c.state.memory t (slot c) else slots_behind w.parts c.state.memory u (slot c)) x.0.items w c) (sym e)
    (then_part e))
chosen check at a t u x y w c false e then_part else_part = if-false check at _ _ a x y w c e
    (subst (λ (q : Bool). Checked check at (if q then passes w.parts c.state.memory t (slot c) else passes w.parts c.state.memory u (slot c))
    (if q then slots_behind w.parts c.state.memory t (slot c) else slots_behind w.parts c.state.memory u (slot c)) y.0.items w c) (sym e)
    (else_part e))

-- one test after another
both : (check : Check) (at : Place) (t u : Test) (first rest : List Instr) (w : Context) (c : Local) (q : Bool)
    → passes w.parts c.state.memory t (slot c) ≡ q → Can (Then t u) w c
    → Does check at t first w c → ((d : Local) → Can u w d → Does check at u rest w d) → Does check at (Then t u) (first ++ rest) w c
both check at t u first rest w c true e can one next =
    let x : Checked check at true (slots_behind w.parts c.state.memory t (slot c)) first w c = subst
    (λ (q : Bool). Checked check at q (slots_behind w.parts c.state.memory t (slot c)) first w c) e one in
    let y : Checked check at (passes w.parts c.state.memory u (slots_behind w.parts c.state.memory t (slot c)))
    (slots_behind w.parts c.state.memory u (slots_behind w.parts c.state.memory t (slot c))) rest w x.after =
    at-slots check at u rest w x.after c.state (slots_behind w.parts c.state.memory t (slot c)) x.state x.slots
    (next x.after (can-slots u w x.after (length c.slots) c.state (slots_behind w.parts c.state.memory t (slot c)) x.count x.state x.slots
    (can.1 e))) in
    subst (λ (q : Bool). Checked check at (q && passes w.parts c.state.memory u (slots_behind w.parts c.state.memory t (slot c)))
    (if q then slots_behind w.parts c.state.memory u (slots_behind w.parts c.state.memory t (slot c)) else slots_behind w.parts c.state.memory t
    (slot c)) (first ++ rest) w c) (sym e)
    (checked-then check at _ (slots_behind w.parts c.state.memory t (slot c)) _ first rest w c x y)
both check at t u first rest w c false e can one next =
    subst (λ (q : Bool). Checked check at (q && passes w.parts c.state.memory u (slots_behind w.parts c.state.memory t (slot c)))
    (if q then slots_behind w.parts c.state.memory u (slots_behind w.parts c.state.memory t (slot c)) else slots_behind w.parts c.state.memory t
    (slot c)) (first ++ rest) w c) (sym e)
    (checked-stops check at (slots_behind w.parts c.state.memory t (slot c)) first rest w c
    (subst (λ (q : Bool). Checked check at q (slots_behind w.parts c.state.memory t (slot c)) first w c) e one))

-- THE LAW OF TESTS
pub tests : (check : Check) (at : Place) (t : Test) (is : List Instr) (w : Context) (c : Local) → IsTest check at t is → Can t w c
    → Does check at t is w c
tests check at Pass is w c h can =
    subst (λ (js : List Instr). Does check at Pass js w c) (sym h) (record { after = c; runs = λ more. refl; state = refl; slots = refl; count = refl })
tests check at (Flag a) is w c h can =
    subst (λ (js : List Instr). Does check at (Flag a) js w c) (sym h) (record { after = c; runs = λ more. refl; state = refl; slots = refl; count = refl })
tests check at (After lines t) is w c h can = subst (λ (js : List Instr). Does check at (After lines t) js w c) (sym h.2)
    (after-lines check at lines t h.0 w c can (λ d k. tests check at t h.0 w d h.1 k))
tests check at (Choose a t u) is w c h can = subst (λ (js : List Instr). Does check at (Choose a t u) js w c) (sym h.4)
    (chosen check at a t u h.0 h.1 w c (is_true_word (slot c a)) refl (λ e. tests check at t h.0.0.items w c h.2 (can.0 e))
    (λ e. tests check at u h.1.0.items w c h.3 (can.1 e)))
tests check at (Then t u) is w c h can = subst (λ (js : List Instr). Does check at (Then t u) js w c) (sym h.4)
    (both check at t u h.0 h.1 w c (passes w.parts c.state.memory t (slot c)) refl can (tests check at t h.0 w c h.2 can.0)
    (λ d k. tests check at u h.1 w d h.3 k))
