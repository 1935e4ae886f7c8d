-- The law of straight code: where no line of it traps, it runs as a function of the slots.
use Rattle.std.proofs.Common.{◌≡◌, ℕ, Bool, true, List, [], ◌∷◌, ◌++◌, length, refl, ap, sym, subst, ◌∙◌, length-set}
use mathlib.Core.Path.{fun_ext}
use Rattle.runs.specs.Outcome.{from, allowed}
use Rattle.runs.specs.Control.{then_go}
use Rattle.cured_code.specs.declared.instr.Instr.{Instr}
use Rattle.cured_code.specs.FlatState.{Local, Trap, slot, with_slot, goes}
use Rattle.cured_code.specs.FlatMachine.{Context, run}
use Rattle.integers.specs.Operators.{quotient_words, quotient_signed, remainder_words, remainder_signed}
use Rattle.cured_code.specs.Straight.{Operator, Sum, Difference, Product, And, Or, ExclusiveOr, ShiftLeft, ShiftRight, ShiftSigned, Quotient, QuotientSigned, Remainder, RemainderSigned, Equal, Different, Less, LessSigned, Value, Number, Same, Part, Result, AreaOf, DepthOf, IsBelow, SigOf, HasRoom, LengthOf, IsPlain, IsTagged, BaseOf, GreatestDepth, Line, Sets, operation, setting, instrs, operated, value_of, operates, has_value, after_line, behind, CanRun, IsBehind}
use Rattle.cured_code.proofs.SlotLaws.{slot-with_slot}

-- an instruction that finds a word where a test holds goes on where it does
found : (t : Bool) (v : ℕ) (f : Local → ℕ) (w : Context) (c : Local) (rest : List Instr) → t ≡ true
    → from (allowed t (Trap w.function) (goes (λ d. with_slot v (f d) d)) c) (λ x. then_go x (run rest w)) ≡ run rest w (with_slot v (f c) c)
found t v f w c rest h = ap (λ b. from (allowed b (Trap w.function) (goes (λ d. with_slot v (f d) d)) c) (λ x. then_go x (run rest w))) h

operation-runs : (o : Operator) (v a b : ℕ) (w : Context) (c : Local) (rest : List Instr) → operates o (slot c a) (slot c b) ≡ true
    → run (operation o v a b ∷ rest) w c ≡ run rest w (with_slot v (operated o (slot c a) (slot c b)) c)
operation-runs Sum v a b w c rest h = refl
operation-runs Difference v a b w c rest h = refl
operation-runs Product v a b w c rest h = refl
operation-runs And v a b w c rest h = refl
operation-runs Or v a b w c rest h = refl
operation-runs ExclusiveOr v a b w c rest h = refl
operation-runs ShiftLeft v a b w c rest h = refl
operation-runs ShiftRight v a b w c rest h = refl
operation-runs ShiftSigned v a b w c rest h = refl
operation-runs Quotient v a b w c rest h = found (operates Quotient (slot c a) (slot c b)) v (λ d. quotient_words (slot d a) (slot d b)) w c rest h
operation-runs QuotientSigned v a b w c rest h = found (operates QuotientSigned (slot c a) (slot c b)) v (λ d. quotient_signed (slot d a) (slot d b)) w c rest h
operation-runs Remainder v a b w c rest h = found (operates Remainder (slot c a) (slot c b)) v (λ d. remainder_words (slot d a) (slot d b)) w c rest h
operation-runs RemainderSigned v a b w c rest h = found (operates RemainderSigned (slot c a) (slot c b)) v (λ d. remainder_signed (slot d a) (slot d b)) w c rest h
operation-runs Equal v a b w c rest h = refl
operation-runs Different v a b w c rest h = refl
operation-runs Less v a b w c rest h = refl
operation-runs LessSigned v a b w c rest h = refl

-- a line runs before others
line-runs : (v : ℕ) (x : Value) (w : Context) (c : Local) (rest : List Instr) → has_value c.state.memory x (slot c) ≡ true
    → run (setting v x ∷ rest) w c ≡ run rest w (with_slot v (value_of w.parts c.state.memory x (slot c)) c)
line-runs v (Number n) w c rest h = refl
line-runs v (Same a) w c rest h = refl
line-runs v (Part a form) w c rest h = refl
line-runs v (Result o a b) w c rest h = operation-runs o v a b w c rest h
line-runs v (AreaOf k) w c rest h = refl
line-runs v (DepthOf a) w c rest h = refl
line-runs v (IsBelow a n) w c rest h = refl
line-runs v (SigOf a) w c rest h = refl
line-runs v (HasRoom a) w c rest h = refl
line-runs v (LengthOf b) w c rest h = found (has_value c.state.memory (LengthOf b) (slot c)) v (λ d. value_of w.parts d.state.memory (LengthOf b) (slot d)) w c rest h
line-runs v (IsPlain a b n) w c rest h = found (has_value c.state.memory (IsPlain a b n) (slot c)) v (λ d. value_of w.parts d.state.memory (IsPlain a b n) (slot d)) w c rest h
line-runs v (IsTagged a b) w c rest h = found (has_value c.state.memory (IsTagged a b) (slot c)) v (λ d. value_of w.parts d.state.memory (IsTagged a b) (slot d)) w c rest h
line-runs v (BaseOf a b) w c rest h = found (has_value c.state.memory (BaseOf a b) (slot c)) v (λ d. value_of w.parts d.state.memory (BaseOf a b) (slot d)) w c rest h
line-runs v (GreatestDepth a b n) w c rest h = found (has_value c.state.memory (GreatestDepth a b n) (slot c)) v (λ d. value_of w.parts d.state.memory (GreatestDepth a b n) (slot d)) w c rest h

-- straight code runs as a function of the slots
pub straight : (lines : List Line) (w : Context) (c : Local) → CanRun (length c.slots) w.parts c.state.memory lines (slot c) → IsBehind lines w c
straight [] w c can = record { after = c; runs = λ rest. refl; state = refl; slots = λ a. refl; count = refl }
straight (Sets v x ∷ lines) w c can =
    onwards (straight lines w next
    (subst (λ (e : ℕ → ℕ). CanRun (length next.slots) w.parts c.state.memory lines e) (sym now)
    (subst (λ (n : ℕ). CanRun n w.parts c.state.memory lines (after_line w.parts c.state.memory (Sets v x) (slot c))) (sym size) can.1)))
  where
    next : Local
    next = with_slot v (value_of w.parts c.state.memory x (slot c)) c

    size : length next.slots ≡ length c.slots
    size = length-set c.slots v (value_of w.parts c.state.memory x (slot c))

    now : slot next ≡ after_line w.parts c.state.memory (Sets v x) (slot c)
    now = fun_ext (λ a. slot-with_slot v (value_of w.parts c.state.memory x (slot c)) c a can.0.0)

    onwards : IsBehind lines w next → IsBehind (Sets v x ∷ lines) w c
    onwards b = record {
      after = b.after;
      runs = λ rest. line-runs v x w c (instrs lines ++ rest) can.0.1 ∙ b.runs rest;
      state = b.state;
      slots = λ a. b.slots a ∙ ap (λ e. behind w.parts c.state.memory lines e a) now;
      count = b.count ∙ size;
    }
