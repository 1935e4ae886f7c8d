-- Whether a pointer is null, as a truth value.
use Rattle.std.proofs.Common.{◌≡◌, Bool, true, false, not, ℕ, [], ◌∷◌, ◌++◌, refl, ap, sym, subst, ◌∙◌}
use Rattle.cc_base.specs.declared.number.TypeId.{TypeId}
use Rattle.integers.specs.Words.{truth_word, equal_words, different_words}
use Rattle.runs.specs.Outcome.{Matches}
use Rattle.src_mem.specs.Pointers.{Value, Address, is_null, is_true}
use Rattle.src_mem.specs.Values.{null_value}
use Rattle.cil_form.specs.declared.number.Temp.{Temp}
use Rattle.cil_form.specs.declared.instr.Point.TheVariants as point
use Rattle.cil_form.specs.declared.instr.Instr.TheVariants as instr
use Rattle.cil_form.specs.Meaning as meaning
use Rattle.cured_code.specs.FlatState.{slot}
use Rattle.cured_code.specs.FlatMachine.{run}
use Rattle.check_forms.specs.Pieces.{Line, Then}
use Rattle.sim_relation.specs.Points.{Knowledge}
use Rattle.cure_rules.specs.Slots.{AreSlots}
use Rattle.cure_rules.specs.Pointing.{null_operation, IsCuringPoint}
use Rattle.cure_rules.specs.Code.{Blocks}
use Rattle.sim_laws.specs.Scenes.{Scene, Running, world_of, around_of, context_of}
use Rattle.sim_laws.specs.Statements.{Lines, FlatOutcome, StatesEndAlike, Match, Tested, Follows}
use Rattle.sim_laws.proofs.Giving.{Gave, gives-follows}
use Rattle.sim_laws.proofs.Calculations.{told, different-zero, equal-zero}
use Rattle.sim_laws.proofs.Tests.{tested}
use Rattle.sim_laws.proofs.Reaching.{Pointed, pointed}
use Rattle.sim_laws.proofs.Storing.{as-address}

twice-not : (q : Bool) → not (not q) ≡ q
twice-not true = refl
twice-not false = refl

-- THE LAW OF TESTS FOR NULL
pub null-follows : (w : Scene) (g : AreSlots w.slots) (b : Running) (into p : Temp) (t : TypeId) (different : Bool) (known after : Knowledge) (blocks : Blocks) (lines : Lines)
    → IsCuringPoint (point.IsNull into p t different) (world_of w) known after lines
    → Follows w g b blocks known after (meaning.act (instr.Point (point.IsNull into p t different)) (around_of w b)) lines
unfolding Line Then
null-follows w g b into p t different known after blocks lines (n, u, first, sure, a, points, takes, (test, last, tests, is_last, is), leave) l c z =
    of (tested w g b known p a test tests l c z)
  where
    v : ℕ
    v = w.slots.column into

    m : Pointed w g b l c p n u first
    m = pointed w g b known l c z p n u first sure (as-address known p n u first sure points)

    Goal : FlatOutcome → Type 0
    Goal o = Match w g b after blocks (meaning.act (instr.Point (point.IsNull into p t different)) (around_of w b) l) o

    of : Tested w g b known p a test l c → Goal (run lines (context_of w b) c)
    of t = subst Goal (sym (ap (λ (js : Lines). run js (context_of w b) c) (is ∙ ap (λ (js : Lines). test ++ js) is_last)
        ∙ t.runs (null_operation different v a w.slots.nought ∷ [])))
        (gives-follows w g b known after blocks into l t.after t.point (null_value different (l.temps p) l.state)
        (run (null_operation different v a w.slots.nought ∷ []) (context_of w b) t.after)
        (subst (λ (x : Value). Matches (Gave w g b known after into l t.after) (λ e s k d. StatesEndAlike w.programs e s k d.state) (null_value different x l.state)
        (run (null_operation different v a w.slots.nought ∷ []) (context_of w b) t.after)) (sym m.value) (by different)))
      where
        some : is_true (l.temps p) ≡ not (is_null m.pointer)
        some = ap is_true m.value

        by : (q : Bool) → Matches (Gave w g b known after into l t.after) (λ e s k d. StatesEndAlike w.programs e s k d.state) (null_value q (Address m.pointer) l.state)
            (run (null_operation q v a w.slots.nought ∷ []) (context_of w b) t.after)
        by true = told w g b known after into (not (is_null m.pointer)) l t.after (different_words (slot t.after a) (slot t.after w.slots.nought)) t.point takes
            (ap (λ (k : ℕ). different_words (slot t.after a) k) t.point.nought ∙ different-zero (slot t.after a) ∙ ap truth_word (t.truth ∙ some)) leave
        by false = told w g b known after into (is_null m.pointer) l t.after (equal_words (slot t.after a) (slot t.after w.slots.nought)) t.point takes
            (ap (λ (k : ℕ). equal_words (slot t.after a) k) t.point.nought ∙ equal-zero (slot t.after a)
            ∙ ap (λ (q : Bool). truth_word (not q)) (t.truth ∙ some) ∙ ap truth_word (twice-not (is_null m.pointer))) leave
