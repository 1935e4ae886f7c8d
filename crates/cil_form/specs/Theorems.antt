-- What the laws of the crate say.
use Rattle.std.specs.Prelude.{ℕ, List, [], ◌∷◌, ◌++◌}
use Rattle.runs.specs.Outcome.{Matches, from, either}
use Rattle.runs.specs.Control.{Control, then_go}
use Rattle.src_mem.specs.Pointers.{Value, is_true}
use Rattle.src_mem.specs.State.{State, Act}
use Rattle.cil_form.specs.declared.number.Temp.{Temp}
use Rattle.cil_form.specs.declared.number.Temp.TheVariants as temp
use Rattle.cil_form.specs.declared.instr.Instr.{Instr}
use Rattle.cil_form.specs.declared.instr.Instr.TheVariants.{If, Block, Loop}
use Rattle.cil_form.specs.declared.instr.Code.{Code}
use Rattle.cil_form.specs.State.{Temporaries, Around}
use Rattle.cil_form.specs.Meaning.{run}
use Rattle.cil_form.specs.Typing.{Typing, Context, AreTemps, HoldsAtMost, HoldsScalar, inside, IsShaped, AreShaped}
use Rattle.cil_form.specs.Laws.{IsBelow, IsAround}
use Rattle.cil_form.specs.Computes.{EndsAlike, Held, LeftAlike, Computes, Executes}

abbrev pub CodeBehindAValueComputes : Type 0
CodeBehindAValueComputes =
    (a b : List Instr) (w : Around) (m : Act Value) (f : Value → Act Value) (t : ℕ) → Computes a w m t → ((T : Temporaries) (s : State)
    → Matches (Held (temp.Value t) (IsBelow t) T) EndsAlike (f (T (temp.Value t)) s) (run b w (record { state = s; temps = T })))
    → Computes (a ++ b) w (λ s. from (m s) f) t

abbrev pub StatementsExecuteInTurn : Type 0
StatementsExecuteInTurn =
    (a b : List Instr) (w : Around) (m n : Act (Control Value)) (depth : ℕ) → Executes a w m depth → Executes b w n depth
    → Executes (a ++ b) w (λ s. from (m s) (λ y. then_go y n)) depth

abbrev pub CodeBehindAValueExecutes : Type 0
CodeBehindAValueExecutes =
    (a b : List Instr) (w : Around) (m : Act Value) (f : Value → Act (Control Value)) (t depth : ℕ) → Computes a w m t → ((T : Temporaries) (s : State)
    → Matches (LeftAlike (IsAround depth) T) EndsAlike (f (T (temp.Value t)) s) (run b w (record { state = s; temps = T })))
    → Executes (a ++ b) w (λ s. from (m s) f) depth

abbrev pub AChoiceExecutes : Type 0
AChoiceExecutes =
    (a : List Instr) (x y : Code) (w : Around) (m : Act Value) (n o : Act (Control Value)) (t depth : ℕ) → Computes a w m t → Executes x.0.items w n depth
    → Executes y.0.items w o depth → Executes (a ++ If (temp.Value t) x y ∷ []) w (λ s. from (m s) (λ v. either (is_true v) n o)) depth

abbrev pub FewValuesAreHeldBetween : Type 0
FewValuesAreHeldBetween =
    (is js : List Instr) (k : Context) (types after : Typing) → AreTemps types → AreShaped (is ++ js) k types after
    → (middle : Typing) × AreShaped is k types middle × AreShaped js k middle after × AreTemps middle × HoldsAtMost 256 middle

abbrev pub NoValueIsHeldAtABlock : Type 0
NoValueIsHeldAtABlock =
    (x : Code) (k : Context) (types after : Typing) → AreTemps types → IsShaped (Block x) k types after
    → (entry : Typing) × AreShaped x.0.items (inside k entry) entry entry × AreTemps entry × HoldsAtMost 0 entry

abbrev pub NoValueIsHeldAtALoop : Type 0
NoValueIsHeldAtALoop =
    (x : Code) (k : Context) (types after : Typing) → AreTemps types → IsShaped (Loop x) k types after
    → (entry : Typing) × AreShaped x.0.items (inside k entry) entry entry × AreTemps entry × HoldsAtMost 0 entry

abbrev pub AChoiceIsInShape : Type 0
AChoiceIsInShape =
    (t : Temp) (x y : Code) (k : Context) (types after : Typing) → HoldsScalar types t → AreShaped x.0.items k types after
    → AreShaped y.0.items k types after → IsShaped (If t x y) k types after
