-- All code of a form executes a statement; forms of statements put together, and loops.
use Rattle.std.proofs.Common.{ℕ, ◌≡◌, refl, ap, ◌∙◌, sym, Bool, true, false, List, [], ◌∷◌, ◌++◌, Option, None, Some}
use Rattle.runs.specs.Outcome.{Outcome, Ended, Done, done, from, either, Matches, ◌>>◌}
use Rattle.runs.specs.Control.{Control, Goes, Leaves, Gives, then_go, out_of, block}
use Rattle.runs.proofs.RunLaws.{from-from, from-same, StaysIn, IsPassed, AllDone, all-from, rounds-passed}
use Rattle.c_tree.specs.TypedTree.{TypedExpr}
use Rattle.src_mem.specs.Pointers.{Value, is_true}
use Rattle.src_mem.specs.State.{Ending, State, Act, Turns, turn}
use Rattle.src_machine.specs.World.{World}
use Rattle.src_machine.specs.Expressions.{eval}
use Rattle.src_machine.specs.Statements.{Flow, Normal, Breaks, Continues, Returns, round_of, flow_of_loop, loop, condition, effect, while_loop, again, do_loop}
use Rattle.runs.specs.Control.{rounds}
use Rattle.cil_form.specs.declared.instr.Instr.{Instr}
use Rattle.cil_form.specs.declared.instr.Instr.TheVariants as instr
use Rattle.cil_form.specs.State.{Temporaries}
use Rattle.cil_form.specs.Meaning.{run}
use Rattle.cil_form.specs.Laws.{IsAround}
use Rattle.cil_form.specs.Computes.{EndsAlike, LeftAlike, Executes, looped}
use Rattle.cil_form.proofs.ComputesLaws.{executes-append, executes-value, executes-choice, executes-block, executes-loop}
use Rattle.cil_form.proofs.InstructionLaws.{at, executes-as, executes-effect, executes-nothing, executes-break}
use Rattle.lower_rules.specs.Pieces.{Form, Line, Then, Choice, Blocked, Looped}
use Rattle.lower_rules.specs.Words.{value}
use Rattle.lower_rules.specs.Expressions.{IsCodeOf}
use Rattle.lower_rules.specs.Statements.{Nesting, in_loop, IsCodeOfEffect, IsCodeOfTest}
use Rattle.lower_means.proofs.Forms.{context_of, around_of, All}
use Rattle.lower_means.proofs.Means.{means}

-- how code leaves a statement that is so nested
abbrev pub control_of : Nesting → Flow → Control Value
control_of v Normal = Goes
control_of v Breaks = Leaves v.breaks
control_of v Continues = Leaves v.continues
control_of v (Returns u) = Gives u

-- all code of the form executes m inside so many `switch` statements
abbrev pub AllExecute : World → Form → Act (Control Value) → ℕ → Type 0
AllExecute w P m depth = (c : List Instr) → P c → Executes c (around_of w) m depth

-- all code of the form does what a statement does, and what an effect does
abbrev pub AllDo : World → Form → Act Flow → Nesting → Type 0
AllDo w P m v = AllExecute w P (λ s. from (m s) (λ flow. done (control_of v flow))) v.switches

abbrev pub AllEffect : World → Form → Act (Unit {0}) → ℕ → Type 0
AllEffect w P m depth = AllExecute w P (λ s. from (m s) (λ _. done Goes)) depth

-- Forms

pub exec-same : (w : World) (P : Form) (m n : Act (Control Value)) (depth : ℕ) → ((s : State) → m s ≡ n s) → AllExecute w P n depth
    → AllExecute w P m depth
exec-same w P m n depth e h c d = executes-as c c (around_of w) m n depth refl e (h c d)

pub exec-line : (w : World) (is : List Instr) (m : Act (Control Value)) (depth : ℕ) → Executes is (around_of w) m depth
    → AllExecute w (Line is) m depth
unfolding Line
exec-line w is m depth h c d = executes-as c is (around_of w) m m depth d (λ s. refl) h

pub exec-nothing : (w : World) (depth : ℕ) → AllExecute w (Line []) (done Goes) depth
exec-nothing w depth = exec-line w [] (done Goes) depth (executes-nothing (around_of w) depth)

pub exec-break : (w : World) (k depth : ℕ) → AllExecute w (Line (instr.Break k ∷ [])) (done (Leaves k)) depth
exec-break w k depth = exec-line w (instr.Break k ∷ []) (done (Leaves k)) depth (executes-break k (around_of w) depth)

pub exec-then : (w : World) (P Q : Form) (m n : Act (Control Value)) (depth : ℕ) → AllExecute w P m depth → AllExecute w Q n depth
    → AllExecute w (Then P Q) (λ s. from (m s) (λ y. then_go y n)) depth
unfolding Then
exec-then w P Q m n depth h l c d =
    executes-as c (d.0 ++ d.1) (around_of w) (λ s. from (m s) (λ y. then_go y n)) (λ s. from (m s) (λ y. then_go y n)) depth d.4 (λ s. refl)
    (executes-append d.0 d.1 (around_of w) m n depth (h d.0 d.2) (l d.1 d.3))

-- a statement on a value
pub exec-value : (w : World) (P Q : Form) (m : Act Value) (f : Value → Act (Control Value)) (depth : ℕ) → All w P m 0
    → ((c : List Instr) → Q c → (T : Temporaries) (s : State)
    → Matches (LeftAlike (IsAround depth) T) EndsAlike (f (T (value 0)) s) (run c (around_of w) (at s T)))
    → AllExecute w (Then P Q) (λ s. from (m s) f) depth
unfolding Then
exec-value w P Q m f depth h l c d =
    executes-as c (d.0 ++ d.1) (around_of w) (λ s. from (m s) f) (λ s. from (m s) f) depth d.4 (λ s. refl)
    (executes-value d.0 d.1 (around_of w) m f 0 depth (h d.0 d.2) (l d.1 d.3))

-- an expression for what it does
pub exec-effect : (w : World) (P : Form) (m : Act Value) (depth : ℕ) → All w P m 0 → AllExecute w P (λ s. from (m s) (λ _. done Goes)) depth
exec-effect w P m depth h c d = executes-effect c (around_of w) m 0 depth (h c d)

pub exec-choice : (w : World) (P Q R : Form) (m : Act Value) (n o : Act (Control Value)) (depth : ℕ) → All w P m 0 → AllExecute w Q n depth
    → AllExecute w R o depth → AllExecute w (Then P (Choice (value 0) Q R)) (λ s. from (m s) (λ v. either (is_true v) n o)) depth
unfolding Then Choice
exec-choice w P Q R m n o depth h l r c d =
    executes-as c (d.0 ++ instr.If (value 0) d.3.0 d.3.1 ∷ []) (around_of w) (λ s. from (m s) (λ v. either (is_true v) n o))
    (λ s. from (m s) (λ v. either (is_true v) n o)) depth (d.4 ∙ ap (λ z. d.0 ++ z) d.3.4) (λ s. refl)
    (executes-choice d.0 d.3.0 d.3.1 (around_of w) m n o 0 depth (h d.0 d.2) (l d.3.0.0.items d.3.2) (r d.3.1.0.items d.3.3))

pub exec-blocked : (w : World) (P : Form) (m : Act (Control Value)) (depth : ℕ) → AllExecute w P m depth → AllExecute w (Blocked P) (block m) depth
unfolding Blocked
exec-blocked w P m depth h c d =
    executes-as c (instr.Block d.0 ∷ []) (around_of w) (block m) (block m) depth d.2 (λ s. refl)
    (executes-block d.0 (around_of w) m depth (h d.0.0.items d.1))

pub exec-looped : (w : World) (P : Form) (m : Act (Control Value)) (depth : ℕ) → AllExecute w P m depth → AllExecute w (Looped P) (looped m) depth
unfolding Looped
exec-looped w P m depth h c d =
    executes-as c (instr.Loop d.0 ∷ []) (around_of w) (looped m) (looped m) depth d.2 (λ s. refl)
    (executes-loop d.0 (around_of w) m depth (h d.0.0.items d.1))

pub effect-then : (w : World) (P Q : Form) (m n : Act (Unit {0})) (depth : ℕ) → AllEffect w P m depth → AllEffect w Q n depth
    → AllEffect w (Then P Q) (λ s. from (m s) (λ _. n)) depth
effect-then w P Q m n depth h l =
    exec-same w (Then P Q) (λ s. from (from (m s) (λ _. n)) (λ _. done Goes))
    (λ s. from (from (m s) (λ _. done Goes)) (λ y. then_go y (λ r. from (n r) (λ _. done Goes)))) depth
    (λ s. from-from (m s) (λ _. n) (λ _. done Goes) ∙ sym (from-from (m s) (λ _. done Goes) (λ y. then_go y (λ r. from (n r) (λ _. done Goes)))))
    (exec-then w P Q (λ s. from (m s) (λ _. done Goes)) (λ r. from (n r) (λ _. done Goes)) depth h l)

pub effect-nothing : (w : World) (depth : ℕ) → AllEffect w (Line []) (done tt) depth
effect-nothing w depth = exec-nothing w depth

-- Loops

passed-on : (v : Nesting) (o : Outcome Ending State (Control Value)) → AllDone IsPassed o
    → from (from o (λ x. done (flow_of_loop x))) (λ flow. done (control_of v flow)) ≡ o
passed-on v (Ended e s) h = refl
passed-on v (Done Goes s) h = refl
passed-on v (Done (Leaves k) s) h = absurd h
passed-on v (Done (Gives u) s) h = refl

-- a loop of the source, whose rounds the code in the loop does
pub does-rounds : (w : World) (P : Form) (m : Act (Control Value)) (v : Nesting) → ((s : State) → AllDone StaysIn (m s)) → AllExecute w P m v.switches
    → AllDo w (Looped P) (loop m) v
does-rounds w P m v stays h =
    exec-same w (Looped P) (λ s. from (loop m s) (λ flow. done (control_of v flow))) (looped m) v.switches
    (λ s. passed-on v (rounds Turns s.turns (turn >> m) s)
    (rounds-passed Turns (turn >> m) (λ r. all-from StaysIn (turn r) (λ _. m) (λ _ q. stays q)) s.turns s))
    (exec-looped w P m v.switches h)

-- the body of a loop in its block
body-left : (v : Nesting) (o : Outcome Ending State Flow)
    → from (from o (λ flow. done (control_of (in_loop v) flow))) (λ x. done (out_of x)) ≡ from o (λ flow. done (round_of flow))
body-left v (Ended e s) = refl
body-left v (Done Normal s) = refl
body-left v (Done Breaks s) = refl
body-left v (Done Continues s) = refl
body-left v (Done (Returns u) s) = refl

exec-body : (w : World) (P : Form) (m : Act Flow) (v : Nesting) → AllDo w P m (in_loop v)
    → AllExecute w (Blocked P) (λ s. from (m s) (λ flow. done (round_of flow))) v.switches
exec-body w P m v h =
    exec-same w (Blocked P) (λ s. from (m s) (λ flow. done (round_of flow)))
    (block (λ s. from (m s) (λ flow. done (control_of (in_loop v) flow)))) v.switches
    (λ s. sym (body-left v (m s))) (exec-blocked w P (λ s. from (m s) (λ flow. done (control_of (in_loop v) flow))) v.switches h)

-- what a condition leaves: the loop, where it fails
abbrev pub tested_by : Act Bool → Act (Control Value)
tested_by test s = from (test s) (λ go. either go (done Goes) (done (Leaves 0)))

pub tests : (w : World) (c : Option TypedExpr) (depth : ℕ) → AllExecute w (IsCodeOfTest c (context_of w)) (tested_by (condition c w)) depth
tests w None depth = exec-nothing w depth
tests w (Some e) depth =
    exec-same w (Then (IsCodeOf e (context_of w) 0) (Choice (value 0) (Line []) (Line (instr.Break 0 ∷ [])))) (tested_by (condition (Some e) w))
    (λ s. from (eval e w s) (λ v. either (is_true v) (done Goes) (done (Leaves 0)))) depth
    (λ s. from-from (eval e w s) (λ v. done (is_true v)) (λ go. either go (done Goes) (done (Leaves 0))))
    (exec-choice w (IsCodeOf e (context_of w) 0) (Line []) (Line (instr.Break 0 ∷ [])) (eval e w) (done Goes) (done (Leaves 0)) depth
    (λ c d. means w e 0 c d) (exec-nothing w depth) (exec-break w 0 depth))

pub effects : (w : World) (e : Option TypedExpr) (depth : ℕ) → AllEffect w (IsCodeOfEffect e (context_of w)) (effect e w) depth
effects w None depth = exec-nothing w depth
effects w (Some e) depth =
    exec-same w (IsCodeOf e (context_of w) 0) (λ s. from (effect (Some e) w s) (λ _. done Goes)) (λ s. from (eval e w s) (λ _. done Goes)) depth
    (λ s. from-from (eval e w s) (λ _. done tt) (λ _. done Goes))
    (exec-effect w (IsCodeOf e (context_of w) 0) (eval e w) depth (λ c d. means w e 0 c d))

chosen-then : (b : Bool) (n : Act (Control Value)) (s : State)
    → from (either b (done Goes) (done (Leaves 0)) s) (λ y. then_go y n) ≡ either b n (done (Leaves 0)) s
chosen-then true n s = refl
chosen-then false n s = refl

again-then : (test : Act Bool) (x : Control Value) (s : State) → then_go x (tested_by test) s ≡ again test x s
again-then test Goes s = refl
again-then test (Leaves k) s = refl
again-then test (Gives v) s = refl

-- a round of `while` and of `for`
abbrev pub round : Act Bool → Act Flow → Act (Unit {0}) → Act (Control Value)
round test body step =
    λ s. from (test s) (λ go. either go (λ r. from (body r) (λ flow. then_go (round_of flow) (step >> done Goes))) (done (Leaves 0)))

stays-then : (flow : Flow) (step : Act (Unit {0})) (s : State) → AllDone StaysIn (then_go (round_of flow) (step >> done Goes) s)
stays-then Normal step s = all-from StaysIn (step s) (λ _. done Goes) (λ _ r. tt)
stays-then Breaks step s = tt
stays-then Continues step s = all-from StaysIn (step s) (λ _. done Goes) (λ _ r. tt)
stays-then (Returns v) step s = tt

stays-either : (b : Bool) (m : Act (Control Value)) (s : State) → ((r : State) → AllDone StaysIn (m r))
    → AllDone StaysIn (either b m (done (Leaves 0)) s)
stays-either true m s h = h s
stays-either false m s h = tt

round-stays : (test : Act Bool) (body : Act Flow) (step : Act (Unit {0})) (s : State) → AllDone StaysIn (round test body step s)
round-stays test body step s =
    all-from StaysIn (test s) (λ go. either go (λ r. from (body r) (λ flow. then_go (round_of flow) (step >> done Goes))) (done (Leaves 0)))
    (λ go r. stays-either go (λ r. from (body r) (λ flow. then_go (round_of flow) (step >> done Goes))) r
    (λ q. all-from StaysIn (body q) (λ flow. then_go (round_of flow) (step >> done Goes)) (λ flow z. stays-then flow step z)))

-- the body in its block, and the step behind it
abbrev pub stepped : Act Flow → Act (Unit {0}) → Act (Control Value)
stepped body step s = from (from (body s) (λ flow. done (round_of flow))) (λ y. then_go y (λ u. from (step u) (λ _. done Goes)))

-- `while` and `for`
pub does-while : (w : World) (P R : Form) (test : Act Bool) (body : Act Flow) (step : Act (Unit {0})) (v : Nesting)
    → AllExecute w P (tested_by test) v.switches → AllExecute w R (stepped body step) v.switches
    → AllDo w (Looped (Then P R)) (while_loop test body step) v
does-while w P R test body step v h l =
    does-rounds w (Then P R) (round test body step) v (round-stays test body step)
    (exec-same w (Then P R) (round test body step) (λ s. from (tested_by test s) (λ y. then_go y N)) v.switches
    (λ s. sym (from-from (test s) (λ go. either go (done Goes) (done (Leaves 0))) (λ y. then_go y N)
    ∙ from-same (test s) (λ go u. from (either go (done Goes) (done (Leaves 0)) u) (λ y. then_go y N)) (λ go. either go N' (done (Leaves 0)))
    (λ go u. chosen-then go N u ∙ same-either go u)))
    (exec-then w P R (tested_by test) N v.switches h l))
  where
    N : Act (Control Value)
    N = stepped body step

    N' : Act (Control Value)
    N' = λ r. from (body r) (λ flow. then_go (round_of flow) (step >> done Goes))

    same-either : (go : Bool) (u : State) → either go N (done (Leaves 0)) u ≡ either go N' (done (Leaves 0)) u
    same-either true u = from-from (body u) (λ flow. done (round_of flow)) (λ y. then_go y (λ u. from (step u) (λ _. done Goes)))
    same-either false u = refl

-- the body with a step behind it, and without one
pub with-step : (w : World) (P Q : Form) (body : Act Flow) (step : Act (Unit {0})) (v : Nesting) → AllDo w P body (in_loop v)
    → AllEffect w Q step v.switches
    → AllExecute w (Then (Blocked P) Q) (stepped body step) v.switches
with-step w P Q body step v h l =
    exec-then w (Blocked P) Q (λ s. from (body s) (λ flow. done (round_of flow))) (λ u. from (step u) (λ _. done Goes)) v.switches
    (exec-body w P body v h) l

abbrev no_more : Act (Control Value)
no_more = done Goes

goes-alone : (x : Control Value) (s : State) → then_go x no_more s ≡ Done x s
goes-alone Goes s = refl
goes-alone (Leaves k) s = refl
goes-alone (Gives v) s = refl

pub without-step : (w : World) (P : Form) (body : Act Flow) (v : Nesting) → AllDo w P body (in_loop v)
    → AllExecute w (Blocked P) (stepped body (done tt)) v.switches
without-step w P body v h =
    exec-same w (Blocked P) (stepped body (done tt)) (λ s. from (body s) (λ flow. done (round_of flow))) v.switches
    (λ s. from-from (body s) (λ flow. done (round_of flow)) (λ y. then_go y no_more)
    ∙ from-same (body s) (λ flow. then_go (round_of flow) no_more) (λ flow. done (round_of flow)) (λ flow u. goes-alone (round_of flow) u))
    (exec-body w P body v h)

again-stays : (test : Act Bool) (flow : Flow) (s : State) → AllDone StaysIn (again test (round_of flow) s)
again-stays test Normal s =
    all-from StaysIn (test s) (λ go. either go (done Goes) (done (Leaves 0))) (λ go r. stays-either go (done Goes) r (λ q. tt))
again-stays test Breaks s = tt
again-stays test Continues s =
    all-from StaysIn (test s) (λ go. either go (done Goes) (done (Leaves 0))) (λ go r. stays-either go (done Goes) r (λ q. tt))
again-stays test (Returns v) s = tt

pub does-do : (w : World) (P Q : Form) (test : Act Bool) (body : Act Flow) (v : Nesting) → AllDo w P body (in_loop v)
    → AllExecute w Q (tested_by test) v.switches
    → AllDo w (Looped (Then (Blocked P) Q)) (do_loop body test) v
does-do w P Q test body v h l =
    does-rounds w (Then (Blocked P) Q) (λ s. from (body s) (λ flow. again test (round_of flow))) v
    (λ s. all-from StaysIn (body s) (λ flow. again test (round_of flow)) (λ flow r. again-stays test flow r))
    (exec-same w (Then (Blocked P) Q) (λ s. from (body s) (λ flow. again test (round_of flow)))
    (λ s. from (from (body s) (λ flow. done (round_of flow))) (λ y. then_go y (tested_by test))) v.switches
    (λ s. sym (from-from (body s) (λ flow. done (round_of flow)) (λ y. then_go y (tested_by test))
    ∙ from-same (body s) (λ flow. then_go (round_of flow) (tested_by test)) (λ flow. again test (round_of flow))
    (λ flow u. again-then test (round_of flow) u)))
    (exec-then w (Blocked P) Q (λ s. from (body s) (λ flow. done (round_of flow))) (tested_by test) v.switches (exec-body w P body v h) l))
