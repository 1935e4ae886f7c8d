-- The code of a statement does what the statement does.
use Rattle.std.proofs.Common.{ℕ, suc, ◌≡◌, refl, ◌∙◌, sym, subst, pos, List, [], ◌∷◌, None, Some}
use Rattle.cc_base.specs.declared.place.Place.{Place}
use Rattle.runs.specs.Outcome.{done, from, either, Matches, ◌>>◌}
use Rattle.runs.specs.Control.{Control, Goes, Gives, then_go}
use Rattle.runs.proofs.RunLaws.{from-from, from-same, from-either}
use Rattle.c_tree.specs.TypedTree as typed
use Rattle.c_tree.specs.TypedTree.{TypedExpr, TypedStatement, TypedBlockItems}
use Rattle.c_tree.specs.TypedParts.{type_of}
use Rattle.src_mem.specs.Pointers.{Value, Integer, is_true}
use Rattle.src_mem.specs.State.{State, Act}
use Rattle.src_mem.specs.Values.{returned}
use Rattle.src_machine.specs.World.{World}
use Rattle.src_machine.specs.Expressions.{eval}
use Rattle.src_machine.specs.Statements.{Flow, Normal, Returns, then_do, labels, condition, effect, while_loop, runs_from, declare, exec, exec_items, exec_before, exec_piece}
use Rattle.cil_form.specs.declared.instr.Instr.{Instr}
use Rattle.cil_form.specs.declared.instr.Instr.TheVariants as instr
use Rattle.cil_form.specs.State.{Temporaries, beside}
use Rattle.cil_form.specs.Meaning.{act, run}
use Rattle.cil_form.specs.Laws.{IsAround}
use Rattle.cil_form.specs.Computes.{EndsAlike, LeftAlike, Executes}
use Rattle.cil_form.proofs.ComputesLaws.{run-one}
use Rattle.cil_form.proofs.InstructionLaws.{at, kept-same, left-beside}
use Rattle.lower_rules.specs.Pieces.{Form, Line, Then, Choice, Blocked, Looped, When}
use Rattle.lower_rules.specs.Words.{value}
use Rattle.lower_rules.specs.Expressions.{IsCodeOf}
use Rattle.lower_rules.specs.Initialisers.{IsCodeOfDeclaration}
use Rattle.lower_rules.specs.Statements.{Nesting, in_loop, in_switch, IsCodeOfEffect, IsCodeOfTest, Guarded, IsCodeOfStatement, IsCodeOfBlock, IsCodeOfPieces}
use Rattle.lower_means.proofs.Forms.{context_of, around_of}
use Rattle.lower_means.proofs.Means.{means}
use Rattle.lower_means.proofs.Loops.{control_of, AllDo, AllEffect, exec-same, exec-line, exec-nothing, exec-break, exec-then, exec-value, exec-effect, exec-choice, tests, effects, does-while, does-do, with-step, without-step}
use Rattle.lower_means.proofs.Switches.{DoesFrom, items-then, from-line, from-nothing, from-then, from-guard, does-switch}
use Rattle.lower_means.proofs.Initialisers.{declares}

-- Forms of statements

when-held : (A : Type 0) (P : Form) (c : List Instr) → When A P c → P c
unfolding When
when-held A P c h = h.1

does-nothing : (w : World) (v : Nesting) → AllDo w (Line []) (done Normal) v
does-nothing w v = exec-nothing w v.switches

does-choice : (w : World) (v : Nesting) (e : TypedExpr) (P Q : Form) (m n : Act Flow) → AllDo w P m v → AllDo w Q n v
    → AllDo w (Then (IsCodeOf e (context_of w) 0) (Choice (value 0) P Q)) (λ s. from (eval e w s) (λ u. either (is_true u) m n)) v
does-choice w v e P Q m n h l =
    exec-same w (Then (IsCodeOf e (context_of w) 0) (Choice (value 0) P Q)) (λ s. from (from (eval e w s) (λ u. either (is_true u) m n)) C)
    (λ s. from (eval e w s) (λ u. either (is_true u) (λ s. from (m s) C) (λ s. from (n s) C))) v.switches
    (λ s. from-from (eval e w s) (λ u. either (is_true u) m n) C
    ∙ from-same (eval e w s) (λ u r. from (either (is_true u) m n r) C) (λ u. either (is_true u) (λ s. from (m s) C) (λ s. from (n s) C))
    (λ u r. from-either (is_true u) m n C r))
    (exec-choice w (IsCodeOf e (context_of w) 0) P Q (eval e w) (λ s. from (m s) C) (λ s. from (n s) C) v.switches (λ c d. means w e 0 c d) h l)
  where
    C : Flow → Act (Control Value)
    C = λ flow. done (control_of v flow)

-- a statement behind others
does-then : (w : World) (v : Nesting) (P Q : Form) (m n : Act Flow) → AllDo w P m v → AllDo w Q n v
    → AllDo w (Then P Q) (λ s. from (m s) (λ flow. then_do flow n)) v
does-then w v P Q m n h l =
    exec-same w (Then P Q) (λ s. from (from (m s) (λ flow. then_do flow n)) C)
    (λ s. from (from (m s) C) (λ y. then_go y (λ r. from (n r) C))) v.switches
    (λ s. items-then v (m s) n) (exec-then w P Q (λ s. from (m s) C) (λ r. from (n r) C) v.switches h l)
  where
    C : Flow → Act (Control Value)
    C = λ flow. done (control_of v flow)

-- a declaration is a statement
does-effect : (w : World) (v : Nesting) (P : Form) (m : Act (Unit {0})) → AllEffect w P m v.switches → AllDo w P (m >> done Normal) v
does-effect w v P m h =
    exec-same w P (λ s. from (from (m s) (λ _. done Normal)) (λ flow. done (control_of v flow))) (λ s. from (m s) (λ _. done Goes)) v.switches
    (λ s. from-from (m s) (λ _. done Normal) (λ flow. done (control_of v flow))) h

-- a loop behind what begins it
does-for : (w : World) (v : Nesting) (P Q : Form) (first : Act (Unit {0})) (m : Act Flow) → AllEffect w P first v.switches → AllDo w Q m v
    → AllDo w (Then P Q) (λ s. from (first s) (λ _. m)) v
does-for w v P Q first m h l =
    exec-same w (Then P Q) (λ r. from (from (first r) (λ _. m)) C)
    (λ r. from (from (first r) (λ _. done Goes)) (λ y. then_go y (λ r. from (m r) C))) v.switches
    (λ r. from-from (first r) (λ _. m) C ∙ sym (from-from (first r) (λ _. done Goes) (λ y. then_go y (λ r. from (m r) C))))
    (exec-then w P Q (λ r. from (first r) (λ _. done Goes)) (λ r. from (m r) C) v.switches h l)
  where
    C : Flow → Act (Control Value)
    C = λ flow. done (control_of v flow)

-- an instruction that leaves the function with a value of temporary 0
last-returns : (w : World) (depth : ℕ) (i : Instr) (f : Value → Act (Control Value))
    → ((T : Temporaries) (s : State) → act i (around_of w) (at s T) ≡ beside T (f (T (value 0)) s))
    → (c : List Instr) → Line (i ∷ []) c → (T : Temporaries) (s : State)
    → Matches (LeftAlike (IsAround depth) T) EndsAlike (f (T (value 0)) s) (run c (around_of w) (at s T))
unfolding Line
last-returns w depth i f e c d T s =
    subst (λ z. Matches (LeftAlike (IsAround depth) T) EndsAlike (f (T (value 0)) s) (run z (around_of w) (at s T))) (sym d)
    (left-beside depth T (f (T (value 0)) s) (run (i ∷ []) (around_of w) (at s T)) (run-one i (around_of w) (at s T) ∙ e T s))

-- `return` with a value
does-return : (w : World) (v : Nesting) (e : TypedExpr) (place : Place)
    → AllDo w (Then (IsCodeOf e (context_of w) 0) (Line (instr.ReturnValue (value 0) (type_of e) place ∷ [])))
    (λ s. from (eval e w s) (λ u r. from (returned w.setting w.frame.depth place (type_of e) u r) (λ z. done (Returns z)))) v
does-return w v e place =
    exec-same w (Then (IsCodeOf e (context_of w) 0) (Line (I ∷ []))) (λ s. from (from (eval e w s) (λ u r. from (R u r) (λ z. done (Returns z)))) C)
    (λ s. from (eval e w s) G) v.switches
    (λ s. from-from (eval e w s) (λ u r. from (R u r) (λ z. done (Returns z))) C
    ∙ from-same (eval e w s) (λ u r. from (from (R u r) (λ z. done (Returns z))) C) G (λ u r. from-from (R u r) (λ z. done (Returns z)) C))
    (exec-value w (IsCodeOf e (context_of w) 0) (Line (I ∷ [])) (eval e w) G v.switches (λ c d. means w e 0 c d)
    (last-returns w v.switches I G (λ T s. refl)))
  where
    C : Flow → Act (Control Value)
    C = λ flow. done (control_of v flow)

    R : Value → Act Value
    R = returned w.setting w.frame.depth place (type_of e)

    G : Value → Act (Control Value)
    G = λ u r. from (R u r) (λ z. done (Gives z))

    I : Instr
    I = instr.ReturnValue (value 0) (type_of e) place

-- The induction

mutual
  pub does : (w : World) (st : TypedStatement) (v : Nesting) (c : List Instr) → IsCodeOfStatement st (context_of w) v c
      → Executes c (around_of w) (λ s. from (exec st w s) (λ flow. done (control_of v flow))) v.switches
  does w (typed.Block brace items) v c h = does-block w items v c h
  does w (typed.Express e) v c h =
      exec-same w (IsCodeOf e (context_of w) 0) (λ s. from (exec (typed.Express e) w s) (λ flow. done (control_of v flow)))
      (λ s. from (eval e w s) (λ _. done Goes)) v.switches (λ s. from-from (eval e w s) (λ _. done Normal) (λ flow. done (control_of v flow)))
      (exec-effect w (IsCodeOf e (context_of w) 0) (eval e w) v.switches (λ x d. means w e 0 x d)) c h
  does w typed.Empty v c h = does-nothing w v c h
  does w (typed.If at paren e s) v c h =
      does-choice w v e (IsCodeOfStatement s (context_of w) v) (Line []) (exec s w) (done Normal) (λ x d. does w s v x d) (does-nothing w v) c h
  does w (typed.IfElse at paren e s r) v c h =
      does-choice w v e (IsCodeOfStatement s (context_of w) v) (IsCodeOfStatement r (context_of w) v) (exec s w) (exec r w)
      (λ x d. does w s v x d) (λ x d. does w r v x d) c h
  does w (typed.Switch at paren e brace items) v c h =
      does-switch w v items e at (IsCodeOf e (context_of w) 0) _ (λ x d. means w e 0 x d)
      (λ k x d. from-then w v k (Line d.0) (Guarded (labels items) v.switches at (Line d.1)) (exec_before items k w)
      (runs_from k (labels items) (exec_piece items w))
      (from-line w v k d.0 (exec_before items k w) (does-before w items v at d.0 d.1 k d.2))
      (from-guard w v k (labels items) at (Line d.1) (exec_piece items w)
      (exec-line w d.1 (λ s. from (exec_piece items w s) (λ flow. done (control_of (in_switch v) flow))) (suc v.switches)
      (does-piece w items v at d.0 d.1 d.2)))
      x d.3) c (when-held _ _ c h)
  does w (typed.While at paren e s) v c h =
      does-while w (IsCodeOfTest (Some e) (context_of w)) (Blocked (IsCodeOfStatement s (context_of w) (in_loop v))) (condition (Some e) w) (exec s w)
      (done tt) v
      (tests w (Some e) v.switches) (without-step w (IsCodeOfStatement s (context_of w) (in_loop v)) (exec s w) v
      (λ x d. does w s (in_loop v) x d)) c h
  does w (typed.DoWhile s at paren e) v c h =
      does-do w (IsCodeOfStatement s (context_of w) (in_loop v)) (IsCodeOfTest (Some e) (context_of w)) (condition (Some e) w) (exec s w) v
      (λ x d. does w s (in_loop v) x d) (tests w (Some e) v.switches) c h
  does w (typed.For at paren first e step s) v c h =
      does-for w v (IsCodeOfEffect first (context_of w)) (Looped (Then (IsCodeOfTest e (context_of w))
      (Then (Blocked (IsCodeOfStatement s (context_of w) (in_loop v))) (IsCodeOfEffect step (context_of w)))))
      (effect first w) (while_loop (condition e w) (exec s w) (effect step w)) (effects w first v.switches)
      (does-while w (IsCodeOfTest e (context_of w))
      (Then (Blocked (IsCodeOfStatement s (context_of w) (in_loop v))) (IsCodeOfEffect step (context_of w)))
      (condition e w) (exec s w) (effect step w) v (tests w e v.switches)
      (with-step w (IsCodeOfStatement s (context_of w) (in_loop v)) (IsCodeOfEffect step (context_of w)) (exec s w) (effect step w) v
      (λ x d. does w s (in_loop v) x d) (effects w step v.switches))) c h
  does w (typed.ForDeclaration at paren d e step s) v c h =
      does-for w v (IsCodeOfDeclaration d (context_of w)) (Looped (Then (IsCodeOfTest e (context_of w))
      (Then (Blocked (IsCodeOfStatement s (context_of w) (in_loop v))) (IsCodeOfEffect step (context_of w)))))
      (declare d w) (while_loop (condition e w) (exec s w) (effect step w)) (declares w d v.switches)
      (does-while w (IsCodeOfTest e (context_of w))
      (Then (Blocked (IsCodeOfStatement s (context_of w) (in_loop v))) (IsCodeOfEffect step (context_of w)))
      (condition e w) (exec s w) (effect step w) v (tests w e v.switches)
      (with-step w (IsCodeOfStatement s (context_of w) (in_loop v)) (IsCodeOfEffect step (context_of w)) (exec s w) (effect step w) v
      (λ x d. does w s (in_loop v) x d) (effects w step v.switches))) c h
  does w (typed.Break at) v c h = exec-break w v.breaks v.switches c h
  does w (typed.Continue at) v c h = exec-break w v.continues v.switches c h
  does w (typed.Return at None) v c h =
      exec-line w (instr.Return ∷ []) (done (Gives (Integer (pos 0)))) v.switches
      (record { by = λ s T. record { exit = refl; state = refl; kept = kept-same (IsAround v.switches) T } }) c h
  does w (typed.Return at (Some e)) v c h = does-return w v e at c h

  pub does-block : (w : World) (items : TypedBlockItems) (v : Nesting) (c : List Instr) → IsCodeOfBlock items (context_of w) v c
      → Executes c (around_of w) (λ s. from (exec_items items w s) (λ flow. done (control_of v flow))) v.switches
  does-block w typed.NoBlockItem v c h = does-nothing w v c h
  does-block w (typed.AndStatement all st) v c h =
      does-then w v (IsCodeOfBlock all (context_of w) v) (IsCodeOfStatement st (context_of w) v) (exec_items all w) (exec st w)
      (λ x d. does-block w all v x d) (λ x d. does w st v x d) c h
  does-block w (typed.AndDeclaration all d) v c h =
      does-then w v (IsCodeOfBlock all (context_of w) v) (IsCodeOfDeclaration d (context_of w)) (exec_items all w) (declare d w >> done Normal)
      (λ x d. does-block w all v x d) (does-effect w v (IsCodeOfDeclaration d (context_of w)) (declare d w) (declares w d v.switches)) c h
  does-block w (typed.AndCase all at e z) v c h = does-block w all v c h
  does-block w (typed.AndDefault all at) v c h = does-block w all v c h

  -- the last piece of a `switch`
  pub does-piece : (w : World) (items : TypedBlockItems) (v : Nesting) (place : Place) (closed last : List Instr)
      → IsCodeOfPieces items (context_of w) v place closed last
      → Executes last (around_of w) (λ s. from (exec_piece items w s) (λ flow. done (control_of (in_switch v) flow))) (suc v.switches)
  does-piece w typed.NoBlockItem v place closed last h = does-nothing w (in_switch v) last h.1
  does-piece w (typed.AndStatement all st) v place closed last h =
      does-then w (in_switch v) (Line h.0) (IsCodeOfStatement st (context_of w) (in_switch v)) (exec_piece all w) (exec st w)
      (exec-line w h.0 (λ s. from (exec_piece all w s) (λ flow. done (control_of (in_switch v) flow))) (suc v.switches)
      (does-piece w all v place closed h.0 h.1))
      (λ x d. does w st (in_switch v) x d) last h.2
  does-piece w (typed.AndDeclaration all d) v place closed last h =
      does-then w (in_switch v) (Line h.0) (IsCodeOfDeclaration d (context_of w)) (exec_piece all w) (declare d w >> done Normal)
      (exec-line w h.0 (λ s. from (exec_piece all w s) (λ flow. done (control_of (in_switch v) flow))) (suc v.switches)
      (does-piece w all v place closed h.0 h.1))
      (does-effect w (in_switch v) (IsCodeOfDeclaration d (context_of w)) (declare d w) (declares w d (suc v.switches))) last h.2
  does-piece w (typed.AndCase all p e z) v place closed last h = does-nothing w (in_switch v) last h.4
  does-piece w (typed.AndDefault all p) v place closed last h = does-nothing w (in_switch v) last h.4

  -- the pieces before it, where the `switch` begins at label k
  pub does-before : (w : World) (items : TypedBlockItems) (v : Nesting) (place : Place) (closed last : List Instr) (k : ℕ)
      → IsCodeOfPieces items (context_of w) v place closed last → DoesFrom w v k closed (exec_before items k w)
  does-before w typed.NoBlockItem v place closed last k h = from-nothing w v k closed h.0
  does-before w (typed.AndStatement all st) v place closed last k h = does-before w all v place closed h.0 k h.1
  does-before w (typed.AndDeclaration all d) v place closed last k h = does-before w all v place closed h.0 k h.1
  does-before w (typed.AndCase all p e z) v place closed last k h =
      from-then w v k (Line h.0) (Guarded (labels all) v.switches place (Line h.1)) (exec_before all k w)
      (runs_from k (labels all) (exec_piece all w))
      (from-line w v k h.0 (exec_before all k w) (does-before w all v place h.0 h.1 k h.2))
      (from-guard w v k (labels all) place (Line h.1) (exec_piece all w)
      (exec-line w h.1 (λ s. from (exec_piece all w s) (λ flow. done (control_of (in_switch v) flow))) (suc v.switches)
      (does-piece w all v place h.0 h.1 h.2)))
      closed h.3
  does-before w (typed.AndDefault all p) v place closed last k h =
      from-then w v k (Line h.0) (Guarded (labels all) v.switches place (Line h.1)) (exec_before all k w)
      (runs_from k (labels all) (exec_piece all w))
      (from-line w v k h.0 (exec_before all k w) (does-before w all v place h.0 h.1 k h.2))
      (from-guard w v k (labels all) place (Line h.1) (exec_piece all w)
      (exec-line w h.1 (λ s. from (exec_piece all w s) (λ flow. done (control_of (in_switch v) flow))) (suc v.switches)
      (does-piece w all v place h.0 h.1 h.2)))
      closed h.3
