-- The code of a `switch` does what it does: its tests leave the number of the label where it begins, and the pieces behind it run.
use Rattle.std.proofs.Common.{ℕ, suc, ◌<◌, ◌≡◌, refl, ap, ◌∙◌, sym, subst, ℤ, pos, Bool, true, false, List, [], ◌∷◌, ◌++◌, if◌then◌else◌, nat_le, arith}
use Rattle.std.specs.Ordering.{int_eq}
use Rattle.cc_base.specs.declared.number.TypeId.{TypeId}
use Rattle.cc_base.specs.declared.place.Place.{Place}
use Rattle.integers.specs.Arithmetic as integer
use Rattle.integers.specs.Arithmetic.{truth, converted}
use Rattle.runs.specs.Outcome.{Outcome, Ended, Done, done, from, either, Matches}
use Rattle.runs.specs.Control.{Control, Goes, then_go, out_of, block}
use Rattle.runs.proofs.RunLaws.{from-from, from-same, from-either}
use Rattle.c_tree.specs.TypedTree as typed
use Rattle.c_tree.specs.TypedTree.{TypedExpr, TypedBlockItems}
use Rattle.c_tree.specs.TypedParts.{type_of}
use Rattle.src_mem.specs.Pointers.{Value, Integer, Address, is_true}
use Rattle.src_mem.specs.State.{Ending, State, Act, Wrong, as_integer}
use Rattle.src_mem.specs.Operations.{integer_in}
use Rattle.src_mem.specs.Values.{calculated, converted_integer}
use Rattle.src_machine.specs.World.{World}
use Rattle.src_machine.specs.Expressions.{eval}
use Rattle.src_machine.specs.Statements.{Flow, Normal, Breaks, Continues, Returns, then_do, labels, otherwise, case_or, chosen, runs_from, exec_before, exec_piece, flow_of_switch}
use Rattle.cil_form.specs.declared.number.Temp.{Temp}
use Rattle.cil_form.specs.declared.number.Temp.TheVariants as temp
use Rattle.cil_form.specs.declared.instr.Comparison.TheVariants as comparison
use Rattle.cil_form.specs.declared.instr.Operator.TheVariants as operator
use Rattle.cil_form.specs.declared.instr.Set.TheVariants as set
use Rattle.cil_form.specs.declared.instr.Calculate.TheVariants as calculate
use Rattle.cil_form.specs.declared.instr.Convert.TheVariants as convert
use Rattle.cil_form.specs.declared.instr.Instr.{Instr}
use Rattle.cil_form.specs.declared.instr.Instr.TheVariants as instr
use Rattle.cil_form.specs.declared.instr.Code.{Code}
use Rattle.cil_form.specs.State.{Temporaries, Local, gives_to}
use Rattle.cil_form.specs.Meaning.{run}
use Rattle.cil_form.specs.State as cil
use Rattle.cil_form.specs.Laws.{IsAround, AreKept}
use Rattle.cil_form.specs.Computes.{EndsAlike, LeftAlike}
use Rattle.cil_form.proofs.ComputesLaws.{around-fewer, left-over, then-statement}
use Rattle.cil_form.proofs.InstructionLaws.{Relation, at, kept-same, if-last, then-set, run-if}
use Rattle.lower_rules.specs.Pieces.{Form, Line, Then, Choice, Blocked}
use Rattle.lower_rules.specs.Words.{value, work, unsigned_long}
use Rattle.lower_rules.specs.Statements.{Nesting, in_switch, label_of, IsCodeOfTests, Guarded}
use Rattle.lower_means.proofs.Forms.{around_of, All}
use Rattle.lower_means.proofs.Loops.{control_of, AllDo, exec-same, exec-value, exec-blocked}

-- What the tests keep

-- value 0, and what the `switch` statements around keep
abbrev IsFree : ℕ → Temp → Type 0
IsFree n (temp.Value k) = k < 1
IsFree n (temp.Switch k) = k < n
IsFree n (temp.Work v) = ⊥

freer : (n : ℕ) (u : Temp) → IsFree n u → IsFree (suc n) u
freer n (temp.Value k) h = h
freer n (temp.Switch k) h = omega (arith, h)
freer n (temp.Work v) h = h

free-around : (n : ℕ) (u : Temp) → IsAround n u → IsFree n u
free-around n (temp.Value k) h = absurd h
free-around n (temp.Switch k) h = h
free-around n (temp.Work v) h = h

not-one : (n : ℕ) → IsFree n (value 1) → ⊥
not-one n h = absurd (omega (arith, h))

not-switch : (n : ℕ) → IsFree n (label_of n) → ⊥
not-switch n h = absurd (omega (arith, h))

sets-number : {A : Type 0} (R : Relation A) (b : Bool) (n j other : ℕ) (x y : Code) (is : List Instr) (w : cil.Around) (s : State) (T : Temporaries)
    (o : Outcome Ending State A)
    → x.0.items ≡ instr.Set (set.Integer (label_of n) (pos j) unsigned_long) ∷ [] → y.0.items ≡ [] → T (label_of n) ≡ Integer (pos other)
    → ((U : Temporaries) → U (label_of n) ≡ Integer (pos (if b then j else other)) → AreKept (IsFree n) T U
    → Matches R EndsAlike o (run is w (at s U)))
    → Matches R EndsAlike o (either (is_true (Integer (truth b))) (run (x.0.items ++ is) w) (run (y.0.items ++ is) w) (at s T))
sets-number R true n j other x y is w s T o p q e next = subst (λ c. Matches R EndsAlike o (run (c ++ is) w (at s T))) (sym p)
    (then-set R (label_of n) (IsFree n) (Integer (pos j)) (instr.Set (set.Integer (label_of n) (pos j) unsigned_long)) is w s T o refl
    (not-switch n) next)
sets-number R false n j other x y is w s T o p q e next =
    subst (λ c. Matches R EndsAlike o (run (c ++ is) w (at s T))) (sym q) (next T e (kept-same (IsFree n) T))

-- the tests leave the number of the first label that fits
tested : {A : Type 0} (R : Relation A) (items : TypedBlockItems) (n : ℕ) (t : TypeId) (place : Place) (code : List Instr)
    → IsCodeOfTests items n t place code
    → (other : ℕ) (z : ℤ) (is : List Instr) (w : cil.Around) (s : State) (T : Temporaries) (o : Outcome Ending State A)
    → T (value 0) ≡ Integer z → T (label_of n) ≡ Integer (pos other)
    → ((U : Temporaries) → U (label_of n) ≡ Integer (pos (case_or items z other)) → AreKept (IsFree n) T U
    → Matches R EndsAlike o (run is w (at s U)))
    → Matches R EndsAlike o (run (code ++ is) w (at s T))
unfolding Line Then Choice
tested R typed.NoBlockItem n t place code h other z is w s T o e f next =
    subst (λ c. Matches R EndsAlike o (run (c ++ is) w (at s T))) (sym h) (next T f (kept-same (IsFree n) T))
tested R (typed.AndStatement all st) n t place code h other z is w s T o e f next = tested R all n t place code h other z is w s T o e f next
tested R (typed.AndDeclaration all d) n t place code h other z is w s T o e f next = tested R all n t place code h other z is w s T o e f next
tested R (typed.AndDefault all p) n t place code h other z is w s T o e f next = tested R all n t place code h other z is w s T o e f next
tested R (typed.AndCase all p d y) n t place code h other z is w s T o e f next =
    subst (λ c. Matches R EndsAlike o (run (c ++ is) w (at s T)))
    (sym (h.4 ∙ ap (λ x. x ++ h.1) h.2 ∙ ap (λ x. S ∷ B ∷ x) (h.3.4 ∙ ap (λ x. x ++ h.3.1) h.3.2.4)))
    (then-set R (value 1) (IsFree (suc n)) (Integer y) S (B ∷ I ∷ rest) w s T o refl (not-one (suc n))
    (λ U p kept. then-set R (value 1) (IsFree (suc n)) (Integer (truth (int_eq y z))) B (I ∷ rest) w s U o
    (ap (λ a. gives_to (value 1) (calculated w.setting place integer.Equal t a (U (value 0))) (at s U)) p
    ∙ ap (λ a. gives_to (value 1) (calculated w.setting place integer.Equal t (Integer y) a) (at s U)) (kept (value 0) (omega arith) ∙ e))
    (not-one (suc n))
    (λ V q more. subst (λ c. Matches R EndsAlike o c)
    (sym (run-if (value 1) h.3.2.0 h.3.2.1 rest w (at s V)
    ∙ ap (λ a. either (is_true a) (run (h.3.2.0.0.items ++ rest) w) (run (h.3.2.1.0.items ++ rest) w) (at s V)) q))
    (sets-number R (int_eq y z) n (suc (labels all)) other h.3.2.0 h.3.2.1 rest w s V o h.3.2.2 h.3.2.3
    (more (label_of n) (omega arith) ∙ kept (label_of n) (omega arith) ∙ f)
    (λ W g last. tested R all n t place h.3.1 h.3.3 (if int_eq y z then suc (labels all) else other) z is w s W o
    (last (value 0) (omega arith) ∙ more (value 0) (omega arith) ∙ kept (value 0) (omega arith) ∙ e) g
    (λ X k end. next X k (λ u b. end u b ∙ last u b ∙ more u (freer n u b) ∙ kept u (freer n u b))))))))
  where
    S : Instr
    S = instr.Set (set.Integer (value 1) y t)

    B : Instr
    B = instr.Calculate (calculate.Binary (value 1) (operator.Compare comparison.Equal) (value 1) (value 0) t place)

    I : Instr
    I = instr.If (value 1) h.3.2.0 h.3.2.1

    rest : List Instr
    rest = h.3.1 ++ is

-- Pieces

-- code does what a piece does, where the number of the label is kept
abbrev pub DoesFrom : World → Nesting → ℕ → List Instr → Act Flow → Type 0
DoesFrom w v k code m = (s : State) (T : Temporaries) → T (label_of v.switches) ≡ Integer (pos k)
    → Matches (LeftAlike (IsAround (suc v.switches)) T) EndsAlike (from (m s) (λ flow. done (control_of (in_switch v) flow)))
    (run code (around_of w) (at s T))

-- all code of the form does
abbrev pub AllDoFrom : World → Nesting → ℕ → Form → Act Flow → Type 0
AllDoFrom w v k P m = (c : List Instr) → P c → DoesFrom w v k c m

pub items-then : (v : Nesting) (o : Outcome Ending State Flow) (n : Act Flow)
    → from (from o (λ flow. then_do flow n)) (λ flow. done (control_of v flow)) ≡ from (from o (λ flow. done (control_of v flow)))
    (λ y. then_go y (λ s. from (n s) (λ flow. done (control_of v flow))))
items-then v (Ended e s) n = refl
items-then v (Done Normal s) n = refl
items-then v (Done Breaks s) n = refl
items-then v (Done Continues s) n = refl
items-then v (Done (Returns u) s) n = refl

pub from-line : (w : World) (v : Nesting) (k : ℕ) (is : List Instr) (m : Act Flow) → DoesFrom w v k is m → AllDoFrom w v k (Line is) m
unfolding Line
from-line w v k is m h c d = subst (λ z. DoesFrom w v k z m) (sym d) h

pub from-nothing : (w : World) (v : Nesting) (k : ℕ) → AllDoFrom w v k (Line []) (done Normal)
from-nothing w v k = from-line w v k [] (done Normal) (λ s T e. record { exit = refl; state = refl; kept = kept-same (IsAround (suc v.switches)) T })

pub from-then : (w : World) (v : Nesting) (k : ℕ) (P Q : Form) (m n : Act Flow) → AllDoFrom w v k P m → AllDoFrom w v k Q n
    → AllDoFrom w v k (Then P Q) (λ s. from (m s) (λ flow. then_do flow n))
unfolding Then
from-then w v k P Q m n h l c d s T e =
    subst (λ o. Matches (LeftAlike (IsAround (suc v.switches)) T) EndsAlike o (run c (around_of w) (at s T))) (sym (items-then (in_switch v) (m s) n))
    (subst (λ z. Matches (LeftAlike (IsAround (suc v.switches)) T) EndsAlike (from (from (m s) C) (λ y. then_go y N)) (run z (around_of w) (at s T)))
    (sym d.4)
    (then-statement (IsAround (suc v.switches)) (IsAround (suc v.switches)) (λ u p. p) d.0 d.1 (around_of w) (from (m s) C) N (at s T) T
    (h d.0 d.2 s T e)
    (λ U r kept. left-over (IsAround (suc v.switches)) (IsAround (suc v.switches)) T U (λ u p. p) kept (N r) (run d.1 (around_of w) (at r U))
    (l d.1 d.3 r U (kept (label_of v.switches) (omega arith) ∙ e)))))
  where
    C : Flow → Act (Control Value)
    C = λ flow. done (control_of (in_switch v) flow)

    N : Act (Control Value)
    N = λ s. from (n s) C

true-of : (b : Bool) → is_true (Integer (truth b)) ≡ b
true-of true = refl
true-of false = refl

-- a piece behind its guard
pub from-guard : (w : World) (v : Nesting) (k j : ℕ) (place : Place) (P : Form) (m : Act Flow) → AllDo w P m (in_switch v)
    → AllDoFrom w v k (Guarded j v.switches place P) (runs_from k j m)
unfolding Line Then Choice
from-guard w v k j place P m h c d s T e =
    subst (λ o. Matches (LeftAlike (IsAround (suc v.switches)) T) EndsAlike o (run c (around_of w) (at s T)))
    (sym (from-either (nat_le k j) m (done Normal) (λ flow. done (control_of (in_switch v) flow)) s))
    (subst (λ z. Matches (LeftAlike (IsAround (suc v.switches)) T) EndsAlike O (run z (around_of w) (at s T)))
    (sym (d.4 ∙ ap (λ z. z ++ d.1) d.2 ∙ ap (λ z. S ∷ B ∷ z) d.3.4))
    (then-set (LeftAlike (IsAround (suc v.switches)) T) (value 0) (IsAround (suc v.switches)) (Integer (pos j)) S
    (B ∷ instr.If (value 0) d.3.0 d.3.1 ∷ [])
    (around_of w) s T O refl (λ h. h)
    (λ U p kept. then-set (LeftAlike (IsAround (suc v.switches)) T) (value 0) (IsAround (suc v.switches)) (Integer (truth (nat_le k j))) B
    (instr.If (value 0) d.3.0 d.3.1 ∷ []) (around_of w) s U O
    (ap (λ x. gives_to (value 0) (calculated w.setting place integer.LessOrEqual unsigned_long x (U (value 0))) (at s U))
    (kept (label_of v.switches) (omega arith) ∙ e)
    ∙ ap (λ x. gives_to (value 0) (calculated w.setting place integer.LessOrEqual unsigned_long (Integer (pos k)) x) (at s U)) p) (λ h. h)
    (λ V r more. subst (λ x. Matches (LeftAlike (IsAround (suc v.switches)) T) EndsAlike (either x M (done Goes) s)
    (run (instr.If (value 0) d.3.0 d.3.1 ∷ []) (around_of w) (at s V))) (ap is_true r ∙ true-of (nat_le k j))
    (if-last (LeftAlike (IsAround (suc v.switches)) T) (value 0) d.3.0 d.3.1 (around_of w) M (done Goes) s V
    (left-over (IsAround (suc v.switches)) (IsAround (suc v.switches)) T V (λ u p. p) (λ u p. more u p ∙ kept u p) (M s)
    (run d.3.0.0.items (around_of w) (at s V))
    ((h d.3.0.0.items d.3.2).by s V))
    (subst (λ c. Matches (LeftAlike (IsAround (suc v.switches)) T) EndsAlike (Done Goes s) (run c (around_of w) (at s V))) (sym d.3.3)
    (record { exit = refl; state = refl; kept = λ u p. more u p ∙ kept u p })))))))
  where
    M : Act (Control Value)
    M = λ s. from (m s) (λ flow. done (control_of (in_switch v) flow))

    O : Outcome Ending State (Control Value)
    O = either (nat_le k j) M (done Goes) s

    S : Instr
    S = instr.Set (set.Integer (value 0) (pos j) unsigned_long)

    B : Instr
    B = instr.Calculate (calculate.Binary (value 0) (operator.Compare comparison.LessOrEqual) (label_of v.switches) (value 0) unsigned_long place)

-- The whole

-- the code of a `switch` behind its value
switched : (w : World) (v : Nesting) (items : TypedBlockItems) (t : TypeId) (place : Place) (tests pieces : List Instr) (behind : ℕ → Act Flow)
    (T : Temporaries) (s : State) → IsCodeOfTests items v.switches t place tests → ((k : ℕ) → DoesFrom w v k pieces (behind k))
    → (u : Value) → T (value 0) ≡ u
    → Matches (LeftAlike (IsAround v.switches) T) EndsAlike
    (from (as_integer u s) (λ z r. from (behind (chosen items z) r) (λ flow. done (control_of (in_switch v) flow))))
    (run (instr.Convert (convert.Integer work (value 0) t) ∷ instr.Set (set.Integer (label_of v.switches) (pos (otherwise items)) unsigned_long)
    ∷ (tests ++ pieces))
    (around_of w) (at s T))
switched w v items t place tests pieces behind T s h l (Address q) e =
    subst (λ x. Matches (LeftAlike (IsAround v.switches) T) EndsAlike (Ended Wrong s) (from (gives_to work (converted_integer w.setting t x) (at s T))
    (λ z. then_go z (run (instr.Set (set.Integer (label_of v.switches) (pos (otherwise items)) unsigned_long) ∷ (tests ++ pieces)) (around_of w)))))
    (sym e) (refl, refl)
switched w v items t place tests pieces behind T s h l (Integer z) e =
    then-set (LeftAlike (IsAround v.switches) T) work (IsFree (suc v.switches)) (Integer (converted (integer_in w.setting t) z))
    (instr.Convert (convert.Integer work (value 0) t)) (S ∷ (tests ++ pieces)) (around_of w) s T O
    (ap (λ x. gives_to work (converted_integer w.setting t x) (at s T)) e) (λ g. g)
    (λ U p kept. then-set (LeftAlike (IsAround v.switches) T) (label_of v.switches) (IsFree v.switches) (Integer (pos (otherwise items))) S
    (tests ++ pieces)
    (around_of w) s U O refl (not-switch v.switches)
    (λ V q more. tested (LeftAlike (IsAround v.switches) T) items v.switches t place tests h (otherwise items) z pieces (around_of w) s V O
    (more (value 0) (omega arith) ∙ kept (value 0) (omega arith) ∙ e) q
    (λ W g last. left-over (IsAround (suc v.switches)) (IsAround v.switches) T W (around-fewer v.switches (suc v.switches) (omega arith))
    (λ u b. last u (free-around v.switches u b) ∙ more u (free-around v.switches u b) ∙ kept u (freer v.switches u (free-around v.switches u b)))
    O (run pieces (around_of w) (at s W)) (l (chosen items z) s W g))))
  where
    O : Outcome Ending State (Control Value)
    O = from (behind (chosen items z) s) (λ flow. done (control_of (in_switch v) flow))

    S : Instr
    S = instr.Set (set.Integer (label_of v.switches) (pos (otherwise items)) unsigned_long)

switch-left : (v : Nesting) (o : Outcome Ending State Flow) → from (from o (λ flow. done (flow_of_switch flow))) (λ flow. done (control_of v flow))
    ≡ from (from o (λ flow. done (control_of (in_switch v) flow))) (λ x. done (out_of x))
switch-left v (Ended e s) = refl
switch-left v (Done Normal s) = refl
switch-left v (Done Breaks s) = refl
switch-left v (Done Continues s) = refl
switch-left v (Done (Returns u) s) = refl

-- all pieces, from label k on
abbrev pub behind : TypedBlockItems → World → ℕ → Act Flow
behind items w k s = from (exec_before items k w s) (λ flow. then_do flow (runs_from k (labels items) (exec_piece items w)))

pub does-switch : (w : World) (v : Nesting) (items : TypedBlockItems) (e : TypedExpr) (place : Place) (P R : Form) → All w P (eval e w) 0
    → ((k : ℕ) → AllDoFrom w v k R (behind items w k))
    → AllDo w (Blocked (Then P (Then (Line (instr.Convert (convert.Integer work (value 0) (type_of e))
    ∷ instr.Set (set.Integer (label_of v.switches) (pos (otherwise items)) unsigned_long) ∷ []))
    (Then (IsCodeOfTests items v.switches (type_of e) place) R))))
    (λ s. from (eval e w s) (λ u r. from (as_integer u r) (λ z q. from (behind items w (chosen items z) q) (λ flow. done (flow_of_switch flow))))) v
unfolding Line Then
does-switch w v items e place P R h l =
    exec-same w (Blocked (Then P Q)) (λ s. from (from (eval e w s) F) (λ flow. done (control_of v flow))) (block M) v.switches
    (λ s. from-from (eval e w s) F (λ flow. done (control_of v flow))
    ∙ from-same (eval e w s) (λ u r. from (F u r) (λ flow. done (control_of v flow))) (λ u r. from (G u r) (λ c. done (out_of c)))
    (λ u r. from-from (as_integer u r) (λ z q. from (behind items w (chosen items z) q) (λ flow. done (flow_of_switch flow)))
    (λ flow. done (control_of v flow))
    ∙ from-same (as_integer u r) (λ z q. from (from (behind items w (chosen items z) q) (λ flow. done (flow_of_switch flow)))
    (λ flow. done (control_of v flow)))
    (λ z q. from (from (behind items w (chosen items z) q) (λ flow. done (control_of (in_switch v) flow))) (λ c. done (out_of c)))
    (λ z q. switch-left v (behind items w (chosen items z) q))
    ∙ sym (from-from (as_integer u r) (λ z q. from (behind items w (chosen items z) q) (λ flow. done (control_of (in_switch v) flow)))
    (λ c. done (out_of c))))
    ∙ sym (from-from (eval e w s) G (λ c. done (out_of c))))
    (exec-blocked w (Then P Q) M v.switches
    (exec-value w P Q (eval e w) G v.switches h
    (λ c d T s. subst (λ z. Matches (LeftAlike (IsAround v.switches) T) EndsAlike (G (T (value 0)) s) (run z (around_of w) (at s T)))
    (sym (d.4 ∙ ap (λ z. z ++ d.1) d.2 ∙ ap (λ z. C ∷ S ∷ z) d.3.4))
    (switched w v items (type_of e) place d.3.0 d.3.1 (behind items w) T s d.3.2 (λ k. l k d.3.1 d.3.3) (T (value 0)) refl))))
  where
    C : Instr
    C = instr.Convert (convert.Integer work (value 0) (type_of e))

    S : Instr
    S = instr.Set (set.Integer (label_of v.switches) (pos (otherwise items)) unsigned_long)

    Q : Form
    Q = Then (Line (C ∷ S ∷ [])) (Then (IsCodeOfTests items v.switches (type_of e) place) R)

    F : Value → Act Flow
    F = λ u r. from (as_integer u r) (λ z q. from (behind items w (chosen items z) q) (λ flow. done (flow_of_switch flow)))

    G : Value → Act (Control Value)
    G = λ u r. from (as_integer u r) (λ z q. from (behind items w (chosen items z) q) (λ flow. done (control_of (in_switch v) flow)))

    M : Act (Control Value)
    M = λ s. from (eval e w s) G
