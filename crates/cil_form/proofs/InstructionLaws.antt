-- One instruction at the head of code or at its end, operands, and choices: what code computes and executes, put together piece by piece.
use Rattle.std.proofs.Common.{ℕ, suc, ◌≡◌, refl, ap, ◌∙◌, sym, subst, Bool, true, false, List, [], ◌∷◌, ◌++◌, arith}
use Rattle.runs.specs.Outcome.{Outcome, Ended, Done, done, from, either, Matches}
use Rattle.runs.specs.Control.{Control, Goes, Leaves, then_go}
use Rattle.src_mem.specs.Pointers.{Value, is_true}
use Rattle.src_mem.specs.State.{Ending, State, Act}
use Rattle.cil_form.specs.declared.number.Temp.{Temp}
use Rattle.cil_form.specs.declared.number.Temp.TheVariants as temp
use Rattle.cil_form.specs.declared.instr.Instr.{Instr}
use Rattle.cil_form.specs.declared.instr.Instr.TheVariants as instr
use Rattle.cil_form.specs.declared.instr.Code.{Code}
use Rattle.cil_form.specs.State.{Temporaries, Local, Step, Around, beside, with_temp, gives_to, changes_none}
use Rattle.cil_form.specs.Meaning.{act, run}
use Rattle.cil_form.specs.Laws.{IsBelow, IsAround, AreKept}
use Rattle.cil_form.specs.Computes.{EndsAlike, Held, LeftAlike, Computes, Executes}
use Rattle.cil_form.proofs.RunLaws.{run-append, act-if}
use Rattle.cil_form.proofs.KeepLaws.{with_temp-same, with_temp-other}
use Rattle.cil_form.proofs.ComputesLaws.{then-code, held-over, kept-around, if-matches, run-one}

-- what two outcomes have to be in
abbrev pub Relation : Type 0 → Type 1
Relation A = A → State → Control Value → Local → Type 0

abbrev pub at : State → Temporaries → Local
at s T = record { state = s; temps = T }

pub kept-same : (P : Temp → Type 0) (T : Temporaries) → AreKept P T T
kept-same P T = λ u p. refl

pub kept-then : (P : Temp → Type 0) (T U V : Temporaries) → AreKept P T U → AreKept P U V → AreKept P T V
kept-then P T U V h l = λ u p. l u p ∙ h u p

-- what lies below t lies below what is more
pub kept-lower : (t : ℕ) (T U : Temporaries) → AreKept (IsBelow (suc t)) T U → AreKept (IsBelow t) T U
kept-lower t T U h (temp.Value n) p = h (temp.Value n) (omega (arith, p))
kept-lower t T U h (temp.Switch n) p = h (temp.Switch n) tt
kept-lower t T U h (temp.Work w) p = absurd p

pub kept-value : (t : ℕ) (T U : Temporaries) → AreKept (IsBelow (suc t)) T U → U (temp.Value t) ≡ T (temp.Value t)
kept-value t T U h = h (temp.Value t) (omega arith)

-- One instruction at the head of code

-- one that gives a value
gives-on : {A : Type 0} (R : Relation A) (into : Temp) (P : Temp → Type 0) (o : Outcome Ending State Value) (T : Temporaries) (f : Value → Act A)
    (g : Step) → ¬ P into
    → ((U : Temporaries) (r : State) → AreKept P T U → Matches R EndsAlike (f (U into) r) (g (at r U)))
    → Matches R EndsAlike (from o f) (from (from (beside T o) (λ v c. Done Goes (record c { temps = with_temp into v c.temps }))) (λ x. then_go x g))
gives-on R into P (Ended e s) T f g spares next = (refl, refl)
gives-on R into P (Done v s) T f g spares next =
    subst (λ u. Matches R EndsAlike (f u s) (g (at s (with_temp into v T)))) (with_temp-same into v T)
    (next (with_temp into v T) s (λ u p. with_temp-other P into v T u spares p))

pub then-value : {A : Type 0} (R : Relation A) (into : Temp) (P : Temp → Type 0) (m : Act Value) (i : Instr) (is : List Instr) (w : Around)
    (s : State) (T : Temporaries) (f : Value → Act A)
    → act i w (at s T) ≡ gives_to into m (at s T) → ¬ P into
    → ((U : Temporaries) (r : State) → AreKept P T U → Matches R EndsAlike (f (U into) r) (run is w (at r U)))
    → Matches R EndsAlike (from (m s) f) (run (i ∷ is) w (at s T))
then-value R into P m i is w s T f e spares next =
    subst (λ o. Matches R EndsAlike (from (m s) f) (from o (λ x. then_go x (run is w)))) (sym e) (gives-on R into P (m s) T f (run is w) spares next)

-- one that gives none
changes-on : {A : Type 0} (R : Relation A) (o : Outcome Ending State (Unit {0})) (T : Temporaries) (f : Act A) (g : Step)
    → ((r : State) → Matches R EndsAlike (f r) (g (at r T))) → Matches R EndsAlike (from o (λ _. f))
    (from (from (beside T o) (λ _. done Goes)) (λ x. then_go x g))
changes-on R (Ended e s) T f g next = (refl, refl)
changes-on R (Done a s) T f g next = next s

pub then-effect : {A : Type 0} (R : Relation A) (m : Act (Unit {0})) (i : Instr) (is : List Instr) (w : Around) (s : State) (T : Temporaries)
    (f : Act A)
    → act i w (at s T) ≡ changes_none m (at s T) → ((r : State) → Matches R EndsAlike (f r) (run is w (at r T)))
    → Matches R EndsAlike (from (m s) (λ _. f)) (run (i ∷ is) w (at s T))
then-effect R m i is w s T f e next =
    subst (λ o. Matches R EndsAlike (from (m s) (λ _. f)) (from o (λ x. then_go x (run is w)))) (sym e) (changes-on R (m s) T f (run is w) next)

-- the last one, which gives the value of an expression, from temporaries that kept what lies below
pub last-value : (t : ℕ) (m : Act Value) (i : Instr) (w : Around) (s : State) (S T : Temporaries)
    → act i w (at s T) ≡ gives_to (temp.Value t) m (at s T)
    → AreKept (IsBelow t) S T → Matches (Held (temp.Value t) (IsBelow t) S) EndsAlike (m s) (run (i ∷ []) w (at s T))
last-value t m i w s S T e kept = held-over (temp.Value t) (IsBelow t) S T kept (m s) (run (i ∷ []) w (at s T)) (one-held (m s) e)
  where
    one-on : (o : Outcome Ending State Value) → Matches (Held (temp.Value t) (IsBelow t) T) EndsAlike o
        (from (from (beside T o) (λ v c. Done Goes (record c { temps = with_temp (temp.Value t) v c.temps }))) (λ x. then_go x (done Goes)))
    one-on (Ended e s) = (refl, refl)
    one-on (Done v s) = record {
      goes = refl;
      state = refl;
      value = with_temp-same (temp.Value t) v T;
      kept = λ u p. with_temp-other (IsBelow t)
          (temp.Value t) v T u (λ h. absurd (omega (arith, h))) p;
    }

    one-held : (o : Outcome Ending State Value) → act i w (at s T) ≡ gives_to (temp.Value t) m (at s T)
        → Matches (Held (temp.Value t) (IsBelow t) T) EndsAlike (m s) (run (i ∷ []) w (at s T))
    one-held o e = subst (λ o. Matches (Held (temp.Value t) (IsBelow t) T) EndsAlike (m s) (from o (λ x. then_go x (done Goes)))) (sym e)
        (one-on (m s))

-- no code: the value is there already
pub no-code : (t : ℕ) (w : Around) (s : State) (S T : Temporaries) → AreKept (IsBelow t) S T
    → Matches (Held (temp.Value t) (IsBelow t) S) EndsAlike (Done (T (temp.Value t)) s) (run [] w (at s T))
no-code t w s S T kept = record { goes = refl; state = refl; value = refl; kept = kept }

-- Two operands

pub two-operands : {A : Type 0} (R : Relation A) (x y is : List Instr) (w : Around) (m n : Act Value) (t : ℕ) (s : State) (T : Temporaries)
    (f : Value → Value → Act A)
    → Computes x w m t → Computes y w n (suc t)
    → ((U : Temporaries) (r : State) → AreKept (IsBelow t) T U
    → Matches R EndsAlike (f (U (temp.Value t)) (U (temp.Value (suc t))) r) (run is w (at r U)))
    → Matches R EndsAlike (from (m s) (λ v r. from (n r) (λ u. f v u))) (run (x ++ (y ++ is)) w (at s T))
two-operands R x y is w m n t s T f h l next =
    then-code R x (y ++ is) w (temp.Value t) (IsBelow t) (m s) (at s T) T (λ v r. from (n r) (λ u. f v u)) (h.by s T)
    (λ U r kept. then-code R y is w (temp.Value (suc t)) (IsBelow (suc t)) (n r) (at r U) U (f (U (temp.Value t))) (l.by r U)
    (λ V q more. subst (λ a. Matches R EndsAlike (f a (V (temp.Value (suc t))) q) (run is w (at q V))) (kept-value t U V more)
    (next V q (kept-then (IsBelow t) T U V kept (kept-lower t U V more)))))

-- equal code
pub computes-as : (a b : List Instr) (w : Around) (m : Act Value) (t : ℕ) → a ≡ b → Computes b w m t → Computes a w m t
computes-as a b w m t e h = subst (λ c. Computes c w m t) (sym e) h

-- an operator of two operands
pub computes-two : (x y : List Instr) (i : Instr) (w : Around) (m n : Act Value) (t : ℕ) (f : Value → Value → Act Value)
    → Computes x w m t → Computes y w n (suc t)
    → ((c : Local) → act i w c ≡ gives_to (temp.Value t) (f (c.temps (temp.Value t)) (c.temps (temp.Value (suc t)))) c)
    → Computes (x ++ (y ++ i ∷ [])) w (λ s. from (m s) (λ v r. from (n r) (λ u. f v u))) t
computes-two x y i w m n t f h l e = record {
  by = λ s T. two-operands (Held (temp.Value t) (IsBelow t) T) x y (i ∷ []) w m n t s T f h l
      (λ U r kept. last-value t (f (U (temp.Value t)) (U (temp.Value (suc t)))) i w r T U (e (at r U)) kept);
}

-- one instruction
pub computes-one : (i : Instr) (w : Around) (m : Act Value) (t : ℕ) → ((c : Local) → act i w c ≡ gives_to (temp.Value t) m c)
    → Computes (i ∷ []) w m t
computes-one i w m t e = record { by = λ s T. last-value t m i w s T T (e (at s T)) (kept-same (IsBelow t) T) }

-- one instruction behind an operand
pub computes-then : (x : List Instr) (i : Instr) (w : Around) (m : Act Value) (f : Value → Act Value) (t : ℕ) → Computes x w m t
    → ((c : Local) → act i w c ≡ gives_to (temp.Value t) (f (c.temps (temp.Value t))) c) → Computes (x ++ i ∷ []) w (λ s. from (m s) f) t
computes-then x i w m f t h e = record {
  by = λ s T. then-code (Held (temp.Value t) (IsBelow t) T) x (i ∷ []) w (temp.Value t) (IsBelow t) (m s) (at s T) T f (h.by s T)
      (λ U r kept. last-value t (f (U (temp.Value t))) i w r T U (e (at r U)) kept);
}

-- nothing behind an operand
pub computes-same : (x : List Instr) (w : Around) (m : Act Value) (f : Value → Act Value) (t : ℕ) → Computes x w m t
    → ((v : Value) (s : State) → f v s ≡ Done v s) → Computes (x ++ []) w (λ s. from (m s) f) t
computes-same x w m f t h e = record {
  by = λ s T. then-code (Held (temp.Value t) (IsBelow t) T) x [] w (temp.Value t) (IsBelow t) (m s) (at s T) T f (h.by s T)
      (λ U r kept. subst (λ o. Matches (Held (temp.Value t) (IsBelow t) T) EndsAlike o (run [] w (at r U))) (sym (e (U (temp.Value t)) r))
      (no-code t w r T U kept));
}

-- an `if` at the end of code
pub if-last : {A : Type 0} (R : Relation A) (t : Temp) (x y : Code) (w : Around) (m n : Act A) (s : State) (T : Temporaries)
    → Matches R EndsAlike (m s) (run x.0.items w (at s T)) → Matches R EndsAlike (n s) (run y.0.items w (at s T))
    → Matches R EndsAlike (either (is_true (T t)) m n s) (run (instr.If t x y ∷ []) w (at s T))
if-last R t x y w m n s T h l =
    subst (λ o. Matches R EndsAlike (either (is_true (T t)) m n s) o) (sym (run-one (instr.If t x y) w (at s T))) (if-matches R t x y w m n s T h l)

-- a choice
pub computes-choice : (x : List Instr) (a b : Code) (w : Around) (m n o : Act Value) (t : ℕ) → Computes x w m t → Computes a.0.items w n t
    → Computes b.0.items w o t
    → Computes (x ++ instr.If (temp.Value t) a b ∷ []) w (λ s. from (m s) (λ v. either (is_true v) n o)) t
computes-choice x a b w m n o t h l r = record {
  by = λ s T. then-code (Held (temp.Value t) (IsBelow t) T) x (instr.If (temp.Value t) a b ∷ []) w (temp.Value t) (IsBelow t) (m s) (at s T) T
      (λ v. either (is_true v) n o) (h.by s T)
      (λ U q kept. held-over (temp.Value t) (IsBelow t) T U kept (either (is_true (U (temp.Value t))) n o q)
      (run (instr.If (temp.Value t) a b ∷ []) w (at q U))
      (if-last (Held (temp.Value t) (IsBelow t) U) (temp.Value t) a b w n o q U (l.by q U) (r.by q U)));
}

-- Statements

-- equal operations and equal code
pub executes-as : (a b : List Instr) (w : Around) (m n : Act (Control Value)) (depth : ℕ) → a ≡ b → ((s : State) → m s ≡ n s) → Executes b w n depth
    → Executes a w m depth
executes-as a b w m n depth e same h = record {
  by = λ s T. subst (λ o. Matches (LeftAlike (IsAround depth) T) EndsAlike o (run a w (at s T))) (sym (same s))
      (subst (λ c. Matches (LeftAlike (IsAround depth) T) EndsAlike (n s) (run c w (at s T))) (sym e) (h.by s T));
}

pub effect-matches : (depth : ℕ) (T : Temporaries) (t : ℕ) (m : Outcome Ending State Value) (n : Outcome Ending Local (Control Value))
    → Matches (Held (temp.Value t) (IsBelow t) T) EndsAlike m n
    → Matches (LeftAlike (IsAround depth) T) EndsAlike (from m (λ _. done Goes)) n
effect-matches depth T t (Ended e s) (Ended d c) h = h
effect-matches depth T t (Ended e s) (Done x c) h = absurd h
effect-matches depth T t (Done v s) (Ended d c) h = absurd h
effect-matches depth T t (Done v s) (Done x c) h = record { exit = h.goes; state = h.state; kept = kept-around t depth T c.temps h.kept }

-- an expression for what it does
pub executes-effect : (code : List Instr) (w : Around) (m : Act Value) (t depth : ℕ) → Computes code w m t
    → Executes code w (λ s. from (m s) (λ _. done Goes)) depth
executes-effect code w m t depth h = record { by = λ s T. effect-matches depth T t (m s) (run code w (at s T)) (h.by s T) }

pub executes-nothing : (w : Around) (depth : ℕ) → Executes [] w (done Goes) depth
executes-nothing w depth = record { by = λ s T. record { exit = refl; state = refl; kept = kept-same (IsAround depth) T } }

pub executes-break : (k : ℕ) (w : Around) (depth : ℕ) → Executes (instr.Break k ∷ []) w (done (Leaves k)) depth
executes-break k w depth = record { by = λ s T. record { exit = refl; state = refl; kept = kept-same (IsAround depth) T } }

-- what gives no temporary a value, at the end of code
pub left-beside : (depth : ℕ) (T : Temporaries) (o : Outcome Ending State (Control Value)) (n : Outcome Ending Local (Control Value)) → n ≡ beside T o
    → Matches (LeftAlike (IsAround depth) T) EndsAlike o n
left-beside depth T (Ended e s) n q = subst (λ z. Matches (LeftAlike (IsAround depth) T) EndsAlike (Ended e s) z) (sym q) (refl, refl)
left-beside depth T (Done x s) n q =
    subst (λ z. Matches (LeftAlike (IsAround depth) T) EndsAlike (Done x s) z) (sym q)
    (record { exit = refl; state = refl; kept = kept-same (IsAround depth) T })

-- A value that is known

-- an instruction that gives a value that is known
pub then-set : {A : Type 0} (R : Relation A) (into : Temp) (P : Temp → Type 0) (u : Value) (i : Instr) (is : List Instr) (w : Around) (s : State)
    (T : Temporaries) (o : Outcome Ending State A)
    → act i w (at s T) ≡ gives_to into (done u) (at s T) → ¬ P into
    → ((U : Temporaries) → U into ≡ u → AreKept P T U → Matches R EndsAlike o (run is w (at s U)))
    → Matches R EndsAlike o (run (i ∷ is) w (at s T))
then-set R into P u i is w s T o e spares next =
    subst (λ n. Matches R EndsAlike o (from n (λ x. then_go x (run is w)))) (sym e)
    (next (with_temp into u T) (with_temp-same into u T) (λ v p. with_temp-other P into u T v spares p))

go-either : (b : Bool) (f g : Step) (n : Step) (c : Local) → from (either b f g c) (λ x. then_go x n) ≡ either b (λ d. from (f d) (λ x. then_go x n))
    (λ d. from (g d) (λ x. then_go x n)) c
go-either true f g n c = refl
go-either false f g n c = refl

same-sides : (b : Bool) (f f' g g' : Step) (c : Local) → f c ≡ f' c → g c ≡ g' c → either b f g c ≡ either b f' g' c
same-sides true f f' g g' c p q = p
same-sides false f f' g g' c p q = q

-- an `if` at the head of code
pub run-if : (t : Temp) (x y : Code) (is : List Instr) (w : Around) (c : Local)
    → run (instr.If t x y ∷ is) w c ≡ either (is_true (c.temps t)) (run (x.0.items ++ is) w) (run (y.0.items ++ is) w) c
run-if t x y is w c =
    ap (λ o. from o (λ z. then_go z (run is w))) (act-if t x y w c) ∙ go-either (is_true (c.temps t)) (run x.0.items w) (run y.0.items w) (run is w) c
    ∙ same-sides (is_true (c.temps t)) (λ d. from (run x.0.items w d) (λ z. then_go z (run is w))) (run (x.0.items ++ is) w)
    (λ d. from (run y.0.items w d) (λ z. then_go z (run is w))) (run (y.0.items ++ is) w) c (sym (run-append x.0.items is w c))
    (sym (run-append y.0.items is w c))
