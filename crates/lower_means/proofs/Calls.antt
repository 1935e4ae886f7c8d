-- Arguments in a row of values, and calls.
use Rattle.std.proofs.Common.{ℕ, zero, suc, ◌+◌, ◌≡◌, refl, ap, ◌∙◌, sym, subst, List, [], ◌∷◌, ◌++◌, arith, append_assoc}
use Rattle.std.proofs.lemmas.List.FromFn.{map-range_with_len_more}
use Rattle.cc_base.specs.declared.number.NodeId.{NodeId}
use Rattle.cc_base.specs.declared.number.TypeId.{TypeId}
use Rattle.cc_base.specs.declared.place.Place.{Place}
use Rattle.runs.specs.Outcome.{done, from, Matches}
use Rattle.runs.proofs.RunLaws.{from-from, matches-left}
use Rattle.c_tree.specs.declared.typed_word.Runtime.{Runtime}
use Rattle.c_tree.specs.declared.typed_word.Runtime.TheVariants as function
use Rattle.runtime_calls.specs.Meanings.{call_runtime, call_allocation}
use Rattle.src_mem.specs.Pointers.{Value}
use Rattle.src_mem.specs.State.{State, Act}
use Rattle.src_mem.specs.Values.{called_value, allocated}
use Rattle.src_machine.specs.World.{World}
use Rattle.cil_form.specs.declared.number.Temp.TheVariants as temp
use Rattle.cil_form.specs.declared.instr.RuntimeCall.TheVariants as runtime
use Rattle.cil_form.specs.declared.instr.Allocate.TheVariants as allocate
use Rattle.cil_form.specs.declared.instr.Instr.{Instr}
use Rattle.cil_form.specs.declared.instr.Instr.TheVariants as instr
use Rattle.cil_form.specs.State.{Temporaries, Local, gives_to}
use Rattle.cil_form.specs.Meaning.{act, run, row_of}
use Rattle.cil_form.specs.Laws.{IsBelow, AreKept}
use Rattle.cil_form.specs.Computes.{EndsAlike, Computes}
use Rattle.cil_form.proofs.ComputesLaws.{then-code, held-over}
use Rattle.cil_form.proofs.InstructionLaws.{at, last-value, kept-value, kept-lower, kept-then, kept-same}
use Rattle.lower_rules.specs.Pieces.{Form, Line, Then, When}
use Rattle.lower_rules.specs.Words.{value, RunsRuntime, Allocates}
use Rattle.lower_means.proofs.Forms.{around_of, Into, All}

row-more : (T : Temporaries) (t n : ℕ) → row_of T t (suc n) ≡ row_of T t n ++ T (value (t + n)) ∷ []
row-more T t n = let e : suc n ≡ n + 1 = omega arith in ap (λ k. row_of T t k) e ∙ map-range_with_len_more (λ i. T (temp.Value i)) t n (t + n) refl

plus-suc : (t n : ℕ) → t + suc n ≡ suc (t + n)
plus-suc t n = omega arith

pub row-kept : (T U : Temporaries) (t n : ℕ) → AreKept (IsBelow (t + n)) T U → row_of U t n ≡ row_of T t n
row-kept T U t zero h = refl
row-kept T U t (suc n) h =
    row-more U t n ∙ ap (λ l. l ++ U (value (t + n)) ∷ [])
    (row-kept T U t n (kept-lower (t + n) T U (subst (λ k. AreKept (IsBelow k) T U) (plus-suc t n) h)))
    ∙ ap (λ v. row_of T t n ++ v ∷ []) (h (value (t + n)) (omega arith)) ∙ sym (row-more T t n)

-- code leaves so many values in a row
abbrev pub Rows : World → Act (List Value) → ℕ → ℕ → List Instr → Type 0
Rows w m t n code = (i j : ℕ) (S : Temporaries) (f : List Value → Act Value) (s : State) (T : Temporaries) (rest : List Instr)
    → ((U : Temporaries) (r : State) → AreKept (IsBelow t) T U
    → Matches (Into i j S) EndsAlike (f (row_of U t n) r) (run rest (around_of w) (at r U)))
    → Matches (Into i j S) EndsAlike (from (m s) f) (run (code ++ rest) (around_of w) (at s T))

-- all code of a form does
abbrev pub AllRows : World → Form → Act (List Value) → ℕ → ℕ → Type 0
AllRows w P m t n = (c : List Instr) → P c → Rows w m t n c

pub no-rows : (w : World) (t : ℕ) → Rows w (done []) t 0 []
no-rows w t i j S f s T rest next = next T s (kept-same (IsBelow t) T)

kept-below : (t n : ℕ) (T U : Temporaries) → AreKept (IsBelow (t + n)) T U → AreKept (IsBelow t) T U
kept-below t n T U h (temp.Value k) p = h (temp.Value k) (omega (arith, p))
kept-below t n T U h (temp.Switch k) p = h (temp.Switch k) tt
kept-below t n T U h (temp.Work v) p = absurd p

pub more-rows : (w : World) (m : Act (List Value)) (d : Act Value) (t n : ℕ) (x y : List Instr) → Rows w m t n x → Computes y (around_of w) d (t + n)
    → Rows w (λ s. from (m s) (λ vs r. from (d r) (λ v. done (vs ++ v ∷ [])))) t (suc n) (x ++ y)
more-rows w m d t n x y h l i j S f s T rest next =
    subst (λ c. Matches (Into i j S) EndsAlike (from (from (m s) (λ vs r. from (d r) (λ v. done (vs ++ v ∷ [])))) f) (run c (around_of w) (at s T)))
    (sym (append_assoc x y rest))
    (matches-left (Into i j S) EndsAlike (from (from (m s) (λ vs r. from (d r) (λ v. done (vs ++ v ∷ [])))) f)
    (from (m s) (λ vs r. from (from (d r) (λ v. done (vs ++ v ∷ []))) f)) (run (x ++ (y ++ rest)) (around_of w) (at s T))
    (from-from (m s) (λ vs r. from (d r) (λ v. done (vs ++ v ∷ []))) f)
    (h i j S (λ vs r. from (from (d r) (λ v. done (vs ++ v ∷ []))) f) s T (y ++ rest)
    (λ U r kept. matches-left (Into i j S) EndsAlike (from (from (d r) (λ v. done (row_of U t n ++ v ∷ []))) f)
    (from (d r) (λ v. f (row_of U t n ++ v ∷ []))) (run (y ++ rest) (around_of w) (at r U))
    (from-from (d r) (λ v. done (row_of U t n ++ v ∷ [])) f)
    (then-code (Into i j S) y rest (around_of w) (value (t + n)) (IsBelow (t + n)) (d r) (at r U) U (λ v. f (row_of U t n ++ v ∷ [])) (l.by r U)
    (λ V q more. subst (λ vs. Matches (Into i j S) EndsAlike (f vs q) (run rest (around_of w) (at q V)))
    (row-more V t n ∙ ap (λ l. l ++ V (value (t + n)) ∷ []) (row-kept U V t n more))
    (next V q (kept-then (IsBelow t) T U V kept (kept-below t n U V more))))))))

pub all-no-rows : (w : World) (t : ℕ) → AllRows w (Line []) (done []) t 0
unfolding Line
all-no-rows w t c h = subst (λ z. Rows w (done []) t 0 z) (sym h) (no-rows w t)

pub all-more-rows : (w : World) (P Q : Form) (m : Act (List Value)) (d : Act Value) (t n : ℕ) → AllRows w P m t n → All w Q d (t + n)
    → AllRows w (Then P Q) (λ s. from (m s) (λ vs r. from (d r) (λ v. done (vs ++ v ∷ [])))) t (suc n)
unfolding Then
all-more-rows w P Q m d t n h l c x =
    subst (λ z. Rows w (λ s. from (m s) (λ vs r. from (d r) (λ v. done (vs ++ v ∷ [])))) t (suc n) z) (sym x.4)
    (more-rows w m d t n x.0 x.1 (h x.0 x.2) (l x.1 x.3))

-- all code of the form does f with n values from t + 1 on, and leaves the result in value t
abbrev pub FinishesRow : World → Form → (List Value → Act Value) → ℕ → ℕ → Type 0
FinishesRow w P f t n =
    (c : List Instr) → P c → (s : State) (T : Temporaries) → Matches (Into t t T) EndsAlike (f (row_of T (suc t) n) s) (run c (around_of w) (at s T))

pub then-row : (w : World) (P Q : Form) (d : Act (List Value)) (f : List Value → Act Value) (t n : ℕ) → AllRows w P d (suc t) n
    → FinishesRow w Q f t n
    → All w (Then P Q) (λ s. from (d s) f) t
unfolding Then
then-row w P Q d f t n h l c x = record {
  by = λ s T. subst (λ z. Matches (Into t t T) EndsAlike (from (d s) f) (run z (around_of w) (at s T))) (sym x.4)
      (h x.0 x.2 t t T f s T x.1
      (λ U r kept. held-over (value t) (IsBelow t) T U (kept-lower t T U kept) (f (row_of U (suc t) n) r) (run x.1 (around_of w) (at r U))
      (l x.1 x.3 r U)));
}

row-line : (w : World) (i : Instr) (f : List Value → Act Value) (t n k : ℕ)
    → ((c : Local) → act i (around_of w) c ≡ gives_to (value t) (f (row_of c.temps (suc t) k)) c) → FinishesRow w (When (n ≡ k) (Line (i ∷ []))) f t n
unfolding When Line
row-line w i f t n k e c h s T =
    subst (λ z. Matches (Into t t T) EndsAlike (f (row_of T (suc t) n) s) (run z (around_of w) (at s T))) (sym h.1)
    (last-value t (f (row_of T (suc t) n)) i (around_of w) s T T
    (e (at s T) ∙ ap (λ z. gives_to (value t) (f (row_of T (suc t) z)) (at s T)) (sym h.0)) (kept-same (IsBelow t) T))

-- a call of a function
pub calls : (w : World) (P Q : Form) (m : Act Value) (d : Act (List Value)) (t n : ℕ) (ty : TypeId) (place : Place)
    → All w P m t → AllRows w Q d (suc t) n
    → All w (Then P (Then Q (Line (instr.Call (record { into = value t; callee = value t; ty = ty; first = suc t; count = n; place = place }) ∷ []))))
    (λ s. from (m s) (λ v r. from (d r) (λ vs. called_value w.setting w.call w.frame.depth place ty v vs))) t
unfolding Then Line
calls w P Q m d t n ty place h l c x = record {
  by = λ s T. subst (λ z. Matches (Into t t T) EndsAlike (from (m s) (λ v r. from (d r) (F v))) (run z (around_of w) (at s T)))
      (sym (x.4 ∙ ap (λ z. x.0 ++ z) (x.3.4 ∙ ap (λ z. x.3.0 ++ z) x.3.3)))
      (then-code (Into t t T) x.0 (x.3.0 ++ I ∷ []) (around_of w) (value t) (IsBelow t) (m s) (at s T) T (λ v r. from (d r) (F v))
      ((h x.0 x.2).by s T)
      (λ U r kept. l x.3.0 x.3.2 t t T (F (U (value t))) r U (I ∷ [])
      (λ V q more. subst (λ v. Matches (Into t t T) EndsAlike (F v (row_of V (suc t) n) q) (run (I ∷ []) (around_of w) (at q V)))
      (kept-value t U V more)
      (last-value t (F (V (value t)) (row_of V (suc t) n)) I (around_of w) q T V refl (kept-then (IsBelow t) T U V kept (kept-lower t U V more))))));
}
  where
    F : Value → List Value → Act Value
    F = called_value w.setting w.call w.frame.depth place ty

    I : Instr
    I = instr.Call (record { into = value t; callee = value t; ty = ty; first = suc t; count = n; place = place })

-- a call of a runtime function
pub runs : (w : World) (o : Runtime) (t n : ℕ) → FinishesRow w (RunsRuntime o n t) (call_runtime o) t n
unfolding RunsRuntime
runs w function.Getchar t n = row-line w (instr.Runtime (runtime.Getchar (value t))) (call_runtime function.Getchar) t n 0 (λ c. refl)
runs w function.Putchar t n = row-line w (instr.Runtime (runtime.Putchar (value t) (value (suc t)))) (call_runtime function.Putchar) t n 1 (λ c. refl)
runs w function.Free t n = row-line w (instr.Runtime (runtime.Free (value t) (value (suc t)))) (call_runtime function.Free) t n 1 (λ c. refl)
runs w function.Exit t n = row-line w (instr.Runtime (runtime.Exit (value t) (value (suc t)))) (call_runtime function.Exit) t n 1 (λ c. refl)
runs w function.Malloc t n = λ c h. absurd h
runs w function.Calloc t n = λ c h. absurd h

pub allocates : (w : World) (o : Runtime) (t n : ℕ) (node : NodeId) (ty : TypeId) (place : Place)
    → FinishesRow w (Allocates o n t node ty place) (λ vs. allocated w.setting place node ty (call_allocation w.setting node ty o vs)) t n
unfolding Allocates
allocates w function.Malloc t n node ty place =
    row-line w (instr.Allocate (allocate.Malloc (value t) (value (suc t)) node ty place))
    (λ vs. allocated w.setting place node ty (call_allocation w.setting node ty function.Malloc vs)) t n 1 (λ c. refl)
allocates w function.Calloc t n node ty place =
    row-line w (instr.Allocate (allocate.Calloc (value t) (value (suc t)) (value (suc t + 1)) node ty place))
    (λ vs. allocated w.setting place node ty (call_allocation w.setting node ty function.Calloc vs)) t n 2 (λ c. refl)
allocates w function.Free t n node ty place = λ c h. absurd h
allocates w function.Getchar t n node ty place = λ c h. absurd h
allocates w function.Putchar t n node ty place = λ c h. absurd h
allocates w function.Exit t n node ty place = λ c h. absurd h
