-- What code leaves of the temporaries: those that it doesn't write are as they were.
use Rattle.std.proofs.Common.{ℕ, zero, suc, ◌≡◌, refl, ap, ◌∙◌, subst, sym, Bool, true, false, List, [], ◌∷◌, if◌then◌else◌, nat_eq, arith}
use Rattle.std.proofs.lemmas.Bool.Decides.{nat_tests}
use Rattle.runs.specs.Outcome.{Outcome, Ended, Done, done, from, either, ◌>>◌}
use Rattle.runs.specs.Control.{Control, Goes, Leaves, Gives, then_go, out_of, go_round, rounds}
use Rattle.src_mem.specs.Pointers.{Value, is_true}
use Rattle.src_mem.specs.State.{Ending, State, Act, Turns, turn}
use Rattle.cil_form.specs.declared.number.Temp.{Temp}
use Rattle.cil_form.specs.declared.number.Temp.TheVariants as temp
use Rattle.cil_form.specs.declared.number.Work.{Work}
use Rattle.cil_form.specs.declared.number.Work.TheVariants.{First, Second}
use Rattle.cil_form.specs.declared.instr.Access.{Access}
use Rattle.cil_form.specs.declared.instr.Access.TheVariants as access
use Rattle.cil_form.specs.declared.instr.Instr.{Instr, Row_of-Instr, end_of-Instr, more_of-Instr}
use Rattle.cil_form.specs.declared.instr.Instr.TheVariants as instr
use Rattle.cil_form.specs.declared.instr.Instr.TheBlock.{hidden-the_row-Instr-0, items-the_row-Instr, items_hidden-the_row-Instr-0}
use Rattle.cil_form.specs.declared.instr.Code.{Code}
use Rattle.cil_form.specs.State.{Temporaries, Local, Step, Around, beside, on_state, is_same_work, is_same, with_temp, gives_to, changes_none}
use Rattle.src_mem.specs.Values.{loaded, stored, copied, called_value, returned}
use Rattle.cil_form.specs.Meaning.{act, act_row, run, number_of, into_of_set, set_value, into_of_calculate, calculate_value, into_of_point, point_value, into_of_convert, convert_value, target_node, target_value, act_access, into_of_allocate, allocate_value, row_of, into_of_runtime, runtime_value}
use Rattle.cil_form.specs.Laws.{Spares, RowSpares, CodeSpares, AccessSpares, AreKept, Keeps}
use Rattle.src_mem.specs.Primitives.{clear}

-- Whether two temporaries are one

nat_same : (n : ℕ) → nat_eq n n ≡ true
nat_same n = grind (arith, nat_tests)

nat_one : (m n : ℕ) → nat_eq m n ≡ true → m ≡ n
nat_one m n e = grind (arith, nat_tests, e)

not-true : false ≡ true → ⊥
not-true e = absurd (cc (e))

work-one : (v w : Work) → is_same_work v w ≡ true → v ≡ w
work-one First First e = refl
work-one First Second e = absurd (not-true e)
work-one Second First e = absurd (not-true e)
work-one Second Second e = refl

work-same : (w : Work) → is_same_work w w ≡ true
work-same First = refl
work-same Second = refl

pub temp-one : (t u : Temp) → is_same t u ≡ true → t ≡ u
temp-one (temp.Value m) (temp.Value n) e = ap temp.Value (nat_one m n e)
temp-one (temp.Switch m) (temp.Switch n) e = ap temp.Switch (nat_one m n e)
temp-one (temp.Work v) (temp.Work w) e = ap temp.Work (work-one v w e)
temp-one (temp.Value m) (temp.Switch n) e = absurd (not-true e)
temp-one (temp.Value m) (temp.Work w) e = absurd (not-true e)
temp-one (temp.Switch m) (temp.Value n) e = absurd (not-true e)
temp-one (temp.Switch m) (temp.Work w) e = absurd (not-true e)
temp-one (temp.Work v) (temp.Value n) e = absurd (not-true e)
temp-one (temp.Work v) (temp.Switch n) e = absurd (not-true e)

pub temp-same : (t : Temp) → is_same t t ≡ true
temp-same (temp.Value n) = nat_same n
temp-same (temp.Switch n) = nat_same n
temp-same (temp.Work w) = work-same w

other-by : (b : Bool) (P : Temp → Type 0) (t : Temp) (v : Value) (temps : Temporaries) (u : Temp) → is_same u t ≡ b → ¬ P t → P u → (if b then v else temps u) ≡ temps u
other-by true P t v temps u e spares p = absurd (spares (subst P (temp-one u t e) p))
other-by false P t v temps u e spares p = refl

-- another temporary is as it was
pub with_temp-other : (P : Temp → Type 0) (t : Temp) (v : Value) (temps : Temporaries) (u : Temp) → ¬ P t → P u → with_temp t v temps u ≡ temps u
with_temp-other P t v temps u spares p = other-by (is_same u t) P t v temps u refl spares p

-- the temporary that was written holds the value
pub with_temp-same : (t : Temp) (v : Value) (temps : Temporaries) → with_temp t v temps t ≡ v
with_temp-same t v temps = ap (λ b. if b then v else temps t) (temp-same t)

-- What is kept

-- what an outcome keeps of temporaries that were kept themselves
keeps-after : (P : Temp → Type 0) (before middle : Temporaries) (m : Outcome Ending Local (Control Value)) → AreKept P before middle → Keeps P middle m → Keeps P before m
keeps-after P before middle (Ended e c) h k = λ t p. k t p ∙ h t p
keeps-after P before middle (Done x c) h k = λ t p. k t p ∙ h t p

-- code that goes on after code
keeps-from : (P : Temp → Type 0) (before : Temporaries) (m : Outcome Ending Local (Control Value)) (f : Control Value → Step)
    → Keeps P before m → ((x : Control Value) (c : Local) → Keeps P c.temps (f x c)) → Keeps P before (from m f)
keeps-from P before (Ended e c) f h next = h
keeps-from P before (Done x c) f h next = keeps-after P before c.temps (f x c) h (next x c)

-- an instruction that writes one temporary
written : (P : Temp → Type 0) (into : Temp) (temps : Temporaries) (m : Outcome Ending State Value) → ¬ P into
    → Keeps P temps (from (beside temps m) (λ v c. Done Goes (record c { temps = with_temp into v c.temps })))
written P into temps (Ended e s) h = λ t p. refl
written P into temps (Done v s) h = λ t p. with_temp-other P into v temps t h p

keeps-gives : (P : Temp → Type 0) (into : Temp) (m : Act Value) (c : Local) → ¬ P into → Keeps P c.temps (gives_to into m c)
keeps-gives P into m c h = written P into c.temps (m c.state) h

-- an instruction that writes none
unwritten : (P : Temp → Type 0) (temps : Temporaries) (m : Outcome Ending State (Unit {0})) → Keeps P temps (from (beside temps m) (λ _ c. Done Goes c))
unwritten P temps (Ended e s) = λ t p. refl
unwritten P temps (Done v s) = λ t p. refl

keeps-none : (P : Temp → Type 0) (m : Act (Unit {0})) (c : Local) → Keeps P c.temps (changes_none m c)
keeps-none P m c = unwritten P c.temps (m c.state)

besides : (P : Temp → Type 0) (temps : Temporaries) (m : Outcome Ending State (Control Value)) → Keeps P temps (beside temps m)
besides P temps (Ended e s) = λ t p. refl
besides P temps (Done v s) = λ t p. refl

access-keeps : (i : Access) (w : Around) (P : Temp → Type 0) (c : Local) → AccessSpares i P → Keeps P c.temps (act_access i w c)
access-keeps (access.Load into from node t at) w P c h = keeps-gives P into (loaded w.setting at node t (c.temps from)) c h
access-keeps (access.Store to v t at assignment) w P c h = keeps-none P (stored w.setting at assignment (target_node to) t (target_value w to c.temps) (c.temps v)) c
access-keeps (access.Clear o) w P c h = keeps-none P (clear (number_of w o)) c
access-keeps (access.Copy to to_place from node from_place t assignment) w P c h =
    keeps-none P (copied w.setting t from_place node (c.temps from) to_place (target_node to) (target_value w to c.temps) assignment) c

-- Control

keeps-go : (P : Temp → Type 0) (f : Step) (x : Control Value) (c : Local) → ((d : Local) → Keeps P d.temps (f d)) → Keeps P c.temps (then_go x f c)
keeps-go P f Goes c h = h c
keeps-go P f (Leaves k) c h = λ t p. refl
keeps-go P f (Gives v) c h = λ t p. refl

keeps-either : (P : Temp → Type 0) (b : Bool) (f g : Step) (c : Local) → Keeps P c.temps (f c) → Keeps P c.temps (g c) → Keeps P c.temps (either b f g c)
keeps-either P true f g c h k = h
keeps-either P false f g c h k = k

keeps-round : (P : Temp → Type 0) (again : Step) (x : Control Value) (c : Local) → ((d : Local) → Keeps P d.temps (again d)) → Keeps P c.temps (go_round x again c)
keeps-round P again Goes c h = h c
keeps-round P again (Leaves zero) c h = λ t p. refl
keeps-round P again (Leaves (suc k)) c h = λ t p. refl
keeps-round P again (Gives v) c h = λ t p. refl

keeps-rounds : (P : Temp → Type 0) (round : Step) → ((d : Local) → Keeps P d.temps (round d)) → (n : ℕ) (c : Local) → Keeps P c.temps (rounds Turns n round c)
keeps-rounds P round h zero c = λ t p. refl
keeps-rounds P round h (suc n) c =
    keeps-from P c.temps (round c) (λ x. go_round x (rounds Turns n round)) (h c) (λ x d. keeps-round P (rounds Turns n round) x d (keeps-rounds P round h n))

turned : (P : Temp → Type 0) (temps : Temporaries) (body : Step) (m : Outcome Ending State (Unit {0})) → ((d : Local) → Keeps P d.temps (body d)) → Keeps P temps (from (beside temps m) (λ _. body))
turned P temps body (Ended e s) h = λ t p. refl
turned P temps body (Done a s) h = h (record { state = s; temps = temps })

mutual
  act-keeps : (i : Instr) (w : Around) (P : Temp → Type 0) (c : Local) → Spares i P → Keeps P c.temps (act i w c)
  act-keeps (instr.Set i) w P c h = keeps-gives P (into_of_set i) (set_value i w c.temps) c h
  act-keeps (instr.Calculate i) w P c h = keeps-gives P (into_of_calculate i) (calculate_value i w c.temps) c h
  act-keeps (instr.Point i) w P c h = keeps-gives P (into_of_point i) (point_value i w c.temps) c h
  act-keeps (instr.Convert i) w P c h = keeps-gives P (into_of_convert i) (convert_value i w c.temps) c h
  act-keeps (instr.Access i) w P c h = access-keeps i w P c h
  act-keeps (instr.Allocate i) w P c h = keeps-gives P (into_of_allocate i) (allocate_value i w c.temps) c h
  act-keeps (instr.Call i) w P c h =
      keeps-gives P i.into (called_value w.setting w.call w.depth i.place i.ty (c.temps i.callee) (row_of c.temps i.first i.count)) c h
  act-keeps (instr.Runtime i) w P c h = keeps-gives P (into_of_runtime i) (runtime_value i c.temps) c h
  act-keeps (instr.If' t shape code shape' other) w P c h =
      keeps-either P (is_true (c.temps t)) (act_row code w) (act_row other w) c (row-keeps code w P c h.0) (row-keeps other w P c h.1)
  act-keeps (instr.Block' shape code) w P c h =
      keeps-from P c.temps (act_row code w c) (λ x d. Done (out_of x) d) (row-keeps code w P c h) (λ x d t p. refl)
  act-keeps (instr.Loop' shape code) w P c h =
      keeps-rounds P (on_state turn >> act_row code w) (λ d. turned P d.temps (act_row code w) (turn d.state) (λ e. row-keeps code w P e h)) c.state.turns c
  act-keeps (instr.Break k) w P c h = λ t p. refl
  act-keeps instr.Return w P c h = λ t p. refl
  act-keeps (instr.ReturnValue v t at) w P c h = besides P c.temps (from (returned w.setting w.depth at t (c.temps v) c.state) (λ u. done (Gives u)))

  row-keeps : {m : _} (r : Row_of-Instr m) (w : Around) (P : Temp → Type 0) (c : Local) → RowSpares r P → Keeps P c.temps (act_row r w c)
  row-keeps end_of-Instr w P c h = λ t p. refl
  row-keeps (more_of-Instr i r) w P c h =
      keeps-from P c.temps (act i w c) (λ x. then_go x (act_row r w)) (act-keeps i w P c h.0) (λ x d. keeps-go P (act_row r w) x d (λ e. row-keeps r w P e h.1))

-- code that writes none of some temporaries keeps them all
pub run-keeps : (is : List Instr) (w : Around) (P : Temp → Type 0) (c : Local) → CodeSpares is P → Keeps P c.temps (run is w c)
run-keeps [] w P c h = λ t p. refl
run-keeps (i ∷ is) w P c h =
    keeps-from P c.temps (act i w c) (λ x. then_go x (run is w)) (act-keeps i w P c h.0) (λ x d. keeps-go P (run is w) x d (λ e. run-keeps is w P e h.1))

row-spares : {m : _} (r : Row_of-Instr m) (P : Temp → Type 0) → CodeSpares (items-the_row-Instr m r) P → RowSpares r P
row-spares end_of-Instr P h = tt
row-spares (more_of-Instr i r) P h = (h.0, row-spares r P h.1)

-- the code of an instruction spares what its list does
pub held-spares : (x : Code) (P : Temp → Type 0) → CodeSpares x.0.items P → RowSpares (hidden-the_row-Instr-0 x.0) P
held-spares x P h = row-spares (hidden-the_row-Instr-0 x.0) P (subst (λ l. CodeSpares l P) (sym (items_hidden-the_row-Instr-0 x.0)) h)
