-- What every operation on memory leaves true, three-address code leaves true, where the calls that it makes do.
use Rattle.std.proofs.Common.{ℕ, zero, suc, Bool, true, false, List, [], ◌∷◌}
use Rattle.runs.specs.Outcome.{Outcome, Ended, Done, done, from, either, ◌>>◌}
use Rattle.runs.specs.Control.{Control, Goes, Leaves, Gives, then_go, out_of, go_round, rounds}
use Rattle.src_mem.specs.Pointers.{Value, is_true}
use Rattle.src_mem.specs.State.{Ending, State, Act, Turns, turn}
use Rattle.src_mem.specs.Values.{returned}
use Rattle.src_mem.specs.Runtime.{malloc, calloc}
use Rattle.src_mem.specs.Laws.{left_by, Keeps, IsInvariant}
use Rattle.src_mem.proofs.Keeping.{keep_done, keep_malloc, keep_calloc, keep_free, keep_getchar, keep_putchar, keep_exits}
use Rattle.src_mem.proofs.KeepingValues.{keep_calculated, keep_calculated_alone, keep_converted_integer, keep_pointer_from_integer, keep_integer_from_pointer, keep_pointer_value, keep_moved_value, keep_difference_value, keep_compared_value, keep_null_value, keep_member_value, keep_decayed_value, keep_addressed, keep_loaded, keep_stored, keep_copied, keep_allocated, keep_called_value, keep_returned}
use Rattle.cil_form.specs.declared.number.Temp.{Temp}
use Rattle.cil_form.specs.declared.instr.Set.{Set}
use Rattle.cil_form.specs.declared.instr.Set.TheVariants as set
use Rattle.cil_form.specs.declared.instr.Calculate.{Calculate}
use Rattle.cil_form.specs.declared.instr.Calculate.TheVariants as calculate
use Rattle.cil_form.specs.declared.instr.Point.{Point}
use Rattle.cil_form.specs.declared.instr.Point.TheVariants as point
use Rattle.cil_form.specs.declared.instr.Convert.{Convert}
use Rattle.cil_form.specs.declared.instr.Convert.TheVariants as convert
use Rattle.cil_form.specs.declared.instr.Access.{Access}
use Rattle.cil_form.specs.declared.instr.Access.TheVariants as access
use Rattle.cil_form.specs.declared.instr.Allocate.{Allocate}
use Rattle.cil_form.specs.declared.instr.Allocate.TheVariants as allocate
use Rattle.cil_form.specs.declared.instr.RuntimeCall.{RuntimeCall}
use Rattle.cil_form.specs.declared.instr.RuntimeCall.TheVariants as runtime
use Rattle.cil_form.specs.declared.instr.Instr.{Instr, Row_of-Instr, end_of-Instr, more_of-Instr}
use Rattle.cil_form.specs.declared.instr.Instr.TheVariants as instr
use Rattle.cil_form.specs.State.{Temporaries, Local, Step, Around, beside, on_state, with_temp, gives_to, changes_none}
use Rattle.cil_form.specs.Meaning.{act, act_row, run, number_of, into_of_set, set_value, into_of_calculate, calculate_value, into_of_point, point_value, operator_of, operator_of_comparison, is_backward, into_of_convert, convert_value, target_node, target_value, act_access, into_of_allocate, allocate_value, row_of, into_of_runtime, runtime_value}
use Rattle.integers.specs.Arithmetic as integer

-- what is true of the state in which code was left, however it was
abbrev pub StateLeft : (State → Type 0) → Outcome Ending Local (Control Value) → Type 0
StateLeft P (Ended e c) = P c.state
StateLeft P (Done x c) = P c.state

module _ {P : State → Type 0} (I : IsInvariant P) where
  gave : (into : Temp) (m : Act Value) (c : Local) → Keeps P m → P c.state → StateLeft P (gives_to into m c)
  gave into m c keeps h = by (m c.state) (keeps.by c.state h)
    where
      by : (o : Outcome Ending State Value) → P (left_by o)
          → StateLeft P (from (beside c.temps o) (λ v d. Done Goes (record d { temps = with_temp into v d.temps })))
      by (Ended e s) p = p
      by (Done v s) p = p

  changed : (m : Act (Unit {0})) (c : Local) → Keeps P m → P c.state → StateLeft P (changes_none m c)
  changed m c keeps h = by (m c.state) (keeps.by c.state h)
    where
      by : (o : Outcome Ending State (Unit {0})) → P (left_by o) → StateLeft P (from (beside c.temps o) (λ v d. Done Goes d))
      by (Ended e s) p = p
      by (Done v s) p = p

  set-keeps : (i : Set) (w : Around) (temps : Temporaries) → Keeps P (set_value i w temps)
  set-keeps (set.Integer into z t) w temps = keep_done P _
  set-keeps (set.Null into t) w temps = keep_done P _
  set-keeps (set.Function into f t) w temps = keep_done P _
  set-keeps (set.Object into o node t) w temps = keep_done P _
  set-keeps (set.Copy into source) w temps = keep_done P _

  calculate-keeps : (i : Calculate) (w : Around) (temps : Temporaries) → Keeps P (calculate_value i w temps)
  calculate-keeps (calculate.Negate into a t) w temps = keep_calculated_alone I w.setting integer.Negate t (temps a)
  calculate-keeps (calculate.Complement into a t) w temps = keep_calculated_alone I w.setting integer.Complement t (temps a)
  calculate-keeps (calculate.Binary into o a b t at) w temps = keep_calculated I w.setting at (operator_of o) t (temps a) (temps b)
  calculate-keeps (calculate.Truth into a) w temps = keep_done P _
  calculate-keeps (calculate.Not into a) w temps = keep_done P _

  point-keeps : (i : Point) (w : Around) (temps : Temporaries) → Keeps P (point_value i w temps)
  point-keeps (point.Move into p n way t at) w temps = keep_moved_value I w.setting at (is_backward way) t (temps p) (temps n)
  point-keeps (point.Difference into a t b s at) w temps = keep_difference_value I w.setting at t s (temps a) (temps b)
  point-keeps (point.Compare into o a t b s at) w temps = keep_compared_value I w.setting at (operator_of_comparison o) t s (temps a) (temps b)
  point-keeps (point.IsNull into p t different) w temps = keep_null_value I different (temps p)
  point-keeps (point.Member into source outer t i inner u at) w temps = keep_member_value I w.setting at outer t i inner u (temps source)
  point-keeps (point.Decay into source outer array check inner element at) w temps =
      keep_decayed_value I w.setting at outer array check inner element (temps source)
  point-keeps (point.Address into source outer inner t) w temps = keep_addressed I w.setting inner t (temps source)

  convert-keeps : (i : Convert) (w : Around) (temps : Temporaries) → Keeps P (convert_value i w temps)
  convert-keeps (convert.Integer into source t) w temps = keep_converted_integer I w.setting t (temps source)
  convert-keeps (convert.ToPointer into source t at) w temps = keep_pointer_from_integer I (temps source)
  convert-keeps (convert.FromPointer into source t u) w temps = keep_integer_from_pointer I w.setting t u (temps source)
  convert-keeps (convert.Pointer into source t u at) w temps = keep_pointer_value I w.setting at t u (temps source)

  allocate-keeps : (i : Allocate) (w : Around) (temps : Temporaries) → Keeps P (allocate_value i w temps)
  allocate-keeps (allocate.Malloc into n node t at) w temps =
      keep_allocated I w.setting at node t (malloc w.setting node t (temps n ∷ [])) (keep_malloc I w.setting node t (temps n ∷ []))
  allocate-keeps (allocate.Calloc into m n node t at) w temps =
      keep_allocated I w.setting at node t (calloc w.setting node t (temps m ∷ temps n ∷ [])) (keep_calloc I w.setting node t (temps m ∷ temps n ∷ []))

  runtime-keeps : (i : RuntimeCall) (temps : Temporaries) → Keeps P (runtime_value i temps)
  runtime-keeps (runtime.Free into p) temps = keep_free I (temps p ∷ [])
  runtime-keeps (runtime.Getchar into) temps = keep_getchar I []
  runtime-keeps (runtime.Putchar into v) temps = keep_putchar I (temps v ∷ [])
  runtime-keeps (runtime.Exit into v) temps = keep_exits I (temps v ∷ [])

  access-left : (i : Access) (w : Around) (c : Local) → P c.state → StateLeft P (act_access i w c)
  access-left (access.Load into source node t at) w c h = gave into _ c (keep_loaded I w.setting at node t (c.temps source)) h
  access-left (access.Store to v t at assignment) w c h =
      changed _ c (keep_stored I w.setting at assignment (target_node to) t (target_value w to c.temps) (c.temps v)) h
  access-left (access.Clear o) w c h = changed _ c (I.cleared (number_of w o)) h
  access-left (access.Copy to to_place source node from_place t assignment) w c h =
      changed _ c (keep_copied I w.setting t from_place node (c.temps source) to_place (target_node to) (target_value w to c.temps) assignment) h

  -- Control

  left-from : (m : Outcome Ending Local (Control Value)) (f : Control Value → Step) → StateLeft P m
      → ((x : Control Value) (d : Local) → P d.state → StateLeft P (f x d)) → StateLeft P (from m f)
  left-from (Ended e c) f h next = h
  left-from (Done x c) f h next = next x c h

  left-go : (next : Step) (x : Control Value) (d : Local) → ((e : Local) → P e.state → StateLeft P (next e)) → P d.state → StateLeft P (then_go x next d)
  left-go next Goes d h p = h d p
  left-go next (Leaves k) d h p = p
  left-go next (Gives v) d h p = p

  left-either : (b : Bool) (f g : Step) (c : Local) → StateLeft P (f c) → StateLeft P (g c) → StateLeft P (either b f g c)
  left-either true f g c h k = h
  left-either false f g c h k = k

  left-round : (again : Step) (x : Control Value) (d : Local) → ((e : Local) → P e.state → StateLeft P (again e)) → P d.state
      → StateLeft P (go_round x again d)
  left-round again Goes d h p = h d p
  left-round again (Leaves zero) d h p = p
  left-round again (Leaves (suc k)) d h p = p
  left-round again (Gives v) d h p = p

  left-rounds : (round : Step) → ((d : Local) → P d.state → StateLeft P (round d)) → (n : ℕ) (d : Local) → P d.state
      → StateLeft P (rounds Turns n round d)
  left-rounds round h zero d p = p
  left-rounds round h (suc n) d p =
      left-from (round d) (λ x. go_round x (rounds Turns n round)) (h d p)
      (λ x e q. left-round (rounds Turns n round) x e (left-rounds round h n) q)

  turned : (body : Step) (d : Local) → ((e : Local) → P e.state → StateLeft P (body e)) → P d.state → StateLeft P ((on_state turn >> body) d)
  turned body d h p = by (turn d.state) (I.turned.by d.state p)
    where
      by : (o : Outcome Ending State (Unit {0})) → P (left_by o) → StateLeft P (from (beside d.temps o) (λ x. body))
      by (Ended e s) q = q
      by (Done x s) q = h (record { state = s; temps = d.temps }) q

  given : (temps : Temporaries) (o : Outcome Ending State Value) → P (left_by o)
      → StateLeft P (beside temps (from o (λ u. done (Gives u))))
  given temps (Ended e s) p = p
  given temps (Done v s) p = p

  module _ (w : Around) (calls : (f depth : ℕ) (vs : List Value) → Keeps P (w.call f depth vs)) where
    mutual
      pub act-left : (i : Instr) (c : Local) → P c.state → StateLeft P (act i w c)
      act-left (instr.Set i) c h = gave (into_of_set i) _ c (set-keeps i w c.temps) h
      act-left (instr.Calculate i) c h = gave (into_of_calculate i) _ c (calculate-keeps i w c.temps) h
      act-left (instr.Point i) c h = gave (into_of_point i) _ c (point-keeps i w c.temps) h
      act-left (instr.Convert i) c h = gave (into_of_convert i) _ c (convert-keeps i w c.temps) h
      act-left (instr.Access i) c h = access-left i w c h
      act-left (instr.Allocate i) c h = gave (into_of_allocate i) _ c (allocate-keeps i w c.temps) h
      act-left (instr.Call i) c h =
          gave i.into _ c (keep_called_value I w.setting w.call calls w.depth i.place i.ty (c.temps i.callee) (row_of c.temps i.first i.count)) h
      act-left (instr.Runtime i) c h = gave (into_of_runtime i) _ c (runtime-keeps i c.temps) h
      act-left (instr.If' t shape code shape' other) c h =
          left-either (is_true (c.temps t)) (act_row code w) (act_row other w) c (row-left code c h) (row-left other c h)
      act-left (instr.Block' shape code) c h =
          left-from (act_row code w c) (λ x d. Done (out_of x) d) (row-left code c h) (λ x d p. p)
      act-left (instr.Loop' shape code) c h =
          left-rounds (on_state turn >> act_row code w) (λ d p. turned (act_row code w) d (λ e q. row-left code e q) p) c.state.turns c h
      act-left (instr.Break k) c h = h
      act-left instr.Return c h = h
      act-left (instr.ReturnValue v t at) c h =
          given c.temps (returned w.setting w.depth at t (c.temps v) c.state) ((keep_returned I w.setting w.depth at t (c.temps v)).by c.state h)

      pub row-left : {m : _} (r : Row_of-Instr m) (c : Local) → P c.state → StateLeft P (act_row r w c)
      row-left end_of-Instr c h = h
      row-left (more_of-Instr i r) c h =
          left-from (act i w c) (λ x. then_go x (act_row r w)) (act-left i c h) (λ x d p. left-go (act_row r w) x d (λ e q. row-left r e q) p)

    pub run-left : (is : List Instr) (c : Local) → P c.state → StateLeft P (run is w c)
    run-left [] c h = h
    run-left (i ∷ is) c h =
        left-from (act i w c) (λ x. then_go x (run is w)) (act-left i c h) (λ x d p. left-go (run is w) x d (λ e q. run-left is e q) p)
