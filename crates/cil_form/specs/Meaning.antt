-- What three-address code does. An instruction takes its operands from the temporaries, does one operation of the source's memory with
-- the conditions that come before it, and leaves its result in a temporary.
use Rattle.std.specs.Prelude.{ℕ, ◌+◌, pos, Bool, true, false, not, List, [], ◌∷◌, map}
use Rattle.std.specs.List.{range_with_len}
use Rattle.cc_base.specs.declared.number.NodeId.{NodeId}
use Rattle.cc_base.specs.declared.number.TypeId.{TypeId}
use Rattle.integers.specs.Arithmetic as integer
use Rattle.integers.specs.Arithmetic.{truth}
use Rattle.runs.specs.Outcome.{done, either, ◌>>=◌, ◌>>◌}
use Rattle.runs.specs.Control.{Goes, Leaves, Gives, then_go, block, rounds}
use Rattle.src_mem.specs.Pointers.{Pointer, Null, Function, Value, Integer, Address, is_true}
use Rattle.src_mem.specs.State.{Act, Turns, turn}
use Rattle.src_mem.specs.Primitives.{clear}
use Rattle.src_mem.specs.Runtime.{malloc, calloc, free, getchar, putchar, exits}
use Rattle.src_mem.specs.Uses.{home, forward}
use Rattle.src_mem.specs.Values.{calculated, calculated_alone, converted_integer, pointer_from_integer, integer_from_pointer, pointer_value, moved_value, difference_value, compared_value, null_value, member_value, decayed_value, addressed, loaded, stored, copied, allocated, called_value, returned}
use Rattle.cil_form.specs.declared.number.Temp.{Temp}
use Rattle.cil_form.specs.declared.number.Temp.TheVariants as temp
use Rattle.cil_form.specs.declared.number.Object.{Object}
use Rattle.cil_form.specs.declared.number.Object.TheVariants as object
use Rattle.cil_form.specs.declared.instr.Comparison.{Comparison}
use Rattle.cil_form.specs.declared.instr.Comparison.TheVariants as comparison
use Rattle.cil_form.specs.declared.instr.Operator.{Operator}
use Rattle.cil_form.specs.declared.instr.Operator.TheVariants as operator
use Rattle.cil_form.specs.declared.instr.Direction.{Direction}
use Rattle.cil_form.specs.declared.instr.Direction.TheVariants as direction
use Rattle.cil_form.specs.declared.instr.Set.{Set}
use Rattle.cil_form.specs.declared.instr.Set.TheVariants as set
use Rattle.cil_form.specs.declared.instr.Calculate.{Calculate}
use Rattle.cil_form.specs.declared.instr.Calculate.TheVariants as calculate
use Rattle.cil_form.specs.declared.instr.Point.{Point}
use Rattle.cil_form.specs.declared.instr.Point.TheVariants as point
use Rattle.cil_form.specs.declared.instr.Convert.{Convert}
use Rattle.cil_form.specs.declared.instr.Convert.TheVariants as convert
use Rattle.cil_form.specs.declared.instr.Target.{Target}
use Rattle.cil_form.specs.declared.instr.Target.TheVariants as target
use Rattle.cil_form.specs.declared.instr.Access.{Access}
use Rattle.cil_form.specs.declared.instr.Access.TheVariants as access
use Rattle.cil_form.specs.declared.instr.Allocate.{Allocate}
use Rattle.cil_form.specs.declared.instr.Allocate.TheVariants as allocate
use Rattle.cil_form.specs.declared.instr.RuntimeCall.{RuntimeCall}
use Rattle.cil_form.specs.declared.instr.RuntimeCall.TheVariants as runtime
use Rattle.cil_form.specs.declared.instr.Instr.{Instr, Row_of-Instr, end_of-Instr, more_of-Instr}
use Rattle.cil_form.specs.declared.instr.Instr.TheVariants as instr
use Rattle.cil_form.specs.State.{Temporaries, Step, Around, on_state, gives_to, changes_none}

-- Constants and copies

-- the number of an object among the objects of the memory
abbrev pub number_of : Around → Object → ℕ
number_of w (object.Static k) = k.0
number_of w (object.Variable k) = w.first + k.0

-- the pointer to a whole object of this type
abbrev pub pointer_to : Around → Object → TypeId → Pointer
pointer_to w o t = home w.setting.table (number_of w o) t

-- where an instruction leaves its value, and which it is
abbrev pub into_of_set : Set → Temp
into_of_set (set.Integer into z t) = into
into_of_set (set.Null into t) = into
into_of_set (set.Function into f t) = into
into_of_set (set.Object into o node t) = into
into_of_set (set.Copy into from) = into

abbrev pub set_value : Set → Around → Temporaries → Act Value
set_value (set.Integer into z t) w temps = done (Integer z)
set_value (set.Null into t) w temps = done (Address Null)
set_value (set.Function into f t) w temps = done (Address (Function f.0))
set_value (set.Object into o node t) w temps = done (Address (pointer_to w o t))
set_value (set.Copy into from) w temps = done (temps from)

-- Integers

abbrev pub operator_of_comparison : Comparison → integer.Operator
operator_of_comparison comparison.Equal = integer.Equal
operator_of_comparison comparison.Different = integer.Different
operator_of_comparison comparison.Less = integer.Less
operator_of_comparison comparison.LessOrEqual = integer.LessOrEqual
operator_of_comparison comparison.Greater = integer.Greater
operator_of_comparison comparison.GreaterOrEqual = integer.GreaterOrEqual

abbrev pub operator_of : Operator → integer.Operator
operator_of operator.Add = integer.Add
operator_of operator.Subtract = integer.Subtract
operator_of operator.Multiply = integer.Multiply
operator_of operator.Divide = integer.Divide
operator_of operator.Remainder = integer.Remainder
operator_of operator.And = integer.And
operator_of operator.Or = integer.Or
operator_of operator.ExclusiveOr = integer.ExclusiveOr
operator_of operator.ShiftLeft = integer.ShiftLeft
operator_of operator.ShiftRight = integer.ShiftRight
operator_of (operator.Compare c) = operator_of_comparison c

abbrev pub into_of_calculate : Calculate → Temp
into_of_calculate (calculate.Negate into a t) = into
into_of_calculate (calculate.Complement into a t) = into
into_of_calculate (calculate.Binary into operator a b t at) = into
into_of_calculate (calculate.Truth into a) = into
into_of_calculate (calculate.Not into a) = into

abbrev pub calculate_value : Calculate → Around → Temporaries → Act Value
calculate_value (calculate.Negate into a t) w temps = calculated_alone w.setting integer.Negate t (temps a)
calculate_value (calculate.Complement into a t) w temps = calculated_alone w.setting integer.Complement t (temps a)
calculate_value (calculate.Binary into operator a b t at) w temps = calculated w.setting at (operator_of operator) t (temps a) (temps b)
calculate_value (calculate.Truth into a) w temps = done (Integer (truth (is_true (temps a))))
calculate_value (calculate.Not into a) w temps = done (Integer (truth (not (is_true (temps a)))))

-- Pointers

abbrev pub is_backward : Direction → Bool
is_backward direction.Forward = false
is_backward direction.Backward = true

abbrev pub into_of_point : Point → Temp
into_of_point (point.Move into p n way t at) = into
into_of_point (point.Difference into a t b s at) = into
into_of_point (point.Compare into comparison a t b s at) = into
into_of_point (point.IsNull into p t different) = into
into_of_point (point.Member into from outer t i inner u at) = into
into_of_point (point.Decay into from outer array check inner element at) = into
into_of_point (point.Address into from outer inner t) = into

abbrev pub point_value : Point → Around → Temporaries → Act Value
point_value (point.Move into p n way t at) w temps = moved_value w.setting at (is_backward way) t (temps p) (temps n)
point_value (point.Difference into a t b s at) w temps = difference_value w.setting at t s (temps a) (temps b)
point_value (point.Compare into comparison a t b s at) w temps = compared_value w.setting at (operator_of_comparison comparison) t s (temps a) (temps b)
point_value (point.IsNull into p t different) w temps = null_value different (temps p)
point_value (point.Member into from outer t i inner u at) w temps = member_value w.setting at outer t i inner u (temps from)
point_value (point.Decay into from outer array check inner element at) w temps = decayed_value w.setting at outer array check inner element (temps from)
point_value (point.Address into from outer inner t) w temps = addressed w.setting inner t (temps from)

-- Conversions

abbrev pub into_of_convert : Convert → Temp
into_of_convert (convert.Integer into from t) = into
into_of_convert (convert.ToPointer into from t at) = into
into_of_convert (convert.FromPointer into from t u) = into
into_of_convert (convert.Pointer into from t u at) = into

abbrev pub convert_value : Convert → Around → Temporaries → Act Value
convert_value (convert.Integer into from t) w temps = converted_integer w.setting t (temps from)
convert_value (convert.ToPointer into from t at) w temps = pointer_from_integer (temps from)
convert_value (convert.FromPointer into from t u) w temps = integer_from_pointer w.setting t u (temps from)
convert_value (convert.Pointer into from t u at) w temps = pointer_value w.setting at t u (temps from)

-- Loads, stores and copies

-- the node of the address that a store or a copy goes to, and the address
abbrev pub target_node : Target → NodeId
target_node (target.Pointer p node) = node
target_node (target.Part o node t offset) = node

abbrev pub target_value : Around → Target → Temporaries → Value
target_value w (target.Pointer p node) temps = temps p
target_value w (target.Part o node t offset) temps = Address (forward offset (pointer_to w o t))

abbrev pub act_access : Access → Around → Step
act_access (access.Load into from node t at) w = λ c. gives_to into (loaded w.setting at node t (c.temps from)) c
act_access (access.Store to v t at assignment) w =
    λ c. changes_none (stored w.setting at assignment (target_node to) t (target_value w to c.temps) (c.temps v)) c
act_access (access.Clear o) w = λ c. changes_none (clear (number_of w o)) c
act_access (access.Copy to to_place from node from_place t assignment) w =
    λ c. changes_none (copied w.setting t from_place node (c.temps from) to_place (target_node to) (target_value w to c.temps) assignment) c

-- Blocks and calls

abbrev pub into_of_allocate : Allocate → Temp
into_of_allocate (allocate.Malloc into n node t at) = into
into_of_allocate (allocate.Calloc into m n node t at) = into

abbrev pub allocate_value : Allocate → Around → Temporaries → Act Value
allocate_value (allocate.Malloc into n node t at) w temps = allocated w.setting at node t (malloc w.setting node t (temps n ∷ []))
allocate_value (allocate.Calloc into m n node t at) w temps = allocated w.setting at node t (calloc w.setting node t (temps m ∷ temps n ∷ []))

-- so many values, from number `first` on
abbrev pub row_of : Temporaries → ℕ → ℕ → List Value
row_of temps first count = map (λ n. temps (temp.Value n)) (range_with_len first count)

abbrev pub into_of_runtime : RuntimeCall → Temp
into_of_runtime (runtime.Free into p) = into
into_of_runtime (runtime.Getchar into) = into
into_of_runtime (runtime.Putchar into v) = into
into_of_runtime (runtime.Exit into v) = into

abbrev pub runtime_value : RuntimeCall → Temporaries → Act Value
runtime_value (runtime.Free into p) temps = free (temps p ∷ [])
runtime_value (runtime.Getchar into) temps = getchar []
runtime_value (runtime.Putchar into v) temps = putchar (temps v ∷ [])
runtime_value (runtime.Exit into v) temps = exits (temps v ∷ [])

-- Control

-- a round of a loop takes its turn first
abbrev pub round_of : Step → Step
round_of body = on_state turn >> body

abbrev pub loop : Step → Step
loop body c = rounds Turns c.state.turns (round_of body) c

abbrev mutual
  pub act : Instr → Around → Step
  act (instr.Set i) w = λ c. gives_to (into_of_set i) (set_value i w c.temps) c
  act (instr.Calculate i) w = λ c. gives_to (into_of_calculate i) (calculate_value i w c.temps) c
  act (instr.Point i) w = λ c. gives_to (into_of_point i) (point_value i w c.temps) c
  act (instr.Convert i) w = λ c. gives_to (into_of_convert i) (convert_value i w c.temps) c
  act (instr.Access i) w = act_access i w
  act (instr.Allocate i) w = λ c. gives_to (into_of_allocate i) (allocate_value i w c.temps) c
  act (instr.Call i) w =
      λ c. gives_to i.into (called_value w.setting w.call w.depth i.place i.ty (c.temps i.callee) (row_of c.temps i.first i.count)) c
  act (instr.Runtime i) w = λ c. gives_to (into_of_runtime i) (runtime_value i c.temps) c
  act (instr.If' t shape code shape' other) w = λ c. either (is_true (c.temps t)) (act_row code w) (act_row other w) c
  act (instr.Block' shape code) w = block (act_row code w)
  act (instr.Loop' shape code) w = loop (act_row code w)
  act (instr.Break k) w = done (Leaves k)
  act instr.Return w = done (Gives (Integer (pos 0)))
  act (instr.ReturnValue v t at) w = λ c. on_state (returned w.setting w.depth at t (c.temps v) >>= (λ u. done (Gives u))) c

  -- instructions in order, as an instruction holds them
  pub act_row : {m : _} → Row_of-Instr m → Around → Step
  act_row end_of-Instr w = done Goes
  act_row (more_of-Instr i rest) w = act i w >>= (λ x. then_go x (act_row rest w))

-- instructions in order
abbrev pub run : List Instr → Around → Step
run [] w = done Goes
run (i ∷ is) w = act i w >>= (λ x. then_go x (run is w))
