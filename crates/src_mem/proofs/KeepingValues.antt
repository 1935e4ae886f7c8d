-- What every operation on memory leaves true, the operations on values leave true.
use Rattle.std.proofs.Common.{ℕ, Bool, List}
use Rattle.cc_base.specs.declared.place.Place.{Place}
use Rattle.cc_base.specs.declared.number.TypeId.{TypeId}
use Rattle.cc_base.specs.declared.number.NodeId.{NodeId}
use Rattle.integers.specs.Arithmetic.{Operator, UnaryOperator}
use Rattle.src_mem.specs.Pointers.{Value, Integer, Address}
use Rattle.src_mem.specs.State.{State, Act, Setting}
use Rattle.src_mem.specs.Checks.{conditions_of_allocation}
use Rattle.src_mem.specs.Operations.{size}
use Rattle.src_mem.specs.Runs.{Calls}
use Rattle.src_mem.specs.Values.{calculated, calculated_alone, converted_integer, pointer_from_integer, integer_from_pointer, pointer_value, moved_value, difference_value, compared_value, null_value, member_value, decayed_value, addressed, loaded, stored, copied, allocated, called_value, returned}
use Rattle.src_mem.specs.Laws.{Keeps, IsInvariant}
use Rattle.src_mem.proofs.Keeping.{acts, keep_done, keep_bind, keep_then, keep_all, keep_pointer, keep_address, keep_integer_from, keep_called, keep_read, keep_write, keep_copy, keep_calculate, keep_moved, keep_subtracted, keep_compared, keep_converted, keep_member, keep_decayed}

module _ {P : State → Type 0} (I : IsInvariant P) where
  pub keep_calculated : (w : Setting) (at : Place) (operator : Operator) (t : TypeId) (v u : Value) → Keeps P (calculated w at operator t v u)
  keep_calculated w at operator t v u = search (acts, keep_calculate I)

  pub keep_calculated_alone : (w : Setting) (operator : UnaryOperator) (t : TypeId) (v : Value) → Keeps P (calculated_alone w operator t v)
  keep_calculated_alone w operator t v = search (acts)

  pub keep_converted_integer : (w : Setting) (t : TypeId) (v : Value) → Keeps P (converted_integer w t v)
  keep_converted_integer w t v = search (acts)

  pub keep_pointer_from_integer : (v : Value) → Keeps P (pointer_from_integer v)
  keep_pointer_from_integer v = search (acts)

  pub keep_integer_from_pointer : (w : Setting) (t u : TypeId) (v : Value) → Keeps P (integer_from_pointer w t u v)
  keep_integer_from_pointer w t u v = search (acts, keep_integer_from I)

  pub keep_pointer_value : (w : Setting) (at : Place) (t u : TypeId) (v : Value) → Keeps P (pointer_value w at t u v)
  keep_pointer_value w at t u v = search (acts, keep_converted I)

  pub keep_moved_value : (w : Setting) (at : Place) (backwards : Bool) (t : TypeId) (v u : Value) → Keeps P (moved_value w at backwards t v u)
  keep_moved_value w at backwards t v u = search (acts, keep_moved I)

  pub keep_difference_value : (w : Setting) (at : Place) (t s : TypeId) (v u : Value) → Keeps P (difference_value w at t s v u)
  keep_difference_value w at t s v u = search (acts, keep_subtracted I)

  pub keep_compared_value : (w : Setting) (at : Place) (operator : Operator) (t s : TypeId) (v u : Value)
      → Keeps P (compared_value w at operator t s v u)
  keep_compared_value w at operator t s v u = search (acts, keep_compared I)

  pub keep_null_value : (different : Bool) (v : Value) → Keeps P (null_value different v)
  keep_null_value different v = search (acts)

  pub keep_member_value : (w : Setting) (at : Place) (outer : NodeId) (t : TypeId) (i : ℕ) (inner : NodeId) (u : TypeId) (v : Value)
      → Keeps P (member_value w at outer t i inner u v)
  keep_member_value w at outer t i inner u v = search (acts, keep_member I)

  pub keep_decayed_value : (w : Setting) (at : Place) (outer : NodeId) (array : TypeId) (check : Bool) (inner : NodeId) (element : TypeId) (v : Value)
      → Keeps P (decayed_value w at outer array check inner element v)
  keep_decayed_value w at outer array check inner element v = search (acts, keep_decayed I)

  pub keep_addressed : (w : Setting) (inner : NodeId) (t : TypeId) (v : Value) → Keeps P (addressed w inner t v)
  keep_addressed w inner t v = search (acts, keep_address I)

  pub keep_loaded : (w : Setting) (at : Place) (node : NodeId) (t : TypeId) (v : Value) → Keeps P (loaded w at node t v)
  keep_loaded w at node t v = search (acts, keep_read I)

  pub keep_stored : (w : Setting) (own assignment : Place) (node : NodeId) (t : TypeId) (a v : Value) → Keeps P (stored w own assignment node t a v)
  keep_stored w own assignment node t a v = search (acts, keep_write I)

  pub keep_copied : (w : Setting) (t : TypeId) (from_place : Place) (from : NodeId) (v : Value) (to_place : Place) (to : NodeId) (a : Value)
      (assignment : Place)
      → Keeps P (copied w t from_place from v to_place to a assignment)
  keep_copied w t from_place from v to_place to a assignment = search (acts, keep_copy I)

  pub keep_allocated : (w : Setting) (at : Place) (node : NodeId) (t : TypeId) (block : Act Value) → Keeps P block
      → Keeps P (allocated w at node t block)
  keep_allocated w at node t block kb =
      keep_bind kb (λ v. keep_bind (keep_pointer P v) (λ p. keep_then (keep_all P w at (conditions_of_allocation (w.kind node) (size w t) p)) (keep_done P v)))

  pub keep_called_value : (w : Setting) (call : Calls) → ((f depth : ℕ) (vs : List Value) → Keeps P (call f depth vs))
      → (depth : ℕ) (at : Place) (t : TypeId) (v : Value) (vs : List Value) → Keeps P (called_value w call depth at t v vs)
  keep_called_value w call kc depth at t v vs = search (acts, keep_called I, kc)

  pub keep_returned : (w : Setting) (depth : ℕ) (at : Place) (t : TypeId) (v : Value) → Keeps P (returned w depth at t v)
  keep_returned w depth at t (Integer z) = keep_done P _
  keep_returned w depth at t (Address p) = search (acts)
