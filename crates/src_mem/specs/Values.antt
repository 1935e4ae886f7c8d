-- Operations on values. Each tests its operands as it uses them, from left to right: an operand that is no pointer, or no integer,
-- where one is wanted is wrong. The source's meaning and that of three-address code are both made of these.
use Rattle.std.specs.Prelude.{ℕ, suc, Bool, true, false, not, List}
use Rattle.cc_base.specs.declared.place.Place.{Place}
use Rattle.cc_base.specs.declared.number.NodeId.{NodeId}
use Rattle.cc_base.specs.declared.number.TypeId.{TypeId}
use Rattle.integers.specs.Arithmetic.{Operator, UnaryOperator, computed_alone, converted, truth}
use Rattle.runs.specs.Outcome.{done, ◌>>=◌, ◌>>◌}
use Rattle.src_mem.specs.Pointers.{Pointer, Value, Integer, Address, is_null}
use Rattle.src_mem.specs.State.{Act, Setting, as_integer, as_pointer}
use Rattle.src_mem.specs.Checks.{Call, Return, conditions_of, all_checked}
use Rattle.src_mem.specs.Primitives.{address, called, pointer_from, integer_from}
use Rattle.src_mem.specs.Uses.{read, write, copy_all}
use Rattle.src_mem.specs.Operations.{kind_in, pointee, size, integer_in, calculate, amount, moved, subtracted, compared, converted_pointer, allocated_for, member, decayed}
use Rattle.src_mem.specs.Runs.{Calls}

-- Integers

-- an operator of two operands, in the type t
abbrev pub calculated : Setting → Place → Operator → TypeId → Value → Value → Act Value
calculated w at operator t v u = do
  x ← as_integer v
  y ← as_integer u
  z ← calculate w at operator (integer_in w t) x y
  done (Integer z)

-- an operator of one operand, in the type t
abbrev pub calculated_alone : Setting → UnaryOperator → TypeId → Value → Act Value
calculated_alone w operator t v = do
  x ← as_integer v
  done (Integer (computed_alone operator (integer_in w t) x))

-- Conversions (C99 6.3)

-- an integer converted to the integer type t
abbrev pub converted_integer : Setting → TypeId → Value → Act Value
converted_integer w t v = do
  z ← as_integer v
  done (Integer (converted (integer_in w t) z))

-- an integer converted to a pointer
abbrev pub pointer_from_integer : Value → Act Value
pointer_from_integer v = do
  z ← as_integer v
  p ← pointer_from z
  done (Address p)

-- a pointer of type t converted to the integer type u
abbrev pub integer_from_pointer : Setting → TypeId → TypeId → Value → Act Value
integer_from_pointer w t u v = do
  p ← as_pointer v
  z ← integer_from p
  done (Integer (converted (integer_in w u) z))

-- the address that an operation makes of a pointer
abbrev pub address_from : Value → (Pointer → Act Pointer) → Act Value
address_from v make = do
  p ← as_pointer v
  q ← make p
  done (Address q)

-- a pointer of type t converted to the pointer type u
abbrev pub pointer_value : Setting → Place → TypeId → TypeId → Value → Act Value
pointer_value w at t u v = address_from v (converted_pointer w at t u)

-- Pointers

-- a pointer of type t plus an integer, or minus it (C99 6.5.6)
abbrev pub moved_value : Setting → Place → Bool → TypeId → Value → Value → Act Value
moved_value w at backwards t v u = do
  p ← as_pointer v
  n ← as_integer u
  q ← moved w at t (amount backwards n) p
  done (Address q)

-- the difference of two pointers, of the types t and s (C99 6.5.6)
abbrev pub difference_value : Setting → Place → TypeId → TypeId → Value → Value → Act Value
difference_value w at t s v u = do
  p ← as_pointer v
  q ← as_pointer u
  n ← subtracted w at t p (record { kind = kind_in w s; pointer = q })
  done (Integer n)

-- two pointers, of the types t and s, neither of which is a null constant, are compared (C99 6.5.8, 6.5.9)
abbrev pub compared_value : Setting → Place → Operator → TypeId → TypeId → Value → Value → Act Value
compared_value w at operator t s v u = do
  p ← as_pointer v
  q ← as_pointer u
  b ← compared w at operator (record { kind = kind_in w t; pointer = p }) (record { kind = kind_in w s; pointer = q })
  done (Integer (truth b))

abbrev pub negated_where : Bool → Bool → Bool
negated_where true b = not b
negated_where false b = b

-- A comparison of a pointer with a null constant, by whether it is `!=` (C99 6.5.9). It asks nothing of the pointer.
abbrev pub null_value : Bool → Value → Act Value
null_value different v = do
  p ← as_pointer v
  done (Integer (truth (negated_where different (is_null p))))

-- Addresses of parts. `outer` is the node of the address that is there, `inner` that of the one that is made.

-- the address of member number i, of type u, of a struct or union of type t (C99 6.5.2.3)
abbrev pub member_value : Setting → Place → NodeId → TypeId → ℕ → NodeId → TypeId → Value → Act Value
member_value w at outer t i inner u v = address_from v (member w at (w.kind outer) t i inner u)

-- the address of an array's first element (C99 6.3.2.1); whether the array's own address is checked before
abbrev pub decayed_value : Setting → Place → NodeId → TypeId → Bool → NodeId → TypeId → Value → Act Value
decayed_value w at outer array check inner element v = address_from v (decayed w at (w.kind outer) array check inner element)

-- `&` of what stands at an address, of type t (C99 6.5.3.2)
abbrev pub addressed : Setting → NodeId → TypeId → Value → Act Value
addressed w inner t v = address_from v (address (w.kind inner) 0 (size w t) t)

-- Memory

-- the scalar of type t at an address of the node
abbrev pub loaded : Setting → Place → NodeId → TypeId → Value → Act Value
loaded w at node t v = do
  p ← as_pointer v
  read w at (w.kind node) t p

-- a scalar of type t is written to an address of the node, by an assignment at the second place to what stands at the first
abbrev pub stored : Setting → Place → Place → NodeId → TypeId → Value → Value → Act (Unit {0})
stored w own assignment node t a v = do
  p ← as_pointer a
  write w own assignment (w.kind node) t p v

-- a struct or union of type t is copied from an address of the node `from` to one of the node `to`, with the places of the two sides
abbrev pub copied : Setting → TypeId → Place → NodeId → Value → Place → NodeId → Value → Place → Act (Unit {0})
copied w t from_place from v to_place to a assignment = do
  q ← as_pointer a
  p ← as_pointer v
  copy_all w t from_place (w.kind from) p to_place (w.kind to) q assignment

-- what an allocation makes for a pointer of the node to t
abbrev pub allocated : Setting → Place → NodeId → TypeId → Act Value → Act Value
allocated w at node t block = do
  v ← block
  p ← as_pointer v
  allocated_for w at node t p
  done v

-- Calls

-- a call through a pointer of the type t, from a call of this depth
abbrev pub called_value : Setting → Calls → ℕ → Place → TypeId → Value → List Value → Act Value
called_value w call depth at t v arguments = do
  p ← as_pointer v
  all_checked w at (conditions_of (Call (pointee w t) (suc depth)) (kind_in w t) p)
  called p (λ f. call f (suc depth) arguments)

-- a value of type t that a call of this depth returns; what a pointer points to has to outlive the call
abbrev pub returned : Setting → ℕ → Place → TypeId → Value → Act Value
returned w depth at t (Integer z) = done (Integer z)
returned w depth at t (Address p) = do
  all_checked w at (conditions_of (Return depth) (kind_in w t) p)
  done (Address p)
