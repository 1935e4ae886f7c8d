-- Operations on integers and pointers with the conditions that come before them, by the types of their operands.
use Rattle.std.specs.Prelude.{ℕ, ℤ, pos, neg_ℤ, Bool, true, false, not}
use Rattle.cc_base.specs.declared.place.Place.{Place}
use Rattle.cc_base.specs.declared.number.NodeId.{NodeId}
use Rattle.cc_base.specs.declared.number.TypeId.{TypeId}
use Rattle.cc_base.specs.declared.kind.Kind.{Kind}
use Rattle.c_types.specs.declared.shape.TypeShape.{TypeShape}
use Rattle.c_types.specs.declared.shape.TypeShape.TheVariants as shape
use Rattle.c_types.specs.Table.{Table, shape_at}
use Rattle.c_types.specs.Layouts.{size_of, offset_of}
use Rattle.c_types.specs.Flows.{flow_class}
use Rattle.integers.specs.Arithmetic as integer
use Rattle.integers.specs.Arithmetic.{IntegerType, int, Operator, computed, divides}
use Rattle.runs.specs.Outcome.{done, either, ◌>>=◌, ◌>>◌}
use Rattle.src_mem.specs.Pointers.{Pointer, Null, Value, Integer, Address}
use Rattle.src_mem.specs.State.{Act, Setting, wrong}
use Rattle.src_mem.specs.Checks.{Used, CanDivide, Move, Subtract, Order, Equate, AddressMember, conditions_of, conditions_of_conversion, conditions_of_allocation, checked, all_checked}
use Rattle.src_mem.specs.Primitives.{address, move, difference, is_before, are_equal, convert}

-- Types

-- the node of a pointer type, and what it points to
abbrev pub node_of_shape : TypeShape → NodeId
node_of_shape (shape.Pointer node to) = node
node_of_shape other = record { 0 = 0 }

abbrev pub pointee_of_shape : TypeShape → TypeId
pointee_of_shape (shape.Pointer node to) = to
pointee_of_shape other = record { 0 = 0 }

abbrev pub node_at : Table → TypeId → NodeId
node_at table t = node_of_shape (shape_at table t)

abbrev pub pointee_at : Table → TypeId → TypeId
pointee_at table t = pointee_of_shape (shape_at table t)

abbrev pub node_in : Setting → TypeId → NodeId
node_in w t = node_at w.table t

-- the kind of the pointers of a type
abbrev pub kind_in : Setting → TypeId → Kind
kind_in w t = w.kind (node_in w t)

abbrev pub pointee : Setting → TypeId → TypeId
pointee w t = pointee_at w.table t

-- the size of a type, and of what its pointers point to
abbrev pub size : Setting → TypeId → ℕ
size w t = size_of w.table t

abbrev pub pointee_size : Setting → TypeId → ℕ
pointee_size w t = size w (pointee w t)

abbrev pub integer_of_shape : TypeShape → IntegerType
integer_of_shape (shape.Integer bytes signed) = record { bytes = bytes; signed = signed }
integer_of_shape other = int

abbrev pub integer_in : Setting → TypeId → IntegerType
integer_in w t = integer_of_shape (shape_at w.table t)

-- zero or null, of a type
abbrev pub zero_of_shape : TypeShape → Value
zero_of_shape (shape.Pointer node to) = Address Null
zero_of_shape other = Integer (pos 0)

-- what a function of this type gives where its end is reached
abbrev pub zero_of_function : Setting → TypeShape → Value
zero_of_function w (shape.Function parameters result) = zero_of_shape (shape_at w.table result)
zero_of_function w other = Integer (pos 0)

-- Integers

-- an operator on integers of this type
abbrev pub calculate : Setting → Place → Operator → IntegerType → ℤ → ℤ → Act ℤ
calculate w at operator t x y =
    either (divides operator) (checked w at (CanDivide t x y)) (done tt) >> done (computed operator t x y)

-- Pointers

-- how far a pointer moves, by whether it goes backwards
abbrev pub amount : Bool → ℤ → ℤ
amount true n = neg_ℤ n
amount false n = n

-- a pointer of type t moves by n elements (C99 6.5.6)
abbrev pub moved : Setting → Place → TypeId → ℤ → Pointer → Act Pointer
moved w at t n p = do
  all_checked w at (conditions_of (Move (pointee_size w t) n) (kind_in w t) p)
  move (pointee_size w t) n p

-- the difference of two pointers, the first of type t (C99 6.5.6)
abbrev pub subtracted : Setting → Place → TypeId → Pointer → Used → Act ℤ
subtracted w at t p q = do
  all_checked w at (conditions_of (Subtract (pointee_size w t) q) (kind_in w t) p)
  difference (pointee_size w t) p q.pointer

-- two pointers are equal (C99 6.5.9)
abbrev pub equated : Setting → Place → Used → Used → Act Bool
equated w at p q = do
  all_checked w at (conditions_of (Equate q) p.kind p.pointer)
  are_equal p.pointer q.pointer

-- `<`, `>`, `<=` and `>=` of two pointers (C99 6.5.8)
abbrev pub order_of : Operator → Pointer → Pointer → Act Bool
order_of integer.Less p q = is_before p q
order_of integer.Greater p q = is_before q p
order_of integer.LessOrEqual p q = is_before q p >>= (λ after. done (not after))
order_of integer.GreaterOrEqual p q = is_before p q >>= (λ before. done (not before))
order_of operator p q = wrong

-- two pointers are compared, with the kinds by which they are used
abbrev pub compared : Setting → Place → Operator → Used → Used → Act Bool
compared w at integer.Equal p q = equated w at p q
compared w at integer.Different p q = equated w at p q >>= (λ equal. done (not equal))
compared w at operator p q = do
  all_checked w at (conditions_of (Order q) p.kind p.pointer)
  order_of operator p.pointer q.pointer

-- a pointer of type t converted to the pointer type u (C99 6.3.2.3)
abbrev pub converted_pointer : Setting → Place → TypeId → TypeId → Pointer → Act Pointer
converted_pointer w at t u p =
    let class = flow_class w.table (pointee w t) (pointee w u) in do
      all_checked w at (conditions_of_conversion (record {
        class = class;
        from = kind_in w t;
        to = kind_in w u;
        from_size = pointee_size w t;
        to_size = pointee_size w u;
        to_type = pointee w u;
      }) p)
      convert class (kind_in w t) (kind_in w u) (pointee w u) p

-- what an allocation gave to a pointer of this node to t: the first t has to be there
abbrev pub allocated_for : Setting → Place → NodeId → TypeId → Pointer → Act (Unit {0})
allocated_for w at node t p = all_checked w at (conditions_of_allocation (w.kind node) (size w t) p)

-- Addresses of parts

-- the address, with this node, of member number i, of type u, of a struct or union of type t at p, which is used by this kind (C99 6.5.2.3)
abbrev pub member : Setting → Place → Kind → TypeId → ℕ → NodeId → TypeId → Pointer → Act Pointer
member w at kind t i node u p = do
  all_checked w at (conditions_of (AddressMember (offset_of w.table t i) (size w t)) kind p)
  address (w.kind node) (offset_of w.table t i) (size w u) u p

-- the address, with this node, of the first element of an array at p, which is used by this kind (C99 6.3.2.1); whether the array's own
-- address is checked before
abbrev pub decayed : Setting → Place → Kind → TypeId → Bool → NodeId → TypeId → Pointer → Act Pointer
decayed w at kind array check node element p = do
  either check (all_checked w at (conditions_of (AddressMember 0 (size w array)) kind p)) (done tt)
  address (w.kind node) 0 (size w array) element p
