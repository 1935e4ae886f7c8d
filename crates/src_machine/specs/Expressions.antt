-- What expressions do (C99 6.5). Operands are evaluated from left to right; an assignment evaluates its place, then its right side, then
-- reads the old value where it needs it, then stores.
use Rattle.std.specs.Prelude.{ℤ, pos, Bool, true, false, not, List, [], ◌∷◌, ◌++◌, ◌==◌}
use Rattle.cc_base.specs.declared.place.Place.{Place}
use Rattle.cc_base.specs.declared.number.NodeId.{NodeId}
use Rattle.cc_base.specs.declared.number.TypeId.{TypeId}
use Rattle.c_types.specs.declared.shape.TypeShape.{TypeShape}
use Rattle.c_types.specs.declared.shape.TypeShape.TheVariants as shape
use Rattle.c_types.specs.Table.{shape_at}
use Rattle.integers.specs.Arithmetic as integer
use Rattle.integers.specs.Arithmetic.{Operator, converted, truth}
use Rattle.runs.specs.Outcome.{done, either, ◌>>=◌, ◌>>◌}
use Rattle.c_tree.specs.Arithmetic.{operator_of}
use Rattle.c_tree.specs.declared.operator.Assignment.{Assignment}
use Rattle.c_tree.specs.declared.operator.Assignment.TheVariants as assignment
use Rattle.c_tree.specs.declared.operator.Binary.{Binary}
use Rattle.c_tree.specs.declared.operator.Binary.TheVariants as binary
use Rattle.c_tree.specs.declared.operator.Step.{Step}
use Rattle.c_tree.specs.declared.operator.Step.TheVariants as step
use Rattle.c_tree.specs.declared.operator.Unary.{Unary}
use Rattle.c_tree.specs.declared.operator.Unary.TheVariants as unary
use Rattle.c_tree.specs.declared.typed_word.Conversion.{Conversion}
use Rattle.c_tree.specs.declared.typed_word.Conversion.TheVariants as conversion
use Rattle.c_tree.specs.declared.typed_word.Side.{Side}
use Rattle.c_tree.specs.declared.typed_word.Side.TheVariants as side
use Rattle.c_tree.specs.TypedTree as typed
use Rattle.c_tree.specs.TypedTree.{TypedExpr, TypedPlace, TypedArguments}
use Rattle.c_tree.specs.TypedParts.{place_at, type_of, place_type, named_type, pointer_side, is_null}
use Rattle.src_mem.specs.Pointers.{Null, Function, Value, Integer, Address, is_true}
use Rattle.src_mem.specs.State.{Act, wrong, given}
use Rattle.src_mem.specs.Uses.{home}
use Rattle.src_mem.specs.Operations.{node_in, pointee, integer_in}
use Rattle.src_mem.specs.Values.{calculated, calculated_alone, converted_integer, pointer_from_integer, integer_from_pointer, pointer_value, moved_value, difference_value, compared_value, null_value, member_value, decayed_value, addressed, loaded, stored, copied, allocated, called_value}
use Rattle.runtime_calls.specs.Meanings.{call_runtime, call_allocation}
use Rattle.src_machine.specs.World.{World, object_of}

-- Where a place is: its address, and the node by which it is used. Where its checks stand is known from the text (`place_at`).
pub record Where : Type 0 where
  pub node : NodeId
  pub address : Value

-- a place at an address of this node
abbrev pub stands : NodeId → Value → Act Where
stands node a = done (record { node = node; address = a })

-- the address of the object with this home, of type t
abbrev pub locate_object : World → NodeId → TypeId → Act Value
locate_object w node t = given (object_of w node) (λ number. done (Address (home w.setting.table number t)))

-- Operators

-- the operator of a compound assignment
abbrev pub operator_of_assignment : Assignment → Operator
operator_of_assignment assignment.Multiply = integer.Multiply
operator_of_assignment assignment.Divide = integer.Divide
operator_of_assignment assignment.Remainder = integer.Remainder
operator_of_assignment assignment.Add = integer.Add
operator_of_assignment assignment.Subtract = integer.Subtract
operator_of_assignment assignment.ShiftLeft = integer.ShiftLeft
operator_of_assignment assignment.ShiftRight = integer.ShiftRight
operator_of_assignment assignment.BitAnd = integer.And
operator_of_assignment assignment.BitXor = integer.ExclusiveOr
operator_of_assignment assignment.BitOr = integer.Or
operator_of_assignment assignment.Assign = integer.Add

abbrev pub operator_of_step : Step → Operator
operator_of_step step.Increment = integer.Add
operator_of_step step.Decrement = integer.Subtract

-- whether an operator goes backwards
abbrev pub is_subtract : Operator → Bool
is_subtract integer.Subtract = true
is_subtract operator = false

abbrev pub is_pointer_shape : TypeShape → Bool
is_pointer_shape (shape.Pointer node to) = true
is_pointer_shape other = false

-- whether the values of a type are pointers
abbrev pub is_pointer_in : World → TypeId → Bool
is_pointer_in w t = is_pointer_shape (shape_at w.setting.table t)

abbrev pub same_type : TypeId → TypeId → Bool
same_type t u = t.0 == u.0

-- an integer converted to the type u, unless it is of that type
abbrev pub converted_unless : Bool → World → TypeId → Value → Act Value
converted_unless true w u v = done v
converted_unless false w u v = converted_integer w.setting u v

-- The operator of a compound assignment or of a step, on the old value of a place of type t; by whether that is a pointer. On an integer it
-- is computed in another type.
abbrev pub updated_where : Bool → World → Place → Operator → TypeId → TypeId → Value → Value → Act Value
updated_where true w at operator t computed_in old v = moved_value w.setting at (is_subtract operator) t old v
updated_where false w at operator t computed_in old v = do
  x ← converted_unless (same_type t computed_in) w computed_in old
  z ← calculated w.setting at operator computed_in x v
  converted_unless (same_type t computed_in) w t z

abbrev pub updated : World → Place → Operator → TypeId → TypeId → Value → Value → Act Value
updated w at operator t computed_in old v = updated_where (is_pointer_in w t) w at operator t computed_in old v

-- the operand of `+`, `-`, `~` and `!`, where it is an integer of its type
abbrev pub prefixed : World → Unary → TypeId → Value → Act Value
prefixed w unary.Plus t v = done v
prefixed w unary.Minus t v = calculated_alone w.setting integer.Negate t v
prefixed w unary.Complement t v = calculated_alone w.setting integer.Complement t v
prefixed w unary.Not t v = done (Integer (truth (not (is_true v))))
prefixed w other t v = wrong

-- Conversions (C99 6.3)

-- a value of type t converted to the type u; nothing reads what is converted to `void`
abbrev pub converted_value : World → Conversion → Place → TypeId → TypeId → Value → Act Value
converted_value w conversion.IntegerToInteger at t u v = converted_integer w.setting u v
converted_value w conversion.IntegerToPointer at t u v = pointer_from_integer v
converted_value w conversion.PointerToInteger at t u v = integer_from_pointer w.setting t u v
converted_value w conversion.PointerToPointer at t u v = pointer_value w.setting at t u v
converted_value w conversion.NullToPointer at t u v = done (Address Null)
converted_value w conversion.AllocationToPointer at t u v = done v
converted_value w conversion.ToVoid at t u v = done v

-- Places and values

-- a place that a pointer's operator gives; an array there is checked as it decays
abbrev pub is_through_pointer : TypedPlace → Bool
is_through_pointer (typed.Target at e t) = true
is_through_pointer (typed.Element which a at b t) = true
is_through_pointer (typed.ParenPlace at p) = is_through_pointer p
is_through_pointer place = false

-- a pointer plus or minus an integer, by which of two operands is the pointer
abbrev pub moved_by_side : World → Place → Side → Bool → TypeId → TypeId → Value → Value → Act Value
moved_by_side w at side.Left backwards t u a b = moved_value w.setting at backwards t a b
moved_by_side w at side.Right backwards t u a b = moved_value w.setting at backwards u b a

abbrev pub is_different : Binary → Bool
is_different binary.NotEqual = true
is_different operator = false

-- A comparison of two pointers, by whether the one or the other is a null constant, as of `==` and `!=` one may be: then the other is
-- tested alone.
abbrev pub compared_with : Bool → Bool → World → Place → Binary → TypeId → TypeId → Value → Value → Act Value
compared_with true null w at operator t u a b = null_value (is_different operator) b
compared_with false true w at operator t u a b = null_value (is_different operator) a
compared_with false false w at operator t u a b = compared_value w.setting at (operator_of operator) t u a b

-- whether an operator is `||`, and not `&&`
abbrev pub is_or : Binary → Bool
is_or binary.LogicalOr = true
is_or operator = false

-- `||`, or else `&&`, by its left operand; its right one is evaluated where the left doesn't decide
abbrev pub logical : Bool → Bool → Act Value → Act Value
logical true b right = either b (done (Integer (pos 1))) right
logical false b right = either b right (done (Integer (pos 0)))

-- a constant, which is a value of its type
abbrev pub constant : World → TypeId → ℤ → Value
constant w t z = Integer (converted (integer_in w.setting t) z)

abbrev mutual
  -- the value of an expression
  pub eval : TypedExpr → World → Act Value
  eval (typed.Integer of n at t) w = done (constant w t (pos n))
  eval (typed.Character z at t) w = done (constant w t z)
  eval (typed.Enumerator name z t) w = done (constant w t z)
  eval (typed.FunctionName name f node t) w = done (Address (Function f))
  eval (typed.RuntimeName name function t) w = wrong
  eval (typed.Paren at e) w = eval e w
  eval (typed.Read p) w = do
    l ← locate p w
    loaded w.setting (place_at p) l.node (place_type p) l.address
  eval (typed.Unread p) w = do
    l ← locate p w
    done l.address
  eval (typed.Decay p node t) w = do
    l ← locate p w
    decayed_value w.setting (place_at p) l.node (place_type p) (is_through_pointer p) node (pointee w.setting t) l.address
  eval (typed.Convert which at t e) w = do
    v ← eval e w
    converted_value w which at (type_of e) t v
  eval (typed.Cast which at name e) w = do
    v ← eval e w
    converted_value w which at (type_of e) (named_type name) v
  eval (typed.AddressOf at p node t) w = do
    l ← locate p w
    addressed w.setting node (place_type p) l.address
  eval (typed.AddressOfElement at p t) w = do
    l ← locate p w
    done l.address
  eval (typed.AddressOfFunction at e) w = eval e w
  eval (typed.FunctionAt at e) w = eval e w
  eval (typed.Prefix operator at e t) w = do
    v ← eval e w
    prefixed w operator t v
  eval (typed.SizeOfPlace at p n t) w = done (constant w t (pos n))
  eval (typed.SizeOfValue at e n t) w = done (constant w t (pos n))
  eval (typed.SizeOfType at paren name n t) w = done (constant w t (pos n))
  eval (typed.StepBefore which at p) w = do
    l ← locate p w
    old ← loaded w.setting (place_at p) l.node (place_type p) l.address
    new ← updated w at (operator_of_step which) (place_type p) (place_type p) old (Integer (pos 1))
    stored w.setting (place_at p) at l.node (place_type p) l.address new
    done new
  eval (typed.StepAfter p which at) w = do
    l ← locate p w
    old ← loaded w.setting (place_at p) l.node (place_type p) l.address
    new ← updated w at (operator_of_step which) (place_type p) (place_type p) old (Integer (pos 1))
    stored w.setting (place_at p) at l.node (place_type p) l.address new
    done old
  eval (typed.Arithmetic operator a at b t) w = do
    v ← eval a w
    u ← eval b w
    calculated w.setting at (operator_of operator) (type_of a) v u
  eval (typed.Moved operator which a at b t) w = do
    v ← eval a w
    u ← eval b w
    moved_by_side w at which (is_subtract (operator_of operator)) (type_of a) (type_of b) v u
  eval (typed.Difference a at b t) w = do
    v ← eval a w
    u ← eval b w
    difference_value w.setting at (type_of a) (type_of b) v u
  eval (typed.Compared operator a at b t) w = do
    v ← eval a w
    u ← eval b w
    compared_with (is_null a) (is_null b) w at operator (type_of a) (type_of b) v u
  eval (typed.Logical operator a at b t) w = do
    v ← eval a w
    logical (is_or operator) (is_true v) (do
      u ← eval b w
      done (Integer (truth (is_true u))))
  eval (typed.Conditional c at a b t) w = do
    v ← eval c w
    either (is_true v) (eval a w) (eval b w)
  eval (typed.PointerConditional c at a b node t) w = do
    v ← eval c w
    either (is_true v) (eval a w) (eval b w)
  eval (typed.Comma a b) w = do
    eval a w
    eval b w
  eval (typed.Assign p at e) w = do
    l ← locate p w
    v ← eval e w
    stored w.setting (place_at p) at l.node (place_type p) l.address v
    done v
  eval (typed.AssignWith operator p at e t) w = do
    l ← locate p w
    v ← eval e w
    old ← loaded w.setting (place_at p) l.node (place_type p) l.address
    new ← updated w at (operator_of_assignment operator) (place_type p) t old v
    stored w.setting (place_at p) at l.node (place_type p) l.address new
    done new
  eval (typed.Call f at arguments t) w = do
    v ← eval f w
    vs ← eval_all arguments w
    called_value w.setting w.call w.frame.depth at (type_of f) v vs
  eval (typed.CallRuntime function f at arguments t) w = do
    vs ← eval_all arguments w
    call_runtime function vs
  eval (typed.Allocate function f at arguments node t) w = do
    vs ← eval_all arguments w
    allocated w.setting at node (pointee w.setting t) (call_allocation w.setting node (pointee w.setting t) function vs)
  eval (typed.AllocateFor function f at arguments t) w = do
    vs ← eval_all arguments w
    allocated w.setting at (node_in w.setting t) (pointee w.setting t)
        (call_allocation w.setting (node_in w.setting t) (pointee w.setting t) function vs)

  -- arguments in order, each converted before the next is evaluated
  pub eval_all : TypedArguments → World → Act (List Value)
  eval_all typed.NoArgument w = done []
  eval_all (typed.AndArgument all e) w = do
    vs ← eval_all all w
    v ← eval e w
    done (vs ++ v ∷ [])

  -- where a place is
  pub locate : TypedPlace → World → Act Where
  locate (typed.Variable name node t) w = locate_object w node t >>= stands node
  locate (typed.String pieces node t) w = locate_object w node t >>= stands node
  locate (typed.ParenPlace at p) w = locate p w
  locate (typed.Target at e t) w = eval e w >>= stands (node_in w.setting (type_of e))
  locate (typed.Element which a at b t) w = (do
    v ← eval a w
    u ← eval b w
    moved_by_side w at which false (type_of a) (type_of b) v u) >>= stands (node_in w.setting (type_of (pointer_side which a b)))
  locate (typed.Member p at name i node t) w = (do
    l ← locate p w
    member_value w.setting at l.node (place_type p) i node t l.address) >>= stands node
  locate (typed.MemberAt e at name i node t) w = (do
    v ← eval e w
    member_value w.setting at (node_in w.setting (type_of e)) (pointee w.setting (type_of e)) i node t v) >>= stands node
  -- an assignment of structs or unions gives its left side
  locate (typed.StructAssign p at q) w = do
    l ← locate p w
    (do
      r ← locate q w
      copied w.setting (place_type p) (place_at q) r.node r.address (place_at p) l.node l.address at
      done l.address) >>= stands l.node
  locate (typed.StructConditional c at p q) w = do
    v ← eval c w
    either (is_true v) (locate p w) (locate q w)
  locate (typed.StructComma e p) w = do
    eval e w
    locate p w
