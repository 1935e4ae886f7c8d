-- The instructions of operators, conversions, steps and calls, over values that are there.
use Rattle.std.specs.Prelude.{◌≡◌, ℕ, ℤ, suc, ◌+◌, pos, Bool, true, false, List, [], ◌∷◌, Option, None, Some}
use Rattle.std.specs.List.{position}
use Rattle.cc_base.specs.declared.place.Place.{Place}
use Rattle.cc_base.specs.declared.number.NodeId.{NodeId}
use Rattle.cc_base.specs.declared.number.TypeId.{TypeId}
use Rattle.c_types.specs.Table.{Table, shape_at}
use Rattle.integers.specs.Arithmetic.{converted}
use Rattle.c_tree.specs.declared.operator.Assignment.{Assignment}
use Rattle.c_tree.specs.declared.operator.Assignment.TheVariants as assignment
use Rattle.c_tree.specs.declared.operator.Binary.{Binary}
use Rattle.c_tree.specs.declared.operator.Binary.TheVariants as binary
use Rattle.c_tree.specs.declared.operator.Step.{Step}
use Rattle.c_tree.specs.declared.operator.Step.TheVariants as step
use Rattle.c_tree.specs.declared.operator.Unary.{Unary}
use Rattle.c_tree.specs.declared.operator.Unary.TheVariants as unary
use Rattle.c_tree.specs.declared.typed_word.Conversion.{Conversion}
use Rattle.c_tree.specs.declared.typed_word.Conversion.TheVariants as conversion
use Rattle.c_tree.specs.declared.typed_word.Runtime.{Runtime}
use Rattle.c_tree.specs.declared.typed_word.Runtime.TheVariants as function
use Rattle.c_tree.specs.declared.typed_word.Side.{Side}
use Rattle.c_tree.specs.declared.typed_word.Side.TheVariants as side
use Rattle.src_mem.specs.Operations.{node_at, integer_of_shape}
use Rattle.src_machine.specs.World.{same_node}
use Rattle.src_machine.specs.Expressions.{is_pointer_shape, is_subtract, operator_of_step, same_type, is_different}
use Rattle.cil_form.specs.declared.number.Temp.{Temp}
use Rattle.cil_form.specs.declared.number.Temp.TheVariants as temp
use Rattle.cil_form.specs.declared.number.Work.TheVariants.{First}
use Rattle.cil_form.specs.declared.number.Object.{Object}
use Rattle.cil_form.specs.declared.number.Object.TheVariants as object
use Rattle.cil_form.specs.declared.instr.Comparison.{Comparison}
use Rattle.cil_form.specs.declared.instr.Comparison.TheVariants as comparison
use Rattle.cil_form.specs.declared.instr.Operator.{Operator}
use Rattle.cil_form.specs.declared.instr.Operator.TheVariants as operator
use Rattle.cil_form.specs.declared.instr.Direction.{Direction}
use Rattle.cil_form.specs.declared.instr.Direction.TheVariants as direction
use Rattle.cil_form.specs.declared.instr.Set.TheVariants as set
use Rattle.cil_form.specs.declared.instr.Calculate.TheVariants as calculate
use Rattle.cil_form.specs.declared.instr.Point.TheVariants as point
use Rattle.cil_form.specs.declared.instr.Convert.TheVariants as convert
use Rattle.cil_form.specs.declared.instr.Target.TheVariants as target
use Rattle.cil_form.specs.declared.instr.Access.TheVariants as access
use Rattle.cil_form.specs.declared.instr.Allocate.TheVariants as allocate
use Rattle.cil_form.specs.declared.instr.RuntimeCall.TheVariants as runtime
use Rattle.cil_form.specs.declared.instr.Instr.{Instr}
use Rattle.cil_form.specs.declared.instr.Instr.TheVariants as instr
use Rattle.lower_rules.specs.declared.after.After.{After}
use Rattle.lower_rules.specs.declared.after.After.TheVariants as after
use Rattle.lower_rules.specs.Pieces.{Form, Line, Choice, When, Never}

-- What the code of a function depends on beside its tree: the table of types, and the homes of the static objects and of its variables, in
-- the order of their numbers.
pub record Context : Type 0 where
  pub table : Table
  pub statics : List NodeId
  pub variables : List NodeId

abbrev pub value : ℕ → Temp
value n = temp.Value n

abbrev pub work : Temp
work = temp.Work First

-- the basic types `int` and `unsigned long`, in each table
abbrev pub int : TypeId
int = record { 0 = 5 }

abbrev pub unsigned_long : TypeId
unsigned_long = record { 0 = 8 }

abbrev pub node_of : Context → TypeId → NodeId
node_of k t = node_at k.table t

abbrev pub is_pointer : Context → TypeId → Bool
is_pointer k t = is_pointer_shape (shape_at k.table t)

-- Objects

abbrev pub object_by : Option ℕ → Option ℕ → Option Object
object_by (Some i) s = Some (object.Variable (record { 0 = i }))
object_by None (Some i) = Some (object.Static (record { 0 = i }))
object_by None None = None

-- the object with this home
abbrev pub object_in : Context → NodeId → Option Object
object_in k home = object_by (position (same_node home) k.variables) (position (same_node home) k.statics)

-- the address of the object with this home, of type t
unfoldable pub Objects : Context → ℕ → NodeId → TypeId → Form
Objects k v home t code = (o : Object) × (object_in k home ≡ Some o) × (code ≡ instr.Set (set.Object (value v) o home t) ∷ [])

-- Constants

-- a constant of type t, which is converted to it
abbrev pub constant : Table → TypeId → ℤ → ℤ
constant table t z = converted (integer_of_shape (shape_at table t)) z

unfoldable pub Constant : Context → ℕ → TypeId → ℤ → Form
Constant k v t z = Line (instr.Set (set.Integer (value v) (constant k.table t z) t) ∷ [])

-- a truth value
abbrev pub Truth : ℕ → ℕ → Form
Truth v n = Line (instr.Set (set.Integer (value v) (pos n) int) ∷ [])

-- Operators

-- an operator between two integers; `&&` and `||` never stand so
unfoldable pub lowered : Binary → Operator
lowered binary.Multiply = operator.Multiply
lowered binary.Divide = operator.Divide
lowered binary.Remainder = operator.Remainder
lowered binary.Add = operator.Add
lowered binary.Subtract = operator.Subtract
lowered binary.ShiftLeft = operator.ShiftLeft
lowered binary.ShiftRight = operator.ShiftRight
lowered binary.Less = operator.Compare comparison.Less
lowered binary.Greater = operator.Compare comparison.Greater
lowered binary.LessEqual = operator.Compare comparison.LessOrEqual
lowered binary.GreaterEqual = operator.Compare comparison.GreaterOrEqual
lowered binary.Equal = operator.Compare comparison.Equal
lowered binary.NotEqual = operator.Compare comparison.Different
lowered binary.BitAnd = operator.And
lowered binary.BitXor = operator.ExclusiveOr
lowered binary.BitOr = operator.Or
lowered binary.LogicalAnd = operator.And
lowered binary.LogicalOr = operator.Or

-- the operator of a compound assignment
unfoldable pub lowered_assignment : Assignment → Operator
lowered_assignment assignment.Multiply = operator.Multiply
lowered_assignment assignment.Divide = operator.Divide
lowered_assignment assignment.Remainder = operator.Remainder
lowered_assignment assignment.Add = operator.Add
lowered_assignment assignment.Subtract = operator.Subtract
lowered_assignment assignment.ShiftLeft = operator.ShiftLeft
lowered_assignment assignment.ShiftRight = operator.ShiftRight
lowered_assignment assignment.BitAnd = operator.And
lowered_assignment assignment.BitXor = operator.ExclusiveOr
lowered_assignment assignment.BitOr = operator.Or
lowered_assignment assignment.Assign = operator.Add

unfoldable pub lowered_step : Step → Operator
lowered_step step.Increment = operator.Add
lowered_step step.Decrement = operator.Subtract

-- which way a pointer moves, by whether it goes backwards
unfoldable pub direction_of : Bool → Direction
direction_of true = direction.Backward
direction_of false = direction.Forward

-- `+`, `-`, `~` and `!` of value v
unfoldable pub Prefixes : Unary → ℕ → TypeId → Form
Prefixes unary.Plus v t = Line []
Prefixes unary.Minus v t = Line (instr.Calculate (calculate.Negate (value v) (value v) t) ∷ [])
Prefixes unary.Complement v t = Line (instr.Calculate (calculate.Complement (value v) (value v) t) ∷ [])
Prefixes unary.Not v t = Line (instr.Calculate (calculate.Not (value v) (value v)) ∷ [])
Prefixes other v t = Never

-- an operator on the integers in values v and v + 1
abbrev pub Calculates : Operator → ℕ → TypeId → Place → Form
Calculates o v t at = Line (instr.Calculate (calculate.Binary (value v) o (value v) (value (suc v)) t at) ∷ [])

-- a pointer plus or minus an integer, which are in values v and v + 1, of the types t and u; by the side where the pointer is
unfoldable pub Moves : Side → Bool → ℕ → TypeId → TypeId → Place → Form
Moves side.Left back v t u at = Line (instr.Point (point.Move (value v) (value v) (value (suc v)) (direction_of back) t at) ∷ [])
Moves side.Right back v t u at = Line (instr.Point (point.Move (value v) (value (suc v)) (value v) (direction_of back) u at) ∷ [])

unfoldable pub comparison_of : Binary → Option Comparison
comparison_of binary.Less = Some comparison.Less
comparison_of binary.Greater = Some comparison.Greater
comparison_of binary.LessEqual = Some comparison.LessOrEqual
comparison_of binary.GreaterEqual = Some comparison.GreaterOrEqual
comparison_of binary.Equal = Some comparison.Equal
comparison_of binary.NotEqual = Some comparison.Different
comparison_of other = None

unfoldable pub ComparesBy : Option Comparison → ℕ → TypeId → TypeId → Place → Form
ComparesBy None v t u at = Never
ComparesBy (Some c) v t u at = Line (instr.Point (point.Compare (value v) c (value v) t (value (suc v)) u at) ∷ [])

-- two pointers, in values v and v + 1, are compared; by whether the one or the other is a null constant
unfoldable pub Compares : Bool → Bool → Binary → ℕ → TypeId → TypeId → Place → Form
Compares true null op v t u at = Line (instr.Point (point.IsNull (value v) (value (suc v)) u (is_different op)) ∷ [])
Compares false true op v t u at = Line (instr.Point (point.IsNull (value v) (value v) t (is_different op)) ∷ [])
Compares false false op v t u at = ComparesBy (comparison_of op) v t u at

-- `||`, or else `&&`, behind its left operand; P is the code of its right one
unfoldable pub LogicalOf : Bool → ℕ → Form → Form
LogicalOf true v P = Choice (value v) (Truth v 1) P
LogicalOf false v P = Choice (value v) P (Truth v 0)

-- Conversions

-- value v, of type t, converted to the type u
unfoldable pub Converts : Conversion → ℕ → Place → TypeId → TypeId → Form
Converts conversion.IntegerToInteger v at t u = Line (instr.Convert (convert.Integer (value v) (value v) u) ∷ [])
Converts conversion.IntegerToPointer v at t u = Line (instr.Convert (convert.ToPointer (value v) (value v) u at) ∷ [])
Converts conversion.PointerToInteger v at t u = Line (instr.Convert (convert.FromPointer (value v) (value v) t u) ∷ [])
Converts conversion.PointerToPointer v at t u = Line (instr.Convert (convert.Pointer (value v) (value v) t u at) ∷ [])
Converts conversion.NullToPointer v at t u = Line (instr.Set (set.Null (value v) u) ∷ [])
Converts conversion.AllocationToPointer v at t u = Line []
Converts conversion.ToVoid v at t u = Line []

-- Updates of a place

-- an integer in a temporary converted to the type u, unless it is of that type
abbrev pub convert_code : Bool → Temp → TypeId → List Instr → List Instr
convert_code true t u rest = rest
convert_code false t u rest = instr.Convert (convert.Integer t t u) ∷ rest

-- The new value of a place of type t, from the old one and the operand, in the place of the old one; an integer is computed in the type u.
abbrev pub update_code : Bool → Bool → Operator → Temp → Temp → TypeId → TypeId → Place → List Instr → List Instr
update_code true back o old by t u at rest = instr.Point (point.Move old old by (direction_of back) t at) ∷ rest
update_code false back o old by t u at rest =
    convert_code (same_type t u) old u (instr.Calculate (calculate.Binary old o old by u at) ∷ convert_code (same_type t u) old t rest)

-- the new value of a place after a step, in a working temporary
abbrev pub step_code : Bool → Bool → Operator → Temp → TypeId → Place → List Instr → List Instr
step_code true back o old t at rest =
    instr.Set (set.Integer work (pos 1) int) ∷ instr.Point (point.Move work old work (direction_of back) t at) ∷ rest
step_code false back o old t at rest =
    instr.Set (set.Integer work (pos 1) t) ∷ instr.Calculate (calculate.Binary work o old work t at) ∷ rest

-- what is stored at the address in value v is the result, or what another temporary holds
abbrev pub store_code : NodeId → TypeId → Place → Place → ℕ → Temp → Temp → List Instr
store_code n t own at v new result =
    instr.Access (access.Store (target.Pointer (value v) n) new t own at) ∷ instr.Set (set.Copy (value v) result) ∷ []

-- a step at the address in value v
abbrev pub stepping : Bool → Operator → Bool → Temp → NodeId → TypeId → Place → Place → ℕ → List Instr
stepping pointer o back result n t own at v =
    instr.Access (access.Load (value (suc v)) (value v) n t own)
    ∷ step_code pointer back o (value (suc v)) t at (store_code n t own at v work result)

-- a compound assignment to the address in value v, of what is in value v + 1
abbrev pub updating : Bool → Operator → Bool → NodeId → TypeId → TypeId → Place → Place → ℕ → List Instr
updating pointer o back n t u own at v =
    instr.Access (access.Load (value (suc (suc v))) (value v) n t own)
    ∷ update_code pointer back o (value (suc (suc v))) (value (suc v)) t u at
    (store_code n t own at v (value (suc (suc v))) (value (suc (suc v))))

-- the temporary with the result of a step: the old value, or the new one
abbrev pub step_result : Bool → ℕ → Temp
step_result true v = value (suc v)
step_result false v = work

-- What comes after the address of a place

abbrev pub after_code : After → ℕ → NodeId → List Instr
after_code after.Nothing v n = []
after_code (after.Load t at) v n = instr.Access (access.Load (value v) (value v) n t at) ∷ []
after_code (after.Decay array check inner element at) v n = instr.Point (point.Decay (value v) (value v) n array check inner element at) ∷ []
after_code (after.Address inner t) v n = instr.Point (point.Address (value v) (value v) n inner t) ∷ []
after_code (after.Member t i inner u at) v n = instr.Point (point.Member (value v) (value v) n t i inner u at) ∷ []
after_code (after.Copy to to_place from_place t at) v n = instr.Access (access.Copy to to_place (value v) n from_place t at) ∷ []
after_code (after.Step old which pointer t own at) v n =
    stepping pointer (lowered_step which) (is_subtract (operator_of_step which)) (step_result old v) n t own at v

-- the address is in value v, and has this node
unfoldable pub Follows : After → ℕ → NodeId → Form
Follows what v n = Line (after_code what v n)

-- Calls. The arguments are in the values from v + 1 on.

-- a call of a runtime function that is no allocation, with so many arguments
unfoldable pub RunsRuntime : Runtime → ℕ → ℕ → Form
RunsRuntime function.Getchar n v = When (n ≡ 0) (Line (instr.Runtime (runtime.Getchar (value v)) ∷ []))
RunsRuntime function.Putchar n v = When (n ≡ 1) (Line (instr.Runtime (runtime.Putchar (value v) (value (suc v))) ∷ []))
RunsRuntime function.Free n v = When (n ≡ 1) (Line (instr.Runtime (runtime.Free (value v) (value (suc v))) ∷ []))
RunsRuntime function.Exit n v = When (n ≡ 1) (Line (instr.Runtime (runtime.Exit (value v) (value (suc v))) ∷ []))
RunsRuntime other n v = Never

-- an allocation for a pointer of the node to t, with so many arguments
unfoldable pub Allocates : Runtime → ℕ → ℕ → NodeId → TypeId → Place → Form
Allocates function.Malloc n v node t at = When (n ≡ 1) (Line (instr.Allocate (allocate.Malloc (value v) (value (suc v)) node t at) ∷ []))
Allocates function.Calloc n v node t at =
    When (n ≡ 2) (Line (instr.Allocate (allocate.Calloc (value v) (value (suc v)) (value (suc v + 1)) node t at) ∷ []))
Allocates other n v node t at = Never
