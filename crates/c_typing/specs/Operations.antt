-- What each construct makes of its operands, where no rule is broken, and where it stops else (C99 6.5).
use Rattle.std.specs.Prelude.{ℕ, ℤ, Bool, true, false, nat_lt, List, [], ◌∷◌, Option, Some, None, if◌then◌else◌}
use Rattle.cc_base.specs.declared.place.Place.{Place}
use Rattle.cc_base.specs.declared.number.NodeId.{NodeId}
use Rattle.cc_base.specs.declared.number.TypeId.{TypeId}
use Rattle.cc_base.specs.declared.fault.Fault.TheVariants.{TooLarge}
use Rattle.cc_base.specs.declared.fault.Limit.TheVariants.{Types}
use Rattle.c_lexer.specs.declared.number.IntegerType.{IntegerType as ConstantType}
use Rattle.c_types.specs.declared.shape.TypeShape.{TypeShape}
use Rattle.c_types.specs.Table.{Table, shape_at}
use Rattle.c_types.specs.Layouts.{size_of, member_at}
use Rattle.c_tree.specs.declared.leaf.Identifier.{Identifier}
use Rattle.c_tree.specs.declared.operator.Binary.{Binary}
use Rattle.c_tree.specs.declared.operator.Binary.TheVariants as binary
use Rattle.c_tree.specs.declared.operator.Step.{Step}
use Rattle.c_tree.specs.declared.operator.Step.TheVariants as step
use Rattle.c_tree.specs.declared.operator.Unary.{Unary}
use Rattle.c_tree.specs.declared.operator.Unary.TheVariants as unary
use Rattle.c_tree.specs.declared.typed_word.Side.TheVariants as side
use Rattle.c_tree.specs.TypedTree as typed
use Rattle.c_tree.specs.TypedTree.{TypedExpr, TypedPlace, TypedTypeName}
use Rattle.c_tree.specs.TypedParts.{type_of, place_type}
use Rattle.integers.specs.Arithmetic.{IntegerType, int, long, unsigned_long}
use Rattle.c_typing.specs.Held.{held_with}
use Rattle.c_typing.specs.Integers.{promoted, left_type, right_type, result_type, constant_type, is_logical, is_order}
use Rattle.c_typing.specs.Shapes.{integer_at, pointee_at, is_pointer_shape, is_function_shape}
use Rattle.c_typing.specs.Scopes.{Scopes, place_among, members_named}
use Rattle.c_typing.specs.Conversions.{to_integer}
use Rattle.c_typing.specs.Rules.{number_of_shape, pointer_behind, Meeting, RightIsNull, LeftIsNull, BothPoint, NeverMeet, meeting, null_of}
use Rattle.c_typing.specs.Tests as tests
use Rattle.c_typing.specs.Tests.{Elaborated, AsPlace, AsValue, AsAllocation, Test, first_broken}
use Rattle.c_typing.specs.Judging.{State, Judging, pure, stop, unless, by_known, ◌>>=◌, new_node, new_pointer, integer_type, holding}
use Rattle.c_typing.specs.Operands.{Operand, Value, value, value_of}

abbrev pub int_type : TypeId
int_type = integer_type int

abbrev pub long_type : TypeId
long_type = integer_type long

abbrev pub size_type : TypeId
size_type = integer_type unsigned_long

-- a construct that begins at the place, with operands that hold these; its rules are tried first
unfoldable pub construct : (State → List Test) → Place → List ℕ → Judging Elaborated → Judging Operand
construct rules begin held made = by_known (λ s. unless (first_broken (rules s)) (do
  h ← holding begin (held_with 0 held)
  x ← made
  pure (record { part = x; place = begin; held = h })))

-- a leaf holds one value
unfoldable pub leaf : Place → Judging Elaborated → Judging Operand
leaf at made = do
  x ← made
  pure (record { part = x; place = at; held = 1 })

-- Constants

unfoldable pub integer : ConstantType → ℕ → Place → Judging Operand
integer of value at = leaf at (pure (AsValue (typed.Integer of value at (integer_type (constant_type of)))))

unfoldable pub character : ℤ → Place → Judging Operand
character value at = leaf at (pure (AsValue (typed.Character value at int_type)))

-- Parentheses

abbrev pub in_parens : Place → Elaborated → Elaborated
in_parens at (AsPlace p) = AsPlace (typed.ParenPlace at p)
in_parens at (AsValue e) = AsValue (typed.Paren at e)
in_parens at (AsAllocation e) = AsAllocation (typed.Paren at e)

unfoldable pub paren : Place → Operand → Judging Operand
paren at x = construct (λ s. []) at (x.held ∷ []) (pure (in_parens at x.part))

-- Operators of one operand

-- `*e` of a pointer to t
abbrev pub pointed_place : Place → TypedExpr → TypeId → (function : Bool) → Elaborated
pointed_place at e t true = AsValue (typed.FunctionAt at e)
pointed_place at e t false = AsPlace (typed.Target at e t)

abbrev pub pointed : Table → Place → TypedExpr → Option TypeId → Elaborated
pointed T at e None = AsValue e
pointed T at e (Some t) = pointed_place at e t (is_function_shape (shape_at T t))

unfoldable pub target_of : Place → Value → Judging Operand
target_of at v = construct (λ s. tests.target_tests s.table s.seen.scopes at (AsValue v.expr)) at (v.held ∷ [])
    (by_known (λ s. pure (pointed s.table at v.expr (pointee_at s.table (type_of v.expr)))))

unfoldable pub target : Place → Operand → Judging Operand
target at x = value x >>= target_of at

unfoldable pub address_behind : Place → TypedPlace → Option TypedExpr → Judging Elaborated
address_behind at p (Some e) = pure (AsValue (typed.AddressOfElement at p (type_of e)))
address_behind at p None = do
  made ← new_pointer at (place_type p)
  pure (AsValue (typed.AddressOf at p made.node made.type))

unfoldable pub address_of_part : Place → Elaborated → Judging Elaborated
address_of_part at (AsPlace p) = address_behind at p (pointer_behind p)
address_of_part at (AsValue e) = pure (AsValue (typed.AddressOfFunction at e))
address_of_part at (AsAllocation e) = stop (TooLarge at Types)

unfoldable pub address : Place → Operand → Judging Operand
address at x = construct (λ s. tests.address_tests at x.part) at (x.held ∷ []) (address_of_part at x.part)

abbrev pub promoted_operand : Unary → Place → TypedExpr → Option IntegerType → TypedExpr
promoted_operand operator at e (Some k) = typed.Prefix operator at (to_integer at (integer_type (promoted k)) e) (integer_type (promoted k))
promoted_operand operator at e None = typed.Prefix operator at e int_type

abbrev pub is_arithmetic_prefix : Unary → Bool
is_arithmetic_prefix unary.Plus = true
is_arithmetic_prefix unary.Minus = true
is_arithmetic_prefix unary.Complement = true
is_arithmetic_prefix unary.Not = true
is_arithmetic_prefix operator = false

-- `+`, `-` and `~`, and `!`
abbrev pub operator_on : Table → Unary → Place → TypedExpr → TypedExpr
operator_on T unary.Not at e = typed.Prefix unary.Not at e int_type
operator_on T operator at e = promoted_operand operator at e (integer_at T (type_of e))

unfoldable pub prefix_of : Unary → Place → Value → Judging Operand
prefix_of operator at v = construct (λ s. tests.prefix_tests s.table s.seen.scopes operator at (AsValue v.expr)) at (v.held ∷ [])
    (by_known (λ s. pure (AsValue (operator_on s.table operator at v.expr))))

unfoldable pub size_of_part : Place → Place → Elaborated → Judging Elaborated
size_of_part at begin (AsPlace p) = by_known (λ s. pure (AsValue (typed.SizeOfPlace at p (size_of s.table (place_type p)) size_type)))
size_of_part at begin x = do
  e ← value_of begin x
  by_known (λ s. pure (AsValue (typed.SizeOfValue at e (size_of s.table (type_of e)) size_type)))

unfoldable pub size : Place → Operand → Judging Operand
size at x = construct (λ s. tests.size_tests s.table s.seen.scopes at x.part) at (x.held ∷ []) (size_of_part at x.place x.part)

unfoldable pub step_part : (TypedPlace → TypedExpr) → Place → Elaborated → Judging Elaborated
step_part made at (AsPlace p) = pure (AsValue (made p))
step_part made at x = stop (TooLarge at Types)

unfoldable pub step_before : Step → Place → Operand → Judging Operand
step_before operator at x = construct (λ s. tests.step_tests s.table s.seen.scopes at x.part) at (x.held ∷ [])
    (step_part (λ p. typed.StepBefore operator at p) at x.part)

unfoldable pub step_after : Step → Place → Operand → Judging Operand
step_after operator at x = construct (λ s. tests.step_tests s.table s.seen.scopes at x.part) x.place (x.held ∷ [])
    (step_part (λ p. typed.StepAfter p operator at) at x.part)

unfoldable pub prefix : Unary → Place → Operand → Judging Operand
prefix unary.Increment at x = step_before step.Increment at x
prefix unary.Decrement at x = step_before step.Decrement at x
prefix unary.AddressOf at x = address at x
prefix unary.Dereference at x = target at x
prefix unary.Plus at x = value x >>= prefix_of unary.Plus at
prefix unary.Minus at x = value x >>= prefix_of unary.Minus at
prefix unary.Complement at x = value x >>= prefix_of unary.Complement at
prefix unary.Not at x = value x >>= prefix_of unary.Not at
prefix unary.SizeOf at x = size at x

-- Operators of two operands

abbrev pub element : TypedExpr → Place → TypedExpr → Option TypeId → Option TypeId → Elaborated
element a at b (Some t) y = AsPlace (typed.Element side.Left a at b t)
element a at b None (Some t) = AsPlace (typed.Element side.Right a at b t)
element a at b None None = AsValue a

unfoldable pub index : Value → Place → Value → Judging Operand
index a at b = construct (λ s. tests.index_tests s.table s.seen.scopes at (AsValue a.expr) (AsValue b.expr)) a.place (a.held ∷ b.held ∷ [])
    (by_known (λ s. pure (element a.expr at b.expr (pointee_at s.table (type_of a.expr)) (pointee_at s.table (type_of b.expr)))))

-- of two integers
abbrev pub arithmetic : Binary → TypedExpr → Place → TypedExpr → IntegerType → IntegerType → TypedExpr
arithmetic operator a at b j k = typed.Arithmetic operator
    (to_integer at (integer_type (left_type operator j k)) a) at (to_integer at (integer_type (right_type operator j k)) b)
    (integer_type (result_type operator j k))

abbrev pub equated : Meeting → Binary → TypedExpr → Place → TypedExpr → TypedExpr
equated (RightIsNull t) operator a at b = typed.Compared operator a at (null_of at (type_of a) b) int_type
equated (LeftIsNull t) operator a at b = typed.Compared operator (null_of at (type_of b) a) at b int_type
equated (BothPoint t) operator a at b = typed.Compared operator a at b int_type
equated NeverMeet operator a at b = typed.Compared operator a at b int_type

abbrev pub compared : Table → Binary → TypedExpr → Place → TypedExpr → TypedExpr
compared T operator a at b = if is_order operator then typed.Compared operator a at b int_type else equated (meeting T a b) operator a at b

-- of two, not both integers, of which one is moved by the other or subtracted from it, or that are compared; by whether they are pointers
abbrev pub pointers : Table → Binary → TypedExpr → Place → TypedExpr → Bool → Bool → TypedExpr
pointers T binary.Add a at b true y = typed.Moved binary.Add side.Left a at b (type_of a)
pointers T binary.Add a at b false y = typed.Moved binary.Add side.Right a at b (type_of b)
pointers T binary.Subtract a at b x true = typed.Difference a at b long_type
pointers T binary.Subtract a at b x false = typed.Moved binary.Subtract side.Left a at b (type_of a)
pointers T operator a at b x y = compared T operator a at b

abbrev pub by_kinds : Table → Binary → TypedExpr → Place → TypedExpr → Option IntegerType → Option IntegerType → Bool → Bool → TypedExpr
by_kinds T operator a at b (Some j) (Some k) x y = arithmetic operator a at b j k
by_kinds T operator a at b j k x y = pointers T operator a at b x y

abbrev pub operation : Table → Binary → TypedExpr → Place → TypedExpr → TypedExpr
operation T operator a at b =
    if is_logical operator then typed.Logical operator a at b int_type
    else by_kinds T operator a at b (integer_at T (type_of a)) (integer_at T (type_of b))
    (is_pointer_shape (shape_at T (type_of a))) (is_pointer_shape (shape_at T (type_of b)))

unfoldable pub infix_of : Binary → Value → Place → Value → Judging Operand
infix_of operator a at b =
    construct (λ s. tests.infix_tests s.table s.seen.scopes operator at a.place (AsValue a.expr) (AsValue b.expr)) a.place (a.held ∷ b.held ∷ [])
    (by_known (λ s. pure (AsValue (operation s.table operator a.expr at b.expr))))

-- Members

unfoldable pub numbered : Place → Option ℕ → Judging ℕ
numbered at None = stop (TooLarge at Types)
numbered at (Some i) = if nat_lt i 4294967296 then pure i else stop (TooLarge at Types)

abbrev pub named_member : Scopes → TypeShape → List ℕ → Option ℕ
named_member s x name = among (number_of_shape x)
  where
    among : Option ℕ → Option ℕ
    among None = None
    among (Some number) = place_among (members_named s number) name

-- the number of the member, and a node for its place
pub record Found : Type 0 where
  pub member : ℕ
  pub node : NodeId

unfoldable pub found : Place → TypeShape → Identifier → Judging Found
found begin x name = do
  i ← by_known (λ s. numbered begin (named_member s.seen.scopes x name.bytes))
  n ← new_node begin
  pure (record { member = i; node = n })

unfoldable pub member_of : Place → Place → Identifier → Elaborated → Judging Elaborated
member_of begin at name (AsPlace p) = do
  i ← by_known (λ s. found begin (shape_at s.table (place_type p)) name)
  by_known (λ s. pure (AsPlace (typed.Member p at name i.member i.node (member_at s.table (place_type p) i.member))))
member_of begin at name x = stop (TooLarge begin Types)

unfoldable pub member : Operand → Place → Identifier → Judging Operand
member x at name = construct (λ s. tests.member_tests s.seen.scopes (tests.shape_of s.table x.part) at name.bytes name.place) x.place (x.held ∷ [])
    (member_of x.place at name x.part)

unfoldable pub member_at_pointer : Place → Place → Identifier → TypedExpr → Option TypeId → Judging Elaborated
member_at_pointer begin at name e (Some t) = do
  i ← by_known (λ s. found begin (shape_at s.table t) name)
  by_known (λ s. pure (AsPlace (typed.MemberAt e at name i.member i.node (member_at s.table t i.member))))
member_at_pointer begin at name e None = stop (TooLarge begin Types)

unfoldable pub pointed_member : Value → Place → Identifier → Judging Operand
pointed_member v at name =
    construct (λ s. tests.member_tests s.seen.scopes (tests.pointed_shape s.table (shape_at s.table (type_of v.expr))) at name.bytes name.place)
    v.place (v.held ∷ [])
    (by_known (λ s. member_at_pointer v.place at name v.expr (pointee_at s.table (type_of v.expr))))
