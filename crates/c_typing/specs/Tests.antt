-- The rules that a construct can break, in the order in which they are tried: each with its place and the test that says whether it is
-- broken. The parts of the construct are well typed.
use Rattle.std.specs.Prelude.{ℕ, ℤ, pos, int_lt, ◌==◌, Bool, true, false, not, ◌&&◌, ◌||◌, List, [], ◌∷◌, ◌++◌, length, Option, None, Some, codes, bytes_eq, if◌then◌else◌}
use Rattle.cc_base.specs.declared.place.Place.{Place}
use Rattle.cc_base.specs.declared.number.TypeId.{TypeId}
use Rattle.cc_base.specs.declared.fault.Rule.{Rule}
use Rattle.cc_base.specs.declared.fault.Rule.TheVariants as rule
use Rattle.cc_base.specs.declared.fault.Fault.{Fault}
use Rattle.cc_base.specs.declared.fault.Fault.TheVariants.{Refused}
use Rattle.c_types.specs.declared.shape.TypeShape.{TypeShape}
use Rattle.c_types.specs.declared.shape.TypeShape.TheVariants.{Void, Integer, Pointer, Array, Function}
use Rattle.c_types.specs.Table.{Table, shape_at, is_aggregate_shape, is_empty}
use Rattle.c_types.specs.Equality.{same_bool}
use Rattle.c_types.specs.Sameness.{is_same_type}
use Rattle.c_tree.specs.Arithmetic.{operator_of}
use Rattle.c_tree.specs.declared.operator.Assignment.{Assignment}
use Rattle.c_tree.specs.declared.operator.Assignment.TheVariants as assignment
use Rattle.c_tree.specs.declared.operator.Binary.{Binary}
use Rattle.c_tree.specs.declared.operator.Binary.TheVariants as binary
use Rattle.c_tree.specs.declared.operator.Unary.{Unary}
use Rattle.c_tree.specs.declared.operator.Unary.TheVariants as unary
use Rattle.c_tree.specs.TypedTree.{TypedExpr, TypedPlace}
use Rattle.c_tree.specs.TypedParts.{type_of, place_type}
use Rattle.c_tree.specs.declared.typed_word.Runtime.{Runtime}
use Rattle.runtime_calls.specs.declared.function.RuntimeType.{RuntimeType}
use Rattle.runtime_calls.specs.declared.function.RuntimeType.TheVariants as prototype
use Rattle.runtime_calls.specs.Prototypes.{prototype_of, runtime_of}
use Rattle.c_typing.specs.declared.declared.Declared.{Declared}
use Rattle.c_typing.specs.declared.declared.Declared.TheVariants as declared
use Rattle.c_typing.specs.declared.declared.Tag.{Tag}
use Rattle.c_typing.specs.declared.declared.Tag.TheVariants as tag
use Rattle.c_tree.specs.declared.operator.AggregateKind.{AggregateKind}
use Rattle.c_tree.specs.declared.operator.AggregateKind.TheVariants as kind
use Rattle.c_typing.specs.Declarators.{Counted, are_allowed, Outermost, Written, is_pointed, first_word_place, is_result_shape}
use Rattle.c_tree.specs.declared.leaf.Word.{Word}
use Rattle.integers.specs.Arithmetic.{IntegerType, converted}
use Rattle.c_typing.specs.Shapes.{is_data, is_integer_shape, is_pointer_shape, is_scalar_shape, is_void_shape, is_function_shape, integer_at}
use Rattle.c_typing.specs.Integers.{is_order, is_equality, is_logical, assigning, left_type, right_type}
use Rattle.c_typing.specs.Scopes.{Name, Scopes, name_in, tag_in, here, tag_here, place_among, members_named, is_complete_at}
use Rattle.c_typing.specs.Constants.{constant_value, is_null_constant, cannot_divide}
use Rattle.c_typing.specs.Conversions.{is_taken_as, implicit_between, cast_between}
use Rattle.c_typing.specs.Rules.{is_lvalue, is_designator, is_compound, number_of_shape, runtime_named}

-- A rule, the place where it is named, and whether it is broken.
pub record Test : Type 0 where
  pub rule : Rule
  pub place : Place
  pub broken : Bool

abbrev pub broken_at : Rule → Place → Bool → Test
broken_at r at b = record { rule = r; place = at; broken = b }

-- the first rule that is broken
abbrev pub first_broken : List Test → Option Fault
first_broken [] = None
first_broken (t ∷ ts) = if t.broken then Some (Refused t.place t.rule) else first_broken ts

-- A part of an expression as its own rules leave it, before what is around it reads it or converts it.
pub data Elaborated : Type 0 where
  AsPlace : TypedPlace → Elaborated
  AsValue : TypedExpr → Elaborated
  -- an allocation, which is a `void *` until something takes it over
  AsAllocation : TypedExpr → Elaborated

-- the first type of each table
abbrev pub void_type : TypeId
void_type = record { 0 = 0 }

-- the shape of its value: an array is a pointer to its element; the node of that plays no part
abbrev pub decayed : TypeShape → TypeShape
decayed (Array element count) = Pointer (record { 0 = 0 }) element
decayed shape = shape

abbrev pub shape_of : Table → Elaborated → TypeShape
shape_of T (AsPlace p) = decayed (shape_at T (place_type p))
shape_of T (AsValue e) = shape_at T (type_of e)
shape_of T (AsAllocation e) = Pointer (record { 0 = 0 }) void_type

abbrev pub is_null_part : Table → Elaborated → Bool
is_null_part T (AsPlace p) = false
is_null_part T (AsValue e) = is_null_constant T e
is_null_part T (AsAllocation e) = false

abbrev pub can_be_written : Elaborated → Bool
can_be_written (AsPlace p) = is_lvalue p
can_be_written x = false

-- whether it is an array, which is no place that can be written
abbrev pub is_array_part : Table → Elaborated → Bool
is_array_part T (AsPlace p) = is_array (shape_at T (place_type p))
  where
    is_array : TypeShape → Bool
    is_array (Array element count) = true
    is_array shape = false
is_array_part T x = false

abbrev pub is_function_part : Elaborated → Bool
is_function_part (AsValue e) = is_designator e
is_function_part x = false

abbrev pub points_to_incomplete : Table → Scopes → TypeShape → Bool
points_to_incomplete T s (Pointer n t) = not (is_complete_at T s t)
points_to_incomplete T s shape = false

abbrev pub points_to_function : Table → TypeShape → Bool
points_to_function T (Pointer n t) = is_function_shape (shape_at T t)
points_to_function T shape = false

-- `void`, or a struct or union whose members are not known
abbrev pub points_to_open : Table → Scopes → TypeShape → Bool
points_to_open T s shape = points_to_incomplete T s shape && not (points_to_function T shape)

abbrev pub has_some : {A : Type 0} → Option A → Bool
has_some None = false
has_some (Some x) = true

-- Names

abbrev pub is_main : Name → Bool
is_main name = bytes_eq name (codes "main")

abbrev pub is_none : {A : Type 0} → Option A → Bool
is_none x = not (has_some x)

abbrev pub is_function_declared : Option Declared → Bool
is_function_declared (Some (declared.Function t)) = true
is_function_declared what = false

-- a name for a type, which names no value
abbrev pub is_type_declared : Option Declared → Bool
is_type_declared (Some (declared.Typedef t)) = true
is_type_declared what = false

-- a name: `runtime` says that a runtime function has it, `called` that it is called there
abbrev pub name_tests : Scopes → (runtime called : Bool) → Name → Place → List Test
name_tests s runtime called name at =
    broken_at rule.UnknownName at
    ((is_none (name_in s.levels name) && not runtime)
    || (is_type_declared (name_in s.levels name)
    || (is_function_declared (name_in s.levels name) && (not runtime && is_none (place_among s.defined name)))))
    ∷ broken_at rule.BadCall at
    ((is_function_declared (name_in s.levels name) && is_main name)
    || (runtime && (not called && (is_none (name_in s.levels name) || is_function_declared (name_in s.levels name)))))
    ∷ []

-- Operators of one operand

abbrev pub target_tests : Table → Scopes → Place → Elaborated → List Test
target_tests T s at x =
    broken_at rule.Incomplete at (points_to_open T s (shape_of T x))
    ∷ broken_at rule.Mismatch at (not (is_pointer_shape (shape_of T x)))
    ∷ []

abbrev pub address_tests : Place → Elaborated → List Test
address_tests at x = broken_at rule.NotPlace at (not (can_be_written x || is_function_part x)) ∷ []

-- the type of the operand of `sizeof`: that of a place as it is, of a function none that is complete
abbrev pub is_complete_part : Table → Scopes → Elaborated → Bool
is_complete_part T s (AsPlace p) = is_complete_at T s (place_type p)
is_complete_part T s (AsValue e) = is_complete_at T s (type_of e) && not (is_designator e)
is_complete_part T s (AsAllocation e) = true

abbrev pub size_tests : Table → Scopes → Place → Elaborated → List Test
size_tests T s at x = broken_at rule.Incomplete at (not (is_complete_part T s x)) ∷ []

abbrev pub step_tests : Table → Scopes → Place → Elaborated → List Test
step_tests T s at x =
    broken_at rule.Incomplete at (points_to_incomplete T s (shape_of T x))
    ∷ broken_at rule.Mismatch at (not (is_scalar_shape (shape_of T x)))
    ∷ broken_at rule.NotPlace at (not (can_be_written x) || is_array_part T x)
    ∷ []

abbrev pub prefix_tests : Table → Scopes → Unary → Place → Elaborated → List Test
prefix_tests T s unary.Increment at x = step_tests T s at x
prefix_tests T s unary.Decrement at x = step_tests T s at x
prefix_tests T s unary.AddressOf at x = address_tests at x
prefix_tests T s unary.Dereference at x = target_tests T s at x
prefix_tests T s unary.Plus at x = broken_at rule.Mismatch at (not (is_integer_shape (shape_of T x))) ∷ []
prefix_tests T s unary.Minus at x = broken_at rule.Mismatch at (not (is_integer_shape (shape_of T x))) ∷ []
prefix_tests T s unary.Complement at x = broken_at rule.Mismatch at (not (is_integer_shape (shape_of T x))) ∷ []
prefix_tests T s unary.Not at x = broken_at rule.Mismatch at (not (is_scalar_shape (shape_of T x))) ∷ []
prefix_tests T s unary.SizeOf at x = size_tests T s at x

-- Operators of two operands

abbrev pub is_index_pair : TypeShape → TypeShape → Bool
is_index_pair a b = (is_pointer_shape a && is_integer_shape b) || (is_integer_shape a && is_pointer_shape b)

abbrev pub index_tests : Table → Scopes → Place → Elaborated → Elaborated → List Test
index_tests T s at x y =
    broken_at rule.Incomplete at (is_index_pair (shape_of T x) (shape_of T y) && (points_to_incomplete T s (shape_of T x) || points_to_incomplete T s (shape_of T y)))
    ∷ broken_at rule.Mismatch at (not (is_index_pair (shape_of T x) (shape_of T y)))
    ∷ []

abbrev pub are_integers : TypeShape → TypeShape → Bool
are_integers a b = is_integer_shape a && is_integer_shape b

-- pointers to one type
abbrev pub point_alike : Table → TypeShape → TypeShape → Bool
point_alike T (Pointer n t) (Pointer m u) = is_same_type T t u
point_alike T a b = false

abbrev pub point_to_data : Table → TypeShape → Bool
point_to_data T (Pointer n t) = is_data T t
point_to_data T shape = false

-- which operands `+` moves and `-` moves or subtracts
abbrev pub is_moving : Table → Binary → TypeShape → TypeShape → Bool
is_moving T binary.Add a b = is_index_pair a b
is_moving T binary.Subtract a b = (is_pointer_shape a && is_integer_shape b) || point_alike T a b
is_moving T operator a b = false

-- a pointer of the one shape is taken where one of the other is wanted
abbrev pub taken_as : Table → TypeShape → TypeShape → Bool
taken_as T (Pointer n t) (Pointer m u) = is_taken_as T t u
taken_as T a b = false

-- pointers that may be compared by `==`, or meet in a `?:`
abbrev pub meet : Table → Elaborated → Elaborated → Bool
meet T x y = (is_null_part T y && is_pointer_shape (shape_of T x))
    || ((is_null_part T x && is_pointer_shape (shape_of T y)) || taken_as T (shape_of T x) (shape_of T y))

-- what an operator on two operands accepts
abbrev pub accepts : Table → Binary → Elaborated → Elaborated → Bool
accepts T operator x y =
    if is_logical operator then is_scalar_shape (shape_of T x) && is_scalar_shape (shape_of T y)
    else (are_integers (shape_of T x) (shape_of T y)
    || (is_moving T operator (shape_of T x) (shape_of T y)
    || ((is_order operator && (point_alike T (shape_of T x) (shape_of T y) && point_to_data T (shape_of T x)))
    || (is_equality operator && meet T x y))))

abbrev pub same_kind : IntegerType → IntegerType → Bool
same_kind j k = (j.bytes == k.bytes) && same_bool j.signed k.signed

-- a constant of one integer type, as one of another
abbrev pub constant_as : IntegerType → IntegerType → ℤ → ℤ
constant_as j k z = if same_kind j k then z else converted k z

-- two integers of which the first is divided by the second without a result, each converted to the type that the operator asks for
abbrev pub divides_as : Binary → Option IntegerType → Option IntegerType → Option ℤ → Option ℤ → Bool
divides_as operator (Some j) (Some k) (Some x) (Some y) =
    cannot_divide (operator_of operator) (left_type operator j k) (constant_as j (left_type operator j k) x) (constant_as k (right_type operator j k) y)
divides_as operator j k x y = false

abbrev pub divides_part : Table → Binary → Elaborated → Elaborated → Bool
divides_part T operator (AsValue a) (AsValue b) =
    divides_as operator (integer_at T (type_of a)) (integer_at T (type_of b)) (constant_value T a) (constant_value T b)
divides_part T operator x y = false

-- a division of constants is named at the first token of the expression
abbrev pub infix_tests : Table → Scopes → Binary → Place → Place → Elaborated → Elaborated → List Test
infix_tests T s operator at begin x y =
    broken_at rule.Incomplete at (is_moving T operator (shape_of T x) (shape_of T y) && (points_to_incomplete T s (shape_of T x) || points_to_incomplete T s (shape_of T y)))
    ∷ broken_at rule.Mismatch at (not (accepts T operator x y))
    ∷ broken_at rule.NotConstant begin (divides_part T operator x y)
    ∷ []

-- two structs of one type
abbrev pub are_one_struct : Table → Elaborated → Elaborated → Bool
are_one_struct T (AsPlace p) (AsPlace q) = is_aggregate_shape (shape_at T (place_type p)) && is_same_type T (place_type p) (place_type q)
are_one_struct T x y = false

abbrev pub choice_tests : Table → Place → Elaborated → Elaborated → Elaborated → List Test
choice_tests T at c x y =
    broken_at rule.Mismatch at (not (is_scalar_shape (shape_of T c)
    && (are_integers (shape_of T x) (shape_of T y)
    || ((is_void_shape (shape_of T x) && is_void_shape (shape_of T y))
    || (are_one_struct T x y || meet T x y)))))
    ∷ []

-- Assignments

-- a value becomes one of this shape without being told
abbrev pub fits : Table → Elaborated → TypeShape → Bool
fits T x to = has_some (implicit_between T (is_null_part T x) (shape_of T x) to)

abbrev pub is_assignable : Table → Assignment → Elaborated → Elaborated → Bool
is_assignable T assignment.Assign x y = fits T y (shape_of T x) || are_one_struct T x y
is_assignable T operator x y = are_integers (shape_of T x) (shape_of T y)
    || ((is_pointer_shape (shape_of T x) && is_integer_shape (shape_of T y)) && is_moving T (assigning operator) (shape_of T x) (shape_of T y))

abbrev pub assign_tests : Table → Scopes → Assignment → Place → Elaborated → Elaborated → List Test
assign_tests T s operator at x y =
    broken_at rule.Incomplete at (is_compound operator && (is_assignable T operator x y && points_to_incomplete T s (shape_of T x)))
    ∷ broken_at rule.Mismatch at (not (is_assignable T operator x y))
    ∷ broken_at rule.NotPlace at (not (can_be_written x) || is_array_part T x)
    ∷ []

-- Members

abbrev pub names_member : Scopes → Option ℕ → Name → Bool
names_member s None name = false
names_member s (Some number) name = has_some (place_among (members_named s number) name)

-- a member of what has this shape, and a struct or union that has it
abbrev pub member_tests : Scopes → TypeShape → Place → Name → Place → List Test
member_tests s shape at name name_at =
    broken_at rule.UnknownName name_at (is_aggregate_shape shape && not (names_member s (number_of_shape shape) name))
    ∷ broken_at rule.Mismatch at (not (is_aggregate_shape shape))
    ∷ []

-- the shape of what is before a `.`, and of what a pointer before a `->` points to
abbrev pub pointed_shape : Table → TypeShape → TypeShape
pointed_shape T (Pointer n t) = shape_at T t
pointed_shape T shape = Void

-- Casts

-- to a type of this shape
abbrev pub is_castable : Table → Elaborated → TypeShape → Bool
is_castable T x to = is_void_shape to || has_some (cast_between (is_null_part T x) (shape_of T x) to)

abbrev pub cast_tests : Table → Place → Elaborated → TypeId → List Test
cast_tests T at x t = broken_at rule.Mismatch at (not (is_castable T x (shape_at T t))) ∷ []

-- Calls

-- An argument, and the place of its first token.
pub record Argument : Type 0 where
  pub part : Elaborated
  pub place : Place

-- each argument fits its parameter; the pairs that exist are tried
abbrev pub argument_tests : Table → List TypeId → List Argument → List Test
argument_tests T [] arguments = []
argument_tests T (t ∷ ts) [] = []
argument_tests T (t ∷ ts) (a ∷ arguments) = broken_at rule.Mismatch a.place (not (fits T a.part (shape_at T t))) ∷ argument_tests T ts arguments

abbrev pub call_tests_of : Table → TypeShape → Place → List Argument → List Test
call_tests_of T (Function parameters result) at arguments =
    argument_tests T parameters arguments ++ broken_at rule.BadCall at (not (length parameters == length arguments)) ∷ []
call_tests_of T shape at arguments = broken_at rule.BadCall at true ∷ []

-- what a runtime function takes: `free` any pointer to data, or a null constant
abbrev pub is_taken_by : Table → RuntimeType → Elaborated → Bool
is_taken_by T prototype.Void x = false
is_taken_by T prototype.Int x = fits T x (Integer 4 true)
is_taken_by T prototype.UnsignedLong x = fits T x (Integer 8 false)
is_taken_by T prototype.VoidPointer x = point_to_data T (shape_of T x) || is_null_part T x

abbrev pub runtime_argument_tests : Table → List RuntimeType → List Argument → List Test
runtime_argument_tests T [] arguments = []
runtime_argument_tests T (t ∷ ts) [] = []
runtime_argument_tests T (t ∷ ts) (a ∷ arguments) = broken_at rule.Mismatch a.place (not (is_taken_by T t a.part)) ∷ runtime_argument_tests T ts arguments

abbrev pub runtime_tests : Table → List RuntimeType → Place → List Argument → List Test
runtime_tests T parameters at arguments =
    runtime_argument_tests T parameters arguments ++ broken_at rule.BadCall at (not (length parameters == length arguments)) ∷ []

-- a call through a value, or of a runtime function
abbrev pub call_tests_by : Option Runtime → Table → Place → TypeShape → List Argument → List Test
call_tests_by None T at shape arguments = call_tests_of T (pointed_shape T shape) at arguments
call_tests_by (Some function) T at shape arguments = runtime_tests T (prototype_of function).parameters at arguments

abbrev pub runtime_part : Elaborated → Option Runtime
runtime_part (AsValue e) = runtime_named e
runtime_part x = None

abbrev pub call_tests : Table → Place → Elaborated → List Argument → List Test
call_tests T at f arguments = call_tests_by (runtime_part f) T at (shape_of T f) arguments

-- Specifiers (C99 6.7.2)

-- a word, or a name for a type, that does not go with those before it
abbrev pub word_tests : Place → Counted → List Test
word_tests at with_it = broken_at rule.Mismatch at (not (are_allowed with_it)) ∷ []

abbrev pub is_tag_of : AggregateKind → Tag → Bool
is_tag_of kind.Struct (tag.Aggregate kind.Struct t) = true
is_tag_of kind.Union (tag.Aggregate kind.Union t) = true
is_tag_of which what = false

abbrev pub is_other_tag : (Tag → Bool) → Option Tag → Bool
is_other_tag fits None = false
is_other_tag fits (Some what) = not (fits what)

-- a tag that is declared as something else: in the same scope, or farther out
abbrev pub tag_tests : Scopes → (Tag → Bool) → Name → Place → List Test
tag_tests s is_one name at =
    broken_at rule.Redeclared at (is_other_tag is_one (tag_here s.levels name))
    ∷ broken_at rule.Mismatch at (is_other_tag is_one (tag_in s.levels name))
    ∷ []

abbrev pub is_enumeration : Tag → Bool
is_enumeration tag.Enumeration = true
is_enumeration what = false

-- no tag, or one of an enumeration whose list goes on
abbrev pub lacks_enumeration : Option Tag → Bool
lacks_enumeration None = true
lacks_enumeration (Some tag.Enumerating) = true
lacks_enumeration (Some what) = false

-- `enum E` without a list
abbrev pub enum_tests : Scopes → Name → Place → List Test
enum_tests s name at = broken_at rule.UnknownName at (lacks_enumeration (tag_in s.levels name)) ∷ tag_tests s is_enumeration name at

-- whether the innermost scope has the tag as something else, or complete
abbrev pub is_taken_tag : Table → Scopes → AggregateKind → Option Tag → Bool
is_taken_tag T s which None = false
is_taken_tag T s which (Some (tag.Aggregate k t)) = not (is_tag_of which (tag.Aggregate k t)) || is_complete_at T s t
is_taken_tag T s which (Some what) = true

-- `struct S` by itself: its tag is declared as something else in the same scope
abbrev pub alone_tests : Scopes → (Tag → Bool) → Name → Place → List Test
alone_tests s is_one name at = broken_at rule.Redeclared at (is_other_tag is_one (tag_here s.levels name)) ∷ []

-- `struct S { .. }`, after its members: `taken` says that the innermost scope has the tag as something else, or that it is complete by
-- then; `at` is the tag, or the keyword where there is none
abbrev pub aggregate_tests : (taken : Bool) → Place → (empty : Bool) → List Test
aggregate_tests taken at empty =
    broken_at rule.Redeclared at taken
    ∷ broken_at rule.Mismatch at empty
    ∷ []

-- `enum E { .. }`, after its enumerators: `taken` says that the innermost scope has the tag as something else, or complete by then
abbrev pub enumeration_tests : (taken : Bool) → Place → List Test
enumeration_tests taken at = broken_at rule.Redeclared at taken ∷ []

-- the name of a runtime function, where the innermost scope is the file's (C99 7.1.3)
abbrev pub is_reserved : Scopes → Name → Bool
is_reserved s name = (length s.levels == 1) && has_some (runtime_of name)

-- an enumerator, and its value where it has one
abbrev pub enumerator_tests : Scopes → Name → Place → List Test
enumerator_tests s name at = broken_at rule.Redeclared at (has_some (here s.levels name) || is_reserved s name) ∷ []

abbrev pub has_constant : Table → Elaborated → Bool
has_constant T (AsValue e) = has_some (constant_value T e)
has_constant T x = false

abbrev pub constant_tests : Table → Place → Elaborated → List Test
constant_tests T begin x = broken_at rule.NotConstant begin (not (has_constant T x)) ∷ []

-- the size of an array is constant and above 0
abbrev pub is_size : Option ℤ → Bool
is_size None = false
is_size (Some z) = int_lt (pos 0) z

abbrev pub has_size : Table → Elaborated → Bool
has_size T (AsValue e) = is_size (constant_value T e)
has_size T x = false

abbrev pub array_size_tests : Table → Place → Elaborated → List Test
array_size_tests T begin x = broken_at rule.NotConstant begin (not (has_size T x)) ∷ []

-- Declarators (C99 6.7.5), where they give a type

-- an array part without a size, that neither an initialiser nor a parameter gives one
abbrev pub lacks_size : Outermost → (sized : Bool) → Bool
lacks_size Written false = true
lacks_size outermost sized = false

-- an array part: without its size at its `[`, of elements of no complete type at the name, or with `static` or a qualifier at that word
abbrev pub array_tests : Table → Scopes → Outermost → (sized : Bool) → Place → List Word → TypeId → Place → List Test
array_tests T s outermost sized bracket words element at =
    broken_at rule.Incomplete bracket (lacks_size outermost sized)
    ∷ broken_at rule.Incomplete at (not (is_complete_at T s element))
    ∷ broken_at rule.Mismatch (first_word_place words bracket) (not (is_empty words) && not (is_pointed outermost))
    ∷ []

-- a function part: it gives an array, a function, or a struct or union
abbrev pub function_tests : Table → TypeId → Place → List Test
function_tests T result at = broken_at rule.Mismatch at (not (is_result_shape (shape_at T result))) ∷ []

-- a second member or parameter of its name
abbrev pub member_name_tests : (second : Bool) → Place → List Test
member_name_tests second at = broken_at rule.Redeclared at second ∷ []

abbrev pub parameter_name_tests : (second : Bool) → Place → List Test
parameter_name_tests second at = broken_at rule.Redeclared at second ∷ []

-- a member or a parameter: it is of no complete type, or a struct or union
abbrev pub member_type_tests : Table → Scopes → TypeId → Place → List Test
member_type_tests T s t at = broken_at rule.Incomplete at (not (is_complete_at T s t)) ∷ []

abbrev pub parameter_type_tests : Table → Scopes → (void : Bool) → TypeId → Place → List Test
parameter_type_tests T s void t at =
    broken_at rule.Incomplete at (not void && not (is_complete_at T s t))
    ∷ broken_at rule.Mismatch at (is_aggregate_shape (shape_at T t))
    ∷ []
