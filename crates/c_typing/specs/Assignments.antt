-- What assignments, choices, casts, calls and names make, where no rule is broken, and where they stop else (C99 6.5).
use Rattle.std.specs.Prelude.{ℕ, ◌+◌, Bool, true, false, ◌&&◌, nat_lt, nat_le, List, [], ◌∷◌, map, fold, length, max, Option, Some, None, if◌then◌else◌}
use Rattle.cc_base.specs.declared.place.Place.{Place}
use Rattle.cc_base.specs.declared.number.TypeId.{TypeId}
use Rattle.cc_base.specs.declared.fault.Fault.TheVariants.{TooLarge}
use Rattle.cc_base.specs.declared.fault.Limit.TheVariants.{Types, Globals}
use Rattle.c_types.specs.declared.shape.TypeShape.{TypeShape}
use Rattle.c_types.specs.declared.shape.TypeShape.TheVariants as shape
use Rattle.c_types.specs.Table.{Table, shape_at, entry_at, is_complete}
use Rattle.c_types.specs.Layouts.{size_of}
use Rattle.c_tree.specs.Literals.{pieces_bytes}
use Rattle.c_tree.specs.declared.leaf.Identifier.{Identifier}
use Rattle.c_tree.specs.declared.leaf.StringPiece.{StringPiece}
use Rattle.c_tree.specs.declared.operator.Assignment.{Assignment}
use Rattle.c_tree.specs.declared.operator.Assignment.TheVariants as assignment
use Rattle.c_tree.specs.declared.typed_word.Conversion.{Conversion}
use Rattle.c_tree.specs.declared.typed_word.Conversion.TheVariants as conversion
use Rattle.c_tree.specs.declared.typed_word.Runtime.{Runtime}
use Rattle.c_tree.specs.Places.{pieces_place}
use Rattle.c_tree.specs.TypedTree as typed
use Rattle.c_tree.specs.TypedTree.{TypedExpr, TypedPlace, TypedArguments, TypedTypeName}
use Rattle.c_tree.specs.TypedParts.{Made, Literal, type_of, place_type, named_type}
use Rattle.runtime_calls.specs.declared.function.RuntimeType.{RuntimeType}
use Rattle.runtime_calls.specs.declared.function.RuntimeType.TheVariants as prototype
use Rattle.runtime_calls.specs.Prototypes.{prototype_of, runtime_of}
use Rattle.integers.specs.Arithmetic.{IntegerType}
use Rattle.c_typing.specs.declared.declared.Declared.{Declared}
use Rattle.c_typing.specs.declared.declared.Declared.TheVariants as declared
use Rattle.c_typing.specs.Integers.{char, common, left_type, right_type, assigning}
use Rattle.c_typing.specs.Shapes.{is_void_shape, integer_at}
use Rattle.c_typing.specs.Scopes.{name_in, place_among}
use Rattle.c_typing.specs.Conversions.{to_integer, implicit, converting, cast_conversion}
use Rattle.c_typing.specs.Rules.{meeting, meeting_type, into_choice, runtime_named}
use Rattle.c_typing.specs.Tests as tests
use Rattle.c_typing.specs.Tests.{Elaborated, AsPlace, AsValue, AsAllocation}
use Rattle.c_typing.specs.Refusals.{type_size_tests}
use Rattle.c_typing.specs.Judging.{Judging, Gives, Stops, pure, stop, by_known, ◌>>=◌, new_node, new_pointer, type_with, void_type, integer_type}
use Rattle.c_typing.specs.Operands.{Operand, Value, value, side_of, given, argument_of}
use Rattle.c_typing.specs.Cells.{count_cells}
use Rattle.c_typing.specs.Operations.{construct, leaf, int_type, size_type, numbered}

-- Assignments (C99 6.5.16)

-- the value, converted to the type at the place, without being told
abbrev pub converted_by : Option Conversion → Place → TypeId → TypedExpr → TypedExpr
converted_by None at t e = e
converted_by (Some which) at t e = converting which at t e

abbrev pub converted_to : Table → Place → TypeId → TypedExpr → TypedExpr
converted_to T at t e = converted_by (implicit T e t) at t e

abbrev pub assigned : Table → Place → TypedPlace → Elaborated → Elaborated
assigned T at p (AsPlace q) = AsPlace (typed.StructAssign p at q)
assigned T at p (AsValue e) = AsValue (typed.Assign p at (converted_to T at (place_type p) e))
assigned T at p (AsAllocation e) = AsValue (typed.Assign p at e)

-- the pointers that a struct of the type holds are moved, and counted
abbrev pub moved : Place → TypeId → Elaborated → Judging TypeId
moved at t (AsPlace q) = count_cells at t
moved at t y = pure t

unfoldable pub assign_part : Place → Elaborated → Elaborated → Judging Elaborated
assign_part at (AsPlace p) y = do
  t ← moved at (place_type p) y
  by_known (λ s. pure (assigned s.table at p y))
assign_part at x y = stop (TooLarge at Types)

abbrev pub part_type : Elaborated → TypeId
part_type (AsPlace p) = place_type p
part_type (AsValue e) = type_of e
part_type (AsAllocation e) = void_type

-- of what was given to the left side
unfoldable pub assign_given : Operand → Place → Operand → Judging Operand
assign_given x at y = construct (λ s. tests.assign_tests s.table s.seen.scopes assignment.Assign at x.part y.part) x.place (x.held ∷ y.held ∷ []) (assign_part at x.part y.part)

unfoldable pub assign : Operand → Place → Operand → Judging Operand
assign x at y = do
  v ← given (part_type x.part) y.place y.part
  assign_given x at (record y { part = v })

-- of two integers, or of a pointer that an integer moves
abbrev pub updated : Assignment → Place → TypedPlace → TypedExpr → Option IntegerType → Option IntegerType → TypedExpr
updated operator at p e (Some j) (Some k) = typed.AssignWith operator p at
    (to_integer at (integer_type (right_type (assigning operator) j k)) e) (integer_type (left_type (assigning operator) j k))
updated operator at p e j k = typed.AssignWith operator p at e (place_type p)

unfoldable pub update_part : Assignment → Place → Elaborated → TypedExpr → Judging Elaborated
update_part operator at (AsPlace p) e = by_known (λ s. pure (AsValue (updated operator at p e (integer_at s.table (place_type p)) (integer_at s.table (type_of e)))))
update_part operator at x e = stop (TooLarge at Types)

unfoldable pub update_by : Assignment → Operand → Place → Value → Judging Operand
update_by operator x at v = construct (λ s. tests.assign_tests s.table s.seen.scopes operator at x.part (AsValue v.expr)) x.place (x.held ∷ v.held ∷ [])
    (update_part operator at x.part v.expr)

-- `?:` (C99 6.5.15)

unfoldable pub pointer_choice : TypedExpr → Place → Place → TypedExpr → TypedExpr → Option TypeId → Judging Elaborated
pointer_choice c begin at a b None = stop (TooLarge begin Types)
pointer_choice c begin at a b (Some to) = do
  made ← new_pointer begin to
  by_known (λ s. pure (AsValue (typed.PointerConditional c at (into_choice s.table at made.type a) (into_choice s.table at made.type b) made.node made.type)))

unfoldable pub choice_of_pointers : TypedExpr → Place → Place → TypedExpr → TypedExpr → (void : Bool) → Judging Elaborated
choice_of_pointers c begin at a b true = pure (AsValue (typed.Conditional c at a b void_type))
choice_of_pointers c begin at a b false = by_known (λ s. pointer_choice c begin at a b (meeting_type (meeting s.table a b)))

unfoldable pub choice_of_values : TypedExpr → Place → Place → TypedExpr → TypedExpr → Option IntegerType → Option IntegerType → Judging Elaborated
choice_of_values c begin at a b (Some j) (Some k) = pure (AsValue (typed.Conditional c at
    (to_integer at (integer_type (common j k)) a) (to_integer at (integer_type (common j k)) b) (integer_type (common j k))))
choice_of_values c begin at a b j k =
    by_known (λ s. choice_of_pointers c begin at a b (is_void_shape (shape_at s.table (type_of a)) && is_void_shape (shape_at s.table (type_of b))))

unfoldable pub choice_of_parts : TypedExpr → Place → Place → Elaborated → Elaborated → Judging Elaborated
choice_of_parts c begin at (AsPlace p) (AsPlace q) = pure (AsPlace (typed.StructConditional c at p q))
choice_of_parts c begin at (AsValue a) (AsValue b) =
    by_known (λ s. choice_of_values c begin at a b (integer_at s.table (type_of a)) (integer_at s.table (type_of b)))
choice_of_parts c begin at x y = stop (TooLarge begin Types)

unfoldable pub choice : Value → Place → Value → Value → Judging Operand
choice c at a b =
    construct (λ s. tests.choice_tests s.table at (AsValue c.expr) (side_of a.expr) (side_of b.expr)) c.place (c.held ∷ a.held ∷ b.held ∷ [])
    (choice_of_parts c.expr c.place at (side_of a.expr) (side_of b.expr))

-- `,` (C99 6.5.17)

abbrev pub comma_part : TypedExpr → Elaborated → Elaborated
comma_part a (AsPlace p) = AsPlace (typed.StructComma a p)
comma_part a (AsValue b) = AsValue (typed.Comma a b)
comma_part a (AsAllocation b) = AsValue (typed.Comma a b)

unfoldable pub comma : Value → Value → Judging Operand
comma a b = construct (λ s. []) a.place (a.held ∷ b.held ∷ []) (pure (comma_part a.expr (side_of b.expr)))

-- Casts (C99 6.5.4)

abbrev pub part_expr : Elaborated → TypedExpr
part_expr (AsPlace p) = typed.Unread p
part_expr (AsValue e) = e
part_expr (AsAllocation e) = e

abbrev pub is_allocation_part : Elaborated → Bool
is_allocation_part (AsAllocation e) = true
is_allocation_part x = false

abbrev pub conversion_or_void : Option Conversion → Conversion
conversion_or_void None = conversion.ToVoid
conversion_or_void (Some which) = which

-- `allocation` says that the type takes an allocation over, `void` that it is `void`
abbrev pub cast_by : Table → (allocation : Bool) → TypedExpr → TypeId → (void : Bool) → Conversion
cast_by T allocation e t true = conversion.ToVoid
cast_by T true e t false = conversion.AllocationToPointer
cast_by T false e t false = conversion_or_void (cast_conversion T e t)

abbrev pub cast_part : Table → Place → TypedTypeName → Elaborated → TypedExpr
cast_part T at to x = typed.Cast (cast_by T (is_allocation_part x) (part_expr x) (named_type to) (is_void_shape (shape_at T (named_type to)))) at to (part_expr x)

-- of what was given to the type
unfoldable pub cast_given : Place → TypedTypeName → Operand → Judging Operand
cast_given at to x = construct (λ s. tests.cast_tests s.table at x.part (named_type to)) at (x.held ∷ []) (by_known (λ s. pure (AsValue (cast_part s.table at to x.part))))

unfoldable pub cast : Place → TypedTypeName → Operand → Judging Operand
cast at to x = do
  v ← given (named_type to) x.place x.part
  cast_given at to (record x { part = v })

unfoldable pub size_of_type : Place → Place → TypedTypeName → Judging Operand
size_of_type at paren name = construct (λ s. type_size_tests s.table s.seen.scopes at (named_type name)) at []
    (by_known (λ s. pure (AsValue (typed.SizeOfType at paren name (size_of s.table (named_type name)) size_type))))

-- Calls (C99 6.5.2.2)

abbrev pub arguments_as : List TypedExpr → TypedArguments
arguments_as es = fold typed.AndArgument typed.NoArgument es

-- each argument, converted to its parameter's type at its first token
abbrev pub converted_arguments : Table → List TypeId → List Value → List TypedExpr
converted_arguments T [] values = []
converted_arguments T (t ∷ ts) [] = []
converted_arguments T (t ∷ ts) (v ∷ values) = converted_to T v.place t v.expr ∷ converted_arguments T ts values

-- what a runtime function takes; what `free` is given stays as it is
abbrev pub runtime_argument : Table → RuntimeType → Value → TypedExpr
runtime_argument T prototype.Int v = converted_to T v.place int_type v.expr
runtime_argument T prototype.UnsignedLong v = converted_to T v.place size_type v.expr
runtime_argument T other v = v.expr

abbrev pub runtime_arguments : Table → List RuntimeType → List Value → List TypedExpr
runtime_arguments T [] values = []
runtime_arguments T (t ∷ ts) [] = []
runtime_arguments T (t ∷ ts) (v ∷ values) = runtime_argument T t v ∷ runtime_arguments T ts values

abbrev pub runtime_call : Runtime → TypedExpr → Place → TypedArguments → RuntimeType → Elaborated
runtime_call function f at arguments prototype.Int = AsValue (typed.CallRuntime function f at arguments int_type)
runtime_call function f at arguments prototype.VoidPointer = AsAllocation (typed.AllocateFor function f at arguments void_type)
runtime_call function f at arguments other = AsValue (typed.CallRuntime function f at arguments void_type)

abbrev pub called_shape : Table → TypedExpr → Place → List Value → TypeShape → Elaborated
called_shape T f at values (shape.Function parameters result) = AsValue (typed.Call f at (arguments_as (converted_arguments T parameters values)) result)
called_shape T f at values x = AsValue f

abbrev pub called : Table → TypedExpr → Place → List Value → Option Runtime → Elaborated
called T f at values None = called_shape T f at values (tests.pointed_shape T (shape_at T (type_of f)))
called T f at values (Some function) =
    runtime_call function f at (arguments_as (runtime_arguments T (prototype_of function).parameters values)) (prototype_of function).result

-- how many values arguments hold while the function and those before them are held, of which the first is the number i
abbrev pub arguments_held : ℕ → List Value → ℕ
arguments_held i [] = i + 1
arguments_held i (v ∷ vs) = max (i + v.held) (arguments_held (i + 1) vs)

unfoldable pub call : Value → Place → List Value → Judging Operand
call f at values = construct (λ s. tests.call_tests s.table at (AsValue f.expr) (map argument_of values)) f.place (max f.held (arguments_held 1 values) ∷ [])
    (by_known (λ s. pure (called s.table f.expr at values (runtime_named f.expr))))

-- Names (C99 6.5.1)

unfoldable pub function_name : Identifier → TypeId → Judging Elaborated
function_name name function = do
  number ← by_known (λ s. numbered name.place (place_among s.seen.scopes.defined name.bytes))
  made ← new_pointer name.place function
  pure (AsValue (typed.FunctionName name number made.node made.type))

unfoldable pub named_as : Identifier → Option Runtime → Option Declared → Judging Elaborated
named_as name runtime (Some (declared.Object t home)) = pure (AsPlace (typed.Variable name home t))
named_as name runtime (Some (declared.Enumerator value)) = pure (AsValue (typed.Enumerator name value int_type))
named_as name runtime (Some (declared.Typedef t)) = stop (TooLarge name.place Types)
named_as name (Some function) other = pure (AsValue (typed.RuntimeName name function void_type))
named_as name None (Some (declared.Function t)) = function_name name t
named_as name None None = stop (TooLarge name.place Types)

-- `at_call` says that the name is called
unfoldable pub name : (at_call : Bool) → Identifier → Judging Operand
name at_call word = construct (λ s. tests.name_tests s.seen.scopes (tests.has_some (runtime_of word.bytes)) at_call word.bytes word.place) word.place []
    (by_known (λ s. named_as word (runtime_of word.bytes) (name_in s.seen.scopes.levels word.bytes)))

-- String literals (C99 6.4.5)

-- the bytes of a static object are counted, and 16 more
unfoldable pub count_global : Place → ℕ → Judging ℕ
count_global at bytes = λ s. if nat_le (s.seen.globals + (bytes + 16)) 4194304
    then Gives bytes (record s { seen = record s.seen { globals = s.seen.globals + (bytes + 16) } })
    else Stops (TooLarge at Globals) s

-- how many bytes a literal has, the zero byte at its end among them
abbrev pub literal_size : List StringPiece → ℕ
literal_size pieces = length (pieces_bytes pieces) + 1

-- the type of a literal of so many bytes; every table has `char`
abbrev pub is_char_array : Table → ℕ → Bool
is_char_array T count = nat_lt 1 (length T) && (is_complete (entry_at T (integer_type char)) && nat_lt 0 count)

unfoldable pub string_type : Place → ℕ → Judging TypeId
string_type at count = λ s. if is_char_array s.table count then type_with at (shape.Array (integer_type char) count) s else Stops (TooLarge at Types) s

unfoldable pub literal : List StringPiece → Judging Operand
literal pieces = leaf (pieces_place pieces) (do
  n ← new_node (pieces_place pieces)
  t ← string_type (pieces_place pieces) (literal_size pieces)
  bytes ← count_global (pieces_place pieces) (literal_size pieces)
  pure (AsPlace (typed.String pieces n t)))

-- the bytes of a literal are counted, and 16 more
abbrev pub literal_cost : Made → ℕ
literal_cost (Literal pieces home t) = literal_size pieces + 16
literal_cost made = 0
