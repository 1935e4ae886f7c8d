-- Assignments, choices, casts, calls and names keep that no function type of the table has more than 127 parameters, and hold
-- no more than 256 values.
use Rattle.std.proofs.Common.{Bool, true, false, List, Option, Some, None}
use Rattle.cc_base.specs.declared.number.TypeId.{TypeId}
use Rattle.cc_base.specs.declared.place.Place.{Place}
use Rattle.c_tree.specs.declared.leaf.Identifier.{Identifier}
use Rattle.c_tree.specs.declared.operator.Assignment.{Assignment}
use Rattle.c_tree.specs.declared.typed_word.Runtime.{Runtime}
use Rattle.c_tree.specs.TypedTree.{TypedExpr, TypedTypeName}
use Rattle.c_tree.specs.TypedParts.{place_type, named_type}
use Rattle.integers.specs.Arithmetic.{IntegerType}
use Rattle.runtime_calls.specs.Prototypes.{runtime_of}
use Rattle.c_typing.specs.declared.declared.Declared.{Declared}
use Rattle.c_typing.specs.declared.declared.Declared.TheVariants as declared
use Rattle.c_typing.specs.Assignments as assignments
use Rattle.c_typing.specs.Assignments.{moved, assign_part, part_type, assign_given, assign, update_part, update_by, pointer_choice, choice_of_pointers, choice_of_values, choice_of_parts, choice, comma, cast_given, cast, size_of_type, call, function_name, named_as}
use Rattle.c_typing.specs.Operands.{Operand, Value}
use Rattle.c_typing.specs.Tests.{Elaborated, AsPlace, AsValue, AsAllocation}
use Rattle.c_unit_limits.proofs.Kept.{IsKept, pure-kept, stop-kept, bind-kept, known-kept}
use Rattle.c_unit_limits.proofs.KeptTypes.{new_pointer-kept, count_cells-kept}
use Rattle.c_unit_limits.proofs.KeptConstructs.{IsFit, bind-fit, construct-fit, given-kept, numbered-kept}

moved-kept : (at : Place) (t : TypeId) (y : Elaborated) → IsKept (moved at t y)
moved-kept at t (AsPlace q) = count_cells-kept at t
moved-kept at t (AsValue e) = pure-kept t
moved-kept at t (AsAllocation e) = pure-kept t

assign_part-kept : (at : Place) (x y : Elaborated) → IsKept (assign_part at x y)
unfolding assign_part
assign_part-kept at (AsPlace p) y = bind-kept (moved-kept at (place_type p) y) (λ t. known-kept (λ s. pure-kept (_)))
assign_part-kept at (AsValue e) y = stop-kept (_)
assign_part-kept at (AsAllocation e) y = stop-kept (_)

assign_given-fit : (x : Operand) (at : Place) (y : Operand) → IsFit (assign_given x at y)
unfolding assign_given
assign_given-fit x at y = construct-fit (_) x.place (_) (assign_part-kept at x.part y.part)

pub assign-fit : (x : Operand) (at : Place) (y : Operand) → IsFit (assign x at y)
unfolding assign
assign-fit x at y = bind-fit (given-kept (part_type x.part) y.place y.part) (λ v. assign_given-fit x at (_))

update_part-kept : (operator : Assignment) (at : Place) (x : Elaborated) (e : TypedExpr) → IsKept (update_part operator at x e)
unfolding update_part
update_part-kept operator at (AsPlace p) e = known-kept (λ s. pure-kept (_))
update_part-kept operator at (AsValue v) e = stop-kept (_)
update_part-kept operator at (AsAllocation v) e = stop-kept (_)

pub update-fit : (operator : Assignment) (x : Operand) (at : Place) (v : Value) → IsFit (update_by operator x at v)
unfolding update_by
update-fit operator x at v = construct-fit (_) x.place (_) (update_part-kept operator at x.part v.expr)

-- `?:`

pointer_choice-kept : (c : TypedExpr) (begin at : Place) (a b : TypedExpr) (o : Option TypeId) → IsKept (pointer_choice c begin at a b o)
unfolding pointer_choice
pointer_choice-kept c begin at a b None = stop-kept (_)
pointer_choice-kept c begin at a b (Some to) = bind-kept (new_pointer-kept begin to) (λ made. known-kept (λ s. pure-kept (_)))

choice_of_pointers-kept : (c : TypedExpr) (begin at : Place) (a b : TypedExpr) (void : Bool) → IsKept (choice_of_pointers c begin at a b void)
unfolding choice_of_pointers
choice_of_pointers-kept c begin at a b true = pure-kept (_)
choice_of_pointers-kept c begin at a b false = known-kept (λ s. pointer_choice-kept c begin at a b (_))

choice_of_values-kept : (c : TypedExpr) (begin at : Place) (a b : TypedExpr) (j k : Option IntegerType) → IsKept (choice_of_values c begin at a b j k)
unfolding choice_of_values
choice_of_values-kept c begin at a b (Some j) (Some k) = pure-kept (_)
choice_of_values-kept c begin at a b None k = known-kept (λ s. choice_of_pointers-kept c begin at a b (_))
choice_of_values-kept c begin at a b (Some j) None = known-kept (λ s. choice_of_pointers-kept c begin at a b (_))

choice_of_parts-kept : (c : TypedExpr) (begin at : Place) (x y : Elaborated) → IsKept (choice_of_parts c begin at x y)
unfolding choice_of_parts
choice_of_parts-kept c begin at (AsPlace p) (AsPlace q) = pure-kept (_)
choice_of_parts-kept c begin at (AsValue a) (AsValue b) = known-kept (λ s. choice_of_values-kept c begin at a b (_) (_))
choice_of_parts-kept c begin at (AsPlace p) (AsValue b) = stop-kept (_)
choice_of_parts-kept c begin at (AsPlace p) (AsAllocation b) = stop-kept (_)
choice_of_parts-kept c begin at (AsValue a) (AsPlace q) = stop-kept (_)
choice_of_parts-kept c begin at (AsValue a) (AsAllocation b) = stop-kept (_)
choice_of_parts-kept c begin at (AsAllocation a) y = stop-kept (_)

pub choice-fit : (c : Value) (at : Place) (a b : Value) → IsFit (choice c at a b)
unfolding choice
choice-fit c at a b = construct-fit (_) c.place (_) (choice_of_parts-kept c.expr c.place at (_) (_))

pub comma-fit : (a b : Value) → IsFit (comma a b)
unfolding comma
comma-fit a b = construct-fit (_) a.place (_) (pure-kept (_))

-- Casts and `sizeof`

cast_given-fit : (at : Place) (to : TypedTypeName) (x : Operand) → IsFit (cast_given at to x)
unfolding cast_given
cast_given-fit at to x = construct-fit (_) at (_) (known-kept (λ s. pure-kept (_)))

pub cast-fit : (at : Place) (to : TypedTypeName) (x : Operand) → IsFit (cast at to x)
unfolding cast
cast-fit at to x = bind-fit (given-kept (named_type to) x.place x.part) (λ v. cast_given-fit at to (_))

pub size_of_type-fit : (at paren : Place) (name : TypedTypeName) → IsFit (size_of_type at paren name)
unfolding size_of_type
size_of_type-fit at paren name = construct-fit (_) at (_) (known-kept (λ s. pure-kept (_)))

-- Calls and names

pub call-fit : (f : Value) (at : Place) (values : List Value) → IsFit (call f at values)
unfolding call
call-fit f at values = construct-fit (_) f.place (_) (known-kept (λ s. pure-kept (_)))

function_name-kept : (name : Identifier) (function : TypeId) → IsKept (function_name name function)
unfolding function_name
function_name-kept name function =
    bind-kept (known-kept (λ s. numbered-kept name.place (_))) (λ number. bind-kept (new_pointer-kept name.place function) (λ made. pure-kept (_)))

named_as-kept : (name : Identifier) (runtime : Option Runtime) (o : Option Declared) → IsKept (named_as name runtime o)
unfolding named_as
named_as-kept name runtime (Some (declared.Object t home)) = pure-kept (_)
named_as-kept name runtime (Some (declared.Enumerator value)) = pure-kept (_)
named_as-kept name runtime (Some (declared.Typedef t)) = stop-kept (_)
named_as-kept name (Some function) (Some (declared.Function t)) = pure-kept (_)
named_as-kept name (Some function) None = pure-kept (_)
named_as-kept name None (Some (declared.Function t)) = function_name-kept name t
named_as-kept name None None = stop-kept (_)

pub name-fit : (at_call : Bool) (word : Identifier) → IsFit (assignments.name at_call word)
unfolding assignments.name
name-fit at_call word = construct-fit (_) word.place (_) (known-kept (λ s. named_as-kept word (runtime_of word.bytes) (_)))
