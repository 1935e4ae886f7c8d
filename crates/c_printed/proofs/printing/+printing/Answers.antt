use Rattle.std.proofs.Common.{[], map, take, refl}
use Rattle.c_tree.specs.Views.{added}
use Rattle.c_tree.specs.TypedTree as typed
use Rattle.c_tree.specs.TypedViews.{typed_expr_view, typed_specifier_view, typed_members_view, typed_declarator_view, typed_enumerator_view, typed_part_view, typed_parameter_view}
use Rattle.c_tree.proofs.TypedViewLaws.{typed_expr-Integer, typed_expr-Character, typed_expr-Enumerator, typed_expr-FunctionName, typed_expr-RuntimeName, typed_expr-Paren, typed_expr-Read, typed_expr-Unread, typed_expr-Decay, typed_expr-Convert, typed_expr-Cast, typed_expr-AddressOf, typed_expr-AddressOfElement, typed_expr-AddressOfFunction, typed_expr-FunctionAt, typed_expr-Prefix, typed_expr-SizeOfPlace, typed_expr-SizeOfValue, typed_expr-SizeOfType, typed_expr-StepBefore, typed_expr-StepAfter, typed_expr-Arithmetic, typed_expr-Moved, typed_expr-Difference, typed_expr-Compared, typed_expr-Logical, typed_expr-Conditional, typed_expr-PointerConditional, typed_expr-Comma, typed_expr-Assign, typed_expr-AssignWith, typed_expr-Call, typed_expr-CallRuntime, typed_expr-Allocate, typed_expr-AllocateFor, typed_place-Variable, typed_place-String, typed_place-ParenPlace, typed_place-Target, typed_place-Element, typed_place-Member, typed_place-MemberAt, typed_place-StructAssign, typed_place-StructConditional, typed_place-StructComma, typed_specifier-Keyword, typed_specifier-Typedef, typed_specifier-Tagged, typed_specifier-Aggregate, typed_specifier-Enum, typed_specifier-Enumeration, typed_enumerator-Plain, typed_enumerator-Valued, typed_core-Names, typed_core-Unnamed, typed_core-Nested, typed_part-Array, typed_part-SizedArray, typed_part-Function}
use Rattle.c_printed.proofs.Laws.{prints_nothing, prints_other, prints_then}
use Rattle.c_tree.proofs.ListLaws.{one_longer, one_more}
use Rattle.c_tree.proofs.TypedPartLaws.{of_declarator, of_form, of_members, of_parameter, of_specifiers, of_type_name}
use Rattle.c_printed.proofs.printing.+printing.Goals as goal

pub expr-returns-in-Integer : goal.expr-returns-in-Integer
expr-returns-in-Integer t c = rw (c.in-Integer.is, typed_expr-Integer) (prints_nothing _)

pub expr-returns-in-Character : goal.expr-returns-in-Character
expr-returns-in-Character t c = rw (c.in-Character.is, typed_expr-Character) (prints_nothing _)

pub expr-returns-in-Enumerator : goal.expr-returns-in-Enumerator
expr-returns-in-Enumerator t c = rw (c.in-Enumerator.is, typed_expr-Enumerator) (prints_nothing _)

pub expr-returns-in-FunctionName : goal.expr-returns-in-FunctionName
expr-returns-in-FunctionName t c = rw (c.in-FunctionName.is, typed_expr-FunctionName) (prints_other [] _ _ _ refl (prints_nothing _))

pub expr-returns-in-RuntimeName : goal.expr-returns-in-RuntimeName
expr-returns-in-RuntimeName t c = rw (c.in-RuntimeName.is, typed_expr-RuntimeName) (prints_nothing _)

pub expr-returns-in-Paren : goal.expr-returns-in-Paren
expr-returns-in-Paren t c = rw (c.in-Paren.is, typed_expr-Paren) (rw c.get.ensures at c.expr.ensures)

pub expr-returns-in-Read : goal.expr-returns-in-Read
expr-returns-in-Read t c = rw (c.in-Read.is, typed_expr-Read) (rw c.get-in-Read.ensures at c.place.ensures)

pub expr-returns-in-Unread : goal.expr-returns-in-Unread
expr-returns-in-Unread t c = rw (c.in-Unread.is, typed_expr-Unread) (rw c.get-in-Unread.ensures at c.place-in-Unread.ensures)

pub expr-returns-in-Decay : goal.expr-returns-in-Decay
expr-returns-in-Decay t c = rw (c.in-Decay.is, typed_expr-Decay) (prints_other _ _ _ _ refl (rw c.get-in-Decay.ensures at c.place-in-Decay.ensures))

pub expr-returns-in-Convert : goal.expr-returns-in-Convert
expr-returns-in-Convert t c = rw (c.in-Convert.is, typed_expr-Convert) (rw c.get-in-Convert.ensures at c.expr-in-Convert.ensures)

pub expr-returns-in-Cast : goal.expr-returns-in-Cast
expr-returns-in-Cast t c = rw (c.in-Cast.is, typed_expr-Cast) (prints_then _ _ _ _ _ (rw c.get-in-Cast.ensures at c.type_name.ensures) (rw c.get-in-Cast-2.ensures at c.expr-in-Cast.ensures))

pub expr-returns-in-AddressOf : goal.expr-returns-in-AddressOf
expr-returns-in-AddressOf t c = rw (c.in-AddressOf.is, typed_expr-AddressOf) (prints_other _ _ _ _ refl (rw c.get-in-AddressOf.ensures at c.place-in-AddressOf.ensures))

pub expr-returns-in-AddressOfElement : goal.expr-returns-in-AddressOfElement
expr-returns-in-AddressOfElement t c = rw (c.in-AddressOfElement.is, typed_expr-AddressOfElement) (rw c.get-in-AddressOfElement.ensures at c.place-in-AddressOfElement.ensures)

pub expr-returns-in-AddressOfFunction : goal.expr-returns-in-AddressOfFunction
expr-returns-in-AddressOfFunction t c = rw (c.in-AddressOfFunction.is, typed_expr-AddressOfFunction) (rw c.get-in-AddressOfFunction.ensures at c.expr-in-AddressOfFunction.ensures)

pub expr-returns-in-FunctionAt : goal.expr-returns-in-FunctionAt
expr-returns-in-FunctionAt t c = rw (c.in-FunctionAt.is, typed_expr-FunctionAt) (rw c.get-in-FunctionAt.ensures at c.expr-in-FunctionAt.ensures)

pub expr-returns-in-Prefix : goal.expr-returns-in-Prefix
expr-returns-in-Prefix t c = rw (c.in-Prefix.is, typed_expr-Prefix) (rw c.get-in-Prefix.ensures at c.expr-in-Prefix.ensures)

pub expr-returns-in-SizeOfPlace : goal.expr-returns-in-SizeOfPlace
expr-returns-in-SizeOfPlace t c = rw (c.in-SizeOfPlace.is, typed_expr-SizeOfPlace) (rw c.get-in-SizeOfPlace.ensures at c.place-in-SizeOfPlace.ensures)

pub expr-returns-in-SizeOfValue : goal.expr-returns-in-SizeOfValue
expr-returns-in-SizeOfValue t c = rw (c.in-SizeOfValue.is, typed_expr-SizeOfValue) (rw c.get-in-SizeOfValue.ensures at c.expr-in-SizeOfValue.ensures)

pub expr-returns-in-SizeOfType : goal.expr-returns-in-SizeOfType
expr-returns-in-SizeOfType t c = rw (c.in-SizeOfType.is, typed_expr-SizeOfType) (rw c.get-in-SizeOfType.ensures at c.type_name-in-SizeOfType.ensures)

pub expr-returns-in-StepBefore : goal.expr-returns-in-StepBefore
expr-returns-in-StepBefore t c = rw (c.in-StepBefore.is, typed_expr-StepBefore) (rw c.get-in-StepBefore.ensures at c.place-in-StepBefore.ensures)

pub expr-returns-in-StepAfter : goal.expr-returns-in-StepAfter
expr-returns-in-StepAfter t c = rw (c.in-StepAfter.is, typed_expr-StepAfter) (rw c.get-in-StepAfter.ensures at c.place-in-StepAfter.ensures)

pub expr-returns-in-Arithmetic : goal.expr-returns-in-Arithmetic
expr-returns-in-Arithmetic t c = rw (c.in-Arithmetic.is, typed_expr-Arithmetic) (prints_then _ _ _ _ _ (rw c.get-in-Arithmetic.ensures at c.expr-in-Arithmetic.ensures) (rw c.get-in-Arithmetic-2.ensures at c.expr-in-Arithmetic-2.ensures))

pub expr-returns-in-Moved : goal.expr-returns-in-Moved
expr-returns-in-Moved t c = rw (c.in-Moved.is, typed_expr-Moved) (prints_then _ _ _ _ _ (rw c.get-in-Moved.ensures at c.expr-in-Moved.ensures) (rw c.get-in-Moved-2.ensures at c.expr-in-Moved-2.ensures))

pub expr-returns-in-Difference : goal.expr-returns-in-Difference
expr-returns-in-Difference t c = rw (c.in-Difference.is, typed_expr-Difference) (prints_then _ _ _ _ _ (rw c.get-in-Difference.ensures at c.expr-in-Difference.ensures) (rw c.get-in-Difference-2.ensures at c.expr-in-Difference-2.ensures))

pub expr-returns-in-Compared : goal.expr-returns-in-Compared
expr-returns-in-Compared t c = rw (c.in-Compared.is, typed_expr-Compared) (prints_then _ _ _ _ _ (rw c.get-in-Compared.ensures at c.expr-in-Compared.ensures) (rw c.get-in-Compared-2.ensures at c.expr-in-Compared-2.ensures))

pub expr-returns-in-Logical : goal.expr-returns-in-Logical
expr-returns-in-Logical t c = rw (c.in-Logical.is, typed_expr-Logical) (prints_then _ _ _ _ _ (rw c.get-in-Logical.ensures at c.expr-in-Logical.ensures) (rw c.get-in-Logical-2.ensures at c.expr-in-Logical-2.ensures))

pub expr-returns-in-Conditional : goal.expr-returns-in-Conditional
expr-returns-in-Conditional t c = rw (c.in-Conditional.is, typed_expr-Conditional) (prints_then _ _ _ _ _ (prints_then _ _ _ _ _ (rw c.get-in-Conditional.ensures at c.expr-in-Conditional.ensures) (rw c.get-in-Conditional-2.ensures at c.expr-in-Conditional-2.ensures)) (rw c.get-in-Conditional-3.ensures at c.expr-in-Conditional-3.ensures))

pub expr-returns-in-PointerConditional : goal.expr-returns-in-PointerConditional
expr-returns-in-PointerConditional t c = rw (c.in-PointerConditional.is, typed_expr-PointerConditional) (prints_other _ _ _ _ refl (prints_then _ _ _ _ _ (prints_then _ _ _ _ _ (rw c.get-in-PointerConditional.ensures at c.expr-in-PointerConditional.ensures) (rw c.get-in-PointerConditional-2.ensures at c.expr-in-PointerConditional-2.ensures)) (rw c.get-in-PointerConditional-3.ensures at c.expr-in-PointerConditional-3.ensures)))

pub expr-returns-in-Comma : goal.expr-returns-in-Comma
expr-returns-in-Comma t c = rw (c.in-Comma.is, typed_expr-Comma) (prints_then _ _ _ _ _ (rw c.get-in-Comma.ensures at c.expr-in-Comma.ensures) (rw c.get-in-Comma-2.ensures at c.expr-in-Comma-2.ensures))

pub expr-returns-in-Assign : goal.expr-returns-in-Assign
expr-returns-in-Assign t c = rw (c.in-Assign.is, typed_expr-Assign) (prints_then _ _ _ _ _ (rw c.get-in-Assign.ensures at c.place-in-Assign.ensures) (rw c.get-in-Assign-2.ensures at c.expr-in-Assign.ensures))

pub expr-returns-in-AssignWith : goal.expr-returns-in-AssignWith
expr-returns-in-AssignWith t c = rw (c.in-AssignWith.is, typed_expr-AssignWith) (prints_then _ _ _ _ _ (rw c.get-in-AssignWith.ensures at c.place-in-AssignWith.ensures) (rw c.get-in-AssignWith-2.ensures at c.expr-in-AssignWith.ensures))

pub expr-returns-in-Call : goal.expr-returns-in-Call
expr-returns-in-Call t c = rw (c.in-Call.is, typed_expr-Call) (prints_then _ _ _ _ _ (rw c.get-in-Call.ensures at c.expr-in-Call.ensures) (rw c.as_slice.ensures at c.arguments.ensures))

pub expr-returns-in-CallRuntime : goal.expr-returns-in-CallRuntime
expr-returns-in-CallRuntime t c = rw (c.in-CallRuntime.is, typed_expr-CallRuntime) (prints_then _ _ _ _ _ (rw c.get-in-CallRuntime.ensures at c.expr-in-CallRuntime.ensures) (rw c.as_slice-in-CallRuntime.ensures at c.arguments-in-CallRuntime.ensures))

pub expr-returns-in-Allocate : goal.expr-returns-in-Allocate
expr-returns-in-Allocate t c = rw (c.in-Allocate.is, typed_expr-Allocate) (prints_other _ _ _ _ refl (prints_then _ _ _ _ _ (rw c.get-in-Allocate.ensures at c.expr-in-Allocate.ensures) (rw c.as_slice-in-Allocate.ensures at c.arguments-in-Allocate.ensures)))

pub expr-returns-in-AllocateFor : goal.expr-returns-in-AllocateFor
expr-returns-in-AllocateFor t c = rw (c.in-AllocateFor.is, typed_expr-AllocateFor) (prints_then _ _ _ _ _ (rw c.get-in-AllocateFor.ensures at c.expr-in-AllocateFor.ensures) (rw c.as_slice-in-AllocateFor.ensures at c.arguments-in-AllocateFor.ensures))

pub place-returns-in-Variable : goal.place-returns-in-Variable
place-returns-in-Variable t c = rw (c.in-Variable.is, typed_place-Variable) (prints_nothing _)

pub place-returns-in-String : goal.place-returns-in-String
place-returns-in-String t c = rw (c.in-String.is, typed_place-String) (prints_other [] _ _ _ refl (prints_nothing _))

pub place-returns-in-ParenPlace : goal.place-returns-in-ParenPlace
place-returns-in-ParenPlace t c = rw (c.in-ParenPlace.is, typed_place-ParenPlace) (rw c.get.ensures at c.place.ensures)

pub place-returns-in-Target : goal.place-returns-in-Target
place-returns-in-Target t c = rw (c.in-Target.is, typed_place-Target) (rw c.get-in-Target.ensures at c.expr.ensures)

pub place-returns-in-Element : goal.place-returns-in-Element
place-returns-in-Element t c = rw (c.in-Element.is, typed_place-Element) (prints_then _ _ _ _ _ (rw c.get-in-Element.ensures at c.expr-in-Element.ensures) (rw c.get-in-Element-2.ensures at c.expr-in-Element-2.ensures))

pub place-returns-in-Member : goal.place-returns-in-Member
place-returns-in-Member t c = rw (c.in-Member.is, typed_place-Member) (prints_other _ _ _ _ refl (rw c.get-in-Member.ensures at c.place-in-Member.ensures))

pub place-returns-in-MemberAt : goal.place-returns-in-MemberAt
place-returns-in-MemberAt t c = rw (c.in-MemberAt.is, typed_place-MemberAt) (prints_other _ _ _ _ refl (rw c.get-in-MemberAt.ensures at c.expr-in-MemberAt.ensures))

pub place-returns-in-StructAssign : goal.place-returns-in-StructAssign
place-returns-in-StructAssign t c = rw (c.in-StructAssign.is, typed_place-StructAssign) (prints_other _ _ _ _ refl (prints_then _ _ _ _ _ (rw c.get-in-StructAssign.ensures at c.place-in-StructAssign.ensures) (rw c.get-in-StructAssign-2.ensures at c.place-in-StructAssign-2.ensures)))

pub place-returns-in-StructConditional : goal.place-returns-in-StructConditional
place-returns-in-StructConditional t c = rw (c.in-StructConditional.is, typed_place-StructConditional) (prints_then _ _ _ _ _ (prints_then _ _ _ _ _ (rw c.get-in-StructConditional.ensures at c.expr-in-StructConditional.ensures) (rw c.get-in-StructConditional-2.ensures at c.place-in-StructConditional.ensures)) (rw c.get-in-StructConditional-3.ensures at c.place-in-StructConditional-2.ensures))

pub place-returns-in-StructComma : goal.place-returns-in-StructComma
place-returns-in-StructComma t c = rw (c.in-StructComma.is, typed_place-StructComma) (prints_then _ _ _ _ _ (rw c.get-in-StructComma.ensures at c.expr-in-StructComma.ensures) (rw c.get-in-StructComma-2.ensures at c.place-in-StructComma.ensures))

pub arguments-loop-e-init : goal.arguments-loop-e-init
arguments-loop-e-init t c = record { found = prints_nothing _ }

pub arguments-loop-e-preserved : goal.arguments-loop-e-preserved
arguments-loop-e-preserved t c = record {
  found = rw (one_longer typed.AndArgument typed_expr_view c.args.all.now c.loop-e.e-index c.e-item.result c.loop-e-test.true c.e-item.is typed.NoArgument)
      (prints_then _ _ _ _ _ c.loop-e.invariant.found c.expr.ensures);
}

pub specifier_list-loop-one-init : goal.specifier_list-loop-one-init
specifier_list-loop-one-init t c = record { found = prints_nothing _ }

pub specifier_list-loop-one-preserved : goal.specifier_list-loop-one-preserved
specifier_list-loop-one-preserved t c = record {
  found = rw (one_longer typed.AndSpecifier typed_specifier_view c.args.all.now c.loop-one.one-index c.one-item.result c.loop-one-test.true c.one-item.is typed.NoSpecifier)
      (prints_then _ _ _ _ _ c.loop-one.invariant.found c.specifier.ensures);
}

pub member_rows-loop-row-init : goal.member_rows-loop-row-init
member_rows-loop-row-init t c = record { found = prints_nothing _ }

pub member_rows-loop-row-preserved : goal.member_rows-loop-row-preserved
member_rows-loop-row-preserved t c = record {
  found = rw (one_more typed_members_view c.args.all.now c.loop-row.row-index c.row-item.result c.loop-row-test.true c.row-item.is typed.NoMember)
      (c.member_row.ensures (added typed.NoMember (map typed_members_view (take c.loop-row.row-index c.args.all.now))) c.args.out.now c.loop-row.invariant.found);
}

pub member_declarators-loop-one-init : goal.member_declarators-loop-one-init
member_declarators-loop-one-init t c = record { found = prints_nothing _ }

pub member_declarators-loop-one-preserved : goal.member_declarators-loop-one-preserved
member_declarators-loop-one-preserved t c = record {
  found = rw (one_longer typed.AndDeclarator typed_declarator_view c.args.all.now c.loop-one.one-index c.one-item.result c.loop-one-test.true c.one-item.is typed.NoDeclarator)
      (prints_then _ _ _ _ _ c.loop-one.invariant.found c.declarator.ensures);
}

pub enumerators-loop-one-init : goal.enumerators-loop-one-init
enumerators-loop-one-init t c = record { found = prints_nothing _ }

pub enumerators-loop-one-preserved : goal.enumerators-loop-one-preserved
enumerators-loop-one-preserved t c = record {
  found = rw (one_more typed_enumerator_view c.args.all.now c.loop-one.one-index c.one-item.result c.loop-one-test.true c.one-item.is typed.NoEnumerator)
      (c.enumerator.ensures (added typed.NoEnumerator (map typed_enumerator_view (take c.loop-one.one-index c.args.all.now))) c.args.out.now c.loop-one.invariant.found);
}

pub parts_behind-loop-one-init : goal.parts_behind-loop-one-init
parts_behind-loop-one-init t c = record { found = prints_nothing _ }

pub parts_behind-loop-one-preserved : goal.parts_behind-loop-one-preserved
parts_behind-loop-one-preserved t c = record {
  found = rw (one_more typed_part_view c.args.all.now c.loop-one.one-index c.one-item.result c.loop-one-test.true c.one-item.is typed.NoPart)
      (c.part.ensures (added typed.NoPart (map typed_part_view (take c.loop-one.one-index c.args.all.now))) c.args.out.now c.loop-one.invariant.found);
}

pub parameters-loop-one-init : goal.parameters-loop-one-init
parameters-loop-one-init t c = record { found = prints_nothing _ }

pub parameters-loop-one-preserved : goal.parameters-loop-one-preserved
parameters-loop-one-preserved t c = record {
  found = rw (one_more typed_parameter_view c.args.all.now c.loop-one.one-index c.one-item.result c.loop-one-test.true c.one-item.is typed.NoParameter)
      (c.parameter.ensures (added typed.NoParameter (map typed_parameter_view (take c.loop-one.one-index c.args.all.now))) c.args.out.now c.loop-one.invariant.found);
}

pub type_name-returns : goal.type_name-returns
type_name-returns t c = rw (of_type_name c.args.one.now) (prints_then _ _ _ _ _ c.specifiers.ensures c.declared.ensures)

pub specifiers-returns : goal.specifiers-returns
specifiers-returns t c = rw (of_specifiers c.args.one.now) (rw c.as_slice.ensures at c.specifier_list.ensures)

pub specifier-returns-in-Keyword : goal.specifier-returns-in-Keyword
specifier-returns-in-Keyword t c = rw (c.in-Keyword.is, typed_specifier-Keyword) (prints_nothing _)

pub specifier-returns-in-Typedef : goal.specifier-returns-in-Typedef
specifier-returns-in-Typedef t c = rw (c.in-Typedef.is, typed_specifier-Typedef) (prints_nothing _)

pub specifier-returns-in-Tagged : goal.specifier-returns-in-Tagged
specifier-returns-in-Tagged t c = rw (c.in-Tagged.is, typed_specifier-Tagged) (prints_nothing _)

pub specifier-returns-in-Enum : goal.specifier-returns-in-Enum
specifier-returns-in-Enum t c = rw (c.in-Enum.is, typed_specifier-Enum) (prints_nothing _)

pub specifier-returns-in-Aggregate : goal.specifier-returns-in-Aggregate
specifier-returns-in-Aggregate t c = rw (c.in-Aggregate.is, typed_specifier-Aggregate) (rw c.as_slice.ensures at c.member_rows.ensures)

pub specifier-returns-in-Enumeration : goal.specifier-returns-in-Enumeration
specifier-returns-in-Enumeration t c = rw (c.in-Enumeration.is, typed_specifier-Enumeration) (rw c.as_slice-in-Enumeration.ensures at c.enumerators.ensures)

pub member_row-returns : goal.member_row-returns
member_row-returns t c = λ all start before. rw (of_members c.args.row.now all)
    (prints_then _ _ _ _ _ (prints_then _ _ _ _ _ before c.specifiers.ensures) (rw c.as_slice.ensures at c.member_declarators.ensures))

pub enumerator-returns-in-Plain : goal.enumerator-returns-in-Plain
enumerator-returns-in-Plain t c = λ all start before. rw (c.in-Plain.is, typed_enumerator-Plain) before

pub enumerator-returns-in-Valued : goal.enumerator-returns-in-Valued
enumerator-returns-in-Valued t c = λ all start before. rw (c.in-Valued.is, typed_enumerator-Valued) (prints_then _ _ _ _ _ before c.expr.ensures)

pub declarator-returns : goal.declarator-returns
declarator-returns t c = rw (of_declarator c.args.one.now) c.form.ensures

pub declared-returns-in-Some : goal.declared-returns-in-Some
declared-returns-in-Some t c = rw c.in-Some.is c.form.ensures

pub declared-returns-in-None : goal.declared-returns-in-None
declared-returns-in-None t c = rw c.in-None.is (prints_nothing _)

pub form-returns : goal.form-returns
form-returns t c = rw (of_form c.args.one.now)
    (prints_then _ _ _ _ _ (prints_then _ _ _ _ _ (rw c.as_slice.ensures at c.put_stars.ensures) c.core.ensures) (rw c.as_slice-2.ensures at c.parts_behind.ensures))

pub core-returns-in-Names : goal.core-returns-in-Names
core-returns-in-Names t c = rw (c.in-Names.is, typed_core-Names) c.put_name.ensures

pub core-returns-in-Unnamed : goal.core-returns-in-Unnamed
core-returns-in-Unnamed t c = rw (c.in-Unnamed.is, typed_core-Unnamed) (prints_nothing _)

pub core-returns-in-Nested : goal.core-returns-in-Nested
core-returns-in-Nested t c = rw (c.in-Nested.is, typed_core-Nested) (rw c.get.ensures at c.form.ensures)

pub part-returns-in-Array : goal.part-returns-in-Array
part-returns-in-Array t c = λ all start before. rw (c.in-Array.is, typed_part-Array) before

pub part-returns-in-SizedArray : goal.part-returns-in-SizedArray
part-returns-in-SizedArray t c = λ all start before. rw (c.in-SizedArray.is, typed_part-SizedArray) (prints_then _ _ _ _ _ before c.expr.ensures)

pub part-returns-in-Function : goal.part-returns-in-Function
part-returns-in-Function t c = λ all start before. rw (c.in-Function.is, typed_part-Function)
    (prints_then _ _ _ _ _ before (rw c.as_slice.ensures at c.parameters.ensures))

pub parameter-returns : goal.parameter-returns
parameter-returns t c = λ all start before. rw (of_parameter c.args.one.now all)
    (prints_then _ _ _ _ _ (prints_then _ _ _ _ _ (prints_then _ _ _ _ _ before c.specifiers.ensures) c.declared.ensures) c.put_adjusted.ensures)
