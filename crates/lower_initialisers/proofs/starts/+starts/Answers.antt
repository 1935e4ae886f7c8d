use Rattle.std.proofs.Common.{refl}
use Rattle.c_tree.proofs.TypedViewLaws.{typed_place-Variable, typed_place-String, typed_place-ParenPlace, typed_place-Target, typed_place-Element, typed_place-Member, typed_place-MemberAt, typed_place-StructAssign, typed_place-StructConditional, typed_place-StructComma, typed_expr-Integer, typed_expr-Character, typed_expr-Enumerator, typed_expr-FunctionName, typed_expr-RuntimeName, typed_expr-Paren, typed_expr-Read, typed_expr-Unread, typed_expr-Decay, typed_expr-Convert, typed_expr-Cast, typed_expr-AddressOf, typed_expr-AddressOfElement, typed_expr-AddressOfFunction, typed_expr-FunctionAt, typed_expr-Prefix, typed_expr-SizeOfPlace, typed_expr-SizeOfValue, typed_expr-SizeOfType, typed_expr-StepBefore, typed_expr-StepAfter, typed_expr-Arithmetic, typed_expr-Moved, typed_expr-Difference, typed_expr-Compared, typed_expr-Logical, typed_expr-Conditional, typed_expr-PointerConditional, typed_expr-Comma, typed_expr-Assign, typed_expr-AssignWith, typed_expr-Call, typed_expr-CallRuntime, typed_expr-Allocate, typed_expr-AllocateFor}
use Rattle.lower_initialisers.proofs.starts.+starts.Goals as goal

pub place_start-returns-in-Variable : goal.place_start-returns-in-Variable
place_start-returns-in-Variable t c = rw (c.in-Variable.is, typed_place-Variable) refl

pub place_start-returns-in-String : goal.place_start-returns-in-String
place_start-returns-in-String t c = rw (c.in-String.is, typed_place-String) (rw c.as_slice.ensures at c.pieces_place.ensures)

pub place_start-returns-in-ParenPlace : goal.place_start-returns-in-ParenPlace
place_start-returns-in-ParenPlace t c = rw (c.in-ParenPlace.is, typed_place-ParenPlace) refl

pub place_start-returns-in-Target : goal.place_start-returns-in-Target
place_start-returns-in-Target t c = rw (c.in-Target.is, typed_place-Target) refl

pub place_start-returns-in-Element : goal.place_start-returns-in-Element
place_start-returns-in-Element t c = rw (c.in-Element.is, typed_place-Element) (rw c.get.ensures at c.expr_start.ensures)

pub place_start-returns-in-Member : goal.place_start-returns-in-Member
place_start-returns-in-Member t c = rw (c.in-Member.is, typed_place-Member) (rw c.get-in-Member.ensures at c.place_start.ensures)

pub place_start-returns-in-MemberAt : goal.place_start-returns-in-MemberAt
place_start-returns-in-MemberAt t c = rw (c.in-MemberAt.is, typed_place-MemberAt) (rw c.get-in-MemberAt.ensures at c.expr_start-in-MemberAt.ensures)

pub place_start-returns-in-StructAssign : goal.place_start-returns-in-StructAssign
place_start-returns-in-StructAssign t c = rw (c.in-StructAssign.is, typed_place-StructAssign) (rw c.get-in-StructAssign.ensures at c.place_start-in-StructAssign.ensures)

pub place_start-returns-in-StructConditional : goal.place_start-returns-in-StructConditional
place_start-returns-in-StructConditional t c = rw (c.in-StructConditional.is, typed_place-StructConditional) (rw c.get-in-StructConditional.ensures at c.expr_start-in-StructConditional.ensures)

pub place_start-returns-in-StructComma : goal.place_start-returns-in-StructComma
place_start-returns-in-StructComma t c = rw (c.in-StructComma.is, typed_place-StructComma) (rw c.get-in-StructComma.ensures at c.expr_start-in-StructComma.ensures)

pub expr_start-returns-in-Integer : goal.expr_start-returns-in-Integer
expr_start-returns-in-Integer t c = rw (c.in-Integer.is, typed_expr-Integer) refl

pub expr_start-returns-in-Character : goal.expr_start-returns-in-Character
expr_start-returns-in-Character t c = rw (c.in-Character.is, typed_expr-Character) refl

pub expr_start-returns-in-Enumerator : goal.expr_start-returns-in-Enumerator
expr_start-returns-in-Enumerator t c = rw (c.in-Enumerator.is, typed_expr-Enumerator, c.get.ensures) refl

pub expr_start-returns-in-FunctionName : goal.expr_start-returns-in-FunctionName
expr_start-returns-in-FunctionName t c = rw (c.in-FunctionName.is, typed_expr-FunctionName) refl

pub expr_start-returns-in-RuntimeName : goal.expr_start-returns-in-RuntimeName
expr_start-returns-in-RuntimeName t c = rw (c.in-RuntimeName.is, typed_expr-RuntimeName) refl

pub expr_start-returns-in-Paren : goal.expr_start-returns-in-Paren
expr_start-returns-in-Paren t c = rw (c.in-Paren.is, typed_expr-Paren) refl

pub expr_start-returns-in-Read : goal.expr_start-returns-in-Read
expr_start-returns-in-Read t c = rw (c.in-Read.is, typed_expr-Read) (rw c.get-in-Read.ensures at c.place_start.ensures)

pub expr_start-returns-in-Unread : goal.expr_start-returns-in-Unread
expr_start-returns-in-Unread t c = rw (c.in-Unread.is, typed_expr-Unread) (rw c.get-in-Unread.ensures at c.place_start-in-Unread.ensures)

pub expr_start-returns-in-Decay : goal.expr_start-returns-in-Decay
expr_start-returns-in-Decay t c = rw (c.in-Decay.is, typed_expr-Decay) (rw c.get-in-Decay.ensures at c.place_start-in-Decay.ensures)

pub expr_start-returns-in-Convert : goal.expr_start-returns-in-Convert
expr_start-returns-in-Convert t c = rw (c.in-Convert.is, typed_expr-Convert) (rw c.get-in-Convert.ensures at c.expr_start.ensures)

pub expr_start-returns-in-Cast : goal.expr_start-returns-in-Cast
expr_start-returns-in-Cast t c = rw (c.in-Cast.is, typed_expr-Cast) refl

pub expr_start-returns-in-AddressOf : goal.expr_start-returns-in-AddressOf
expr_start-returns-in-AddressOf t c = rw (c.in-AddressOf.is, typed_expr-AddressOf) refl

pub expr_start-returns-in-AddressOfElement : goal.expr_start-returns-in-AddressOfElement
expr_start-returns-in-AddressOfElement t c = rw (c.in-AddressOfElement.is, typed_expr-AddressOfElement) refl

pub expr_start-returns-in-AddressOfFunction : goal.expr_start-returns-in-AddressOfFunction
expr_start-returns-in-AddressOfFunction t c = rw (c.in-AddressOfFunction.is, typed_expr-AddressOfFunction) refl

pub expr_start-returns-in-FunctionAt : goal.expr_start-returns-in-FunctionAt
expr_start-returns-in-FunctionAt t c = rw (c.in-FunctionAt.is, typed_expr-FunctionAt) refl

pub expr_start-returns-in-Prefix : goal.expr_start-returns-in-Prefix
expr_start-returns-in-Prefix t c = rw (c.in-Prefix.is, typed_expr-Prefix) refl

pub expr_start-returns-in-SizeOfPlace : goal.expr_start-returns-in-SizeOfPlace
expr_start-returns-in-SizeOfPlace t c = rw (c.in-SizeOfPlace.is, typed_expr-SizeOfPlace) refl

pub expr_start-returns-in-SizeOfValue : goal.expr_start-returns-in-SizeOfValue
expr_start-returns-in-SizeOfValue t c = rw (c.in-SizeOfValue.is, typed_expr-SizeOfValue) refl

pub expr_start-returns-in-SizeOfType : goal.expr_start-returns-in-SizeOfType
expr_start-returns-in-SizeOfType t c = rw (c.in-SizeOfType.is, typed_expr-SizeOfType) refl

pub expr_start-returns-in-StepBefore : goal.expr_start-returns-in-StepBefore
expr_start-returns-in-StepBefore t c = rw (c.in-StepBefore.is, typed_expr-StepBefore) refl

pub expr_start-returns-in-StepAfter : goal.expr_start-returns-in-StepAfter
expr_start-returns-in-StepAfter t c = rw (c.in-StepAfter.is, typed_expr-StepAfter) (rw c.get-in-StepAfter.ensures at c.place_start-in-StepAfter.ensures)

pub expr_start-returns-in-Arithmetic : goal.expr_start-returns-in-Arithmetic
expr_start-returns-in-Arithmetic t c = rw (c.in-Arithmetic.is, typed_expr-Arithmetic) (rw c.get-in-Arithmetic.ensures at c.expr_start-in-Arithmetic.ensures)

pub expr_start-returns-in-Moved : goal.expr_start-returns-in-Moved
expr_start-returns-in-Moved t c = rw (c.in-Moved.is, typed_expr-Moved) (rw c.get-in-Moved.ensures at c.expr_start-in-Moved.ensures)

pub expr_start-returns-in-Difference : goal.expr_start-returns-in-Difference
expr_start-returns-in-Difference t c = rw (c.in-Difference.is, typed_expr-Difference) (rw c.get-in-Difference.ensures at c.expr_start-in-Difference.ensures)

pub expr_start-returns-in-Compared : goal.expr_start-returns-in-Compared
expr_start-returns-in-Compared t c = rw (c.in-Compared.is, typed_expr-Compared) (rw c.get-in-Compared.ensures at c.expr_start-in-Compared.ensures)

pub expr_start-returns-in-Logical : goal.expr_start-returns-in-Logical
expr_start-returns-in-Logical t c = rw (c.in-Logical.is, typed_expr-Logical) (rw c.get-in-Logical.ensures at c.expr_start-in-Logical.ensures)

pub expr_start-returns-in-Conditional : goal.expr_start-returns-in-Conditional
expr_start-returns-in-Conditional t c = rw (c.in-Conditional.is, typed_expr-Conditional) (rw c.get-in-Conditional.ensures at c.expr_start-in-Conditional.ensures)

pub expr_start-returns-in-PointerConditional : goal.expr_start-returns-in-PointerConditional
expr_start-returns-in-PointerConditional t c = rw (c.in-PointerConditional.is, typed_expr-PointerConditional) (rw c.get-in-PointerConditional.ensures at c.expr_start-in-PointerConditional.ensures)

pub expr_start-returns-in-Comma : goal.expr_start-returns-in-Comma
expr_start-returns-in-Comma t c = rw (c.in-Comma.is, typed_expr-Comma) (rw c.get-in-Comma.ensures at c.expr_start-in-Comma.ensures)

pub expr_start-returns-in-Assign : goal.expr_start-returns-in-Assign
expr_start-returns-in-Assign t c = rw (c.in-Assign.is, typed_expr-Assign) (rw c.get-in-Assign.ensures at c.place_start-in-Assign.ensures)

pub expr_start-returns-in-AssignWith : goal.expr_start-returns-in-AssignWith
expr_start-returns-in-AssignWith t c = rw (c.in-AssignWith.is, typed_expr-AssignWith) (rw c.get-in-AssignWith.ensures at c.place_start-in-AssignWith.ensures)

pub expr_start-returns-in-Call : goal.expr_start-returns-in-Call
expr_start-returns-in-Call t c = rw (c.in-Call.is, typed_expr-Call) (rw c.get-in-Call.ensures at c.expr_start-in-Call.ensures)

pub expr_start-returns-in-CallRuntime : goal.expr_start-returns-in-CallRuntime
expr_start-returns-in-CallRuntime t c = rw (c.in-CallRuntime.is, typed_expr-CallRuntime) (rw c.get-in-CallRuntime.ensures at c.expr_start-in-CallRuntime.ensures)

pub expr_start-returns-in-Allocate : goal.expr_start-returns-in-Allocate
expr_start-returns-in-Allocate t c = rw (c.in-Allocate.is, typed_expr-Allocate) (rw c.get-in-Allocate.ensures at c.expr_start-in-Allocate.ensures)

pub expr_start-returns-in-AllocateFor : goal.expr_start-returns-in-AllocateFor
expr_start-returns-in-AllocateFor t c = rw (c.in-AllocateFor.is, typed_expr-AllocateFor) (rw c.get-in-AllocateFor.ensures at c.expr_start-in-AllocateFor.ensures)
