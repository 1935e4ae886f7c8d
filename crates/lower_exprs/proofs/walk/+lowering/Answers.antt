use Rattle.std.proofs.Common.{rules}
use Rattle.c_tree.proofs.TypedViewLaws.{typed_expr-Integer, typed_expr-Character, typed_expr-Enumerator, typed_expr-FunctionName, typed_expr-RuntimeName, typed_expr-Paren, typed_expr-Read, typed_expr-Unread, typed_expr-Decay, typed_expr-Convert, typed_expr-Cast, typed_expr-AddressOf, typed_expr-AddressOfElement, typed_expr-AddressOfFunction, typed_expr-FunctionAt, typed_expr-Prefix, typed_expr-SizeOfPlace, typed_expr-SizeOfValue, typed_expr-SizeOfType, typed_expr-StepBefore, typed_expr-StepAfter, typed_expr-Arithmetic, typed_expr-Moved, typed_expr-Difference, typed_expr-Compared, typed_expr-Logical, typed_expr-Conditional, typed_expr-PointerConditional, typed_expr-Comma, typed_expr-Assign, typed_expr-AssignWith, typed_expr-Call, typed_expr-CallRuntime, typed_expr-Allocate, typed_expr-AllocateFor, typed_place-Variable, typed_place-String, typed_place-ParenPlace, typed_place-Target, typed_place-Element, typed_place-Member, typed_place-MemberAt, typed_place-StructAssign, typed_place-StructConditional, typed_place-StructComma}
use Rattle.std.proofs.Common.{suc}
use Rattle.c_tree.specs.TypedParts.{place_at, place_type}
use Rattle.c_tree.specs.TypedViews.{typed_expr_view, typed_place_view}
use Rattle.cil_form.specs.declared.instr.Target.TheVariants as target
use Rattle.lower_rules.specs.declared.after.After.TheVariants as after
use Rattle.lower_rules.specs.Words.{value}
use Rattle.lower_rules.specs.Expressions.{node_in_place}
use Rattle.lower_exprs.specs.Drafts.{context_of}
use Rattle.lower_exprs.proofs.Laws.{grows_then, grows_choice, grows_logical, grows_never, grows_operand, grows_reached, grows_side, one_argument}
use Rattle.lower_exprs.proofs.walk.+lowering.Goals as goal

pub expr-returns-in-Integer : goal.expr-returns-in-Integer
expr-returns-in-Integer t c = rw (c.in-Integer.is, typed_expr-Integer) c.put_unsigned.ensures

pub expr-returns-in-Character : goal.expr-returns-in-Character
expr-returns-in-Character t c = rw (c.in-Character.is, typed_expr-Character) c.put_character.ensures

pub expr-returns-in-Enumerator : goal.expr-returns-in-Enumerator
expr-returns-in-Enumerator t c = rw (c.in-Enumerator.is, typed_expr-Enumerator) c.put_enumerator.ensures

pub expr-returns-in-FunctionName : goal.expr-returns-in-FunctionName
expr-returns-in-FunctionName t c = rw (c.in-FunctionName.is, typed_expr-FunctionName) c.put_function.ensures

pub expr-returns-in-RuntimeName : goal.expr-returns-in-RuntimeName
expr-returns-in-RuntimeName t c = rw (c.in-RuntimeName.is, typed_expr-RuntimeName) (grows_never _ _ _ c.refuse.ensures)

pub expr-returns-in-Paren : goal.expr-returns-in-Paren
expr-returns-in-Paren t c = rw (c.in-Paren.is, typed_expr-Paren) (rw c.get.ensures at c.expr.ensures)

pub expr-returns-in-Read : goal.expr-returns-in-Read
expr-returns-in-Read t c = rw (c.in-Read.is, typed_expr-Read) (rw (c.load_of.ensures, c.ty.ensures, c.place_at.ensures, c.get-p.ensures) at c.place.ensures)

pub expr-returns-in-Unread : goal.expr-returns-in-Unread
expr-returns-in-Unread t c = rw (c.in-Unread.is, typed_expr-Unread) (rw c.get-in-Unread.ensures at c.place-in-Unread.ensures)

pub expr-returns-in-Decay : goal.expr-returns-in-Decay
expr-returns-in-Decay t c = rw (c.in-Decay.is, typed_expr-Decay) (rw (c.decay_of.ensures, c.get-p-in-Decay.ensures) at c.place-in-Decay.ensures)

pub expr-returns-in-Convert : goal.expr-returns-in-Convert
expr-returns-in-Convert t c = rw (c.in-Convert.is, typed_expr-Convert) (grows_then _ _ _ _ _ _ _ (rw c.get-e.ensures at c.expr-in-Convert.ensures) (rw (c.ty-in-Convert.ensures, c.get-e.ensures) at c.put_conversion.ensures))

pub expr-returns-in-Cast : goal.expr-returns-in-Cast
expr-returns-in-Cast t c = rw (c.in-Cast.is, typed_expr-Cast) (grows_then _ _ _ _ _ _ _ (rw c.get-e-in-Cast.ensures at c.expr-in-Cast.ensures) (rw (c.ty-in-Cast.ensures, c.get-e-in-Cast.ensures, c.named_type.ensures, c.get-in-Cast.ensures) at c.put_conversion-in-Cast.ensures))

pub expr-returns-in-AddressOf : goal.expr-returns-in-AddressOf
expr-returns-in-AddressOf t c = rw (c.in-AddressOf.is, typed_expr-AddressOf) (rw (c.address_of.ensures, c.ty-in-AddressOf.ensures, c.get-p-in-AddressOf.ensures) at c.place-in-AddressOf.ensures)

pub expr-returns-in-AddressOfElement : goal.expr-returns-in-AddressOfElement
expr-returns-in-AddressOfElement t c = rw (c.in-AddressOfElement.is, typed_expr-AddressOfElement) (rw c.get-in-AddressOfElement.ensures at c.place-in-AddressOfElement.ensures)

pub expr-returns-in-AddressOfFunction : goal.expr-returns-in-AddressOfFunction
expr-returns-in-AddressOfFunction t c = rw (c.in-AddressOfFunction.is, typed_expr-AddressOfFunction) (rw c.get-in-AddressOfFunction.ensures at c.expr-in-AddressOfFunction.ensures)

pub expr-returns-in-FunctionAt : goal.expr-returns-in-FunctionAt
expr-returns-in-FunctionAt t c = rw (c.in-FunctionAt.is, typed_expr-FunctionAt) (rw c.get-in-FunctionAt.ensures at c.expr-in-FunctionAt.ensures)

pub expr-returns-in-Prefix : goal.expr-returns-in-Prefix
expr-returns-in-Prefix t c = rw (c.in-Prefix.is, typed_expr-Prefix) (grows_then _ _ _ _ _ _ _ (rw c.get-in-Prefix.ensures at c.expr-in-Prefix.ensures) c.put_prefix.ensures)

pub expr-returns-in-SizeOfPlace : goal.expr-returns-in-SizeOfPlace
expr-returns-in-SizeOfPlace t c = rw (c.in-SizeOfPlace.is, typed_expr-SizeOfPlace) c.put_unsigned-in-SizeOfPlace.ensures

pub expr-returns-in-SizeOfValue : goal.expr-returns-in-SizeOfValue
expr-returns-in-SizeOfValue t c = rw (c.in-SizeOfValue.is, typed_expr-SizeOfValue) c.put_unsigned-in-SizeOfValue.ensures

pub expr-returns-in-SizeOfType : goal.expr-returns-in-SizeOfType
expr-returns-in-SizeOfType t c = rw (c.in-SizeOfType.is, typed_expr-SizeOfType) c.put_unsigned-in-SizeOfType.ensures

pub expr-returns-in-StepBefore : goal.expr-returns-in-StepBefore
expr-returns-in-StepBefore t c = rw (c.in-StepBefore.is, typed_expr-StepBefore) (rw (c.step_of.ensures, c.get-p-in-StepBefore.ensures) at c.place-in-StepBefore.ensures)

pub expr-returns-in-StepAfter : goal.expr-returns-in-StepAfter
expr-returns-in-StepAfter t c = rw (c.in-StepAfter.is, typed_expr-StepAfter) (rw (c.step_of-in-StepAfter.ensures, c.get-p-in-StepAfter.ensures) at c.place-in-StepAfter.ensures)

pub expr-returns-in-Arithmetic : goal.expr-returns-in-Arithmetic
expr-returns-in-Arithmetic t c = rw (c.in-Arithmetic.is, typed_expr-Arithmetic) (grows_then _ _ _ _ _ _ _ (rw c.get-a.ensures at c.expr-in-Arithmetic.ensures) (grows_then _ _ _ _ _ _ _ (grows_operand (typed_expr_view c.in-Arithmetic.b) (context_of c.args.k.now) (suc c.args.t) _ _ _ c.above-u.ensures.room (rw (c.above-u.ensures.number, c.get-in-Arithmetic.ensures) at c.expr-in-Arithmetic-2.ensures)) (rw (c.lowered.ensures, c.ty-in-Arithmetic.ensures, c.get-a.ensures) at c.put_binary.ensures)))

pub expr-returns-in-Moved : goal.expr-returns-in-Moved
expr-returns-in-Moved t c = rw (c.in-Moved.is, typed_expr-Moved) (grows_then _ _ _ _ _ _ _ (rw c.get-a-in-Moved.ensures at c.expr-in-Moved.ensures) (grows_then _ _ _ _ _ _ _ (grows_operand (typed_expr_view c.in-Moved.b) (context_of c.args.k.now) (suc c.args.t) _ _ _ c.above-u-in-Moved.ensures.room (rw (c.above-u-in-Moved.ensures.number, c.get-b.ensures) at c.expr-in-Moved-2.ensures)) (rw (c.is_subtraction.ensures, c.operands_of.ensures, c.get-a-in-Moved.ensures, c.get-b.ensures) at c.put_move.ensures)))

pub expr-returns-in-Difference : goal.expr-returns-in-Difference
expr-returns-in-Difference t c = rw (c.in-Difference.is, typed_expr-Difference) (grows_then _ _ _ _ _ _ _ (rw c.get-a-in-Difference.ensures at c.expr-in-Difference.ensures) (grows_then _ _ _ _ _ _ _ (grows_operand (typed_expr_view c.in-Difference.b) (context_of c.args.k.now) (suc c.args.t) _ _ _ c.above-u-in-Difference.ensures.room (rw (c.above-u-in-Difference.ensures.number, c.get-b-in-Difference.ensures) at c.expr-in-Difference-2.ensures)) (rw (c.operands_of-in-Difference.ensures, c.get-a-in-Difference.ensures, c.get-b-in-Difference.ensures) at c.put_difference.ensures)))

pub expr-returns-in-Compared : goal.expr-returns-in-Compared
expr-returns-in-Compared t c = rw (c.in-Compared.is, typed_expr-Compared) (grows_then _ _ _ _ _ _ _ (rw c.get-a-in-Compared.ensures at c.expr-in-Compared.ensures) (grows_then _ _ _ _ _ _ _ (grows_operand (typed_expr_view c.in-Compared.b) (context_of c.args.k.now) (suc c.args.t) _ _ _ c.above-u-in-Compared.ensures.room (rw (c.above-u-in-Compared.ensures.number, c.get-b-in-Compared.ensures) at c.expr-in-Compared-2.ensures)) (rw (c.is_null.ensures, c.is_null-in-Compared.ensures, c.operands_of-in-Compared.ensures, c.get-a-in-Compared.ensures, c.get-b-in-Compared.ensures) at c.put_compare.ensures)))

pub expr-returns-in-Logical : goal.expr-returns-in-Logical
expr-returns-in-Logical t c = rw (c.in-Logical.is, typed_expr-Logical) (grows_then _ _ _ _ _ _ _ (rw c.get-in-Logical.ensures at c.expr-in-Logical.ensures) (grows_logical _ _ _ _ _ _ _ _ (rw c.is_or.ensures at c.put_logical.ensures) (grows_then _ _ _ _ _ _ _ (rw c.get-in-Logical-2.ensures at c.expr-in-Logical-2.ensures) c.put_test.ensures) c.start-right.ensures))

pub expr-returns-in-Conditional : goal.expr-returns-in-Conditional
expr-returns-in-Conditional t c = rw (c.in-Conditional.is, typed_expr-Conditional) (grows_then _ _ _ _ _ _ _ (rw c.get-in-Conditional.ensures at c.expr-in-Conditional.ensures) (grows_choice _ _ _ _ _ _ _ _ _ _ _ c.choose.ensures (rw c.get-in-Conditional-2.ensures at c.expr-in-Conditional-2.ensures) c.start-then.ensures (rw c.get-in-Conditional-3.ensures at c.expr-in-Conditional-3.ensures) c.start-otherwise.ensures))

pub expr-returns-in-PointerConditional : goal.expr-returns-in-PointerConditional
expr-returns-in-PointerConditional t c = rw (c.in-PointerConditional.is, typed_expr-PointerConditional) (grows_then _ _ _ _ _ _ _ (rw c.get-in-PointerConditional.ensures at c.expr-in-PointerConditional.ensures) (grows_choice _ _ _ _ _ _ _ _ _ _ _ c.choose-in-PointerConditional.ensures (rw c.get-in-PointerConditional-2.ensures at c.expr-in-PointerConditional-2.ensures) c.start-then-in-PointerConditional.ensures (rw c.get-in-PointerConditional-3.ensures at c.expr-in-PointerConditional-3.ensures) c.start-otherwise-in-PointerConditional.ensures))

pub expr-returns-in-Comma : goal.expr-returns-in-Comma
expr-returns-in-Comma t c = rw (c.in-Comma.is, typed_expr-Comma) (grows_then _ _ _ _ _ _ _ (rw c.get-in-Comma.ensures at c.expr-in-Comma.ensures) (rw c.get-in-Comma-2.ensures at c.expr-in-Comma-2.ensures))

pub expr-returns-in-Assign : goal.expr-returns-in-Assign
expr-returns-in-Assign t c = rw (c.in-Assign.is, typed_expr-Assign) (grows_reached _ _ _ _ _ _ _ _ _ _ (rw c.get-p-in-Assign.ensures at c.demand_fixed.ensures) (rw c.get-p-in-Assign.ensures at c.place-in-Assign.ensures) (grows_then _ _ _ _ _ _ _ (grows_operand (typed_expr_view c.in-Assign.e) (context_of c.args.k.now) (suc c.args.t) _ _ _ c.above-u-in-Assign.ensures.room (rw (c.above-u-in-Assign.ensures.number, c.get-in-Assign.ensures) at c.expr-in-Assign.ensures)) (rw (c.spot_of.ensures, c.get-p-in-Assign.ensures) at c.put_assign.ensures)))

pub expr-returns-in-AssignWith : goal.expr-returns-in-AssignWith
expr-returns-in-AssignWith t c = rw (c.in-AssignWith.is, typed_expr-AssignWith) (grows_reached _ _ _ _ _ _ _ _ _ _ (rw c.get-p-in-AssignWith.ensures at c.demand_fixed-in-AssignWith.ensures) (rw c.get-p-in-AssignWith.ensures at c.place-in-AssignWith.ensures) (grows_then _ _ _ _ _ _ _ (grows_operand (typed_expr_view c.in-AssignWith.e) (context_of c.args.k.now) (suc c.args.t) _ _ _ c.above-u-in-AssignWith.ensures.room (rw (c.above-u-in-AssignWith.ensures.number, c.get-in-AssignWith.ensures) at c.expr-in-AssignWith.ensures)) (rw (c.spot_of-in-AssignWith.ensures, c.motion_of.ensures, c.is_pointer-pointer.ensures, c.ty-in-AssignWith.ensures, c.get-p-in-AssignWith.ensures) at c.put_update.ensures)))

pub expr-returns-in-Call : goal.expr-returns-in-Call
expr-returns-in-Call t c = rw (c.in-Call.is, typed_expr-Call) (grows_then _ _ _ _ _ _ _ (rw c.get-f.ensures at c.expr-in-Call.ensures) (grows_then _ _ _ _ _ _ _ (rw c.as_slice-all.ensures at c.arguments.ensures) (rw (c.ty-in-Call.ensures, c.get-f.ensures, c.count.ensures, c.as_slice-all.ensures) at c.put_call.ensures)))

pub expr-returns-in-CallRuntime : goal.expr-returns-in-CallRuntime
expr-returns-in-CallRuntime t c = rw (c.in-CallRuntime.is, typed_expr-CallRuntime) (grows_then _ _ _ _ _ _ _ (rw c.as_slice-all-in-CallRuntime.ensures at c.arguments-in-CallRuntime.ensures) (rw (c.count-in-CallRuntime.ensures, c.as_slice-all-in-CallRuntime.ensures) at c.put_runtime.ensures))

pub expr-returns-in-Allocate : goal.expr-returns-in-Allocate
expr-returns-in-Allocate t c = rw (c.in-Allocate.is, typed_expr-Allocate) (grows_then _ _ _ _ _ _ _ (rw c.as_slice-all-in-Allocate.ensures at c.arguments-in-Allocate.ensures) (rw (c.count-in-Allocate.ensures, c.block_of.ensures, c.pointee_of.ensures, c.as_slice-all-in-Allocate.ensures) at c.put_allocation.ensures))

pub expr-returns-in-AllocateFor : goal.expr-returns-in-AllocateFor
expr-returns-in-AllocateFor t c = rw (c.in-AllocateFor.is, typed_expr-AllocateFor) (grows_then _ _ _ _ _ _ _ (rw c.as_slice-all-in-AllocateFor.ensures at c.arguments-in-AllocateFor.ensures) (rw (c.count-in-AllocateFor.ensures, c.block_of-in-AllocateFor.ensures, c.node_of.ensures, c.pointee_of-in-AllocateFor.ensures, c.as_slice-all-in-AllocateFor.ensures) at c.put_allocation-in-AllocateFor.ensures))

pub place-returns-in-Variable : goal.place-returns-in-Variable
place-returns-in-Variable t c = rw (c.in-Variable.is, typed_place-Variable) (grows_then _ _ _ _ _ _ _ c.put_object.ensures c.follow.ensures)

pub place-returns-in-String : goal.place-returns-in-String
place-returns-in-String t c = rw (c.in-String.is, typed_place-String) (grows_then _ _ _ _ _ _ _ c.put_object-in-String.ensures c.follow-in-String.ensures)

pub place-returns-in-ParenPlace : goal.place-returns-in-ParenPlace
place-returns-in-ParenPlace t c = rw (c.in-ParenPlace.is, typed_place-ParenPlace) (rw c.get.ensures at c.place.ensures)

pub place-returns-in-Target : goal.place-returns-in-Target
place-returns-in-Target t c = rw (c.in-Target.is, typed_place-Target) (grows_then _ _ _ _ _ _ _ (rw c.get-e.ensures at c.expr.ensures) (rw (c.node_of.ensures, c.ty.ensures, c.get-e.ensures) at c.follow-in-Target.ensures))

pub place-returns-in-Element : goal.place-returns-in-Element
place-returns-in-Element t c = rw (c.in-Element.is, typed_place-Element) (grows_then _ _ _ _ _ _ _ (grows_then _ _ _ _ _ _ _ (rw c.get-a.ensures at c.expr-in-Element.ensures) (grows_then _ _ _ _ _ _ _ (grows_operand (typed_expr_view c.in-Element.b) (context_of c.args.k.now) (suc c.args.t) _ _ _ c.above-u.ensures.room (rw (c.above-u.ensures.number, c.get-b.ensures) at c.expr-in-Element-2.ensures)) (rw (c.operands_of.ensures, c.get-a.ensures, c.get-b.ensures) at c.put_move.ensures))) (rw (c.node_of-in-Element.ensures, c.pointer_type.ensures, c.get-a.ensures, c.get-b.ensures) at c.follow-in-Element.ensures))

pub place-returns-in-Member : goal.place-returns-in-Member
place-returns-in-Member t c = rw (c.in-Member.is, typed_place-Member) (grows_then _ _ _ _ _ _ _ (rw (c.member_of.ensures, c.ty-in-Member.ensures, c.get-p.ensures) at c.place-in-Member.ensures) c.follow-in-Member.ensures)

pub place-returns-in-MemberAt : goal.place-returns-in-MemberAt
place-returns-in-MemberAt t c = rw (c.in-MemberAt.is, typed_place-MemberAt) (grows_then _ _ _ _ _ _ _ (grows_then _ _ _ _ _ _ _ (rw c.get-e-in-MemberAt.ensures at c.expr-in-MemberAt.ensures) (rw (c.node_of-in-MemberAt.ensures, c.member_of-in-MemberAt.ensures, c.pointee_of-to.ensures, c.ty-in-MemberAt.ensures, c.ty-in-MemberAt-2.ensures, c.get-e-in-MemberAt.ensures) at c.follow-in-MemberAt.ensures)) c.follow-in-MemberAt-2.ensures)

pub place-returns-in-StructAssign : goal.place-returns-in-StructAssign
place-returns-in-StructAssign t c = rw (c.in-StructAssign.is, typed_place-StructAssign) (grows_reached _ _ _ _ _ _ _ _ _ _ (rw c.get-p-in-StructAssign.ensures at c.demand_fixed.ensures) (rw c.get-p-in-StructAssign.ensures at c.place-in-StructAssign.ensures) (grows_then _ _ _ _ _ _ _ (grows_side (typed_place_view c.in-StructAssign.q) (context_of c.args.k.now) (suc c.args.t) (after.Copy (target.Pointer (value c.args.t) (node_in_place (context_of c.args.k.now) (typed_place_view c.in-StructAssign.p))) (place_at (typed_place_view c.in-StructAssign.p)) (place_at (typed_place_view c.in-StructAssign.q)) (place_type (typed_place_view c.in-StructAssign.p)) c.in-StructAssign.at) (Unit {0}) _ _ _ c.above-u-in-StructAssign.ensures.room (rw (c.above-u-in-StructAssign.ensures.number, c.copy_of.ensures, c.get-p-in-StructAssign.ensures, c.get-q.ensures) at c.place-in-StructAssign-2.ensures)) (rw (c.node_in_place.ensures, c.get-p-in-StructAssign.ensures) at c.follow-in-StructAssign.ensures)))

pub place-returns-in-StructConditional : goal.place-returns-in-StructConditional
place-returns-in-StructConditional t c = rw (c.in-StructConditional.is, typed_place-StructConditional) (grows_then _ _ _ _ _ _ _ (rw c.get-in-StructConditional.ensures at c.expr-in-StructConditional.ensures) (grows_choice _ _ _ _ _ _ _ _ _ _ _ c.choose.ensures (rw c.get-in-StructConditional-2.ensures at c.place-in-StructConditional.ensures) c.start-then.ensures (rw c.get-in-StructConditional-3.ensures at c.place-in-StructConditional-2.ensures) c.start-otherwise.ensures))

pub place-returns-in-StructComma : goal.place-returns-in-StructComma
place-returns-in-StructComma t c = rw (c.in-StructComma.is, typed_place-StructComma) (grows_then _ _ _ _ _ _ _ (rw c.get-in-StructComma.ensures at c.expr-in-StructComma.ensures) (rw c.get-in-StructComma-2.ensures at c.place-in-StructComma.ensures))

pub arguments-loop-e-preserved : goal.arguments-loop-e-preserved
arguments-loop-e-preserved t c = record {
  made = one_argument c.args.all.now c.loop-e.e-index c.e-item.result _ _ c.loop-e.i _ _ _ _ c.loop-e-test.true c.e-item.is c.loop-e.invariant.number
      c.loop-e.invariant.made c.argument_number-u.ensures.room (rw c.argument_number-u.ensures.number at c.expr.ensures);
  number = search rules;
}
