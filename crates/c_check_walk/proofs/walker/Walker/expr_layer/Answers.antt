use Rattle.std.proofs.Common.{rules, arith}
use Rattle.std.proofs.lemmas.Grind.{common_steps}
use Rattle.c_tree.proofs.ViewLaws.{view_expr-Name, view_expr-Integer, view_expr-Character, view_expr-String, view_expr-Paren, view_expr-Index, view_expr-Call, view_expr-Member, view_expr-Postfix, view_expr-Prefix, view_expr-SizeOfType, view_expr-Cast, view_expr-Infix, view_expr-Conditional, view_expr-Assign, view_expr-Comma}
use Rattle.c_tree.specs.Views.{expr_view}
use Rattle.c_typing.specs.Judging.{known}
use Rattle.c_typing.specs.OperandViews.{operand_view}
use Rattle.c_typing.specs.Walks.{judge}
use Rattle.c_check_walk.proofs.ExprLaws.{leaves_judged}
use Rattle.c_check_walk.proofs.OutcomeLaws.{answers-moved}
use Rattle.c_check_walk.proofs.walker.Walker.expr_layer.Goals as goal

pub paren_layer-requires : goal.paren_layer-requires
paren_layer-requires g c =
    record { nests = rw c.get.ensures (rw (c.in-Paren.is, view_expr-Paren) at c.requires.nests) }

pub index_layer-requires : goal.index_layer-requires
index_layer-requires g c =
    record { nests = rw (c.get-in-Index.ensures, c.get-in-Index-2.ensures) (rw (c.in-Index.is, view_expr-Index) at c.requires.nests) }

pub call_layer-requires : goal.call_layer-requires
call_layer-requires g c =
    record { nests = rw (c.get-in-Call.ensures, c.as_slice-in-Call.ensures) (rw (c.in-Call.is, view_expr-Call) at c.requires.nests) }

pub member_layer-requires : goal.member_layer-requires
member_layer-requires g c =
    record { nests = rw c.get-in-Member.ensures (rw (c.in-Member.is, view_expr-Member) at c.requires.nests) }

pub postfix_layer-requires : goal.postfix_layer-requires
postfix_layer-requires g c =
    record { nests = rw c.get-in-Postfix.ensures (rw (c.in-Postfix.is, view_expr-Postfix) at c.requires.nests) }

pub prefix_layer-requires : goal.prefix_layer-requires
prefix_layer-requires g c =
    record { nests = rw c.get-in-Prefix.ensures (rw (c.in-Prefix.is, view_expr-Prefix) at c.requires.nests) }

pub size_layer-requires : goal.size_layer-requires
size_layer-requires g c =
    record { nests = rw c.get-in-SizeOfType.ensures (rw (c.in-SizeOfType.is, view_expr-SizeOfType) at c.requires.nests) }

pub cast_layer-requires : goal.cast_layer-requires
cast_layer-requires g c =
    record { nests = rw (c.get-in-Cast.ensures, c.get-in-Cast-2.ensures) (rw (c.in-Cast.is, view_expr-Cast) at c.requires.nests) }

pub infix_layer-requires : goal.infix_layer-requires
infix_layer-requires g c =
    record { nests = rw (c.get-in-Infix.ensures, c.get-in-Infix-2.ensures) (rw (c.in-Infix.is, view_expr-Infix) at c.requires.nests) }

pub conditional_layer-requires : goal.conditional_layer-requires
conditional_layer-requires g c =
    record { nests = rw (c.get-in-Conditional.ensures, c.get-in-Conditional-2.ensures, c.get-in-Conditional-3.ensures) (rw (c.in-Conditional.is, view_expr-Conditional) at c.requires.nests) }

pub assignment_layer-requires : goal.assignment_layer-requires
assignment_layer-requires g c =
    record { nests = rw (c.get-in-Assign.ensures, c.get-in-Assign-2.ensures) (rw (c.in-Assign.is, view_expr-Assign) at c.requires.nests) }

pub comma_layer-requires : goal.comma_layer-requires
comma_layer-requires g c =
    record { nests = rw (c.get-in-Comma.ensures, c.get-in-Comma-2.ensures) (rw (c.in-Comma.is, view_expr-Comma) at c.requires.nests) }

pub returns-in-Name-clause-answers : goal.returns-in-Name-clause-answers
returns-in-Name-clause-answers g c =
    answers-moved operand_view (λ o. o) _ (judge c.args.called (expr_view c.args.e.now) (known c.args.types.now c.args.scope.now)) c.name.result
    (known c.name.new.types c.name.new.scope) c.name.ensures.answers (first_of (grind (arith, common_steps, leaves_judged, view_expr-Name), search (rules, leaves_judged, view_expr-Name)))

pub returns-in-Integer-clause-answers : goal.returns-in-Integer-clause-answers
returns-in-Integer-clause-answers g c =
    answers-moved operand_view (λ o. o) _ (judge c.args.called (expr_view c.args.e.now) (known c.args.types.now c.args.scope.now)) c.integer.result
    (known c.args.types.now c.args.scope.now) c.integer.ensures (first_of (grind (arith, common_steps, leaves_judged, view_expr-Integer), search (rules, leaves_judged, view_expr-Integer)))

pub returns-in-Character-clause-answers : goal.returns-in-Character-clause-answers
returns-in-Character-clause-answers g c =
    answers-moved operand_view (λ o. o) _ (judge c.args.called (expr_view c.args.e.now) (known c.args.types.now c.args.scope.now)) c.character.result
    (known c.args.types.now c.args.scope.now) c.character.ensures (first_of (grind (arith, common_steps, leaves_judged, view_expr-Character), search (rules, leaves_judged, view_expr-Character)))

pub returns-in-String-clause-answers : goal.returns-in-String-clause-answers
returns-in-String-clause-answers g c =
    answers-moved operand_view (λ o. o) _ (judge c.args.called (expr_view c.args.e.now) (known c.args.types.now c.args.scope.now)) c.literal.result
    (known c.literal.new.types c.literal.new.scope) c.literal.ensures.answers (first_of (grind (arith, common_steps, leaves_judged, view_expr-String), search (rules, leaves_judged, view_expr-String)))

pub returns-in-Paren-clause-answers : goal.returns-in-Paren-clause-answers
returns-in-Paren-clause-answers g c =
    answers-moved operand_view (λ e. judge c.args.called e (known c.args.types.now c.args.scope.now)) _ (expr_view c.args.e.now) c.paren_layer.result
    (known c.paren_layer.new.types c.paren_layer.new.scope) c.paren_layer.ensures.answers (first_of (grind (arith, common_steps, view_expr-Paren), search (rules, view_expr-Paren)))

pub returns-in-Index-clause-answers : goal.returns-in-Index-clause-answers
returns-in-Index-clause-answers g c =
    answers-moved operand_view (λ e. judge c.args.called e (known c.args.types.now c.args.scope.now)) _ (expr_view c.args.e.now) c.index_layer.result
    (known c.index_layer.new.types c.index_layer.new.scope) c.index_layer.ensures.answers (first_of (grind (arith, common_steps, view_expr-Index), search (rules, view_expr-Index)))

pub returns-in-Call-clause-answers : goal.returns-in-Call-clause-answers
returns-in-Call-clause-answers g c =
    answers-moved operand_view (λ e. judge c.args.called e (known c.args.types.now c.args.scope.now)) _ (expr_view c.args.e.now) c.call_layer.result
    (known c.call_layer.new.types c.call_layer.new.scope) c.call_layer.ensures.answers (first_of (grind (arith, common_steps, view_expr-Call), search (rules, view_expr-Call)))

pub returns-in-Member-clause-answers : goal.returns-in-Member-clause-answers
returns-in-Member-clause-answers g c =
    answers-moved operand_view (λ e. judge c.args.called e (known c.args.types.now c.args.scope.now)) _ (expr_view c.args.e.now) c.member_layer.result
    (known c.member_layer.new.types c.member_layer.new.scope) c.member_layer.ensures.answers (first_of (grind (arith, common_steps, view_expr-Member), search (rules, view_expr-Member)))

pub returns-in-Postfix-clause-answers : goal.returns-in-Postfix-clause-answers
returns-in-Postfix-clause-answers g c =
    answers-moved operand_view (λ e. judge c.args.called e (known c.args.types.now c.args.scope.now)) _ (expr_view c.args.e.now) c.postfix_layer.result
    (known c.postfix_layer.new.types c.postfix_layer.new.scope) c.postfix_layer.ensures.answers (first_of (grind (arith, common_steps, view_expr-Postfix), search (rules, view_expr-Postfix)))

pub returns-in-Prefix-clause-answers : goal.returns-in-Prefix-clause-answers
returns-in-Prefix-clause-answers g c =
    answers-moved operand_view (λ e. judge c.args.called e (known c.args.types.now c.args.scope.now)) _ (expr_view c.args.e.now) c.prefix_layer.result
    (known c.prefix_layer.new.types c.prefix_layer.new.scope) c.prefix_layer.ensures.answers (first_of (grind (arith, common_steps, view_expr-Prefix), search (rules, view_expr-Prefix)))

pub returns-in-SizeOfType-clause-answers : goal.returns-in-SizeOfType-clause-answers
returns-in-SizeOfType-clause-answers g c =
    answers-moved operand_view (λ e. judge c.args.called e (known c.args.types.now c.args.scope.now)) _ (expr_view c.args.e.now) c.size_layer.result
    (known c.size_layer.new.types c.size_layer.new.scope) c.size_layer.ensures.answers (first_of (grind (arith, common_steps, view_expr-SizeOfType), search (rules, view_expr-SizeOfType)))

pub returns-in-Cast-clause-answers : goal.returns-in-Cast-clause-answers
returns-in-Cast-clause-answers g c =
    answers-moved operand_view (λ e. judge c.args.called e (known c.args.types.now c.args.scope.now)) _ (expr_view c.args.e.now) c.cast_layer.result
    (known c.cast_layer.new.types c.cast_layer.new.scope) c.cast_layer.ensures.answers (first_of (grind (arith, common_steps, view_expr-Cast), search (rules, view_expr-Cast)))

pub returns-in-Infix-clause-answers : goal.returns-in-Infix-clause-answers
returns-in-Infix-clause-answers g c =
    answers-moved operand_view (λ e. judge c.args.called e (known c.args.types.now c.args.scope.now)) _ (expr_view c.args.e.now) c.infix_layer.result
    (known c.infix_layer.new.types c.infix_layer.new.scope) c.infix_layer.ensures.answers (first_of (grind (arith, common_steps, view_expr-Infix), search (rules, view_expr-Infix)))

pub returns-in-Conditional-clause-answers : goal.returns-in-Conditional-clause-answers
returns-in-Conditional-clause-answers g c =
    answers-moved operand_view (λ e. judge c.args.called e (known c.args.types.now c.args.scope.now)) _ (expr_view c.args.e.now) c.conditional_layer.result
    (known c.conditional_layer.new.types c.conditional_layer.new.scope) c.conditional_layer.ensures.answers (first_of (grind (arith, common_steps, view_expr-Conditional), search (rules, view_expr-Conditional)))

pub returns-in-Assign-clause-answers : goal.returns-in-Assign-clause-answers
returns-in-Assign-clause-answers g c =
    answers-moved operand_view (λ e. judge c.args.called e (known c.args.types.now c.args.scope.now)) _ (expr_view c.args.e.now) c.assignment_layer.result
    (known c.assignment_layer.new.types c.assignment_layer.new.scope) c.assignment_layer.ensures.answers (first_of (grind (arith, common_steps, view_expr-Assign), search (rules, view_expr-Assign)))

pub returns-in-Comma-clause-answers : goal.returns-in-Comma-clause-answers
returns-in-Comma-clause-answers g c =
    answers-moved operand_view (λ e. judge c.args.called e (known c.args.types.now c.args.scope.now)) _ (expr_view c.args.e.now) c.comma_layer.result
    (known c.comma_layer.new.types c.comma_layer.new.scope) c.comma_layer.ensures.answers (first_of (grind (arith, common_steps, view_expr-Comma), search (rules, view_expr-Comma)))
