use Rattle.std.proofs.Common.{rules, arith, map, take}
use Rattle.std.proofs.lemmas.Grind.{common_steps}
use Rattle.c_tree.specs.Tree.{NoArgument, AndArgument}
use Rattle.c_tree.specs.Views.{arguments_of, expr_view}
use Rattle.c_typing.specs.Judging.{known}
use Rattle.c_typing.specs.OperandViews.{value_view}
use Rattle.c_typing.specs.Walks.{judge_arguments}
use Rattle.c_tree.specs.Depth.{arguments_height, expr_height}
use Rattle.c_check_walk.proofs.NestLaws.{nests-seen, arguments_count}
use Rattle.c_check_walk.proofs.ExprLaws.{argument_goes}
use Rattle.c_check_walk.proofs.SeriesLaws.{goes_on, fails_on}
use Rattle.c_check_walk.proofs.StayLaws.{arguments-stay}
use Rattle.c_check_walk.proofs.walker.Walker.arguments.Goals as goal

pub value-requires : goal.value-requires
value-requires g c =
    record { nests = nests-seen arguments_height AndArgument expr_view expr_height arguments_count c.args.list.now c.loop-e.e-index c.e-item.result c.loop-e-test.true c.e-item.is NoArgument c.requires.nests }

pub returns-in_err-value-clause-answers : goal.returns-in_err-value-clause-answers
returns-in_err-value-clause-answers g c =
    let stopped = fails_on judge_arguments AndArgument expr_view arguments-stay c.args.list.now c.loop-e.e-index c.e-item.result c.loop-e-test.true c.e-item.is NoArgument
    (known c.args.types.now c.args.scope.now) (known c.value.new.types c.value.new.scope) c.in_err-value.field-0.0
    (λ real. argument_goes (arguments_of (map expr_view (take c.loop-e.e-index c.args.list.now))) (expr_view c.e-item.result) (map value_view c.loop-e.values.items)
    (known c.args.types.now c.args.scope.now) (known c.loop-e.types c.loop-e.scope) c.loop-e.invariant.0 _ (c.in_err-value.ensures.answers real)) in
    search rules

pub loop-e-preserved : goal.loop-e-preserved
loop-e-preserved g c =
    let judged = goes_on judge_arguments AndArgument expr_view c.args.list.now c.loop-e.e-index c.e-item.result c.loop-e-test.true c.e-item.is NoArgument
    (known c.args.types.now c.args.scope.now) _
    (argument_goes (arguments_of (map expr_view (take c.loop-e.e-index c.args.list.now))) (expr_view c.e-item.result) (map value_view c.loop-e.values.items)
    (known c.args.types.now c.args.scope.now) (known c.loop-e.types c.loop-e.scope) c.loop-e.invariant.0 _ c.in_ok-value.ensures.answers) in
    (first_of (grind (arith, common_steps), search rules), λ any first h. c.in_ok-value.ensures.grows any first (c.loop-e.invariant.1 any first h))

pub returns-in_err-value-clause-grows : goal.returns-in_err-value-clause-grows
returns-in_err-value-clause-grows g c = λ any first h. c.in_err-value.ensures.grows any first (c.loop-e.invariant.1 any first h)

pub returns-in_err-push-clause-grows : goal.returns-in_err-push-clause-grows
returns-in_err-push-clause-grows g c = λ any first h. c.in_ok-value.ensures.grows any first (c.loop-e.invariant.1 any first h)
