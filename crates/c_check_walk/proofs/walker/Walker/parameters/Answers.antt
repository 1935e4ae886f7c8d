use Rattle.std.proofs.Common.{rules, arith, map, take}
use Rattle.std.proofs.lemmas.Grind.{common_steps}
use Rattle.c_tree.proofs.PushLaws.{pushes}
use Rattle.c_tree.specs.Tree.{NoParameter}
use Rattle.c_tree.specs.TypedTree.{NoParameter as none_typed}
use Rattle.c_tree.specs.TypedViews.{typed_parameter_view}
use Rattle.c_tree.specs.Views.{added, parameter_view}
use Rattle.c_typing.specs.Judging.{known}
use Rattle.c_typing.specs.Walks.{judge_parameters}
use Rattle.c_tree.specs.Depth.{parameters_height}
use Rattle.c_check_walk.proofs.NestLaws.{nests-each, parameters_count}
use Rattle.c_check_walk.proofs.SeriesLaws.{goes, fails}
use Rattle.c_check_walk.proofs.StayLaws.{each_parameter-stays}
use Rattle.c_check_walk.proofs.walker.Walker.parameters.Goals as goal

pub parameter-requires : goal.parameter-requires
parameter-requires g c =
    record { nests = nests-each parameters_height parameter_view (λ x. parameters_height (parameter_view x NoParameter)) parameters_count c.args.list.now c.loop-one.one-index c.one-item.result c.loop-one-test.true c.one-item.is NoParameter c.requires.nests }

pub returns-in_err-parameter-clause-answers : goal.returns-in_err-parameter-clause-answers
returns-in_err-parameter-clause-answers g c =
    let stopped = fails (judge_parameters c.args.void) parameter_view (each_parameter-stays c.args.void) c.args.list.now c.loop-one.one-index c.one-item.result c.loop-one-test.true c.one-item.is NoParameter
    (known c.args.types.now c.args.scope.now) (known c.parameter.new.types c.parameter.new.scope) c.in_err-parameter.field-0.0
    (c.in_err-parameter.ensures.answers (known c.args.types.now c.args.scope.now) (added NoParameter (map parameter_view (take c.loop-one.one-index c.args.list.now))) (added none_typed (map typed_parameter_view c.loop-one.found)) c.loop-one.invariant.0) in
    search rules

pub loop-one-preserved : goal.loop-one-preserved
loop-one-preserved g c =
    let judged = goes (judge_parameters c.args.void) parameter_view c.args.list.now c.loop-one.one-index c.one-item.result c.loop-one-test.true c.one-item.is NoParameter
    (known c.args.types.now c.args.scope.now) _
    (c.in_ok-parameter.ensures.answers (known c.args.types.now c.args.scope.now) (added NoParameter (map parameter_view (take c.loop-one.one-index c.args.list.now))) (added none_typed (map typed_parameter_view c.loop-one.found)) c.loop-one.invariant.0) in
    (first_of (grind (arith, common_steps, pushes), search (rules, pushes)), λ first h. c.in_ok-parameter.ensures.grows first (c.loop-one.invariant.1 first h))
