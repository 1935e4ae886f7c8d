use Rattle.std.proofs.Common.{rules, arith, map, take}
use Rattle.std.proofs.lemmas.Grind.{common_steps}
use Rattle.c_tree.proofs.PushLaws.{pushes}
use Rattle.c_tree.specs.Tree.{NoExternal}
use Rattle.c_tree.specs.TypedTree.{NoExternal as no_typed}
use Rattle.c_tree.specs.TypedStatementViews.{typed_external_view}
use Rattle.c_tree.specs.Views.{added}
use Rattle.c_tree.specs.StatementViews.{external_view}
use Rattle.c_check_context.specs.ContextViews.{state_of}
use Rattle.c_unit_typing.specs.DefinitionJudging.{judge_unit}
use Rattle.c_check.proofs.StayLaws.{unit-stays}
use Rattle.c_check_declarations.proofs.SeriesLaws.{goes, fails}
use Rattle.c_check.proofs.units.externals.Goals as goal

pub returns-in_err-one : goal.returns-in_err-one
returns-in_err-one c =
    let stopped = fails (judge_unit) external_view (unit-stays) c.args.externals.now c.loop-external.external-index c.external-item.result c.loop-external-test.true c.external-item.is NoExternal
    (state_of c.args.context.now) (state_of c.judged_external.new.context) c.in_err-one.field-0.0
    (c.in_err-one.ensures (added NoExternal (map external_view (take c.loop-external.external-index c.args.externals.now))) (state_of c.args.context.now) (added no_typed (map typed_external_view c.loop-external.list)) c.loop-external.invariant) in
    search rules

pub loop-external-preserved : goal.loop-external-preserved
loop-external-preserved c =
    let judged = goes (judge_unit) external_view c.args.externals.now c.loop-external.external-index c.external-item.result c.loop-external-test.true c.external-item.is NoExternal
    (state_of c.args.context.now) _
    (c.in_ok-one.ensures (added NoExternal (map external_view (take c.loop-external.external-index c.args.externals.now))) (state_of c.args.context.now) (added no_typed (map typed_external_view c.loop-external.list)) c.loop-external.invariant) in
    first_of (grind (arith, common_steps, pushes), search (rules, pushes))
