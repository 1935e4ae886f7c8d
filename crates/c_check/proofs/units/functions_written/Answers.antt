use Rattle.std.proofs.Common.{add-one, ap, ◌∙◌, map, take}
use Rattle.c_tree.specs.Tree.{NoExternal}
use Rattle.c_tree.specs.Views.{added}
use Rattle.c_tree.specs.StatementViews.{external_view}
use Rattle.c_unit_typing.specs.DefinitionJudging.{functions_written}
use Rattle.c_tree.proofs.ListLaws.{with_next}
use Rattle.c_check.proofs.units.functions_written.Goals as goal

pub loop-external-preserved : goal.loop-external-preserved
loop-external-preserved c =
    rw add-one (ap functions_written (with_next external_view c.args.externals.now c.loop-external.external-index c.external-item.result c.loop-external-test.true c.external-item.is NoExternal)
    ∙ c.in_ok-add_written.ensures (added NoExternal (map external_view (take c.loop-external.external-index c.args.externals.now))) c.loop-external.invariant)
