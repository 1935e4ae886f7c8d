use Rattle.std.proofs.Common.{◌≡◌, map, take}
use Rattle.c_tree.specs.Tree.{NoExternal}
use Rattle.c_tree.specs.TypedTree.{NoExternal as no_typed}
use Rattle.c_tree.specs.TypedStatementViews.{typed_external_view}
use Rattle.c_tree.specs.Views.{added}
use Rattle.c_tree.specs.StatementViews.{external_view}
use Rattle.c_check_context.specs.ContextViews.{state_of}
use Rattle.c_unit_typing.specs.UnitJudging.{Gives}
use Rattle.c_unit_typing.specs.DefinitionJudging.{judge_unit}
use Rattle.c_check.proofs.units.externals.Given as goal

-- what comes so far is judged
abbrev pub invariant-loop-external : goal.invariant-loop-external
invariant-loop-external l =
    judge_unit (added NoExternal (map external_view (take l.external-index l.externals))) (state_of l.fn.context) ≡ Gives (added no_typed (map typed_external_view l.list)) (state_of l.context)
