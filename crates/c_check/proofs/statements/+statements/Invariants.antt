use Rattle.std.proofs.Common.{◌≡◌, take}
use Rattle.c_tree.specs.StatementViews.{block_view}
use Rattle.c_tree.specs.TypedStatementViews.{typed_block_view}
use Rattle.c_check.specs.CodeViews.{around_view}
use Rattle.c_check_context.specs.ContextViews.{state_of}
use Rattle.c_check.specs.Labels.{HoldsLabels}
use Rattle.c_unit_typing.specs.UnitJudging.{Gives}
use Rattle.c_unit_typing.specs.StatementJudging.{judge_block_items}
use Rattle.c_check.proofs.statements.+statements.Given as goal

-- the items so far are judged, and the labels are theirs
abbrev pub invariant-block_items-loop-item : goal.invariant-block_items-loop-item
invariant-block_items-loop-item l =
    (judge_block_items (around_view l.around) l.on (block_view (take l.item-index l.items)) (state_of l.fn.context) ≡ Gives (typed_block_view l.list) (state_of l.context))
    × HoldsLabels l.labels (typed_block_view l.list)
