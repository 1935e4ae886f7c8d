use Rattle.std.proofs.Common.{◌≡◌, map, take}
use Rattle.c_tree.specs.TypedTree.{NoItem}
use Rattle.c_tree.specs.TypedStatementViews.{typed_item_view}
use Rattle.c_tree.specs.Views.{added}
use Rattle.c_tree.specs.StatementViews.{initialiser_view, items_of}
use Rattle.c_check_context.specs.ContextViews.{state_of}
use Rattle.c_unit_typing.specs.UnitJudging.{Gives}
use Rattle.c_unit_typing.specs.InitialiserJudging.{judge_items}
use Rattle.c_check_declarations.proofs.initialisers.+initialisers.Given as goal

-- the items so far are judged
abbrev pub invariant-judged_items-loop-item : goal.invariant-judged_items-loop-item
invariant-judged_items-loop-item l =
    judge_items l.constant (items_of (map initialiser_view (take l.item-index l.items))) l.text l.t (state_of l.fn.context) ≡ Gives (added NoItem (map typed_item_view l.list)) (state_of l.context)
