use Rattle.std.proofs.Common.{◌≡◌, map, take, true}
use Rattle.c_tree.specs.StatementViews.{initialiser_view, items_of}
use Rattle.c_check_context.specs.ContextViews.{state_of}
use Rattle.c_unit_typing.specs.UnitJudging.{Gives}
use Rattle.c_unit_typing.specs.InitialiserJudging.{judge_all_excess}
use Rattle.c_check_declarations.proofs.initialisers.+excess.Given as goal

-- the items so far are judged
abbrev pub invariant-judged_all_excess-loop-item : goal.invariant-judged_all_excess-loop-item
invariant-judged_all_excess-loop-item l =
    judge_all_excess (items_of (map initialiser_view (take l.item-index l.items))) (state_of l.fn.context) ≡ Gives true (state_of l.context)
