use Rattle.std.proofs.Common.{rules, arith, map, take, true}
use Rattle.std.proofs.lemmas.Grind.{common_steps}
use Rattle.c_tree.specs.Tree.{NoItem, AndItem}
use Rattle.c_tree.specs.StatementViews.{initialiser_view, items_of}
use Rattle.c_check_context.specs.ContextViews.{state_of}
use Rattle.c_unit_typing.specs.InitialiserJudging.{judge_all_excess}
use Rattle.c_check_declarations.proofs.SeriesLaws.{goes_on, fails_on, excess-stays, excess-goes, excess-fails}
use Rattle.c_check_declarations.proofs.initialisers.+excess.Goals as goal

pub judged_all_excess-returns-in_err-judged_excess : goal.judged_all_excess-returns-in_err-judged_excess
judged_all_excess-returns-in_err-judged_excess t c =
    let all = items_of (map initialiser_view (take c.loop-item.item-index c.args.items.now)) in
    let stopped = fails_on judge_all_excess AndItem initialiser_view excess-stays c.args.items.now c.loop-item.item-index c.item-item.result c.loop-item-test.true c.item-item.is NoItem
    (state_of c.args.context.now) _ _
    (excess-fails all (initialiser_view c.item-item.result) true (state_of c.args.context.now) _ _ _ c.loop-item.invariant c.in_err-judged_excess.ensures) in
    search rules

pub judged_all_excess-loop-item-preserved : goal.judged_all_excess-loop-item-preserved
judged_all_excess-loop-item-preserved t c =
    let all = items_of (map initialiser_view (take c.loop-item.item-index c.args.items.now)) in
    goes_on judge_all_excess AndItem initialiser_view c.args.items.now c.loop-item.item-index c.item-item.result c.loop-item-test.true c.item-item.is NoItem
    (state_of c.args.context.now) _
    (excess-goes all (initialiser_view c.item-item.result) true true (state_of c.args.context.now) _ _ c.loop-item.invariant c.in_ok-judged_excess.ensures)
