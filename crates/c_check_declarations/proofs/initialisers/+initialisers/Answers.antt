use Rattle.std.proofs.Common.{rules, arith, map, take, sym, ◌∙◌}
use Rattle.std.proofs.lemmas.Grind.{common_steps}
use Rattle.c_tree.proofs.PushLaws.{pushes}
use Rattle.c_tree.specs.Tree.{NoItem, AndItem}
use Rattle.c_tree.specs.TypedTree.{NoItem as no_typed}
use Rattle.c_tree.specs.TypedStatementViews.{typed_item_view}
use Rattle.c_tree.specs.Views.{added}
use Rattle.c_tree.specs.StatementViews.{initialiser_view, items_of}
use Rattle.c_check_context.specs.ContextViews.{state_of}
use Rattle.c_unit_typing.specs.InitialiserJudging.{judge_items}
use Rattle.c_check_declarations.proofs.SeriesLaws.{goes_on, fails_on, items-stay}
use Rattle.c_check_declarations.proofs.LiteralLaws.{count_typed}
use Rattle.c_check_declarations.proofs.initialisers.+initialisers.Goals as goal

pub judged_items-returns-in_err-one : goal.judged_items-returns-in_err-one
judged_items-returns-in_err-one t c =
    let stopped = fails_on (λ all. judge_items c.args.constant all c.args.text c.args.t) AndItem initialiser_view (items-stay c.args.constant c.args.text c.args.t) c.args.items.now c.loop-item.item-index c.item-item.result c.loop-item-test.true c.item-item.is NoItem
    (state_of c.args.context.now) (state_of c.judged_item.new.context) c.in_err-one.field-0.0
    (c.in_err-one.ensures (items_of (map initialiser_view (take c.loop-item.item-index c.args.items.now))) (state_of c.args.context.now) (added no_typed (map typed_item_view c.loop-item.list)) c.loop-item.invariant (count_typed c.loop-item.list ∙ sym c.len.ensures)) in
    search rules

pub judged_items-loop-item-preserved : goal.judged_items-loop-item-preserved
judged_items-loop-item-preserved t c =
    let judged = goes_on (λ all. judge_items c.args.constant all c.args.text c.args.t) AndItem initialiser_view c.args.items.now c.loop-item.item-index c.item-item.result c.loop-item-test.true c.item-item.is NoItem
    (state_of c.args.context.now) _
    (c.in_ok-one.ensures (items_of (map initialiser_view (take c.loop-item.item-index c.args.items.now))) (state_of c.args.context.now) (added no_typed (map typed_item_view c.loop-item.list)) c.loop-item.invariant (count_typed c.loop-item.list ∙ sym c.len.ensures)) in
    first_of (grind (arith, common_steps, pushes), search (rules, pushes))
