use Rattle.std.proofs.Common.{rules, arith, take, ap}
use Rattle.std.proofs.lemmas.Grind.{common_steps}
use Rattle.c_tree.proofs.PushLaws.{pushes}
use Rattle.c_tree.proofs.StatementViewLaws.{statement_views, view_statement-ForDeclaration}
use Rattle.c_tree.proofs.TypedStatementViewLaws.{typed_statement_views}
use Rattle.c_tree.specs.TypedViews.{typed_expr_view}
use Rattle.c_tree.specs.Views.{expr_view}
use Rattle.c_tree.specs.StatementViews.{declaration_view, statement_view}
use Rattle.std.specs.Prelude.{Some, option_map}
use Rattle.c_tree.specs.Tree.{NoBlockItem}
use Rattle.c_tree.specs.TypedStatementViews.{typed_block_view}
use Rattle.c_tree.specs.StatementViews.{block_item_view, block_view}
use Rattle.c_check.specs.CodeViews.{around_view}
use Rattle.c_check_context.specs.ContextViews.{state_of}
use Rattle.c_unit_typing.specs.StatementJudging.{judge_block_items, judge_statement}
use Rattle.c_check.proofs.LeaveLaws.{block_gives, block_stops, choice_gives, choice_stops, do_gives, do_stops, for_gives, for_stops, if_gives, if_stops, loop_gives, loop_stops, switch_gives, switch_stops, tried_alike, while_gives, while_stops, within_gives, within_stops}
use Rattle.c_check.proofs.StayLaws.{block-stays}
use Rattle.c_check_declarations.proofs.SeriesLaws.{goes, fails}
use Rattle.c_check.proofs.statements.+statements.Goals as goal

pub block_items-returns-in_err-one : goal.block_items-returns-in_err-one
block_items-returns-in_err-one t c =
    let stopped = fails (judge_block_items (around_view c.args.around) c.args.on) block_item_view (block-stays (around_view c.args.around) c.args.on) c.args.items.now c.loop-item.item-index c.item-item.result c.loop-item-test.true c.item-item.is NoBlockItem
    (state_of c.args.context.now) (state_of c.block_item.new.context) c.in_err-one.field-0.0
    (c.in_err-one.ensures.answers (block_view (take c.loop-item.item-index c.args.items.now)) (state_of c.args.context.now) (typed_block_view c.loop-item.list) c.loop-item.invariant.0 c.loop-item.invariant.1) in
    search rules

pub block_items-loop-item-preserved : goal.block_items-loop-item-preserved
block_items-loop-item-preserved t c =
    let judged = goes (judge_block_items (around_view c.args.around) c.args.on) block_item_view c.args.items.now c.loop-item.item-index c.item-item.result c.loop-item-test.true c.item-item.is NoBlockItem
    (state_of c.args.context.now) _
    (c.in_ok-one.ensures.answers (block_view (take c.loop-item.item-index c.args.items.now)) (state_of c.args.context.now) (typed_block_view c.loop-item.list) c.loop-item.invariant.0 c.loop-item.invariant.1) in
    first_of (grind (arith, common_steps, pushes), search (rules, pushes))

pub block-returns-in_err-leave : goal.block-returns-in_err-leave
block-returns-in_err-leave t c =
    let stopped = block_stops (around_view c.args.around) c.args.brace (block_view c.args.items.now) _ _ _ _ _ _
    c.in_ok-enter.ensures c.in_ok-list.ensures c.in_err-leave.ensures in
    search rules

pub block-returns : goal.block-returns
block-returns t c =
    let given = block_gives (around_view c.args.around) c.args.brace (block_view c.args.items.now) _ _ _ _ _
    c.in_ok-enter.ensures c.in_ok-list.ensures c.in_ok-leave.ensures in
    first_of (search (rules, typed_statement_views), grind (arith, common_steps, typed_statement_views, given))

pub substatement-returns-in_err-leave : goal.substatement-returns-in_err-leave
substatement-returns-in_err-leave t c =
    let stopped = within_stops c.args.at (judge_statement (around_view c.args.around) (statement_view c.args.s.now))
    _ _ _ _ _ _
    c.in_ok-enter.ensures c.in_ok-one.ensures c.in_err-leave.ensures in
    search rules

pub substatement-returns : goal.substatement-returns
substatement-returns t c =
    let given = within_gives c.args.at (judge_statement (around_view c.args.around) (statement_view c.args.s.now))
    _ _ _ _ _
    c.in_ok-enter.ensures c.in_ok-one.ensures c.in_ok-leave.ensures in
    first_of (search (rules, typed_statement_views), grind (arith, common_steps, typed_statement_views, given))

pub if_alone-returns-in_err-leave : goal.if_alone-returns-in_err-leave
if_alone-returns-in_err-leave t c =
    let stopped = if_stops (around_view c.args.around) c.args.at c.args.paren (expr_view c.args.c.now) (statement_view c.args.s.now)
    _ _ _ _ _ _ _ _
    c.in_ok-enter.ensures c.in_ok-test.ensures c.in_ok-one.ensures
    (tried_alike _ _ _ _ _ (ap typed_expr_view c.get.ensures) (c.in_ok-try_condition.ensures _)) c.in_err-leave.ensures in
    search rules

pub if_alone-returns : goal.if_alone-returns
if_alone-returns t c =
    let given = if_gives (around_view c.args.around) c.args.at c.args.paren (expr_view c.args.c.now) (statement_view c.args.s.now)
    _ _ _ _ _ _ _
    c.in_ok-enter.ensures c.in_ok-test.ensures c.in_ok-one.ensures
    (tried_alike _ _ _ _ _ (ap typed_expr_view c.get.ensures) (c.in_ok-try_condition.ensures _)) c.in_ok-leave.ensures in
    first_of (search (rules, typed_statement_views), grind (arith, common_steps, typed_statement_views, given))

pub switch_block-returns-in_err-leave : goal.switch_block-returns-in_err-leave
switch_block-returns-in_err-leave t c =
    let stopped = within_stops c.args.brace (judge_block_items (around_view c.args.around) (Some c.args.on) (block_view c.args.items.now))
    _ _ _ _ _ _
    c.in_ok-enter.ensures c.in_ok-list.ensures c.in_err-leave.ensures in
    search rules

pub switch_block-returns : goal.switch_block-returns
switch_block-returns t c =
    let given = within_gives c.args.brace (judge_block_items (around_view c.args.around) (Some c.args.on) (block_view c.args.items.now))
    _ _ _ _ _
    c.in_ok-enter.ensures c.in_ok-list.ensures c.in_ok-leave.ensures in
    first_of (search (rules, typed_statement_views), grind (arith, common_steps, typed_statement_views, given))

pub switch-returns-in_err-leave : goal.switch-returns-in_err-leave
switch-returns-in_err-leave t c =
    let stopped = switch_stops (around_view c.args.around) _ c.args.at c.args.paren (expr_view c.args.e.now) c.args.brace (block_view c.args.items.now)
    _ _ _ _ _ _ _ _ _ _
    c.in_ok-enter.ensures c.in_ok-value.ensures c.in_ok-on.ensures c.in_a_switch.ensures (search rules) c.in_ok-list.ensures
    (c.in_ok-try_integer.ensures _ _ (search rules)) c.in_err-leave.ensures in
    search rules

pub switch-returns : goal.switch-returns
switch-returns t c =
    let given = switch_gives (around_view c.args.around) _ c.args.at c.args.paren (expr_view c.args.e.now) c.args.brace (block_view c.args.items.now)
    _ _ _ _ _ _ _ _ _
    c.in_ok-enter.ensures c.in_ok-value.ensures c.in_ok-on.ensures c.in_a_switch.ensures (search rules) c.in_ok-list.ensures
    (c.in_ok-try_integer.ensures _ _ (search rules)) c.in_ok-leave.ensures in
    first_of (search (rules, typed_statement_views), grind (arith, common_steps, typed_statement_views, given))

pub while_loop-returns-in_err-leave : goal.while_loop-returns-in_err-leave
while_loop-returns-in_err-leave t c =
    let stopped = while_stops (around_view c.args.around) _ c.args.at c.args.paren (expr_view c.args.c.now) (statement_view c.args.s.now)
    _ _ _ _ _ _ _ _
    c.in_ok-enter.ensures c.in_ok-test.ensures c.in_a_loop.ensures c.in_ok-one.ensures
    (tried_alike _ _ _ _ _ (ap typed_expr_view c.get.ensures) (c.in_ok-try_condition.ensures _)) c.in_err-leave.ensures in
    search rules

pub while_loop-returns : goal.while_loop-returns
while_loop-returns t c =
    let given = while_gives (around_view c.args.around) _ c.args.at c.args.paren (expr_view c.args.c.now) (statement_view c.args.s.now)
    _ _ _ _ _ _ _
    c.in_ok-enter.ensures c.in_ok-test.ensures c.in_a_loop.ensures c.in_ok-one.ensures
    (tried_alike _ _ _ _ _ (ap typed_expr_view c.get.ensures) (c.in_ok-try_condition.ensures _)) c.in_ok-leave.ensures in
    first_of (search (rules, typed_statement_views), grind (arith, common_steps, typed_statement_views, given))

pub do_while-returns-in_err-leave : goal.do_while-returns-in_err-leave
do_while-returns-in_err-leave t c =
    let stopped = do_stops (around_view c.args.around) _ c.args.at c.args.paren (expr_view c.args.c.now) (statement_view c.args.s.now)
    _ _ _ _ _ _ _ _
    c.in_ok-enter.ensures c.in_a_loop.ensures c.in_ok-one.ensures c.in_ok-test.ensures
    (tried_alike _ _ _ _ _ (ap typed_expr_view c.get.ensures) (c.in_ok-try_condition.ensures _)) c.in_err-leave.ensures in
    search rules

pub do_while-returns : goal.do_while-returns
do_while-returns t c =
    let given = do_gives (around_view c.args.around) _ c.args.at c.args.paren (expr_view c.args.c.now) (statement_view c.args.s.now)
    _ _ _ _ _ _ _
    c.in_ok-enter.ensures c.in_a_loop.ensures c.in_ok-one.ensures c.in_ok-test.ensures
    (tried_alike _ _ _ _ _ (ap typed_expr_view c.get.ensures) (c.in_ok-try_condition.ensures _)) c.in_ok-leave.ensures in
    first_of (search (rules, typed_statement_views), grind (arith, common_steps, typed_statement_views, given))

pub for_loop-returns-in_err-leave : goal.for_loop-returns-in_err-leave
for_loop-returns-in_err-leave t c =
    let stopped = loop_stops (around_view c.args.around) _ c.args.at c.args.paren (option_map expr_view c.args.first.now) (option_map expr_view c.args.test.now) (option_map expr_view c.args.step.now)
    (statement_view c.args.s.now)
    _ _ _ _ _ _ _ _ _ _ _ _
    c.in_ok-enter.ensures c.in_ok-before.ensures c.in_ok-c.ensures c.in_ok-after.ensures c.in_a_loop.ensures c.in_ok-one.ensures
    (c.in_ok-try_condition_or_none.ensures _) c.in_err-leave.ensures in
    search rules

pub for_loop-returns : goal.for_loop-returns
for_loop-returns t c =
    let given = loop_gives (around_view c.args.around) _ c.args.at c.args.paren (option_map expr_view c.args.first.now) (option_map expr_view c.args.test.now) (option_map expr_view c.args.step.now)
    (statement_view c.args.s.now)
    _ _ _ _ _ _ _ _ _ _ _
    c.in_ok-enter.ensures c.in_ok-before.ensures c.in_ok-c.ensures c.in_ok-after.ensures c.in_a_loop.ensures c.in_ok-one.ensures
    (c.in_ok-try_condition_or_none.ensures _) c.in_ok-leave.ensures in
    first_of (search (rules, typed_statement_views), grind (arith, common_steps, typed_statement_views, given))

pub for_declaration-returns-in_err-leave : goal.for_declaration-returns-in_err-leave
for_declaration-returns-in_err-leave t c =
    let stopped = for_stops (around_view c.args.around) _ c.args.at c.args.paren (declaration_view c.args.d.now) (option_map expr_view c.args.test.now) (option_map expr_view c.args.step.now)
    (statement_view c.args.s.now)
    _ _ _ _ _ _ _ _ _ _ _ _
    c.in_ok-enter.ensures c.in_ok-before.ensures c.in_ok-c.ensures c.in_ok-after.ensures c.in_a_loop.ensures c.in_ok-one.ensures
    (c.in_ok-try_condition_or_none.ensures _) c.in_err-leave.ensures in
    search rules

pub for_declaration-returns : goal.for_declaration-returns
for_declaration-returns t c =
    let given = for_gives (around_view c.args.around) _ c.args.at c.args.paren (declaration_view c.args.d.now) (option_map expr_view c.args.test.now) (option_map expr_view c.args.step.now)
    (statement_view c.args.s.now)
    _ _ _ _ _ _ _ _ _ _ _
    c.in_ok-enter.ensures c.in_ok-before.ensures c.in_ok-c.ensures c.in_ok-after.ensures c.in_a_loop.ensures c.in_ok-one.ensures
    (c.in_ok-try_condition_or_none.ensures _) c.in_ok-leave.ensures in
    first_of (search (rules, typed_statement_views), grind (arith, common_steps, typed_statement_views, given))

pub statement-returns-in-Block : goal.statement-returns-in-Block
statement-returns-in-Block t c = first_of (search (rules, statement_views), grind (arith, common_steps, statement_views))

pub statement-returns-in-Switch : goal.statement-returns-in-Switch
statement-returns-in-Switch t c = first_of (search (rules, statement_views), grind (arith, common_steps, statement_views))

pub statement-returns-in_err-leave-in-IfElse : goal.statement-returns-in_err-leave-in-IfElse
statement-returns-in_err-leave-in-IfElse t c =
    let stopped = choice_stops (around_view c.args.around) _ c.in-IfElse.paren
    _ _ _ _ _ _ _ _ _ _ _ _ _
    c.in_ok-enter-in-IfElse.ensures c.in_ok-test-in-IfElse.ensures c.in_ok-one-in-IfElse.ensures c.in_ok-other-in-IfElse.ensures
    (tried_alike _ _ _ _ _ (ap typed_expr_view c.get-condition.ensures) (c.in_ok-try_condition-in-IfElse.ensures _)) c.in_err-leave-in-IfElse.ensures in
    first_of (search (rules, statement_views), grind (arith, common_steps, statement_views, stopped))

pub statement-returns-in_ok-boxed-in-IfElse : goal.statement-returns-in_ok-boxed-in-IfElse
statement-returns-in_ok-boxed-in-IfElse t c =
    let given = choice_gives (around_view c.args.around) _ c.in-IfElse.paren
    _ _ _ _ _ _ _ _ _ _ _ _
    c.in_ok-enter-in-IfElse.ensures c.in_ok-test-in-IfElse.ensures c.in_ok-one-in-IfElse.ensures c.in_ok-other-in-IfElse.ensures
    (tried_alike _ _ _ _ _ (ap typed_expr_view c.get-condition.ensures) (c.in_ok-try_condition-in-IfElse.ensures _)) c.in_ok-leave-in-IfElse.ensures in
    first_of (search (rules, statement_views, typed_statement_views), grind (arith, common_steps, statement_views, typed_statement_views, given))

pub statement-returns-in-ForDeclaration : goal.statement-returns-in-ForDeclaration
statement-returns-in-ForDeclaration t c =
    rw (c.in-ForDeclaration.is, view_statement-ForDeclaration) (rw (c.get-in-ForDeclaration.ensures, c.get-in-ForDeclaration-2.ensures) at c.for_declaration.ensures)
