use Rattle.std.proofs.Common.{rules, arith, map, take}
use Rattle.std.proofs.lemmas.Grind.{common_steps}
use Rattle.c_tree.proofs.PushLaws.{pushes}
use Rattle.c_tree.specs.Tree.{NoInitDeclarator}
use Rattle.c_tree.specs.TypedTree.{NoInitDeclarator as no_typed}
use Rattle.c_tree.specs.TypedViews.{typed_specifiers_view}
use Rattle.c_tree.specs.TypedStatementViews.{typed_init_declarator_view}
use Rattle.c_tree.specs.Views.{added}
use Rattle.c_tree.specs.StatementViews.{init_declarator_view}
use Rattle.c_check_context.specs.ContextViews.{state_of}
use Rattle.c_unit_typing.specs.DeclarationJudging.{judge_init_declarators}
use Rattle.c_check_declarations.proofs.SeriesLaws.{goes, fails, declarators-stay}
use Rattle.c_check_declarations.proofs.declarations.init_declarators.Goals as goal

pub returns-in_err-one : goal.returns-in_err-one
returns-in_err-one c =
    let stopped = fails (judge_init_declarators c.args.file (typed_specifiers_view c.args.base.now)) init_declarator_view (declarators-stay c.args.file (typed_specifiers_view c.args.base.now)) c.args.declarators.now c.loop-d.d-index c.d-item.result c.loop-d-test.true c.d-item.is NoInitDeclarator
    (state_of c.args.context.now) (state_of c.init_declarator.new.context) c.in_err-one.field-0.0
    (c.in_err-one.ensures (added NoInitDeclarator (map init_declarator_view (take c.loop-d.d-index c.args.declarators.now))) (state_of c.args.context.now) (added no_typed (map typed_init_declarator_view c.loop-d.list)) c.loop-d.invariant) in
    search rules

pub loop-d-preserved : goal.loop-d-preserved
loop-d-preserved c =
    let judged = goes (judge_init_declarators c.args.file (typed_specifiers_view c.args.base.now)) init_declarator_view c.args.declarators.now c.loop-d.d-index c.d-item.result c.loop-d-test.true c.d-item.is NoInitDeclarator
    (state_of c.args.context.now) _
    (c.in_ok-one.ensures (added NoInitDeclarator (map init_declarator_view (take c.loop-d.d-index c.args.declarators.now))) (state_of c.args.context.now) (added no_typed (map typed_init_declarator_view c.loop-d.list)) c.loop-d.invariant) in
    first_of (grind (arith, common_steps, pushes), search (rules, pushes))
