use Rattle.std.proofs.Common.{rules, arith, map, take, sym}
use Rattle.std.proofs.lemmas.Grind.{common_steps}
use Rattle.c_tree.proofs.TypedPushLaws.{typed_pushes}
use Rattle.c_tree.specs.Tree.{NoDeclarator, AndDeclarator}
use Rattle.c_tree.specs.TypedViews.{typed_declarator_view, typed_member_declarators_of}
use Rattle.c_tree.specs.Views.{declarator_view, member_declarators_of}
use Rattle.c_typing.specs.Judging.{known}
use Rattle.c_typing.specs.Walks.{judge_member_declarators}
use Rattle.c_tree.specs.Depth.{member_declarators_height, declarator_height}
use Rattle.c_check_walk.proofs.NestLaws.{nests-seen, row_counts}
use Rattle.c_check_walk.proofs.SeriesLaws.{goes_on, fails_on}
use Rattle.c_check_walk.proofs.StayLaws.{none_judged, row-stays}
use Rattle.c_check_walk.proofs.walker.Walker.row.Goals as goal

pub member-requires : goal.member-requires
member-requires g c =
    record { nests = nests-seen member_declarators_height AndDeclarator declarator_view declarator_height row_counts c.args.list.now c.loop-d.d-index c.d-item.result c.loop-d-test.true c.d-item.is NoDeclarator c.requires.nests }

pub loop-d-init : goal.loop-d-init
loop-d-init g c = (first_of (grind (arith, common_steps, none_judged), search (rules, none_judged)), first_of (grind (arith, common_steps), search rules), search rules)

pub returns-in_err-member-clause-answers : goal.returns-in_err-member-clause-answers
returns-in_err-member-clause-answers g c =
    let stopped = fails_on (judge_member_declarators c.args.base c.args.names.now) AndDeclarator declarator_view (row-stays c.args.base c.args.names.now)
    c.args.list.now c.loop-d.d-index c.d-item.result c.loop-d-test.true c.d-item.is NoDeclarator
    (known c.args.types.now c.args.scope.now) (known c.member.new.types c.member.new.scope) c.in_err-member.field-0.0
    (c.in_err-member.ensures.answers (known c.args.types.now c.args.scope.now) c.args.names.now (member_declarators_of (map declarator_view (take c.loop-d.d-index c.args.list.now)))
    (typed_member_declarators_of (map typed_declarator_view c.loop-d.found)) (sym c.loop-d.invariant.1) c.loop-d.invariant.0) in
    search rules

pub loop-d-preserved : goal.loop-d-preserved
loop-d-preserved g c =
    let judged = goes_on (judge_member_declarators c.args.base c.args.names.now) AndDeclarator declarator_view
    c.args.list.now c.loop-d.d-index c.d-item.result c.loop-d-test.true c.d-item.is NoDeclarator (known c.args.types.now c.args.scope.now) _
    (c.in_ok-member.ensures.answers (known c.args.types.now c.args.scope.now) c.args.names.now (member_declarators_of (map declarator_view (take c.loop-d.d-index c.args.list.now)))
    (typed_member_declarators_of (map typed_declarator_view c.loop-d.found)) (sym c.loop-d.invariant.1) c.loop-d.invariant.0) in
    let named = c.in_ok-member.ensures.named in
    (first_of (grind (arith, common_steps, typed_pushes), search (rules, typed_pushes)), first_of (grind (arith, common_steps, typed_pushes), search (rules, typed_pushes)), λ any first h. c.in_ok-member.ensures.grows any first (c.loop-d.invariant.2 any first h))

pub returns-in_err-member-clause-grows : goal.returns-in_err-member-clause-grows
returns-in_err-member-clause-grows g c = λ any first h. c.member.ensures.grows any first (c.loop-d.invariant.2 any first h)

pub returns-in_err-push-clause-grows : goal.returns-in_err-push-clause-grows
returns-in_err-push-clause-grows g c = λ any first h. c.member.ensures.grows any first (c.loop-d.invariant.2 any first h)
