use Rattle.c_tree.proofs.PushLaws.{pushes}
use Rattle.std.proofs.lemmas.Grind.{common_steps}
use Rattle.std.proofs.Common.{rules, map, take, arith}
use Rattle.c_tree.specs.Tree.{NoEnumerator}
use Rattle.c_tree.specs.TypedTree.{NoEnumerator as none_typed}
use Rattle.c_tree.specs.TypedViews.{typed_enumerator_view}
use Rattle.c_tree.specs.Views.{added, enumerator_view}
use Rattle.c_typing.specs.Judging.{known}
use Rattle.c_typing.specs.Walks.{judge_enumerators}
use Rattle.c_tree.specs.Depth.{enumerators_height}
use Rattle.c_check_walk.proofs.NestLaws.{nests-each, enumerators_count}
use Rattle.c_check_walk.proofs.SeriesLaws.{fails, goes}
use Rattle.c_check_walk.proofs.StayLaws.{enumerators-stay}
use Rattle.c_check_walk.proofs.walker.Walker.enumerators.Goals as goal

pub enumerator-requires : goal.enumerator-requires
enumerator-requires g c =
    record { nests = nests-each enumerators_height enumerator_view (λ x. enumerators_height (enumerator_view x NoEnumerator)) enumerators_count c.args.list.now c.loop-e.e-index c.e-item.result c.loop-e-test.true c.e-item.is NoEnumerator c.requires.nests }

pub returns-in_err-one-clause-answers : goal.returns-in_err-one-clause-answers
returns-in_err-one-clause-answers g c =
    let stopped = fails judge_enumerators enumerator_view enumerators-stay c.args.list.now c.loop-e.e-index c.e-item.result c.loop-e-test.true c.e-item.is NoEnumerator
    (known c.args.types.now c.args.scope.now) (known c.enumerator.new.types c.enumerator.new.scope) c.in_err-one.field-0.0
    (c.in_err-one.ensures.answers (known c.args.types.now c.args.scope.now) (added NoEnumerator (map enumerator_view (take c.loop-e.e-index c.args.list.now)))
    (added none_typed (map typed_enumerator_view c.loop-e.found)) c.loop-e.invariant.1 c.loop-e.invariant.0) in
    search rules

pub returns-in_err-one-clause-grows : goal.returns-in_err-one-clause-grows
returns-in_err-one-clause-grows g c = λ any first h. c.enumerator.ensures.grows any first (c.loop-e.invariant.2 any first h)

pub returns-in_err-push-clause-grows : goal.returns-in_err-push-clause-grows
returns-in_err-push-clause-grows g c = λ any first h. c.enumerator.ensures.grows any first (c.loop-e.invariant.2 any first h)

pub loop-e-preserved : goal.loop-e-preserved
loop-e-preserved g c =
    let judged = goes judge_enumerators enumerator_view c.args.list.now c.loop-e.e-index c.e-item.result c.loop-e-test.true c.e-item.is NoEnumerator
    (known c.args.types.now c.args.scope.now) _
    (c.in_ok-one.ensures.answers (known c.args.types.now c.args.scope.now) (added NoEnumerator (map enumerator_view (take c.loop-e.e-index c.args.list.now)))
    (added none_typed (map typed_enumerator_view c.loop-e.found)) c.loop-e.invariant.1 c.loop-e.invariant.0) in
    let last = c.in_ok-one.ensures.value (added none_typed (map typed_enumerator_view c.loop-e.found)) in (
      first_of (grind (arith, common_steps, pushes), search (rules, pushes)),
      first_of (grind (arith, common_steps, pushes), search (rules, pushes)),
      λ any first h. c.enumerator.ensures.grows any first (c.loop-e.invariant.2 any first h),
    )
