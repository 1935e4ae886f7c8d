use Rattle.std.proofs.Common.{rules, arith, map, take}
use Rattle.std.proofs.lemmas.Grind.{common_steps}
use Rattle.c_tree.proofs.PushLaws.{pushes}
use Rattle.c_tree.specs.Tree.{NoMember}
use Rattle.c_tree.specs.TypedTree.{NoMember as none_typed}
use Rattle.c_tree.specs.TypedViews.{typed_members_view}
use Rattle.c_tree.specs.Views.{added, members_view}
use Rattle.c_typing.specs.Judging.{known}
use Rattle.c_typing.specs.Walks.{judge_members}
use Rattle.c_tree.specs.Depth.{members_height}
use Rattle.c_check_walk.proofs.NestLaws.{nests-each, members_count}
use Rattle.c_check_walk.proofs.SeriesLaws.{goes, fails}
use Rattle.c_check_walk.proofs.StayLaws.{rows-stay}
use Rattle.c_check_walk.proofs.walker.Walker.members.Goals as goal

pub members_row-requires : goal.members_row-requires
members_row-requires g c =
    record { nests = nests-each members_height members_view (λ x. members_height (members_view x NoMember)) members_count c.args.rows.now c.loop-row.row-index c.row-item.result c.loop-row-test.true c.row-item.is NoMember c.requires.nests }

pub returns-in_err-members_row-clause-answers : goal.returns-in_err-members_row-clause-answers
returns-in_err-members_row-clause-answers g c = λ first.
    let stopped = fails judge_members members_view rows-stay c.args.rows.now c.loop-row.row-index c.row-item.result c.loop-row-test.true c.row-item.is NoMember
    (known c.args.types.now c.args.scope.now) (known c.members_row.new.types c.members_row.new.scope) c.in_err-members_row.field-0.0
    (c.in_err-members_row.ensures.answers (known c.args.types.now c.args.scope.now) (added NoMember (map members_view (take c.loop-row.row-index c.args.rows.now)))
    (added none_typed (map typed_members_view c.loop-row.found)) (c.loop-row.invariant.1 first) (c.loop-row.invariant.0 first)) in
    search rules

pub loop-row-preserved : goal.loop-row-preserved
loop-row-preserved g c = (
  λ first.
      let judged = goes judge_members members_view c.args.rows.now c.loop-row.row-index c.row-item.result c.loop-row-test.true c.row-item.is NoMember
      (known c.args.types.now c.args.scope.now) _
      (c.in_ok-members_row.ensures.answers (known c.args.types.now c.args.scope.now) (added NoMember (map members_view (take c.loop-row.row-index c.args.rows.now)))
      (added none_typed (map typed_members_view c.loop-row.found)) (c.loop-row.invariant.1 first) (c.loop-row.invariant.0 first)) in
      first_of (grind (arith, common_steps, pushes), search (rules, pushes)),
  λ first.
      let named = c.in_ok-members_row.ensures.named (added none_typed (map typed_members_view c.loop-row.found)) (c.loop-row.invariant.1 first) in
      first_of (grind (arith, common_steps, pushes), search (rules, pushes)),
  λ any first h. c.in_ok-members_row.ensures.grows any first (c.loop-row.invariant.2 any first h),
)

pub returns-in_err-members_row-clause-grows : goal.returns-in_err-members_row-clause-grows
returns-in_err-members_row-clause-grows g c = λ any first h. c.members_row.ensures.grows any first (c.loop-row.invariant.2 any first h)

pub returns-in_err-push-clause-grows : goal.returns-in_err-push-clause-grows
returns-in_err-push-clause-grows g c = λ any first h. c.members_row.ensures.grows any first (c.loop-row.invariant.2 any first h)
