use Rattle.std.proofs.Common.{rules, arith, map, take}
use Rattle.std.proofs.lemmas.Grind.{common_steps}
use Rattle.c_tree.proofs.PushLaws.{pushes}
use Rattle.c_tree.specs.Tree.{NoPart}
use Rattle.c_tree.specs.TypedTree.{NoPart as none_typed}
use Rattle.c_tree.specs.TypedViews.{typed_part_view}
use Rattle.c_tree.specs.Views.{added, part_view}
use Rattle.c_typing.specs.Judging.{known}
use Rattle.c_typing.specs.Walks.{judge_parts}
use Rattle.c_tree.specs.Depth.{parts_height}
use Rattle.c_check_walk.proofs.NestLaws.{nests-each, parts_count}
use Rattle.c_check_walk.proofs.SeriesLaws.{goes, fails}
use Rattle.c_check_walk.proofs.StayLaws.{parts-stay}
use Rattle.c_check_walk.proofs.walker.Walker.parts_behind.Goals as goal

pub part-requires : goal.part-requires
part-requires g c =
    record { nests = nests-each parts_height part_view (λ x. parts_height (part_view x NoPart)) parts_count c.args.rest.now c.loop-part.part-index c.part-item.result c.loop-part-test.true c.part-item.is NoPart c.requires.nests }

pub returns-in_err-part-clause-answers : goal.returns-in_err-part-clause-answers
returns-in_err-part-clause-answers g c = λ start before judged.
    let stopped = fails (judge_parts c.args.at) part_view (parts-stay c.args.at) c.args.rest.now c.loop-part.part-index c.part-item.result c.loop-part-test.true c.part-item.is before
    start (known c.part.new.types c.part.new.scope) c.in_err-part.field-0.0
    (c.in_err-part.ensures.answers start (added before (map part_view (take c.loop-part.part-index c.args.rest.now))) (added none_typed (map typed_part_view c.loop-part.found)) (c.loop-part.invariant.0 start before judged)) in
    search rules

pub loop-part-preserved : goal.loop-part-preserved
loop-part-preserved g c = (
  λ start before judged.
      let going = goes (judge_parts c.args.at) part_view c.args.rest.now c.loop-part.part-index c.part-item.result c.loop-part-test.true c.part-item.is before
      start _
      (c.in_ok-part.ensures.answers start (added before (map part_view (take c.loop-part.part-index c.args.rest.now))) (added none_typed (map typed_part_view c.loop-part.found)) (c.loop-part.invariant.0 start before judged)) in
      first_of (grind (arith, common_steps, pushes), search (rules, pushes)),
  λ any first h. c.in_ok-part.ensures.grows any first (c.loop-part.invariant.1 any first h),
)

pub returns-in_err-part-clause-grows : goal.returns-in_err-part-clause-grows
returns-in_err-part-clause-grows g c = λ any first h. c.part.ensures.grows any first (c.loop-part.invariant.1 any first h)

pub returns-in_err-push-clause-grows : goal.returns-in_err-push-clause-grows
returns-in_err-push-clause-grows g c = λ any first h. c.part.ensures.grows any first (c.loop-part.invariant.1 any first h)
