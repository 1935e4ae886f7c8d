use Rattle.std.proofs.Common.{rules, arith, ◌∙◌}
use Rattle.std.proofs.lemmas.Grind.{common_steps}
use Rattle.c_typing.specs.Judging.{known}
use Rattle.c_check_walk.proofs.StarLaws.{star_given, star_fails, no_star_left}
use Rattle.c_check_walk.proofs.declarators.stars_with_nodes.Goals as goal

pub returns-in_err-star_with_node-clause-answers : goal.returns-in_err-star_with_node-clause-answers
returns-in_err-star_with_node-clause-answers c = λ table.
    let stopped = star_fails c.args.at c.args.stars.now c.loop-star.star-index c.star-item.result c.loop-star-test.true c.star-item.is c.loop-star.found
    c.in_err-star_with_node.field-0.0 (known table c.loop-star.scope) (known table c.star_with_node.new.scope) _ (c.loop-star.invariant.0 table) (c.in_err-star_with_node.ensures.ok table) in
    search rules

pub loop-star-preserved : goal.loop-star-preserved
loop-star-preserved c = (
  λ table.
      c.loop-star.invariant.0 table ∙ (let given = star_given c.args.at c.args.stars.now c.loop-star.star-index c.star-item.result c.loop-star-test.true c.star-item.is c.loop-star.found
      c.in_ok-star_with_node.field-0.node (known table c.loop-star.scope) (known table c.star_with_node.new.scope) (c.in_ok-star_with_node.ensures.ok table) in
      first_of (grind (arith, common_steps), search rules)),
  λ table any first h. c.in_ok-star_with_node.ensures.grows table any first (c.loop-star.invariant.1 table any first h),
)

pub returns-clause-answers : goal.returns-clause-answers
returns-clause-answers c = λ table. c.loop-star.invariant.0 table ∙ no_star_left c.args.at c.args.stars.now c.loop-star.star-index c.loop-star-test.false c.loop-star.found (known table c.loop-star.scope)

pub returns-in_err-star_with_node-clause-grows : goal.returns-in_err-star_with_node-clause-grows
returns-in_err-star_with_node-clause-grows c = λ table any first h. c.star_with_node.ensures.grows table any first (c.loop-star.invariant.1 table any first h)

pub returns-in_err-push-clause-grows : goal.returns-in_err-push-clause-grows
returns-in_err-push-clause-grows c = λ table any first h. c.star_with_node.ensures.grows table any first (c.loop-star.invariant.1 table any first h)
