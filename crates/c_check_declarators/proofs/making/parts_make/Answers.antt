use Rattle.std.proofs.Common.{◌≡◌, ◌∙◌, length, rules, arith}
use Rattle.std.proofs.lemmas.Grind.{common_steps}
use Rattle.c_tree.proofs.PushLaws.{pushes}
use Rattle.c_typing.specs.Judging.{known}
use Rattle.c_check_declarators.specs.MakingViews.{nearest_view}
use Rattle.c_check_declarators.proofs.PartLaws.{no_part_makes}
use Rattle.c_check_declarators.proofs.making.parts_make.Goals as goal

pub returns-clause-answers : goal.returns-clause-answers
returns-clause-answers c =
    let none : length c.inwards.rest.now ≡ 0 = search rules in
    c.inwards.invariant.0 ∙ no_part_makes c.args.at (nearest_view c.args.nearest) c.inwards.rest.now none c.inwards.t (known c.inwards.types c.args.scope.now)

pub returns-in_err-t-clause-grows : goal.returns-in_err-t-clause-grows
returns-in_err-t-clause-grows c = λ any first h. c.in_err-t.ensures.grows any first (c.inwards.invariant.1 any first h)

pub inwards-preserved : goal.inwards-preserved
inwards-preserved c = (
  first_of (grind (arith, pushes), search rules, grind (arith, common_steps, pushes)),
  λ any first h. c.in_ok-t.ensures.grows any first (c.inwards.invariant.1 any first h),
)
