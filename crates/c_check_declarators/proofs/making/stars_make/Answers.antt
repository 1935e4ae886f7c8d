use Rattle.std.proofs.Common.{rules, arith}
use Rattle.std.proofs.lemmas.Grind.{common_steps}
use Rattle.c_typing.specs.Declaring.{stars_make}
use Rattle.c_check_declarators.proofs.making.stars_make.Goals as goal

pub returns-in_err-t-clause-grows : goal.returns-in_err-t-clause-grows
returns-in_err-t-clause-grows c = λ any first h. c.in_err-t.ensures.grows any first (c.outwards.invariant.1 any first h)

pub outwards-preserved : goal.outwards-preserved
unfolding stars_make
outwards-preserved c = (
  first_of (search rules, grind (arith, common_steps)),
  λ any first h. c.in_ok-t.ensures.grows any first (c.outwards.invariant.1 any first h),
)
