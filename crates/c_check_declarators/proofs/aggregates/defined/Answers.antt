use Rattle.std.proofs.Common.{◌≡◌, true, rules, arith}
use Rattle.std.proofs.lemmas.Grind.{common_steps}
use Rattle.c_typing.specs.Specifying.{is_definable}
use Rattle.c_check_declarators.proofs.GrowthLaws.{defined-grows}
use Rattle.c_check_declarators.proofs.aggregates.defined.Goals as goal

pub returns-in-Ok-clause-grows : goal.returns-in-Ok-clause-grows
returns-in-Ok-clause-grows c =
    let definable : is_definable c.args.types.now c.args.t c.args.members.items ≡ true = first_of (search rules, grind (arith, common_steps)) in
    defined-grows _ _ c.args.t c.args.members.items _ definable c.in-Ok.ensures.defined
