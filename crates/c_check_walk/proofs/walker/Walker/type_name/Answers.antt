use Rattle.std.proofs.Common.{ap, arith}
use Rattle.c_tree.specs.Depth.{type_name_height}
use Rattle.c_check_walk.proofs.NestLaws.{nests-within}
use Rattle.c_check_walk.proofs.PartsSeen.{type_name_seen}
use Rattle.c_check_walk.proofs.walker.Walker.type_name.Goals as goal

pub specifiers-requires : goal.specifiers-requires
specifiers-requires g c =
    let seen = ap type_name_height (type_name_seen c.args.name.now) in
    record { nests = nests-within _ _ c.requires.nests (omega (arith, seen)) }

pub declared-requires : goal.declared-requires
declared-requires g c =
    let seen = ap type_name_height (type_name_seen c.args.name.now) in
    record { nests = nests-within _ _ c.requires.nests (omega (arith, seen)) }

pub returns-in_err-declarator-clause-grows : goal.returns-in_err-declarator-clause-grows
returns-in_err-declarator-clause-grows g c = λ any first h. c.declared.ensures.grows any first (c.specifiers.ensures.grows any first h)

pub returns-in_err-ty-clause-grows : goal.returns-in_err-ty-clause-grows
returns-in_err-ty-clause-grows g c = λ any first h. c.declared_makes.ensures.grows any first (c.declared.ensures.grows any first (c.specifiers.ensures.grows any first h))

pub returns-in_err-new-clause-grows : goal.returns-in_err-new-clause-grows
returns-in_err-new-clause-grows g c = λ any first h. c.declared_makes.ensures.grows any first (c.declared.ensures.grows any first (c.specifiers.ensures.grows any first h))

pub returns-clause-grows : goal.returns-clause-grows
returns-clause-grows g c = λ any first h. c.declared_makes.ensures.grows any first (c.declared.ensures.grows any first (c.specifiers.ensures.grows any first h))
