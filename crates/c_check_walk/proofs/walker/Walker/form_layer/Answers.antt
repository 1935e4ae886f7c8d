use Rattle.std.proofs.Common.{ap, arith}
use Rattle.c_tree.specs.Depth.{declarator_height}
use Rattle.c_check_walk.proofs.NestLaws.{nests-within}
use Rattle.c_check_walk.proofs.PartsSeen.{declarator_seen}
use Rattle.c_check_walk.proofs.walker.Walker.form_layer.Goals as goal

pub core-requires : goal.core-requires
core-requires g c =
    let seen = ap declarator_height (declarator_seen c.args.d.now) in
    record { nests = nests-within _ _ c.requires.nests (omega (arith, seen)) }

pub parts-requires : goal.parts-requires
parts-requires g c =
    let seen = ap declarator_height (declarator_seen c.args.d.now) in
    record { nests = rw c.as_slice-2.ensures (nests-within _ _ c.requires.nests (omega (arith, seen))) }

pub returns-in_err-stars-clause-grows : goal.returns-in_err-stars-clause-grows
returns-in_err-stars-clause-grows g c = λ any first h. c.stars_with_nodes.ensures.grows _ any first h

pub returns-in_err-core-clause-grows : goal.returns-in_err-core-clause-grows
returns-in_err-core-clause-grows g c = λ any first h. c.core.ensures.grows any first (c.stars_with_nodes.ensures.grows _ any first h)

pub returns-in_err-parts-clause-grows : goal.returns-in_err-parts-clause-grows
returns-in_err-parts-clause-grows g c = λ any first h. c.parts.ensures.grows any first (c.core.ensures.grows any first (c.stars_with_nodes.ensures.grows _ any first h))

pub returns-clause-grows : goal.returns-clause-grows
returns-clause-grows g c = λ any first h. c.parts.ensures.grows any first (c.core.ensures.grows any first (c.stars_with_nodes.ensures.grows _ any first h))
