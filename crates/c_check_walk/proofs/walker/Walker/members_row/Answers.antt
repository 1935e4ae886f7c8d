use Rattle.std.proofs.Common.{ap, arith}
use Rattle.c_tree.specs.Depth.{members_height}
use Rattle.c_tree.specs.Tree.{NoMember}
use Rattle.c_check_walk.proofs.NestLaws.{nests-within}
use Rattle.c_check_walk.proofs.PartsSeen.{row_seen}
use Rattle.c_check_walk.proofs.walker.Walker.members_row.Goals as goal

pub specifiers-requires : goal.specifiers-requires
specifiers-requires g c =
    let seen = ap members_height (row_seen c.args.row.now NoMember) in
    record { nests = nests-within _ _ c.requires.nests (omega (arith, seen)) }

pub row-requires : goal.row-requires
row-requires g c =
    let seen = ap members_height (row_seen c.args.row.now NoMember) in
    record { nests = rw c.as_slice.ensures (nests-within _ _ c.requires.nests (omega (arith, seen))) }

pub returns-in_err-declarators-clause-grows : goal.returns-in_err-declarators-clause-grows
returns-in_err-declarators-clause-grows g c = λ any first h. c.row.ensures.grows any first (c.specifiers.ensures.grows any first h)

pub returns-clause-grows : goal.returns-clause-grows
returns-clause-grows g c = λ any first h. c.row.ensures.grows any first (c.specifiers.ensures.grows any first h)
