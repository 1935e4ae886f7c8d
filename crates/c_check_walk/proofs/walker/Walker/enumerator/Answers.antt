use Rattle.std.proofs.Common.{arith}
use Rattle.c_tree.proofs.ViewLaws.{view_enumerator-Valued}
use Rattle.c_check_walk.proofs.NestLaws.{nests-within}
use Rattle.c_check_walk.proofs.walker.Walker.enumerator.Goals as goal

pub value-requires : goal.value-requires
value-requires g c =
    let inside = rw (c.in-Valued.is, view_enumerator-Valued) at c.requires.nests in
    record { nests = nests-within _ _ inside (omega arith) }

pub returns-in-Plain-clause-grows : goal.returns-in-Plain-clause-grows
returns-in-Plain-clause-grows g c = λ any first h. c.plain.ensures.grows _ any first h

pub returns-in_ok-v-in-Valued-clause-grows : goal.returns-in_ok-v-in-Valued-clause-grows
returns-in_ok-v-in-Valued-clause-grows g c = λ any first h. c.valued.ensures.grows any first (c.value.ensures.grows any first h)
