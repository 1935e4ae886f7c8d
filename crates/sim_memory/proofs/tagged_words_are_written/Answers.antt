use Rattle.sim_memory.proofs.WildStores.{wild-pointers-stored, nulls-stored}
use Rattle.sim_memory.proofs.WildIntegers.{wild-integers-stored}
use Rattle.sim_memory.proofs.WildClears.{wild-objects-cleared}
use Rattle.sim_memory.proofs.WildMoves.{wild-copied}
use Rattle.sim_memory.proofs.WildPlain.{plain-copied}
use Rattle.sim_memory.proofs.TaggedPlain.{tagged-plain-copied}
use Rattle.sim_memory.proofs.tagged_words_are_written.Goals as goal

pub returns-clause-pointer : goal.returns-clause-pointer
returns-clause-pointer f w number_of p q s x a b v u c r y by8 some first second sv su =
    wild-pointers-stored w number_of p s x a b c r y by8 q v u some first second sv su

pub returns-clause-null : goal.returns-clause-null
returns-clause-null f w number_of p s x a b c r y by8 = nulls-stored w number_of p s x a b c r y by8

pub returns-clause-integer : goal.returns-clause-integer
returns-clause-integer f w sites number_of i p z s x a b v c size memory r y low =
    wild-integers-stored w sites number_of i p z s x a b v c size memory r y low

pub returns-clause-clearing : goal.returns-clause-clearing
returns-clause-clearing f w number_of k o s x a b c found live tagged some r here base =
    wild-objects-cleared w number_of k o s x a b c found live tagged some r here base

pub returns-clause-copy : goal.returns-clause-copy
returns-clause-copy f w sites number_of p q s x a b d e n c memory r y z some rows from8 to8 = wild-copied w sites number_of p q s x a b d e n c memory r y z some rows from8 to8

pub returns-clause-plain : goal.returns-clause-plain
returns-clause-plain f w sites number_of kind t p q s x a b d c plain all_raw some memory r y z =
    plain-copied w sites number_of kind t p q s x a b d c plain all_raw some memory r y z

pub returns-clause-tagged_plain : goal.returns-clause-tagged_plain
returns-clause-tagged_plain f w sites number_of p q s x a b d e n c some memory r y none z =
    tagged-plain-copied w sites number_of p q s x a b d e n c some memory r y none z
