use Rattle.sim_memory.proofs.Blocks.{blocks-fit-alike, blocks-made, tagged-blocks-fit-alike, tagged-blocks-made, heap-kept, heap-kept_by_call}
use Rattle.sim_memory.proofs.BlockWidths.{blocks-of-bytes, blocks-of-elements}
use Rattle.sim_memory.proofs.blocks_are_alike.Goals as goal

pub returns-clause-room : goal.returns-clause-room
returns-clause-room f w number_of s c size cells r ordered sized limit end = blocks-fit-alike w number_of s c size cells r ordered sized limit end

pub returns-clause-made : goal.returns-clause-made
returns-clause-made f w sites number_of s c n size cells plain memory r below ordered sized fits =
    blocks-made w sites number_of s c n size cells plain memory r below ordered sized fits

pub returns-clause-tagged_room : goal.returns-clause-tagged_room
returns-clause-tagged_room f w number_of s c size cells r ordered sized limit end = tagged-blocks-fit-alike w number_of s c size cells r ordered sized limit end

pub returns-clause-tagged : goal.returns-clause-tagged
returns-clause-tagged f w sites number_of s c n size cells tagged memory r below ordered sized fits =
    tagged-blocks-made w sites number_of s c n size cells tagged memory r below ordered sized fits

pub returns-clause-bytes : goal.returns-clause-bytes
returns-clause-bytes f w t n sound none = blocks-of-bytes w t n sound none

pub returns-clause-elements : goal.returns-clause-elements
returns-clause-elements f w t k sound complete = blocks-of-elements w t k sound complete

pub returns-clause-top : goal.returns-clause-top
returns-clause-top f w number_of s r c d h outlined lived areas top = heap-kept w number_of s r c d h outlined lived areas top

pub returns-clause-calls : goal.returns-clause-calls
returns-clause-calls f w number_of s c d variables areas charge r h = heap-kept_by_call w number_of s c d variables areas charge r h
