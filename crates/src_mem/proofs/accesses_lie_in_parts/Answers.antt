use Rattle.src_mem.proofs.AccessesLie.{lies_in_part}
use Rattle.src_mem.proofs.Noted.{load_integer-notes, load_pointer-notes, store_integer-notes, store_pointer-notes, copy-notes}
use Rattle.src_mem.proofs.accesses_lie_in_parts.Goals as goal

pub returns-clause-integer_loaded : goal.returns-clause-integer_loaded
returns-clause-integer_loaded c = load_integer-notes

pub returns-clause-pointer_loaded : goal.returns-clause-pointer_loaded
returns-clause-pointer_loaded c = load_pointer-notes

pub returns-clause-integer_stored : goal.returns-clause-integer_stored
returns-clause-integer_stored c = store_integer-notes

pub returns-clause-pointer_stored : goal.returns-clause-pointer_stored
returns-clause-pointer_stored c = store_pointer-notes

pub returns-clause-copied : goal.returns-clause-copied
returns-clause-copied c = copy-notes

pub returns-clause-inside : goal.returns-clause-inside
returns-clause-inside c = lies_in_part
