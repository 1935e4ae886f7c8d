use Rattle.src_mem.proofs.Accesses.{store_integer-whole, store_pointer-whole, clear-whole, copy-whole, allocate-whole, enter-whole, leave-whole}
use Rattle.src_mem.proofs.bytes_under_pointers_stay_zero.Goals as goal

pub returns-clause-integer : goal.returns-clause-integer
returns-clause-integer c = store_integer-whole

pub returns-clause-pointer : goal.returns-clause-pointer
returns-clause-pointer c = store_pointer-whole

pub returns-clause-clearing : goal.returns-clause-clearing
returns-clause-clearing c = clear-whole

pub returns-clause-copying : goal.returns-clause-copying
returns-clause-copying c = copy-whole

pub returns-clause-allocation : goal.returns-clause-allocation
returns-clause-allocation c = allocate-whole

pub returns-clause-entry : goal.returns-clause-entry
returns-clause-entry c = enter-whole

pub returns-clause-leaving : goal.returns-clause-leaving
returns-clause-leaving c = leave-whole
