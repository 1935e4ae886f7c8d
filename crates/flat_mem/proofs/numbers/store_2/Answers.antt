use Rattle.std.proofs.Common.{sym}
use Rattle.flat_mem.proofs.MemoryCode.{stored-2}
use Rattle.flat_mem.proofs.numbers.store_2.Goals as goal

pub returns : goal.returns
returns c = rw c.to_le_bytes-low.ensures (sym (stored-2 _ _ _))
