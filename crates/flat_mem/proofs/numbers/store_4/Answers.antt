use Rattle.std.proofs.Common.{sym}
use Rattle.flat_mem.proofs.MemoryCode.{stored-4}
use Rattle.flat_mem.proofs.numbers.store_4.Goals as goal

pub returns : goal.returns
returns c = rw c.to_le_bytes-low.ensures (sym (stored-4 _ _ _))
