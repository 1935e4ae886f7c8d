use Rattle.std.proofs.Common.{sym}
use Rattle.flat_mem.proofs.MemoryCode.{stored-1}
use Rattle.flat_mem.proofs.numbers.store_1.Goals as goal

pub returns : goal.returns
returns c = rw c.to_le_bytes-low.ensures (sym (stored-1 _ _ _))
