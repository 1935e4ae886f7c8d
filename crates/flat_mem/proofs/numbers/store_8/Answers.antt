use Rattle.std.proofs.Common.{sym}
use Rattle.flat_mem.proofs.MemoryCode.{stored-8}
use Rattle.flat_mem.proofs.numbers.store_8.Goals as goal

pub returns : goal.returns
returns c = rw c.to_le_bytes-low.ensures (sym (stored-8 _ _ _))
