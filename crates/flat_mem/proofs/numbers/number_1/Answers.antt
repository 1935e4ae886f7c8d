use Rattle.std.proofs.Common.{sym}
use Rattle.flat_mem.proofs.MemoryCode.{number-1}
use Rattle.flat_mem.proofs.numbers.number_1.Goals as goal

pub returns : goal.returns
returns c = sym (number-1 _ _)
