use Rattle.std.proofs.Common.{sym, ◌∙◌}
use Rattle.flat_mem.proofs.MemoryCode.{number-4}
use Rattle.flat_mem.proofs.numbers.number_4.Goals as goal

pub returns : goal.returns
returns c = c.from_le_bytes.ensures ∙ sym (number-4 _ _)
