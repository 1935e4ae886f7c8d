use Rattle.std.proofs.Common.{sym, ◌∙◌}
use Rattle.flat_mem.proofs.MemoryCode.{number-2}
use Rattle.flat_mem.proofs.numbers.number_2.Goals as goal

pub returns : goal.returns
returns c = c.from_le_bytes.ensures ∙ sym (number-2 _ _)
