use Rattle.flat_mem.proofs.AreaCode.{size_of-tagged}
use Rattle.flat_mem.proofs.areas.size_of.Goals as goal

pub returns-then-area : goal.returns-then-area
returns-then-area c = size_of-tagged c.args.area _ _ c.if-area.true c.div_ceil-words.ensures c.div_ceil.ensures
