use Rattle.std.proofs.Common.{arith}
use Rattle.flat_mem.proofs.AreaCode.{area_made-by}
use Rattle.flat_mem.proofs.AreaLaws.{area_size-least}
use Rattle.flat_mem.proofs.areas.make_area.Goals as goal

pub size_of-requires : goal.size_of-requires
size_of-requires c = let least = area_size-least c.args.area in omega (arith, least, c.requires.room, c.requires.small)

pub returns : goal.returns
returns c = area_made-by _ _ _ _ _ _ _ c.size_of.ensures c.zero_at.ensures c.first_word_of.ensures c.store_at.ensures
