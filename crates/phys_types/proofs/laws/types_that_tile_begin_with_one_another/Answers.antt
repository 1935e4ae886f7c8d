use Rattle.phys_types.proofs.LawLemmas.{tiles_begin}
use Rattle.phys_types.proofs.laws.types_that_tile_begin_with_one_another.Goals as goal

pub returns : goal.returns
returns c table t u w e = tiles_begin table w t u e
