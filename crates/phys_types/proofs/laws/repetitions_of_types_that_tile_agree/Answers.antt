use Rattle.phys_types.proofs.LawLemmas.{tiles_across, tiles_within}
use Rattle.phys_types.proofs.laws.repetitions_of_types_that_tile_agree.Goals as goal

pub returns-clause-across : goal.returns-clause-across
returns-clause-across c table t u g i j w a b e d h = tiles_across table w t u g a b e d i j h

pub returns-clause-within : goal.returns-clause-within
returns-clause-within c table t u g i j w a b e d h = tiles_within table w t u g a b e d i j h
