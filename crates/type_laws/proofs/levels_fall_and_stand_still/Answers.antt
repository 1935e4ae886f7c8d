use Rattle.type_laws.proofs.Levels.{falls, stands}
use Rattle.type_laws.proofs.levels_fall_and_stand_still.Goals as goal

pub returns-clause-fall : goal.returns-clause-fall
returns-clause-fall c table k t u w = falls table w k t u

pub returns-clause-stand : goal.returns-clause-stand
returns-clause-stand c table k w = stands table w k
