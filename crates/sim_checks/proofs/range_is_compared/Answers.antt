use Rattle.sim_checks.proofs.Moves.{moves-compared, wild-moves-compared, wild-parts-compared}
use Rattle.sim_checks.proofs.range_is_compared.Goals as goal

pub returns-clause-sequence : goal.returns-clause-sequence
returns-clause-sequence f w number_of s c parts depth t q e p i z way n factor distance reach at sound complete x base moves least span =
    moves-compared w number_of s c parts depth t sound complete q e p i z way n factor distance reach at x base moves least span

pub returns-clause-wild : goal.returns-clause-wild
returns-clause-wild f w number_of s c parts depth t q e p i z way n factor distance reach at sound complete x base moves least span =
    wild-moves-compared w number_of s c parts depth t sound complete q e p i z way n factor distance reach at x base moves least span

pub returns-clause-part : goal.returns-clause-part
returns-clause-part f w number_of s c parts depth t q e p offset n reach at x base few is least span =
    wild-parts-compared w number_of s c parts depth t q e p offset n reach at x base few is least span
