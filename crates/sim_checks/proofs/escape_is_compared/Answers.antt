use Rattle.sim_checks.proofs.Escape.{escape-compared}
use Rattle.sim_checks.proofs.escape_is_compared.Goals as goal

pub returns : goal.returns
returns f w number_of s c parts depth kind other t u q target e p to apart x y =
    escape-compared w number_of s c depth apart parts kind other t u q target e p to x y
