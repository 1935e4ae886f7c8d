use Rattle.cil_facts.proofs.Calculations.{calculate-keeps}
use Rattle.cil_facts.proofs.calculations_keep_the_facts.Goals as goal

pub returns : goal.returns
returns f i k a types after c solved shaped facts = calculate-keeps k a solved types after c facts i shaped
