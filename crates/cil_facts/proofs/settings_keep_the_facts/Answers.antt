use Rattle.cil_facts.proofs.Sets.{set-keeps}
use Rattle.cil_facts.proofs.settings_keep_the_facts.Goals as goal

pub returns : goal.returns
returns f i k a types after c solved shaped facts = set-keeps k a solved types after c facts i shaped
