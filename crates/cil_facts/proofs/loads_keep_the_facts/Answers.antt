use Rattle.cil_facts.proofs.Accesses.{load-keeps}
use Rattle.cil_facts.proofs.loads_keep_the_facts.Goals as goal

pub returns : goal.returns
returns f into source node t at k a types after c solved shaped facts = load-keeps k a solved types after c facts into source node t at shaped
