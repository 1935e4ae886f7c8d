use Rattle.cil_facts.proofs.Blocks.{allocate-keeps}
use Rattle.cil_facts.proofs.allocations_keep_the_facts.Goals as goal

pub returns : goal.returns
returns f i k a types after c solved shaped facts = allocate-keeps k a solved types after c facts i shaped
