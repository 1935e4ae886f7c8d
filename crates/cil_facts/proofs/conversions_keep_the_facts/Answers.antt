use Rattle.cil_facts.proofs.Conversions.{integer-keeps, to_pointer-keeps, pointer-keeps}
use Rattle.cil_facts.proofs.conversions_keep_the_facts.Goals as goal

pub returns-clause-integer : goal.returns-clause-integer
returns-clause-integer f into source t k a types after c solved shaped facts = integer-keeps k a solved types after c facts into source t shaped

pub returns-clause-to_pointer : goal.returns-clause-to_pointer
returns-clause-to_pointer f into source t at k a types after c solved shaped facts = to_pointer-keeps k a solved types after c facts into source t at shaped

pub returns-clause-pointer : goal.returns-clause-pointer
returns-clause-pointer f into source t u at k a types after c solved shaped facts = pointer-keeps k a solved types after c facts into source t u at shaped
