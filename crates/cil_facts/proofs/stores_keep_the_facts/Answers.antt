use Rattle.cil_facts.proofs.Accesses.{store-keeps}
use Rattle.cil_facts.proofs.PartStores.{part_store-keeps, clear-keeps}
use Rattle.cil_facts.proofs.stores_keep_the_facts.Goals as goal

pub returns-clause-pointers : goal.returns-clause-pointers
returns-clause-pointers f to value node t at assignment k a types after c solved shaped facts =
    store-keeps k a solved types after c facts to value node t at assignment shaped

pub returns-clause-parts : goal.returns-clause-parts
returns-clause-parts f o home u offset value t at assignment k a types after c solved shaped facts =
    part_store-keeps k a solved types after c facts o home u offset value t at assignment shaped

pub returns-clause-clearing : goal.returns-clause-clearing
returns-clause-clearing f o k a types after c solved shaped facts = clear-keeps k a solved types after c facts o shaped
