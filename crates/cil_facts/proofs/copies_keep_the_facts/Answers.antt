use Rattle.cil_facts.proofs.Copies.{copy-keeps, part_copy-keeps}
use Rattle.cil_facts.proofs.copies_keep_the_facts.Goals as goal

pub returns-clause-pointers : goal.returns-clause-pointers
returns-clause-pointers f to source node to_node to_place source_place t assignment k a types after c solved shaped facts =
    copy-keeps k a solved types after c facts to source node to_node to_place source_place t assignment shaped

pub returns-clause-parts : goal.returns-clause-parts
returns-clause-parts f o home u offset source node to_place source_place t assignment k a types after c solved shaped facts =
    part_copy-keeps k a solved types after c facts o home u offset source node to_place source_place t assignment shaped
