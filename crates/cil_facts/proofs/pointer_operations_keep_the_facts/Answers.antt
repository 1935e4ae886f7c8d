use Rattle.cil_facts.proofs.Comparing.{difference-keeps, comparison-keeps}
use Rattle.cil_facts.proofs.Points.{move-keeps, null-keeps, decay-keeps, address-keeps, member-keeps}
use Rattle.cil_facts.proofs.pointer_operations_keep_the_facts.Goals as goal

pub returns-clause-moves : goal.returns-clause-moves
returns-clause-moves f into p n way t at k a types after c solved shaped facts = move-keeps k a solved types after c facts into p n way t at shaped

pub returns-clause-null_tests : goal.returns-clause-null_tests
returns-clause-null_tests f into p t different k a types after c solved shaped facts = null-keeps k a solved types after c facts into p t different shaped

pub returns-clause-arrays : goal.returns-clause-arrays
returns-clause-arrays f into source outer array check inner element at k a types after c solved shaped facts =
    decay-keeps k a solved types after c facts into source outer array check inner element at shaped

pub returns-clause-addresses : goal.returns-clause-addresses
returns-clause-addresses f into source outer inner t k a types after c solved shaped facts =
    address-keeps k a solved types after c facts into source outer inner t shaped

pub returns-clause-members : goal.returns-clause-members
returns-clause-members f into source outer t i inner u at k a types after c solved shaped facts =
    member-keeps k a solved types after c facts into source outer t i inner u at shaped

pub returns-clause-differences : goal.returns-clause-differences
returns-clause-differences f into p q t u at k a types after c solved shaped facts =
    difference-keeps k a solved types after c facts into p q t u at shaped

pub returns-clause-comparisons : goal.returns-clause-comparisons
returns-clause-comparisons f into o p q t u at k a types after c solved shaped facts =
    comparison-keeps k a solved types after c facts into o p q t u at shaped
