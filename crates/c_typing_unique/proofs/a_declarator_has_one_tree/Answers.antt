use Rattle.c_typing_unique.proofs.UniqueWhole.{form-whole, parameters-whole}
use Rattle.c_typing_unique.proofs.a_declarator_has_one_tree.Goals as goal

pub returns-clause-declarator : goal.returns-clause-declarator
returns-clause-declarator c = form-whole

pub returns-clause-parameters : goal.returns-clause-parameters
returns-clause-parameters c = parameters-whole
