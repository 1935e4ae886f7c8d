use Rattle.c_typing_unique.proofs.UniqueWhole.{alone-whole, specifiers-whole, type-name-whole}
use Rattle.c_typing_unique.proofs.a_type_name_has_one_tree.Goals as goal

pub returns-clause-type_name : goal.returns-clause-type_name
returns-clause-type_name c = type-name-whole

pub returns-clause-specifiers : goal.returns-clause-specifiers
returns-clause-specifiers c = specifiers-whole

pub returns-clause-alone : goal.returns-clause-alone
returns-clause-alone c = alone-whole
