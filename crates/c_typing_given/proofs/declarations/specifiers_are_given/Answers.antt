use Rattle.c_typing_given.proofs.TreesGiven.{all-specifiers-given}
use Rattle.c_typing_given.proofs.WholeGiven.{listed-given, alone-given}
use Rattle.c_typing_given.proofs.declarations.specifiers_are_given.Goals as goal

pub returns-clause-listed : goal.returns-clause-listed
returns-clause-listed c = λ T xs x s b count basic limits here read uses room holds.
    listed-given T basic xs (all-specifiers-given T basic limits.few xs) x s b count here read uses room holds

pub returns-clause-alone : goal.returns-clause-alone
returns-clause-alone c = λ T xs x s b count basic limits here read uses room holds.
    alone-given T basic xs (all-specifiers-given T basic limits.few xs) x s b count here read uses room holds
