use Rattle.std.proofs.Common.{refl}
use Rattle.c_printed.proofs.Laws.{prints_then}
use Rattle.c_printed.proofs.statements.init_declarator.Goals as goal

pub returns-in-Plain : goal.returns-in-Plain
returns-in-Plain c = λ all start before. rw c.in-Plain.is (prints_then _ _ _ _ _ before c.declarator.ensures)

pub returns-in-Initialised : goal.returns-in-Initialised
returns-in-Initialised c = λ all start before. rw c.in-Initialised.is (prints_then _ _ _ _ _ (prints_then _ _ _ _ _ before c.declarator-in-Initialised.ensures) c.initialiser.ensures)
