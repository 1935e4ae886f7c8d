use Rattle.std.proofs.Common.{refl}
use Rattle.unit_parts.proofs.Laws.{collects_asks, collects_then}
use Rattle.unit_contents.proofs.walk.init_declarator.Goals as goal

pub returns-in-Plain : goal.returns-in-Plain
returns-in-Plain c = λ all start before. rw c.in-Plain.is (collects_then _ _ _ _ _ _ _ _ before c.declarator.ensures)

pub returns-in-Initialised : goal.returns-in-Initialised
returns-in-Initialised c = λ all start before. rw c.in-Initialised.is (collects_asks _ _ _ _ _ _ _ _ refl
    (collects_then _ _ _ _ _ _ _ _ (collects_then _ _ _ _ _ _ _ _ before c.declarator-in-Initialised.ensures) c.initialiser.ensures) c.ask_copies.ensures)
