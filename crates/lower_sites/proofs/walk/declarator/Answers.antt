use Rattle.lower_sites.proofs.NameLaws.{tells_more}
use Rattle.lower_sites.proofs.walk.declarator.Goals as goal

pub returns-in-Plain : goal.returns-in-Plain
returns-in-Plain c = λ all start before. rw c.in-Plain.is (tells_more _ _ _ _ _ _ before c.tell.ensures)

pub returns-in-Initialised : goal.returns-in-Initialised
returns-in-Initialised c = λ all start before. rw c.in-Initialised.is (tells_more _ _ _ _ _ _ before c.tell-in-Initialised.ensures)
