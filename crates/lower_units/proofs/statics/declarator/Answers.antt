use Rattle.lower_units.proofs.StaticLaws.{statics_kept, statics_then}
use Rattle.lower_units.proofs.statics.declarator.Goals as goal

pub returns-in-Plain : goal.returns-in-Plain
returns-in-Plain c = λ all start before. rw c.in-Plain.is (statics_kept _ _ _ _ _ before c.skip.ensures)

pub returns-in-Initialised : goal.returns-in-Initialised
returns-in-Initialised c = λ all start before. rw c.in-Initialised.is (statics_then _ _ _ _ _ _ before c.initialised.ensures)
