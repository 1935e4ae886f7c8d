use Rattle.c_tree.proofs.ViewLaws.{view_core-Nested}
use Rattle.c_check_walk.proofs.walker.Walker.core.Goals as goal

pub form-requires : goal.form-requires
form-requires g c = record { nests = rw c.get.ensures (rw (c.in-Nested.is, view_core-Nested) at c.requires.nests) }

pub returns-in_err-home-in-Names-clause-grows : goal.returns-in_err-home-in-Names-clause-grows
returns-in_err-home-in-Names-clause-grows g c = λ any first h. c.home_as.ensures.grows _ any first h

pub returns-in_err-copied_name-in-Names-clause-grows : goal.returns-in_err-copied_name-in-Names-clause-grows
returns-in_err-copied_name-in-Names-clause-grows g c = λ any first h. c.home_as.ensures.grows _ any first h

pub returns-in_ok-copied_name-in-Names-clause-grows : goal.returns-in_ok-copied_name-in-Names-clause-grows
returns-in_ok-copied_name-in-Names-clause-grows g c = λ any first h. c.home_as.ensures.grows _ any first h
