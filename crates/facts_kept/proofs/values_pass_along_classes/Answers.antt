use Rattle.facts_kept.proofs.Places.{value-class}
use Rattle.facts_kept.proofs.Calls.{passed}
use Rattle.facts_kept.proofs.values_pass_along_classes.Goals as goal

pub returns-clause-calls : goal.returns-clause-calls
returns-clause-calls c w outlines t u i p q v sound one e f h = passed w sound outlines t u one i p q e f v h

pub returns-clause-pointees : goal.returns-clause-pointees
returns-clause-pointees c w outlines kind t u p sound = value-class w sound outlines kind t u p
