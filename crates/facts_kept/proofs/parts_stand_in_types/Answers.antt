use Rattle.facts_kept.proofs.Parts.{sub-member, sub-element, sub-twice, plain-sub}
use Rattle.facts_kept.proofs.Offsets.{part-place}
use Rattle.facts_kept.proofs.parts_stand_in_types.Goals as goal

pub returns-clause-member : goal.returns-clause-member
returns-clause-member c w t i sound allowed aggregate = sub-member w sound allowed t i aggregate

pub returns-clause-element : goal.returns-clause-element
returns-clause-element c w t element n i sound = sub-element w sound t element n i

pub returns-clause-further : goal.returns-clause-further
returns-clause-further c w t v x a b sound = sub-twice w sound t v x a b

pub returns-clause-unmixed : goal.returns-clause-unmixed
returns-clause-unmixed c w t v a sound = plain-sub w sound t v a

pub returns-clause-place : goal.returns-clause-place
returns-clause-place c w outlines t u offset l sound = part-place w sound outlines t u offset l
