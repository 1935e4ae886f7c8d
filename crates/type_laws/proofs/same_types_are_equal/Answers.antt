use Rattle.type_laws.proofs.SameTypes.{same-is-equal}
use Rattle.type_laws.proofs.same_types_are_equal.Goals as goal

pub returns : goal.returns
returns c table t u w = same-is-equal table w t u
