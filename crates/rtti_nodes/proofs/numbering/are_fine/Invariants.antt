use Rattle.std.proofs.Common.{◌<◌, get_or}
use Rattle.cc_base.specs.declared.number.TypeId.{TypeId}
use Rattle.cc_base.specs.Kinds.{kind_at}
use Rattle.rtti_nodes.specs.Numbering.{AreAlikeBy}
use Rattle.rtti_nodes.proofs.numbering.are_fine.Given as goal

abbrev pub invariant-types : goal.invariant-types
invariant-types l = (t d : TypeId) → t.0 < l.t → AreAlikeBy l.known (kind_at l.kinds) l.numbers t (get_or l.firsts.items t.0 d)
