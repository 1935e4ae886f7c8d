use Rattle.cc_base.specs.Kinds.{kind_at}
use Rattle.rtti_nodes.specs.Classes.{AreSorted}
use Rattle.rtti_nodes.proofs.joining.classes_of.Given as goal

abbrev pub invariant-types : goal.invariant-types
invariant-types l = AreSorted l.known (kind_at l.kinds) l.ordered l.one-index l.classes.firsts.items l.classes.parents.items l.classes.numbers.items
