use Rattle.std.proofs.Common.{[], take}
use Rattle.kind_constraints.specs.Adding.{Adds, OfSome}
use Rattle.kind_constraints.specs.Pieces.{IsFirstOf}
use Rattle.kind_constraints.proofs.below.pointees_of.Given as goal

abbrev pub invariant-sites : goal.invariant-sites
invariant-sites l = Adds (OfSome (take l.site-index l.sites) (IsFirstOf l.firsts)) [] l.pointees.keys
