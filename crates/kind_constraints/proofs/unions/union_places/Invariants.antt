use Rattle.std.proofs.Common.{◌≡◌, Some, [], take}
use Rattle.kind_constraints.specs.Adding.{Adds, OfSome}
use Rattle.kind_constraints.specs.Pieces.{union_place_of}
use Rattle.kind_constraints.proofs.unions.union_places.Given as goal

abbrev pub invariant-sites : goal.invariant-sites
invariant-sites l = Adds (OfSome (take l.site-index l.sites) (λ s x. union_place_of s ≡ Some x)) [] l.unions.items
