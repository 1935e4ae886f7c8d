use Rattle.std.proofs.Common.{◌≡◌, Some, [], take}
use Rattle.kind_constraints.specs.Adding.{Adds, OfSome}
use Rattle.kind_constraints.specs.Pieces.{flow_pair_of}
use Rattle.kind_constraints.proofs.tops.flow_pairs.Given as goal

abbrev pub invariant-sites : goal.invariant-sites
invariant-sites l = Adds (OfSome (take l.site-index l.sites) (λ s x. flow_pair_of s ≡ Some x)) [] l.pairs.keys
