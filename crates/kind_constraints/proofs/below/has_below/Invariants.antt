use Rattle.std.proofs.Common.{◌≡◌, drop}
use Rattle.std.specs.List.{list_any}
use Rattle.c_types.specs.Equality.{strictly_below}
use Rattle.kind_constraints.proofs.below.has_below.Given as goal

abbrev pub invariant-pointees : goal.invariant-pointees
invariant-pointees l =
    list_any (λ q. strictly_below l.known q l.t) (drop l.pointee-index l.pointees) ≡ list_any (λ q. strictly_below l.known q l.t) l.pointees
