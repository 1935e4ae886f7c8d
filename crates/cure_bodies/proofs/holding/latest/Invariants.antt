use Rattle.std.proofs.Common.{◌≡◌, length}
use Rattle.cure_bodies.specs.Holding.{typing_of}
use Rattle.cure_bodies.proofs.holding.latest.Given as goal

-- what was written behind the rest is of other temporaries
abbrev pub invariant-looking : goal.invariant-looking
invariant-looking l = typing_of l.items l.t ≡ typing_of l.rest l.t

abbrev pub decreases-looking : goal.decreases-looking
decreases-looking l = length l.rest
