use Rattle.std.proofs.Common.{ℕ}
use Rattle.std.specs.Int.{IsGcd}
use Rattle.phys_types.proofs.comparing.greatest_common_divisor.Given as goal

abbrev pub invariant-euclid : goal.invariant-euclid
invariant-euclid l = (g : ℕ) → IsGcd l.x l.y g → IsGcd l.fn.a l.fn.b g

abbrev pub decreases-euclid : goal.decreases-euclid
decreases-euclid l = l.y
