use Rattle.std.proofs.Common.{arith}
use Rattle.std.proofs.lemmas.Nat.Gcd.{IsGcd-from_mod, IsGcd-from_zero}
use Rattle.phys_types.proofs.comparing.greatest_common_divisor.Goals as goal

pub euclid-preserved : goal.euclid-preserved
euclid-preserved c = λ g d. c.euclid.invariant g (IsGcd-from_mod c.euclid.x c.euclid.y g d)

pub returns : goal.returns
returns c = c.euclid.invariant c.euclid.x (IsGcd-from_zero c.euclid.x c.euclid.y (omega arith))
