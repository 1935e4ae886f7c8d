use Rattle.std.proofs.Common.{ap, ◌∙◌, length}
use Rattle.std.proofs.lemmas.Nat.Gcd.{same_from_IsGcd}
use Rattle.phys_types.specs.Numbers.{spots_before}
use Rattle.phys_types.proofs.crossing.spots_in_unit.Goals as goal

pub returns-clause-count : goal.returns-clause-count
returns-clause-count c = λ g d.
    ap length (c.spots_before.ensures
    ∙ (λ i. spots_before (same_from_IsGcd c.args.x.now.size c.args.y.now.size c.greatest_common_divisor.result g c.greatest_common_divisor.ensures d i) (c.deref.ensures.value i)))
