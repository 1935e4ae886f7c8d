use Rattle.cure_rules.specs.Slots.{LeastFactor, SpanFactor}
use Rattle.cure_scope.proofs.Laws.{needs_more}
use Rattle.cure_scope.proofs.needs.put_factor.Goals as goal

pub returns-in-Signed : goal.returns-in-Signed
returns-in-Signed c = rw c.in-Signed.is (needs_more _ _ _ _ _ (c.put_number.ensures LeastFactor) (c.put_number-in-Signed.ensures SpanFactor))
