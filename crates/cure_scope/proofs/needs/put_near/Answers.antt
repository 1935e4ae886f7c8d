use Rattle.cure_rules.specs.Slots.{Least, Span}
use Rattle.cure_scope.proofs.Laws.{needs_more}
use Rattle.cure_scope.proofs.needs.put_near.Goals as goal

pub returns : goal.returns
returns c = needs_more _ _ _ _ _ (c.put_number.ensures Least) (c.put_number-2.ensures Span)
