use Rattle.cure_rules.specs.Slots.{Last}
use Rattle.cure_scope.proofs.Laws.{needs_more}
use Rattle.cure_scope.proofs.needs.put_member.Goals as goal

pub returns-in-Wild : goal.returns-in-Wild
returns-in-Wild c = rw c.in-Wild.is (needs_more _ _ _ _ _ (c.put_number.ensures Last) c.put_near.ensures)
