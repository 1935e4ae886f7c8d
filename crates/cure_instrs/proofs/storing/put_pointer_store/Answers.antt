use Rattle.cure_instrs.proofs.PieceLaws.{then_ready}
use Rattle.cure_instrs.proofs.storing.put_pointer_store.Goals as goal

pub returns : goal.returns
returns c = then_ready _ _ _ _ _ _ (rw (c.home_slot.ensures, c.pointer_slots.ensures, c.size_at.ensures, c.wild_numbers.ensures) at c.put_guarded.ensures) c.put_pointer_stored.ensures
