use Rattle.cure_instrs.proofs.PieceLaws.{then_ready}
use Rattle.cure_instrs.proofs.loading.put_pointer_load.Goals as goal

pub returns : goal.returns
returns c = then_ready _ _ _ _ _ _ (rw (c.pointer_slots.ensures, c.size_at.ensures, c.wild_numbers.ensures) at c.put_guarded.ensures) c.put_pointer_loaded.ensures
