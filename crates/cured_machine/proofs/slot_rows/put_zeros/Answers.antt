use Rattle.flat_mem.proofs.MemoryCode.{zeroed-start, zeroed-next}
use Rattle.cured_machine.proofs.slot_rows.put_zeros.Goals as goal

pub loop-i-init : goal.loop-i-init
loop-i-init c = zeroed-start _ _

pub loop-i-preserved : goal.loop-i-preserved
loop-i-preserved c = zeroed-next _ _ _ _ c.loop-i.invariant c.loop-i.auto.i
