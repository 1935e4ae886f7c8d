use Rattle.flat_mem.proofs.MemoryCode.{moved-none, moved-next}
use Rattle.flat_mem.proofs.numbers.move_down.Goals as goal

pub loop-i-init : goal.loop-i-init
loop-i-init c = moved-none _ _ _

pub loop-i-preserved : goal.loop-i-preserved
loop-i-preserved c = moved-next _ _ _ _ _ c.loop-i.invariant c.requires.down
