use Rattle.flat_mem.proofs.MemoryCode.{moved-none_up, moved-next_up}
use Rattle.flat_mem.proofs.numbers.move_up.Goals as goal

pub loop-i-init : goal.loop-i-init
loop-i-init c = moved-none_up _ _ _ _

pub loop-i-preserved : goal.loop-i-preserved
loop-i-preserved c = moved-next_up _ _ _ _ _ _ c.loop-i.invariant c.requires.up c.loop-i-test.true c.loop-i.auto.i
