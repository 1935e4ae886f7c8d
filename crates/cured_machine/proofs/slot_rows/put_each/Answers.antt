use Rattle.flat_mem.proofs.TagCode.{write_bytes-none, write_bytes-next, write_bytes-done}
use Rattle.cured_machine.proofs.slot_rows.put_each.Goals as goal

pub loop-i-init : goal.loop-i-init
loop-i-init c = write_bytes-none _ c.args.words.now _

pub loop-i-preserved : goal.loop-i-preserved
loop-i-preserved c = write_bytes-next _ _ _ _ _ c.loop-i.invariant c.loop-i-test.true

pub returns : goal.returns
returns c = write_bytes-done _ _ _ _ _ c.loop-i.invariant c.loop-i-test.false
