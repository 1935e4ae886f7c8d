use Rattle.cured_machine.proofs.LoadLaws.{bytes-next, bytes-done}
use Rattle.cured_machine.proofs.loading.write_bytes.Goals as goal

pub loop-offset-preserved : goal.loop-offset-preserved
loop-offset-preserved c = bytes-next _ _ _ _ _ _ _ c.loop-offset-test.true c.from.ensures (rw c.from.ensures (c.type_inv.bytes c.loop-offset.offset).fits) c.store.ensures c.loop-offset.invariant

pub returns : goal.returns
returns c = bytes-done _ _ _ _ _ c.loop-offset-test.false c.loop-offset.invariant
