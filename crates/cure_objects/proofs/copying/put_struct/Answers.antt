use Rattle.cure_instrs.proofs.PieceLaws.{then_ready}
use Rattle.cure_objects.proofs.copying.put_struct.Goals as goal

pub returns-then-layout : goal.returns-then-layout
returns-then-layout c =
    rw c.if-layout.true (then_ready _ _ _ _ _ _ (rw (c.size_at-size.ensures, c.wild_numbers.ensures) at c.put_guarded.ensures)
    (rw c.deref.ensures.value at c.put_holder.ensures))

pub returns-else-layout : goal.returns-else-layout
returns-else-layout c =
    rw c.if-layout.false (then_ready _ _ _ _ _ _ (rw c.size_at-size.ensures at c.put_guarded-else-layout.ensures)
    (rw c.source_size.ensures at c.put_plain.ensures))
