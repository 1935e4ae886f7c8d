use Rattle.check_insert.proofs.Laws.{grows_as, grows_failed}
use Rattle.cure_scope.proofs.Laws.{grows_row}
use Rattle.cure_instrs.proofs.PieceLaws.{always, refused}
use Rattle.cure_points.proofs.PointLaws.{decay_cured}
use Rattle.cure_points.proofs.addresses.put_decay.Goals as goal

pub returns-then-checked : goal.returns-then-checked
returns-then-checked c types =
    rw c.if-checked.true (grows_as _ _ _ _ _ (decay_cured c.args.k.now types c.args.d.into c.args.d.from c.args.d.outer c.args.d.array _ c.args.d.inner c.args.d.element c.args.at)
    (rw (c.kind_of.ensures, c.kind_of-then-checked.ensures, c.cured_size.ensures, c.column.ensures.value, c.column-then-checked.ensures.value) at c.put_part_of.ensures))

pub returns-else-checked : goal.returns-else-checked
returns-else-checked c types =
    rw c.if-checked.false (grows_as _ _ _ _ _ (decay_cured c.args.k.now types c.args.d.into c.args.d.from c.args.d.outer c.args.d.array _ c.args.d.inner c.args.d.element c.args.at)
    (rw (c.kind_of.ensures, c.cured_size.ensures, c.column-else-checked.ensures.value, c.column-else-checked-2.ensures.value) at c.put_part.ensures))
