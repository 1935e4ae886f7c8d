use Rattle.check_insert.proofs.Laws.{grows_as, grows_failed}
use Rattle.cure_scope.proofs.Laws.{grows_row}
use Rattle.cure_instrs.proofs.PieceLaws.{always, refused}
use Rattle.cure_points.proofs.PointLaws.{address_cured}
use Rattle.cure_points.proofs.addresses.put_address.Goals as goal

pub returns : goal.returns
returns c types outer =
    grows_as _ _ _ _ _ (address_cured c.args.k.now types c.args.into c.args.from outer c.args.inner c.args.ty)
    (rw (c.kind_of.ensures, c.cured_size.ensures, c.column.ensures.value, c.column-2.ensures.value) at c.put_part.ensures)
