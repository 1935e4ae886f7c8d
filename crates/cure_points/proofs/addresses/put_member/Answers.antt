use Rattle.check_insert.proofs.Laws.{grows_as, grows_failed}
use Rattle.cure_scope.proofs.Laws.{grows_row}
use Rattle.cure_instrs.proofs.PieceLaws.{always, refused}
use Rattle.cure_points.proofs.PointLaws.{member_cured}
use Rattle.cure_points.proofs.addresses.put_member.Goals as goal

pub returns-in-Some : goal.returns-in-Some
returns-in-Some c types =
    always _ _ _ _ (grows_as _ _ _ _ _ (λ code. member_cured c.args.k.now types c.args.m.into c.args.m.from c.args.m.outer c.args.m.ty c.args.m.member c.args.m.inner c.args.m.member_ty
    c.args.at _ code (rw c.kind_of-outer.ensures at (rw c.in-Some.is at c.member_offset.ensures.there)))
    (rw (c.kind_of-outer.ensures, c.kind_of.ensures, c.cured_size.ensures, c.column.ensures.value, c.column-in-Some.ensures.value) at c.put_part_of.ensures))

pub returns-in-None : goal.returns-in-None
returns-in-None c types = refused _ _ _ _ c.refuse.ensures (rw c.in-None.is at c.member_offset.ensures.none)
