use Rattle.check_insert.proofs.Laws.{grows_as, grows_puts}
use Rattle.cure_scope.specs.Scopes.{whole_of}
use Rattle.cure_scope.proofs.Laws.{grows_row}
use Rattle.cure_instrs.proofs.PieceLaws.{always, refused}
use Rattle.cure_points.proofs.PointLaws.{compare_cured, no_left, no_right}
use Rattle.cure_points.proofs.comparing.put_compare.Goals as goal

pub returns-in-Some-pointer_in : goal.returns-in-Some-pointer_in
returns-in-Some-pointer_in c types =
    always _ _ _ _ (grows_as _ _ _ _ _ (λ code. compare_cured c.args.k.now types c.args.which c.args.d.into c.args.d.left c.args.d.right c.args.d.left_ty c.args.d.right_ty c.args.at _ _ _ _ code
    (rw c.in-Some.is at c.pointer_in.ensures.there) (rw c.in-Some-pointer_in.is at c.pointer_in-in-Some.ensures.there))
    (rw (c.kind_of.ensures, c.kind_of-in-Some-pointer_in.ensures, c.column.ensures.value, c.column-in-Some-pointer_in.ensures.value, c.column-in-Some-pointer_in-2.ensures.value) at c.put_compared_by.ensures))

pub returns-in-None-pointer_in : goal.returns-in-None-pointer_in
returns-in-None-pointer_in c types = refused _ _ _ _ c.refuse.ensures (no_right (whole_of c.args.k.now) c.args.d.left_ty c.args.d.right_ty (rw c.in-None-pointer_in.is at c.pointer_in-in-Some.ensures.none))

pub returns-in-None : goal.returns-in-None
returns-in-None c types = refused _ _ _ _ c.refuse-in-None.ensures (no_left (whole_of c.args.k.now) c.args.d.left_ty c.args.d.right_ty (rw c.in-None.is at c.pointer_in.ensures.none))
