use Rattle.check_insert.proofs.Laws.{grows_as, grows_failed, grows_then}
use Rattle.cure_scope.specs.Scopes.{whole_of}
use Rattle.cure_instrs.proofs.PieceLaws.{grows_of}
use Rattle.cure_objects.proofs.ObjectLaws.{part_stored, not_placed}
use Rattle.cure_objects.proofs.parts.put_part_store.Goals as goal

pub returns-in-Some : goal.returns-in-Some
returns-in-Some c types =
    let far = rw (c.in-Some.is, c.kind_of-kind.ensures) at c.part_offset.ensures.there in
    let complete = rw c.in-Some.is at c.part_offset.ensures.complete in
    let to = c.args.to in
    grows_of _ _ _ _ _ (λ r. r.1)
    (grows_as _ _ _ _ _ (λ code. part_stored c.args.k.now types to.object to.home to.ty to.offset c.args.value c.args.t c.args.at.own c.args.at.assignment
    _ code far complete) (grows_then _ _ _ _ _ _ _ (rw c.kind_of-kind.ensures at c.put_part.ensures) (rw c.column.ensures.value at c.put_scalar.ensures)))

pub returns-in-None : goal.returns-in-None
returns-in-None c types =
    grows_failed _ _ _ _ (not_placed (whole_of c.args.k.now) c.args.to.ty c.args.to.offset _ (rw c.in-None.is at c.part_offset.ensures.none)) c.refuse.ensures
