use Rattle.check_insert.proofs.Laws.{grows_as, grows_failed}
use Rattle.cure_scope.specs.Scopes.{world_of}
use Rattle.cure_instrs.proofs.PieceLaws.{grows_of}
use Rattle.cure_objects.proofs.ObjectLaws.{object_cleared, planned_home, not_planned}
use Rattle.cure_objects.proofs.clearing.put_clear.Goals as goal

pub returns-in-Some : goal.returns-in-Some
returns-in-Some c types =
    let is = rw c.in-Some.is at c.planned.ensures.there in
    grows_of _ _ _ _ _ (planned_home (world_of c.args.k.now) c.args.o _ is)
    (grows_as _ _ _ _ _ (λ code. object_cleared c.args.k.now types c.args.o _ code is) (rw c.kind_of.ensures at c.put_cleared.ensures))

pub returns-in-None : goal.returns-in-None
returns-in-None c types =
    grows_failed _ _ _ _ (not_planned (world_of c.args.k.now) c.args.o (rw c.in-None.is at c.planned.ensures.none)) c.refuse.ensures
