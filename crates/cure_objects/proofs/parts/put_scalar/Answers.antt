use Rattle.check_insert.proofs.Laws.{grows_as, grows_failed}
use Rattle.cure_scope.specs.Scopes.{whole_of, world_of}
use Rattle.cure_instrs.proofs.PieceLaws.{always, grows_of}
use Rattle.cure_instrs.proofs.AccessLaws.{no_scalar, agreed}
use Rattle.cure_objects.specs.Lines.{part_at}
use Rattle.cure_objects.proofs.ObjectLaws.{integer_scalar, pointer_scalar}
use Rattle.cure_objects.proofs.parts.put_scalar.Goals as goal

pub returns-in-Some : goal.returns-in-Some
returns-in-Some c =
    always _ _ _ _ (grows_as _ _ _ _ _ (λ code. integer_scalar (world_of c.args.k.now) _ c.args.t part_at c.args.v c.args.at.own c.args.at.assignment
    _ code (rw c.in-Some.is at c.integer_in.ensures.there)) (rw c.kind_of-outer.ensures at c.put_integer_store.ensures))

pub returns-in-Some-pointer_in : goal.returns-in-Some-pointer_in
returns-in-Some-pointer_in c =
    let is = rw c.in-Some-pointer_in.is at c.pointer_in.ensures.there in
    grows_of _ _ _ _ _ (agreed (whole_of c.args.k.now) c.args.home c.args.t _ _ is)
    (grows_as _ _ _ _ _ (λ code. pointer_scalar (world_of c.args.k.now) _ c.args.t part_at c.args.v c.args.at.own c.args.at.assignment _ _ code is)
    (rw (c.kind_of-outer.ensures, c.kind_of.ensures) at c.put_pointer_store.ensures))

pub returns-in-None-pointer_in : goal.returns-in-None-pointer_in
returns-in-None-pointer_in c =
    grows_failed _ _ _ _ (no_scalar (whole_of c.args.k.now) c.args.home c.args.t (rw c.in-None.is at c.integer_in.ensures.none)
    (rw c.in-None-pointer_in.is at c.pointer_in.ensures.none)) c.refuse.ensures
