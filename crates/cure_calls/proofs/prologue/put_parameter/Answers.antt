use Rattle.check_insert.proofs.Laws.{grows_as, grows_failed}
use Rattle.cure_scope.specs.Scopes.{whole_of}
use Rattle.cure_scope.proofs.Laws.{grows_row}
use Rattle.cure_instrs.proofs.PieceLaws.{always, grows_of, then_ready}
use Rattle.cure_instrs.proofs.AccessLaws.{no_scalar, agreed}
use Rattle.cure_calls.proofs.FrameLaws.{integer_parameter, pointer_parameter}
use Rattle.cure_calls.proofs.prologue.put_parameter.Goals as goal

pub returns-in-Some : goal.returns-in-Some
returns-in-Some c =
    always _ _ _ _ (grows_as _ _ _ _ _
    (λ code. integer_parameter c.args.k.now c.args.home c.args.t c.args.p c.args.variable _ code (rw c.in-Some.is at c.integer_in.ensures.there))
    (grows_row _ _ _ _ _ c.put.ensures (rw c.kind_of-outer.ensures at c.put_integer_stored.ensures)))

pub returns-in-Some-pointer_in : goal.returns-in-Some-pointer_in
returns-in-Some-pointer_in c =
    let is = rw c.in-Some-pointer_in.is at c.pointer_in.ensures.there in
    grows_of _ _ _ _ _ (agreed (whole_of c.args.k.now) c.args.home c.args.t _ _ is)
    (grows_as _ _ _ _ _ (λ code. pointer_parameter c.args.k.now c.args.home c.args.t c.args.p c.args.variable _ _ code is)
    (then_ready _ _ _ _ _ _ c.put.ensures (rw (c.kind_of-outer.ensures, c.kind_of.ensures) at c.put_pointer_stored.ensures)))

pub returns-in-None-pointer_in : goal.returns-in-None-pointer_in
returns-in-None-pointer_in c =
    grows_failed _ _ _ _ (no_scalar (whole_of c.args.k.now) c.args.home c.args.t (rw c.in-None.is at c.integer_in.ensures.none)
    (rw c.in-None-pointer_in.is at c.pointer_in.ensures.none)) c.refuse.ensures
