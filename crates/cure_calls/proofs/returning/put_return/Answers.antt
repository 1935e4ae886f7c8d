use Rattle.check_insert.proofs.Laws.{grows_as}
use Rattle.cure_scope.specs.Scopes.{world_of}
use Rattle.cure_scope.proofs.Laws.{grows_row}
use Rattle.cure_instrs.proofs.PieceLaws.{always, refused}
use Rattle.cure_calls.proofs.CallLaws.{returns_value, returns_pointer, no_scalar, no_function}
use Rattle.cure_calls.proofs.returning.put_return.Goals as goal

pub returns-then-k-eq0 : goal.returns-then-k-eq0
returns-then-k-eq0 c types = let e = c.if-k-eq0.true in refused _ _ _ _ c.refuse.ensures (no_function (world_of c.args.k.now) c.args.ty e)

pub returns-in-Some : goal.returns-in-Some
returns-in-Some c types =
    let e = c.if-k-eq0.false in
    always _ _ _ _ (grows_as _ _ _ _ _ (λ code. returns_value c.args.k.now types c.args.value c.args.ty c.args.at _ code e (rw c.in-Some.is at c.integer_in.ensures.there))
    (rw c.column-a.ensures.value at c.put.ensures))

pub returns-in-Some-pointer_in : goal.returns-in-Some-pointer_in
returns-in-Some-pointer_in c types =
    let e = c.if-k-eq0.false in
    always _ _ _ _ (grows_as _ _ _ _ _ (λ code. returns_pointer c.args.k.now types c.args.value c.args.ty c.args.at _ _ code e (rw c.in-Some-pointer_in.is at c.pointer_in.ensures.there))
    (grows_row _ _ _ _ _ (rw (c.kind_of.ensures, c.column-a.ensures.value) at c.put_return_asks.ensures) (rw c.column-a.ensures.value at c.put-in-Some-pointer_in.ensures)))

pub returns-in-None-pointer_in : goal.returns-in-None-pointer_in
returns-in-None-pointer_in c types =
    refused _ _ _ _ c.refuse-in-None-pointer_in.ensures (no_scalar (world_of c.args.k.now) c.args.ty (rw c.in-None.is at c.integer_in.ensures.none)
    (rw c.in-None-pointer_in.is at c.pointer_in.ensures.none))
