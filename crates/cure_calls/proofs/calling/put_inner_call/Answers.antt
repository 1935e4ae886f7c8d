use Rattle.check_insert.proofs.Laws.{grows_as}
use Rattle.cure_scope.specs.Scopes.{world_of}
use Rattle.cure_instrs.proofs.PieceLaws.{grows_of, refused}
use Rattle.cure_calls.proofs.CallLaws.{call_cured, can_call, calls_no_pointer, calls_no_function}
use Rattle.cure_calls.proofs.calling.put_inner_call.Goals as goal

pub returns-in-Some-function_in : goal.returns-in-Some-function_in
returns-in-Some-function_in c types =
    let is = rw c.in-Some.is at c.pointer_in.ensures.there in
    let function = c.in-Some-function_in.ensures.there in
    grows_of _ _ _ _ _ (can_call (world_of c.args.k.now) c.args.i.ty c.args.i.first _ _ _ _ is function)
    (grows_as _ _ _ _ _ (λ code. call_cured c.args.k.now types c.args.i _ _ _ _ code c.requires is function)
    (rw (c.kind_of.ensures, c.from.ensures, c.column.ensures.value, c.column-in-Some-function_in.ensures.value) at c.put_called.ensures))

pub returns-in-None-function_in : goal.returns-in-None-function_in
returns-in-None-function_in c types =
    refused _ _ _ _ c.refuse.ensures (calls_no_function (world_of c.args.k.now) c.args.i.ty c.args.i.first _ _ (rw c.in-Some.is at c.pointer_in.ensures.there)
    c.in-None-function_in.ensures.none)

pub returns-in-None : goal.returns-in-None
returns-in-None c types =
    refused _ _ _ _ c.refuse-in-None.ensures (calls_no_pointer (world_of c.args.k.now) c.args.i.ty c.args.i.first (rw c.in-None.is at c.pointer_in.ensures.none))
