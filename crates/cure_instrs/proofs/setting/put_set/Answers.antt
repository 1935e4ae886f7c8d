use Rattle.check_insert.proofs.Laws.{grows_as}
use Rattle.cure_instrs.proofs.SetLaws.{integer_set, null_set, function_set, object_set, copy_set}
use Rattle.cure_instrs.proofs.setting.put_set.Goals as goal

pub returns-in-Integer : goal.returns-in-Integer
returns-in-Integer c types same =
    rw c.in-Integer.is (grows_as _ _ _ _ _ (integer_set c.args.k.now types c.in-Integer.into c.in-Integer.value c.in-Integer.ty)
    (rw (c.column.ensures.value, c.word.ensures) at c.put.ensures))

pub returns-in-Null : goal.returns-in-Null
returns-in-Null c types same =
    rw c.in-Null.is (grows_as _ _ _ _ _ (null_set c.args.k.now types c.in-Null.into c.in-Null.ty)
    (rw (c.kind_of.ensures, c.node_of.ensures, c.column-in-Null.ensures.value) at c.put_noughts.ensures))

pub returns-in-Function : goal.returns-in-Function
returns-in-Function c types same =
    rw c.in-Function.is (grows_as _ _ _ _ _ (function_set c.args.k.now types c.in-Function.into c.in-Function.function c.in-Function.ty)
    (rw (c.kind_of-in-Function.ensures, c.node_of-in-Function.ensures, c.column-in-Function.ensures.value) at c.put_function.ensures))

pub returns-in-Object : goal.returns-in-Object
returns-in-Object c types same =
    rw c.in-Object.is (grows_as _ _ _ _ _ (object_set c.args.k.now types c.in-Object.into c.in-Object.object c.in-Object.home c.in-Object.ty)
    (rw (c.kind_of-in-Object.ensures, c.column-in-Object.ensures.value) at c.put_object.ensures))

pub returns-in-Copy : goal.returns-in-Copy
returns-in-Copy c types same =
    rw c.in-Copy.is (grows_as _ _ _ _ _ (λ code. copy_set c.args.k.now types c.in-Copy.into c.in-Copy.source _ code (rw c.in-Copy.is at same))
    (rw (c.column-in-Copy.ensures.value, c.column-in-Copy-2.ensures.value) at c.put_held.ensures))
