use Rattle.c_types.specs.Table.{shape_at}
use Rattle.c_types.specs.Flows.{flow_class}
use Rattle.cure_instrs.specs.Cured.{kind_in}
use Rattle.cure_scope.specs.Scopes.{fixed_column, whole_of, world_of}
use Rattle.cure_blocks.specs.Rows.{pointee_at, PointerConverted}
use Rattle.check_insert.proofs.Laws.{grows_as}
use Rattle.cure_blocks.proofs.ConvertLaws.{integer_converted, number_converted, address_converted, pointer_converted, grows_told}
use Rattle.cure_blocks.proofs.converting.put_convert.Goals as goal

pub returns-in-Integer : goal.returns-in-Integer
returns-in-Integer c types =
    rw c.in-Integer.is (grows_as _ _ _ _ _ (integer_converted c.args.k.now types c.in-Integer.into c.in-Integer.from c.in-Integer.ty)
    (rw (c.column.ensures.value, c.column-in-Integer.ensures.value) at c.put_narrowed.ensures))

pub returns-in-ToPointer : goal.returns-in-ToPointer
returns-in-ToPointer c types =
    rw c.in-ToPointer.is (grows_as _ _ _ _ _
    (number_converted c.args.k.now types c.in-ToPointer.into c.in-ToPointer.from c.in-ToPointer.ty c.in-ToPointer.place)
    (rw (c.kind_in.ensures, c.column-in-ToPointer.ensures.value, c.column-in-ToPointer-2.ensures.value) at c.put_number.ensures))

pub returns-in-FromPointer : goal.returns-in-FromPointer
returns-in-FromPointer c types =
    rw c.in-FromPointer.is (grows_as _ _ _ _ _
    (address_converted c.args.k.now types c.in-FromPointer.into c.in-FromPointer.from c.in-FromPointer.from_ty c.in-FromPointer.ty)
    (rw (c.column-in-FromPointer.ensures.value, c.column-in-FromPointer-2.ensures.value) at c.put_narrowed-in-FromPointer.ensures))

pub returns-in-Pointer : goal.returns-in-Pointer
returns-in-Pointer c types =
    let w = whole_of c.args.k.now in
    let table = c.args.k.now.layouts.now.table in
    let i = c.in-Pointer in
    let told = rw (c.requires, c.pointee_of-source.ensures, c.pointee_of-target.ensures) at c.class_of-class.ensures in
    let words = rw (
      c.kind_in-in-Pointer.ensures,
      c.kind_in-in-Pointer-2.ensures,
      c.pointee_of-source.ensures,
      c.pointee_of-target.ensures,
      c.column-in-Pointer.ensures.value,
      c.column-in-Pointer-2.ensures.value,
    ) at c.put_converted.ensures in
    rw c.in-Pointer.is (grows_as _ _ _ _ _ (pointer_converted c.args.k.now types i.into i.from i.from_ty i.ty i.place)
    (grows_told c.class_of-class.result (flow_class table (pointee_at (shape_at table i.from_ty)) (pointee_at (shape_at table i.ty)))
    (λ x. PointerConverted (kind_in w i.from_ty) (kind_in w i.ty) (world_of c.args.k.now) x (pointee_at (shape_at table i.from_ty))
    (pointee_at (shape_at table i.ty)) (fixed_column i.into) (fixed_column i.from) i.place)
    _ _ _ _ _ told words))
