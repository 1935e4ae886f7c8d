use Rattle.std.proofs.Common.{sym, subst}
use Rattle.phys_types.specs.declared.spot.Layout.{Layout}
use Rattle.check_insert.proofs.Laws.{grows_as, grows_failed, grows_skipped}
use Rattle.cure_scope.specs.Scopes.{whole_of}
use Rattle.cure_instrs.proofs.PieceLaws.{grows_of}
use Rattle.cure_objects.specs.Starts.{TellsPointers}
use Rattle.cure_objects.proofs.CopyLaws.{pointer_copied, copy_ready, no_type}
use Rattle.cure_objects.proofs.copying.put_pointer_copy.Goals as goal

pub returns-in-Ok-Some : goal.returns-in-Ok-Some
returns-in-Ok-Some c types =
    let k = c.args.k.now in
    let to = c.args.to in
    let from = c.args.from in
    let at = c.args.at in
    let there = rw (c.in-Ok-Some.is, c.in-Ok-Some.field-0-is, c.requires) at c.layout_in.ensures.there in
    let told = subst (λ (x : Layout). TellsPointers k.layouts.now.table from.ty x) (sym c.layout.ensures) there in
    let lines = rw (
      c.kind_of.ensures,
      c.kind_of-in-Ok-Some.ensures,
      c.pointer_slots-in-Ok-Some.ensures,
      c.pointer_slots.ensures,
      c.column.ensures.value,
      c.column-in-Ok-Some.ensures.value,
    ) at c.put_struct.ensures in
    grows_of _ _ _ _ _ (copy_ready (whole_of k) to.1 from.node from.ty _ told)
    (grows_as _ _ _ _ _ (λ code. pointer_copied k types to.0 to.1 from.pointer from.node from.ty at.to at.from at.assignment _ code told) lines)

pub returns-in-Ok-None : goal.returns-in-Ok-None
returns-in-Ok-None c types =
    grows_failed _ _ _ _ (no_type (whole_of c.args.k.now) c.args.to.1 c.args.from.node c.args.from.ty
    (rw (c.in-Ok-None.is, c.in-Ok-None.field-0-is, c.requires) at c.layout_in.ensures.none)) c.refuse.ensures

pub put_struct-requires : goal.put_struct-requires
put_struct-requires c =
    let there = rw (c.in-Ok-Some.is, c.in-Ok-Some.field-0-is, c.requires) at c.layout_in.ensures.there in
    (subst (λ (x : Layout). TellsPointers c.args.k.now.layouts.now.table c.args.from.ty x) (sym c.layout.ensures) there).spots

-- memory was wanted
pub returns-in-Err : goal.returns-in-Err
returns-in-Err c types = grows_skipped _ _ _ _ c.fail.ensures.ready c.fail.ensures.failed
