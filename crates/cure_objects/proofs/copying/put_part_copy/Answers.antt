use Rattle.std.proofs.Common.{sym, subst}
use Rattle.phys_types.specs.declared.spot.Layout.{Layout}
use Rattle.check_insert.proofs.Laws.{grows_as, grows_failed, grows_skipped, grows_then}
use Rattle.cure_scope.specs.Scopes.{whole_of}
use Rattle.cure_instrs.proofs.PieceLaws.{grows_of}
use Rattle.cure_objects.specs.Starts.{TellsPointers}
use Rattle.cure_objects.proofs.CopyLaws.{part_copied, part_copy_ready, no_part_type, no_part}
use Rattle.cure_objects.proofs.copying.put_part_copy.Goals as goal

pub returns-in-Some : goal.returns-in-Some
returns-in-Some c types =
    let k = c.args.k.now in
    let to = c.args.to in
    let from = c.args.from in
    let at = c.args.at in
    let far = rw (c.in-Some.is, c.kind_of-kind.ensures) at c.part_offset.ensures.there in
    let complete = rw c.in-Some.is at c.part_offset.ensures.complete in
    let there = rw (c.in-Ok-Some.is, c.in-Ok-Some.field-0-is, c.requires) at c.layout_in.ensures.there in
    let told = subst (λ (x : Layout). TellsPointers k.layouts.now.table from.ty x) (sym c.layout.ensures) there in
    let set = rw c.kind_of-kind.ensures at c.put_part.ensures in
    let lines = rw (c.kind_of.ensures, c.kind_of-kind.ensures, c.pointer_slots.ensures, c.column.ensures.value) at c.put_struct.ensures in
    grows_of _ _ _ _ _ (part_copy_ready (whole_of k) to.home to.ty to.offset from.node from.ty _ told)
    (grows_as _ _ _ _ _ (λ code. part_copied k types to.object to.home to.ty to.offset from.pointer from.node from.ty at.to at.from at.assignment
    _ _ code told far complete) (grows_then _ _ _ _ _ _ _ set lines))

pub returns-in-Ok-Some : goal.returns-in-Ok-Some
returns-in-Ok-Some c types =
    grows_failed _ _ _ _ (no_part (whole_of c.args.k.now) c.args.to.home c.args.to.ty c.args.to.offset c.args.from.node c.args.from.ty
    (rw c.in-None.is at c.part_offset.ensures.none)) c.refuse.ensures

pub returns-in-Ok-None : goal.returns-in-Ok-None
returns-in-Ok-None c types =
    grows_failed _ _ _ _ (no_part_type (whole_of c.args.k.now) c.args.to.home c.args.to.ty c.args.to.offset c.args.from.node c.args.from.ty
    (rw (c.in-Ok-None.is, c.in-Ok-None.field-0-is, c.requires) at c.layout_in.ensures.none)) c.refuse-in-Ok-None.ensures

pub put_struct-requires : goal.put_struct-requires
put_struct-requires c =
    let there = rw (c.in-Ok-Some.is, c.in-Ok-Some.field-0-is, c.requires) at c.layout_in.ensures.there in
    (subst (λ (x : Layout). TellsPointers c.args.k.now.layouts.now.table c.args.from.ty x) (sym c.layout.ensures) there).spots

-- memory was wanted
pub returns : goal.returns
returns c types = grows_skipped _ _ _ _ c.fail.ensures.ready c.fail.ensures.failed
