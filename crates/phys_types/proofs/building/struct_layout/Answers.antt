use Rattle.std.proofs.Common.{List, ◌++◌, get_or, map, ap, sym, subst, ◌∙◌, arith}
use Rattle.c_types.specs.Table.{members_at, shape_at}
use Rattle.phys_types.specs.declared.spot.Spot.{Spot}
use Rattle.phys_types.specs.Lending.{lent_layout}
use Rattle.phys_types.specs.Spots.{shifted}
use Rattle.phys_types.specs.Numbers.{AreLow}
use Rattle.phys_types.specs.Shown.{IsLayoutOf}
use Rattle.phys_types.proofs.Structs.{struct_tag, struct_more, struct_done, offset_is}
use Rattle.phys_types.proofs.Parts.{parts_of_struct, layout_low, member_kept, member_shown, offset_small}
use Rattle.phys_types.proofs.building.struct_layout.Goals as goal

pub lend_type-requires-clause-kept : goal.lend_type-requires-clause-kept
lend_type-requires-clause-kept c =
    member_kept c.args.types.now c.args.t (parts_of_struct c.args.types.now c.args.t c.requires.aggregate) c.args.places.now c.args.built.now
    c.members.i c.field-field.result.ty (omega arith) c.field-field.ensures.ty c.requires.kept

pub push_shifted-requires-clause-low : goal.push_shifted-requires-clause-low
push_shifted-requires-clause-low c =
    let table = c.args.types.now in
    let E = c.requires.shown.0 in
    let m = get_or (members_at table c.args.t) c.members.i c.args.t in
    let h : IsLayoutOf table E m (lent_layout c.in_ok-part.part) =
    c.in_ok-part.ensures table E m
    (member_shown table c.args.t (parts_of_struct table c.args.t c.requires.aggregate) c.args.places.now c.args.built.now E
    c.members.i c.field-field.result.ty (omega arith) c.field-field.ensures.ty c.requires.shown.1) in
    subst AreLow (sym c.deref.ensures.value)
    (layout_low table c.requires.formed E m c.layout-layout.result.now (subst (IsLayoutOf table E m) (sym c.layout-layout.ensures) h)).0

pub push_shifted-requires-clause-small : goal.push_shifted-requires-clause-small
push_shifted-requires-clause-small c =
    let o = offset_small c.args.types.now c.requires.formed c.args.t c.members.i c.requires.aggregate c.requires.complete (omega arith) in
    let e = c.field-field.ensures.offset in omega arith

pub members-preserved : goal.members-preserved
members-preserved c = λ E h.
    let table = c.args.types.now in
    let tag = struct_tag (shape_at table c.args.t) c.requires.aggregate in
    let m = get_or (members_at table c.args.t) c.members.i c.args.t in
    struct_more table c.requires.formed E (members_at table c.args.t) c.members.i c.field-field.result.offset c.members.spots.items
    c.push_shifted.new.spots.items c.members.holds c.args.t c.layout-layout.result.now (omega arith)
    (c.field-field.ensures.offset ∙ offset_is table c.requires.formed E c.args.t tag.0 c.members.i tag.1)
    (subst (IsLayoutOf table E m) (sym c.layout-layout.ensures)
    (c.in_ok-part.ensures table E m
    (member_shown table c.args.t (parts_of_struct table c.args.t c.requires.aggregate) c.args.places.now c.args.built.now E
    c.members.i c.field-field.result.ty (omega arith) c.field-field.ensures.ty h)))
    (c.in_ok-push_shifted.ensures ∙ ap (λ (xs : List Spot). c.members.spots.items ++ map (shifted c.field-field.result.offset) xs) c.deref.ensures.value)
    (c.members.invariant E h)

pub returns : goal.returns
returns c = λ E h.
    let tag = struct_tag (shape_at c.args.types.now c.args.t) c.requires.aggregate in
    struct_done c.args.types.now c.requires.formed E c.args.t tag.0 c.members.i
    (record { size = c.size_of.result; spots = c.members.spots; holds = c.members.holds }) tag.1 c.requires.complete (omega arith)
    (c.members.invariant E h) c.size_of.ensures
