use Rattle.std.proofs.Common.{◌+◌, [], ◌∷◌, length, get_or, take, map, ap, sym, subst, ◌∙◌, arith}
use Rattle.std.proofs.lemmas.List.{map-append, length_push, take_all}
use Rattle.c_types.specs.Table.{members_at}
use Rattle.phys_types.specs.Lending.{lent_layout}
use Rattle.phys_types.specs.Shown.{AreLayoutsOf}
use Rattle.phys_types.proofs.Parts.{parts_of_union, member_kept, member_shown}
use Rattle.phys_types.proofs.Unions.{layouts_more}
use Rattle.phys_types.proofs.building.member_layouts.Goals as goal

pub lend_type-requires-clause-kept : goal.lend_type-requires-clause-kept
lend_type-requires-clause-kept c =
    member_kept c.args.types.now c.args.t (parts_of_union c.args.types.now c.args.t c.requires.aggregate) c.args.places.now c.args.built.now
    c.members.i c.field-field.result.ty (omega arith) c.field-field.ensures.ty c.requires.kept

pub members-preserved : goal.members-preserved
members-preserved c = (
  λ E h.
      let table = c.args.types.now in
      let m = get_or (members_at table c.args.t) c.members.i c.args.t in
      subst (AreLayoutsOf table E (take (c.members.i + 1) (members_at table c.args.t)))
      (sym (ap (map lent_layout) c.in_ok-push.ensures.items ∙ map-append lent_layout c.members.parts.items (c.in_ok-part.part ∷ [])))
      (layouts_more table E (members_at table c.args.t) (map lent_layout c.members.parts.items) c.members.i c.args.t (lent_layout c.in_ok-part.part) (omega arith)
      (c.members.invariant.0 E h)
      (c.in_ok-part.ensures table E m
      (member_shown table c.args.t (parts_of_union table c.args.t c.requires.aggregate) c.args.places.now c.args.built.now E
      c.members.i c.field-field.result.ty (omega arith) c.field-field.ensures.ty h))),
  let e = ap length c.in_ok-push.ensures.items ∙ length_push c.members.parts.items c.in_ok-part.part in let k = c.members.invariant.1 in omega arith,
)

pub returns-clause-shown : goal.returns-clause-shown
returns-clause-shown c = λ E h.
    subst (λ ms. AreLayoutsOf c.args.types.now E ms (map lent_layout c.members.parts.items))
    (take_all c.members.i (members_at c.args.types.now c.args.t) (omega arith)) (c.members.invariant.0 E h)
