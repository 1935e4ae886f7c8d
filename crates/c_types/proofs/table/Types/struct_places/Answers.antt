use Rattle.std.proofs.Common.{arith}
use Rattle.c_types.specs.declared.shape.TypeShape.TheVariants.{Struct}
use Rattle.c_types.specs.Layouts.{layout_of}
use Rattle.c_types.proofs.Ends.{end_of_part}
use Rattle.c_types.proofs.Laying.{places_more, end_more, struct_offset, rounded_near, fits_of}
use Rattle.c_types.proofs.table.Types.struct_places.Goals as goal

pub round_up-offset-requires-clause-small : goal.round_up-offset-requires-clause-small
round_up-offset-requires-clause-small c =
    let b = end_of_part (layout_of c.args.self.now) c.args.members.now c.members.m-index in let e = c.members.invariant.1 in let s = c.requires.small in omega arith

pub overflow_add-end : goal.overflow_add-end
overflow_add-end c =
    let s = fits_of c.args.self.now _ c.layout-member.result c.layout-member.ensures.layout (c.layout-member.ensures.sized (c.requires.complete c.members.m-index (record { 0 = 0 }) c.members-test.true)) in
    let n = rounded_near c.members.end c.layout-member.result.align s.2 in
    let b = end_of_part (layout_of c.args.self.now) c.args.members.now c.members.m-index in let e = c.members.invariant.1 in let k = c.requires.small in
    let r = c.round_up-offset.ensures in omega arith

pub members-preserved : goal.members-preserved
members-preserved c = (
  rw c.in_ok-push.ensures.items
      (places_more (layout_of c.args.self.now) c.args.members.now (Struct 0) c.members.m-index c.round_up-offset.result c.members.fields.items (record { 0 = 0 })
      c.members.invariant.0 c.members-test.true
      (struct_offset (layout_of c.args.self.now) c.args.members.now c.members.m-index c.members.end c.round_up-offset.result 0 (record { 0 = 0 }) c.layout-member.result
      c.members.invariant.1 c.members-test.true c.layout-member.ensures.layout c.round_up-offset.ensures)),
  rw c.round_up-offset.ensures
      (end_more (layout_of c.args.self.now) c.args.members.now c.members.m-index c.members.end (record { 0 = 0 }) c.layout-member.result
      c.members.invariant.1 c.members-test.true c.layout-member.ensures.layout),
)
