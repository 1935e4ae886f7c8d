use Rattle.std.proofs.Common.{arith}
use Rattle.cc_base.specs.Kinds.{kind_at}
use Rattle.fat_layouts.proofs.LayoutLaws.{the_layout, kept_formed}
use Rattle.fat_layouts.proofs.CopyLaws.{part_some, part_end, rest_within, copies_small, copies_is}
use Rattle.fat_layouts.proofs.layouts.Layouts.cured_offset.Goals as goal

pub nonzero_div-copies : goal.nonzero_div-copies
nonzero_div-copies c =
    let h = the_layout _ c.args.self.now c.self.inside.layouts.items c.self.view_is c.self.invariant c.args.t _ c.requires.complete c.index-part.result.now c.index-part.ensures in
    let w = kept_formed _ c.args.self.now c.self.inside.layouts.items c.self.view_is c.self.invariant in
    part_some c.args.self.now.table w c.args.self.now.kinds c.args.t c.index-part.result.now h c.requires.complete

pub cured_in-whole-requires-clause-part : goal.cured_in-whole-requires-clause-part
cured_in-whole-requires-clause-part c =
    let h = the_layout _ c.args.self.now c.self.inside.layouts.items c.self.view_is c.self.invariant c.args.t _ c.requires.complete c.index-part.result.now c.index-part.ensures in
    (kind_at c.args.self.now.kinds, h.spots, h.part)

pub nonzero_rem-offset : goal.nonzero_rem-offset
nonzero_rem-offset c =
    let h = the_layout _ c.args.self.now c.self.inside.layouts.items c.self.view_is c.self.invariant c.args.t _ c.requires.complete c.index-part.result.now c.index-part.ensures in
    let w = kept_formed _ c.args.self.now c.self.inside.layouts.items c.self.view_is c.self.invariant in
    part_some c.args.self.now.table w c.args.self.now.kinds c.args.t c.index-part.result.now h c.requires.complete

pub cured_in-rest-requires-clause-part : goal.cured_in-rest-requires-clause-part
cured_in-rest-requires-clause-part c =
    let h = the_layout _ c.args.self.now c.self.inside.layouts.items c.self.view_is c.self.invariant c.args.t _ c.requires.complete c.index-part.result.now c.index-part.ensures in
    (kind_at c.args.self.now.kinds, h.spots, h.part)

pub cured_in-rest-requires-clause-within : goal.cured_in-rest-requires-clause-within
cured_in-rest-requires-clause-within c =
    let h = the_layout _ c.args.self.now c.self.inside.layouts.items c.self.view_is c.self.invariant c.args.t _ c.requires.complete c.index-part.result.now c.index-part.ensures in
    let w = kept_formed _ c.args.self.now c.self.inside.layouts.items c.self.view_is c.self.invariant in
    rest_within c.args.self.now.table w c.args.self.now.kinds c.args.t c.index-part.result.now h c.requires.complete c.args.offset

pub overflow_mul-result : goal.overflow_mul-result
overflow_mul-result c =
    let h = the_layout _ c.args.self.now c.self.inside.layouts.items c.self.view_is c.self.invariant c.args.t _ c.requires.complete c.index-part.result.now c.index-part.ensures in
    let w = kept_formed _ c.args.self.now c.self.inside.layouts.items c.self.view_is c.self.invariant in
    let l = copies_small c.args.self.now.table w c.args.self.now.kinds c.args.t c.index-part.result.now h c.requires.complete c.args.offset c.cured_in-whole.result c.cured_in-rest.result
    c.requires.within c.cured_in-whole.ensures.small c.cured_in-rest.ensures.small in omega arith

pub overflow_add-result : goal.overflow_add-result
overflow_add-result c =
    let h = the_layout _ c.args.self.now c.self.inside.layouts.items c.self.view_is c.self.invariant c.args.t _ c.requires.complete c.index-part.result.now c.index-part.ensures in
    let w = kept_formed _ c.args.self.now c.self.inside.layouts.items c.self.view_is c.self.invariant in
    let l = copies_small c.args.self.now.table w c.args.self.now.kinds c.args.t c.index-part.result.now h c.requires.complete c.args.offset c.cured_in-whole.result c.cured_in-rest.result
    c.requires.within c.cured_in-whole.ensures.small c.cured_in-rest.ensures.small in omega arith

pub returns : goal.returns
returns c =
    let h = the_layout _ c.args.self.now c.self.inside.layouts.items c.self.view_is c.self.invariant c.args.t _ c.requires.complete c.index-part.result.now c.index-part.ensures in
    let w = kept_formed _ c.args.self.now c.self.inside.layouts.items c.self.view_is c.self.invariant in
    λ between. copies_is c.args.self.now.table w c.args.self.now.kinds c.args.t c.index-part.result.now h c.requires.complete c.args.offset c.cured_in-whole.result c.cured_in-rest.result
    c.requires.within c.cured_in-whole.ensures.small c.cured_in-rest.ensures.small between
    (c.cured_in-whole.ensures.before (kind_at c.args.self.now.kinds) h.spots h.part
    (part_end c.args.self.now.table w c.args.self.now.kinds c.args.t c.index-part.result.now h c.requires.complete))
    (c.cured_in-rest.ensures.before (kind_at c.args.self.now.kinds) h.spots h.part)
