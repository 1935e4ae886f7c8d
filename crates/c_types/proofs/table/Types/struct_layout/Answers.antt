use Rattle.std.proofs.Common.{◌≡◌, ◌+◌, ◌≤◌, arith, max}
use Rattle.std.proofs.lemmas.Bool.Decides.{nat_tests}
use Rattle.c_types.specs.Layouts.{layout_of, rounded}
use Rattle.c_types.proofs.Ends.{end_of_struct}
use Rattle.c_types.proofs.Laying.{laid_start, laid_more, laid_all, end_more, rounded_near, fits_of}
use Rattle.c_types.proofs.table.Types.struct_layout.Goals as goal

pub members-init : goal.members-init
members-init c = laid_start (layout_of c.args.self.now) c.args.members.now

pub round_up-requires-clause-small : goal.round_up-requires-clause-small
round_up-requires-clause-small c = c.members.invariant.small

pub overflow_add-end : goal.overflow_add-end
overflow_add-end c =
    let s = fits_of c.args.self.now _ c.layout-member.result c.layout-member.ensures.layout (c.layout-member.ensures.sized (c.requires c.members.m-index (record { 0 = 0 }) c.members-test.true)) in
    let n = rounded_near c.members.end c.layout-member.result.align s.2 in
    let e = c.round_up.ensures in let b = c.members.invariant.small in omega arith

pub returns-then-end-gt-MOST_BYTES : goal.returns-then-end-gt-MOST_BYTES
returns-then-end-gt-MOST_BYTES c h =
    let e = end_more (layout_of c.args.self.now) c.args.members.now c.members.m-index c.members.end (record { 0 = 0 }) c.layout-member.result
    c.members.invariant.end_is c.members-test.true c.layout-member.ensures.layout in
    let b = end_of_struct (layout_of c.args.self.now) c.args.members.now (c.members.m-index + 1) in
    let r = c.round_up.ensures in let t = c.if-end-gt-MOST_BYTES.true in omega arith

pub members-preserved : goal.members-preserved
members-preserved c =
    let s = fits_of c.args.self.now _ c.layout-member.result c.layout-member.ensures.layout (c.layout-member.ensures.sized (c.requires c.members.m-index (record { 0 = 0 }) c.members-test.true)) in
    let r = c.round_up.ensures in let t = c.if-end-gt-MOST_BYTES.false in
    let small : rounded c.members.end c.layout-member.result.align + c.layout-member.result.size ≤ 1048576 = omega arith in
    let m : c.max-align.result ≡ max c.members.align c.layout-member.result.align = grind (arith, nat_tests) in
    rw (c.round_up.ensures, m)
    (laid_more (layout_of c.args.self.now) c.args.members.now c.members.m-index c.members.end c.members.align (record { 0 = 0 }) c.layout-member.result
    c.members.invariant c.members-test.true c.layout-member.ensures.layout s.3 small)

pub round_up-requires-2-clause-small : goal.round_up-requires-2-clause-small
round_up-requires-2-clause-small c = c.members.invariant.small

pub round_up-requires-2-clause-positive : goal.round_up-requires-2-clause-positive
round_up-requires-2-clause-positive c = c.members.invariant.low

pub round_up-requires-2-clause-aligned : goal.round_up-requires-2-clause-aligned
round_up-requires-2-clause-aligned c = c.members.invariant.high

pub returns : goal.returns
returns c =
    laid_all (layout_of c.args.self.now) c.args.members.now c.members.m-index c.members.end c.members.align c.round_up-2.result c.bounded.result
    c.members.invariant c.members-test.false c.round_up-2.ensures c.bounded.ensures
