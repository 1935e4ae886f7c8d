use Rattle.std.proofs.Common.{◌≤◌, ◌∙◌, sym, subst, arith}
use Rattle.cured_code.specs.declared.parts.GlobalLine.{GlobalLine}
use Rattle.cure_tables.proofs.Statics.{rest_next, area_room}
use Rattle.cure_tables.proofs.globals.addresses.Goals as goal

pub overflow_add-start-in-globals : goal.overflow_add-start-in-globals
overflow_add-start-in-globals c =
    let small = subst (λ (g : GlobalLine). g.area.bytes ≤ 3145728) (sym c.global-item.is) (c.requires.small c.globals.global-index c.global-item.result c.globals-test.true) in
    let room = area_room c.global-item.result small in
    let size = c.size_of-start.ensures in
    let low = c.globals.invariant.low in
    let few = c.requires.few in
    let there = c.globals-test.true in omega arith

pub globals-preserved : goal.globals-preserved
globals-preserved c =
    let small = subst (λ (g : GlobalLine). g.area.bytes ≤ 3145728) (sym c.global-item.is) (c.requires.small c.globals.global-index c.global-item.result c.globals-test.true) in
    let room = area_room c.global-item.result small in
    let size = c.size_of-start.ensures in
    let low = c.globals.invariant.low in
    record {
      rest = rest_next c.args.globals.now c.globals.global-index c.globals.start c.globals.all.items c.push.new.self.items c.global-item.result _ c.globals-test.true (sym c.global-item.is)
          c.in_ok-push.ensures.items (omega arith) ∙ c.globals.invariant.rest;
      low = omega arith;
    }
