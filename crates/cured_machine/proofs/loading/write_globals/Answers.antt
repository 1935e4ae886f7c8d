use Rattle.std.proofs.Common.{◌≡◌, ◌+◌, ◌≤◌, length, ◌∙◌, arith}
use Rattle.flat_mem.specs.Placement.{area_size, areas_size}
use Rattle.flat_mem.proofs.AreaLaws.{area_size-least}
use Rattle.cured_code.specs.FlatMachine.{area_of, global_areas}
use Rattle.cured_machine.proofs.LoadLaws.{item-room, first-room, item-next, globals-done}
use Rattle.cured_machine.proofs.loading.write_globals.Goals as goal

pub write_bytes-requires-clause-room : goal.write_bytes-requires-clause-room
write_bytes-requires-clause-room c =
    let item = c.global-item.result in
    let room : c.loop-global.at + area_size (area_of item.area) ≤ c.args.start + areas_size (global_areas c.args.globals.now) =
    item-room _ _ _ _ _ _ item c.loop-global-test.true c.global-item.is c.loop-global.invariant.1.1 in
    let size : length c.loop-global.flat.bytes ≡ length c.args.flat.now.bytes = c.loop-global.invariant.1.0 in
    rw (c.deref.ensures.value, c.first.view_is)
    (first-room item c.loop-global.at (length c.loop-global.flat.bytes)
    (rw c.global-item.is (c.requires.within c.loop-global.global-index item c.loop-global-test.true)) (omega (arith, room, size, c.requires.room)))

pub size_of-at-requires : goal.size_of-at-requires
size_of-at-requires c =
    let item = c.global-item.result in
    let room : c.loop-global.at + area_size (area_of item.area) ≤ c.args.start + areas_size (global_areas c.args.globals.now) =
    item-room _ _ _ _ _ _ item c.loop-global-test.true c.global-item.is c.loop-global.invariant.1.1 in
    let least = area_size-least (area_of item.area) in
    rw c.area_of.ensures (omega (arith, room, least, c.requires.room, c.requires.small))

pub overflow_add-at-in-loop-global : goal.overflow_add-at-in-loop-global
overflow_add-at-in-loop-global c =
    let item = c.global-item.result in
    let room : c.loop-global.at + area_size (area_of item.area) ≤ c.args.start + areas_size (global_areas c.args.globals.now) =
    item-room _ _ _ _ _ _ item c.loop-global-test.true c.global-item.is c.loop-global.invariant.1.1 in
    rw (c.size_of-at.ensures, c.area_of.ensures) (omega (arith, room, c.requires.room, c.requires.small))

pub loop-global-preserved : goal.loop-global-preserved
loop-global-preserved c =
    item-next _ c.loop-global.flat _ _ _ _ _ _ c.global-item.result c.deref.result.now c.area_of.result c.loop-global-test.true c.global-item.is
    (c.deref.ensures.value ∙ c.first.view_is) c.area_of.ensures c.size_of-at.ensures c.write_bytes.ensures c.loop-global.invariant

pub returns : goal.returns
returns c = globals-done _ _ _ _ _ _ c.loop-global-test.false c.loop-global.invariant
