use Rattle.std.proofs.Common.{arith}
use Rattle.flat_mem.proofs.AreaCode.{no_area, step, all_done, areas_made-next, areas_made-done}
use Rattle.flat_mem.proofs.areas.make_each.Goals as goal

pub make_area-requires-clause-room : goal.make_area-requires-clause-room
make_area-requires-clause-room c = let s = step _ _ no_area _ _ c.loop-area.invariant.place c.loop-area-test.true in let b = s.before in omega (arith, b, c.requires.room, c.loop-area.auto.bytes)

pub size_of-at-requires : goal.size_of-at-requires
size_of-at-requires c = let s = step _ _ no_area _ _ c.loop-area.invariant.place c.loop-area-test.true in let b = s.bytes in omega (arith, b, c.requires.room, c.requires.small)

pub overflow_add-at : goal.overflow_add-at
overflow_add-at c = let s = step _ _ no_area _ _ c.loop-area.invariant.place c.loop-area-test.true in let b = s.before in omega (arith, b, c.requires.room, c.requires.small, c.size_of-at.ensures)

pub loop-area-preserved : goal.loop-area-preserved
loop-area-preserved c =
    let s = step _ _ no_area _ _ c.loop-area.invariant.place c.loop-area-test.true in let n = s.next in
    record {
      made = areas_made-next _ _ _ _ _ _ _ _ _ c.loop-area.invariant.made c.loop-area-test.true c.make_area.ensures c.size_of-at.ensures;
      place = omega (arith, n, c.size_of-at.ensures);
    }

pub returns-clause-made : goal.returns-clause-made
returns-clause-made c = areas_made-done _ _ _ _ _ _ c.loop-area.invariant.made c.loop-area-test.false

pub returns-clause-end : goal.returns-clause-end
returns-clause-end c = all_done _ _ _ _ c.loop-area.invariant.place c.loop-area-test.false
