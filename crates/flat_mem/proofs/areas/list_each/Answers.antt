use Rattle.std.proofs.Common.{arith, ◌∙◌}
use Rattle.flat_mem.proofs.AreaCode.{no_area, step, addresses-next, addresses-done}
use Rattle.flat_mem.proofs.areas.list_each.Goals as goal

pub size_of-at-requires : goal.size_of-at-requires
size_of-at-requires c = let s = step _ _ no_area _ _ c.loop-area.invariant.place c.loop-area-test.true in let b = s.bytes in omega (arith, b, c.requires.small)

pub overflow_add-at-in-loop-area : goal.overflow_add-at-in-loop-area
overflow_add-at-in-loop-area c = let s = step _ _ no_area _ _ c.loop-area.invariant.place c.loop-area-test.true in let b = s.before in omega (arith, b, c.requires.small, c.size_of-at.ensures)

pub loop-area-preserved : goal.loop-area-preserved
loop-area-preserved c =
    let s = step _ _ no_area _ _ c.loop-area.invariant.place c.loop-area-test.true in let n = s.next in
    record {
      listed = addresses-next _ _ _ _ _ _ _ _ _ c.loop-area.invariant.listed c.loop-area-test.true c.push_reserved.ensures.items c.size_of-at.ensures;
      place = omega (arith, n, c.size_of-at.ensures);
      count = omega (arith, c.loop-area.invariant.count, c.push_reserved.ensures.len);
      capacity = c.push_reserved.ensures.capacity ∙ c.loop-area.invariant.capacity;
    }

pub returns-clause-added : goal.returns-clause-added
returns-clause-added c = addresses-done _ _ _ _ _ _ c.loop-area.invariant.listed c.loop-area-test.false
