use Rattle.std.proofs.Common.{arith}
use Rattle.flat_mem.proofs.AreaCode.{no_area, step, all_done}
use Rattle.flat_mem.proofs.areas.sizes_of.Goals as goal

pub size_of-size-requires : goal.size_of-size-requires
size_of-size-requires c = let s = step _ _ no_area _ _ c.loop-area.invariant c.loop-area-test.true in let b = s.bytes in omega (arith, b, c.requires)

pub overflow_add-size : goal.overflow_add-size
overflow_add-size c = let s = step _ _ no_area _ _ c.loop-area.invariant c.loop-area-test.true in let b = s.before in omega (arith, b, c.requires, c.size_of-size.ensures)

pub loop-area-preserved : goal.loop-area-preserved
loop-area-preserved c = let s = step _ _ no_area _ _ c.loop-area.invariant c.loop-area-test.true in let n = s.next in omega (arith, n, c.size_of-size.ensures)

pub returns : goal.returns
returns c = all_done _ _ _ _ c.loop-area.invariant c.loop-area-test.false
