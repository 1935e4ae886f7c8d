use Rattle.std.proofs.Common.{arith, false, refl}
use Rattle.flat_mem.proofs.TagCode.{write-next, write-done}
use Rattle.flat_mem.proofs.tags.write_tags.Goals as goal

pub loop-tag-preserved : goal.loop-tag-preserved
loop-tag-preserved c = record {
  written = write-next _ _ false _ _ _ _ _ _ c.loop-tag.invariant.written c.loop-tag-test.true c.write_tag.ensures refl;
  place = omega (arith, c.loop-tag.invariant.place);
}

pub returns : goal.returns
returns c = write-done _ _ _ _ _ _ c.loop-tag.invariant.written c.loop-tag-test.false
