use Rattle.std.proofs.Common.{arith}
use Rattle.flat_mem.specs.Memory.{in_flat}
use Rattle.flat_mem.specs.Placement.{tag_byte}
use Rattle.wild_tags.proofs.WordLaws.{all-at}
use Rattle.wild_tags.proofs.InsideCode.{below-start, below-next, below-found, below-done}
use Rattle.wild_tags.proofs.area.TaggedArea.tagged_below.Goals as goal

pub loop-i-init : goal.loop-i-init
loop-i-init c = record {
  below = below-start _ _ _ _ _ _ c.max.ensures c.min-start.ensures;
  low = omega (arith, c.max.ensures, c.min-start.ensures, c.requires.order);
  high = omega (arith, c.max.ensures, c.min-start.ensures, c.requires.order);
  past = omega (arith, c.max.ensures, c.min-start.ensures, c.requires.order);
}

pub is_tagged-requires-clause-inside : goal.is_tagged-requires-clause-inside
is_tagged-requires-clause-inside c =
    all-at (λ j. in_flat c.args.flat.now.bytes (tag_byte c.args.self.at c.args.self.length j) 1) _ _ _ c.requires.tags c.loop-i.invariant.low (omega (arith, c.loop-i-test.true, c.requires.order))

pub returns-then-is_tagged : goal.returns-then-is_tagged
returns-then-is_tagged c = below-found _ _ _ _ _ _ _ _ c.loop-i.invariant.past c.is_tagged.ensures c.if-is_tagged.true c.loop-i.invariant.low c.loop-i-test.true

pub loop-i-preserved : goal.loop-i-preserved
loop-i-preserved c = record {
  below = below-next _ _ _ _ _ _ _ c.loop-i.invariant.below c.is_tagged.ensures c.if-is_tagged.false c.loop-i.invariant.low;
  low = omega (arith, c.loop-i.invariant.low);
  high = omega (arith, c.loop-i-test.true);
  past = omega (arith, c.loop-i.invariant.past);
}

pub returns : goal.returns
returns c = below-done _ _ _ _ _ c.loop-i.invariant.below c.loop-i.invariant.high c.loop-i-test.false
