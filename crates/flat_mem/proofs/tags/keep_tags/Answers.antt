use Rattle.std.proofs.Common.{◌∙◌, arith}
use Rattle.flat_mem.proofs.TagCode.{keep-none, keep-next}
use Rattle.flat_mem.proofs.tags.keep_tags.Goals as goal

pub loop-i-init : goal.loop-i-init
loop-i-init c = record { kept = keep-none _ _ _ c.clear.ensures.items; count = c.clear.ensures.len; capacity = c.clear.ensures.capacity }

pub loop-i-preserved : goal.loop-i-preserved
loop-i-preserved c = record {
  kept = keep-next _ _ _ _ _ _ c.loop-i.invariant.kept c.tag_at.ensures c.push_reserved.ensures.items;
  count = omega (arith, c.loop-i.invariant.count, c.push_reserved.ensures.len);
  capacity = c.push_reserved.ensures.capacity ∙ c.loop-i.invariant.capacity;
}
