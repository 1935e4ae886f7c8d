use Rattle.flat_mem.proofs.TagCode.{tag_written-code}
use Rattle.flat_mem.proofs.tags.write_tag.Goals as goal

pub returns : goal.returns
returns c = tag_written-code _ _ _ _ c.with_bit.ensures c.with_bit.type_inv
