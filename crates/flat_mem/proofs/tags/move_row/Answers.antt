use Rattle.std.proofs.Common.{◌∙◌, ap, length}
use Rattle.flat_mem.proofs.RowLaws.{length-two}
use Rattle.flat_mem.proofs.TagCode.{tag-room}
use Rattle.flat_mem.proofs.tags.move_row.Goals as goal

pub write_tags-requires-clause-inside : goal.write_tags-requires-clause-inside
write_tags-requires-clause-inside c =
    tag-room _ _ _ _ _ _ _ c.requires.target c.deref.ensures.value c.keep_tags.ensures.tags (ap length c.move_both.ensures ∙ length-two _ _ _ _ _ _ _)
