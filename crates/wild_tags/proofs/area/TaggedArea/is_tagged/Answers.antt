use Rattle.std.proofs.Common.{◌∙◌}
use Rattle.wild_tags.proofs.CallCode.{tag-code}
use Rattle.wild_tags.proofs.area.TaggedArea.is_tagged.Goals as goal

pub returns : goal.returns
returns c = c.tag.ensures ∙ tag-code _ _ _ _ _ c.place_of_tag.ensures
