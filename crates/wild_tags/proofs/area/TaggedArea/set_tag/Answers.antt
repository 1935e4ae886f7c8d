use Rattle.wild_tags.proofs.CallCode.{set-code}
use Rattle.wild_tags.proofs.area.TaggedArea.set_tag.Goals as goal

pub returns : goal.returns
returns c = set-code _ _ _ _ _ _ _ c.place_of_tag.ensures c.set_tag.ensures
