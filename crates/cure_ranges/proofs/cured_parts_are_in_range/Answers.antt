use Rattle.cure_ranges.proofs.Parts.{in_range}
use Rattle.cure_ranges.proofs.cured_parts_are_in_range.Goals as goal

pub returns : goal.returns
returns c p kind node parents parts shape cured few earlier sigs bodies = in_range p kind node parents parts shape cured.numbers cured.are_cured bodies few earlier sigs
