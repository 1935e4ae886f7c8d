use Rattle.src_mem.specs.Outlines.{outlines_of, lives_of}
use Rattle.facts_kept.proofs.Places.{held-place}
use Rattle.facts_kept.proofs.checks_lead_to_places.Goals as goal

pub returns : goal.returns
returns c w memory depth kind t p sound = held-place w sound (outlines_of memory) (lives_of memory) depth memory kind t p
