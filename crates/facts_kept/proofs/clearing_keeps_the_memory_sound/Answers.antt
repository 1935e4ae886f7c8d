use Rattle.facts_kept.proofs.Clearing.{gives-cleared}
use Rattle.facts_kept.proofs.clearing_keeps_the_memory_sound.Goals as goal

pub returns : goal.returns
returns c = gives-cleared
