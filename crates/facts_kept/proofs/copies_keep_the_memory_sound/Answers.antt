use Rattle.facts_kept.proofs.Copying.{gives-copied, gives-copied_tagged}
use Rattle.facts_kept.proofs.copies_keep_the_memory_sound.Goals as goal

pub returns-clause-typed : goal.returns-clause-typed
returns-clause-typed c w sites depth t source_place k source target_place l target place s sound complete kp lp =
    gives-copied w sound sites depth t complete k l kp lp source target source_place target_place place s

pub returns-clause-wild : goal.returns-clause-wild
returns-clause-wild c w sites depth t source_place source target_place target place s sound complete =
    gives-copied_tagged w sound sites depth t complete source target source_place target_place place s
