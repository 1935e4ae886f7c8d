use Rattle.phys_types.proofs.Reading.{all_more}
use Rattle.phys_types.proofs.refining.all_types.Goals as goal

pub types-preserved : goal.types-preserved
types-preserved c = all_more c.types.all.items c.push.new.self.items c.types.t c.in_ok-push.ensures.items c.types.invariant
