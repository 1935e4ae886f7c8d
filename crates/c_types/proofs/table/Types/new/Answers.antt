use Rattle.c_types.proofs.Adding.{sound_empty}
use Rattle.c_types.proofs.table.Types.new.Goals as goal

pub invariant_of-types : goal.invariant_of-types
invariant_of-types c = sound_empty c.new.result.entries c.new-2.result.entries c.new.ensures.empty c.new-2.ensures.empty
