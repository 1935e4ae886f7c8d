use Rattle.flat_mem.proofs.Keeps.{kept-zeroed, none-zeroed}
use Rattle.flat_mem.proofs.memory.Flat.zero.Goals as goal

pub invariant_of-self : goal.invariant_of-self
invariant_of-self c =
    record { kept = kept-zeroed c.args.n c.args.at _ _ _ _ _ _ _ _ _ _ _ _ _ c.deref_mut.ensures.value c.deref_mut.ensures.len c.zero_at.ensures c.self.invariant.kept; tags_fit = c.self.invariant.tags_fit }

pub returns-else-n-gt0 : goal.returns-else-n-gt0
returns-else-n-gt0 c = none-zeroed _ _ _ c.if-n-gt0.false
