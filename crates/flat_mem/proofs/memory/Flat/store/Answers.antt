use Rattle.flat_mem.proofs.Keeps.{kept-stored}
use Rattle.flat_mem.proofs.memory.Flat.store.Goals as goal

pub invariant_of-self : goal.invariant_of-self
invariant_of-self c =
    record { kept = kept-stored c.args.n c.args.at c.args.v _ _ _ _ _ _ _ _ _ _ _ _ _ c.deref_mut.ensures.value c.deref_mut.ensures.len c.store_at.ensures c.self.invariant.kept; tags_fit = c.self.invariant.tags_fit }
