use Rattle.flat_mem.proofs.Keeps.{kept-moved, none-moved}
use Rattle.flat_mem.proofs.memory.Flat.move_bytes.Goals as goal

pub invariant_of-self : goal.invariant_of-self
invariant_of-self c =
    record { kept = kept-moved c.args.n c.args.to c.args.from _ _ _ _ _ _ _ _ _ _ _ _ _ c.deref_mut.ensures.value c.deref_mut.ensures.len c.move_within.ensures c.self.invariant.kept; tags_fit = c.self.invariant.tags_fit }

pub returns-else-n-gt0 : goal.returns-else-n-gt0
returns-else-n-gt0 c = none-moved _ _ _ _ c.if-n-gt0.false
