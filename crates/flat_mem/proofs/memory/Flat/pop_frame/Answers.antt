use Rattle.flat_mem.proofs.FramesKept.{kept-popped, popped-seen}
use Rattle.flat_mem.proofs.memory.Flat.pop_frame.Goals as goal

pub invariant_of-self : goal.invariant_of-self
invariant_of-self c =
    record { kept = kept-popped _ _ _ _ _ _ _ _ _ _ _ _ _ _ _ _ c.self.view_is c.take_last-mark.ensures.items c.truncate.ensures.items c.take_last-mark.ensures.capacity c.truncate.ensures.capacity c.self.invariant.kept; tags_fit = c.self.invariant.tags_fit }

pub returns : goal.returns
returns c =
    popped-seen _ _ _ _ _ _ _ _ _ _ _ _ _ _ c.self.view_is c.take_last-mark.ensures.items c.truncate.ensures.items c.self.invariant.kept
