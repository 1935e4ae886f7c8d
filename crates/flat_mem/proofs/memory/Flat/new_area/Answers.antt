use Rattle.flat_mem.proofs.FramesKept.{area-back, block-fits, kept-block}
use Rattle.flat_mem.proofs.memory.Flat.new_area.Goals as goal

pub invariant_of-self : goal.invariant_of-self
invariant_of-self c =
    record {
      kept = let made = area-back _ _ _ _ _ _ c.deref_mut.ensures.value c.deref_mut.ensures.len c.make_area.ensures in
          let fit = block-fits _ _ _ _ _ _ _ _ _ _ _ _ _ _ _ c.self.view_is c.in_ok-size.ensures c.saturating_sub.ensures c.if-charge-self.false c.self.invariant.kept in
          kept-block _ _ _ _ _ _ _ _ _ _ _ _ _ _ _ c.self.view_is made fit.0 fit.1 c.self.invariant.kept;
      tags_fit = c.self.invariant.tags_fit;
    }
