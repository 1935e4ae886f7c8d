use Rattle.flat_mem.proofs.Keeps.{kept-tag}
use Rattle.flat_mem.proofs.memory.Flat.set_tag.Goals as goal

pub invariant_of-self : goal.invariant_of-self
invariant_of-self c = record {
  kept = kept-tag c.args.tag c.args.t _ _ _ _ _ _ _ _ _ _ _ _ _ c.deref_mut.ensures.value c.deref_mut.ensures.len c.write_tag.ensures c.self.invariant.kept;
  tags_fit = c.self.invariant.tags_fit;
}
