use Rattle.std.proofs.Common.{arith}
use Rattle.flat_mem.proofs.Keeps.{kept-row}
use Rattle.flat_mem.proofs.memory.Flat.move_words.Goals as goal

pub invariant_of-self : goal.invariant_of-self
invariant_of-self c = record {
  kept = kept-row c.args.count c.args.to c.args.from _ _ _ _ _ _ _ _ _ _ _ _ _ c.deref_mut.ensures.value c.deref_mut.ensures.len c.move_row.ensures.moved c.self.invariant.kept;
  tags_fit = omega (arith, c.self.invariant.tags_fit, c.move_row.ensures.tags);
}
