use Rattle.std.proofs.Common.{get_or, refl, rules, ap, ◌+◌}
use Rattle.lower_exprs.specs.Drafts.{context_of}
use Rattle.lower_initialisers.specs.Ready.{initialised_of}
use Rattle.lower_initialisers.proofs.Laws.{more_text}
use Rattle.lower_initialisers.proofs.text.put_text.Goals as goal

pub loop-b-preserved : goal.loop-b-preserved
loop-b-preserved c = record {
  made = more_text (context_of c.args.k.now) (initialised_of c.args.p.whole) c.args.element c.args.p.at c.args.p.base c.args.bytes.now c.loop-b.b-index _
      (get_or c.args.bytes.now c.loop-b.b-index 0) _ _ _ c.loop-b-test.true refl (ap (λ n. c.args.p.base + n) c.loop-b.invariant.number) c.loop-b.invariant.made c.put_byte.ensures;
  number = search rules;
}
