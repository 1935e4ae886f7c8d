use Rattle.std.proofs.Common.{ap, sym, ◌∙◌}
use Rattle.phys_types.specs.Turning.{written}
use Rattle.phys_types.proofs.Turned.{turned}
use Rattle.phys_types.proofs.turning.turn.Goals as goal

pub returns-clause-turned : goal.returns-clause-turned
returns-clause-turned c table s =
    turned table s.formed c.args.graph.now.targets.items c.args.numbers.now c.args.fresh.now c.in_ok-renamed.renamed.items s.fits s.same s.many
    (c.in_ok-renamed.ensures (s.many ∙ sym s.fits) s.read s.marked) s.respect s.coarser s.alike c.args.changed.now s.marked c.clear.new.numbers c.write.new.numbers c.clear.ensures
    (c.write.ensures ∙ ap (written (λ e. e.number) c.clear.new.numbers) c.deref.ensures.value) c.args.graph.now.readers.items c.write-2.new.numbers s.read
    (c.write-2.ensures ∙ ap (written (λ e. e.number) c.args.numbers.now) c.deref-2.ensures.value)
