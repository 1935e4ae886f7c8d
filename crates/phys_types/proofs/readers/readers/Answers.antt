use Rattle.std.proofs.Common.{◌≡◌, length, ap, sym, subst, ◌∙◌}
use Rattle.std.specs.List.{Contains}
use Rattle.phys_types.specs.Turning.{list_in}
use Rattle.phys_types.proofs.Reading.{Lists, written_all, readers_more}
use Rattle.phys_types.proofs.readers.readers.Goals as goal

pub types-preserved : goal.types-preserved
types-preserved c =
    let fits : length c.add_readers.new.readers ≡ length c.types.readers.items = c.in_ok-add_readers.ensures.fits ∙ ap length c.deref_mut.ensures.value in
    let whole = written_all c.add_readers.new.readers c.types.readers.items c.types.readers.len fits (sym c.deref_mut.ensures.len ∙ ap length c.deref_mut.ensures.value) in
    record {
      fits = ap length whole ∙ fits ∙ c.types.invariant.fits;
      done = λ t to l b k.
          subst (λ (xs : Lists). Contains (list_in xs to) t) (sym whole)
          (readers_more c.args.targets.now c.args.count c.types.t c.types.readers.items c.deref_mut.result.now c.add_readers.new.readers c.list_of.result.now
          c.deref_mut.ensures.value c.list_of.ensures c.in_ok-add_readers.ensures.kept c.in_ok-add_readers.ensures.added c.types.invariant.fits c.types.invariant.done t to l b k);
    }
