use Rattle.std.proofs.Common.{sym, subst, ◌∙◌}
use Rattle.std.specs.List.{Contains}
use Rattle.std.proofs.lemmas.List.{take_all}
use Rattle.phys_types.proofs.Reading.{have_twice, read_more}
use Rattle.phys_types.proofs.readers.add_readers.Goals as goal

pub targets-preserved : goal.targets-preserved
targets-preserved c = record {
  fits = c.in_ok-add_reader.ensures.fits ∙ c.targets.invariant.fits;
  kept = have_twice c.args.readers.now c.targets.readers c.add_reader.new.readers c.targets.invariant.kept c.in_ok-add_reader.ensures.kept;
  added =
      read_more c.args.targets.now c.targets.to-index (record { 0 = 0 }) c.args.t c.args.readers.now c.targets.readers c.add_reader.new.readers c.targets-test.true
      c.in_ok-add_reader.ensures.kept c.targets.invariant.fits c.in_ok-add_reader.ensures.added c.targets.invariant.added;
}

pub returns-clause-added : goal.returns-clause-added
returns-clause-added c to k b =
    c.targets.invariant.added to (subst (λ xs. Contains xs to) (sym (take_all c.targets.to-index c.args.targets.now c.targets-test.false)) k) b
