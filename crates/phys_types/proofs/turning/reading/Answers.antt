use Rattle.std.proofs.Common.{sym, subst}
use Rattle.std.specs.List.{Contains}
use Rattle.std.proofs.lemmas.List.{take_all}
use Rattle.phys_types.proofs.Turned.{reading_more}
use Rattle.phys_types.proofs.turning.reading.Goals as goal

pub changed-preserved : goal.changed-preserved
changed-preserved c =
    reading_more c.args.readers.now c.args.changed.now c.changed.e-index (record { ty = record { 0 = 0 }; number = 0 }) c.changed.set.keys _ _ c.changed-test.true
    c.list_of.ensures c.in_ok-add_all.ensures c.changed.invariant

pub returns : goal.returns
returns c e t h k = c.changed.invariant e t (subst (λ xs. Contains xs e) (sym (take_all c.changed.e-index c.args.changed.now c.changed-test.false)) h) k
