use Rattle.lower_exprs.proofs.Laws.{grows_then}
use Rattle.lower_exprs.specs.Drafts.{context_of}
use Rattle.lower_initialisers.proofs.Laws.{grows_kept, more_declarators}
use Rattle.lower_initialisers.proofs.declarations.declarators.Goals as goal
use Rattle.lower_initialisers.proofs.declarations.declarators.Goals.{in-Plain, in-Initialised}

pub loop-one-preserved : goal.loop-one-preserved
loop-one-preserved c = record {
  made = more_declarators c.args.all.now c.loop-one.one-index c.one-item.result (context_of c.args.k.now) _ _ c.loop-one-test.true c.one-item.is
      (elim c.match-one.branch [
        | in-Plain w ↦ rw (w.out-is, w.in-Plain.is) (grows_kept _ _ _ _ _ c.loop-one.invariant.made w.keep.ensures)
        | in-Initialised w ↦ rw (w.out-is, w.in-Initialised.is) (grows_then _ _ _ _ _ _ _ c.loop-one.invariant.made w.declared.ensures)
      ]);
}
