use Rattle.c_build.proofs.KindLines.{kinds_within, causes_within, have_causes, has_kinds}
use Rattle.c_build.proofs.lines.kinds.Goals as goal

pub report-requires-clause-kinds : goal.report-requires-clause-kinds
report-requires-clause-kinds c = rw c.as_slice.ensures (kinds_within c.requires.0 _ _ _ c.requires.1)

pub report-requires-clause-causes : goal.report-requires-clause-causes
report-requires-clause-causes c = rw c.as_slice.ensures (causes_within c.requires.0 _ _ _ c.requires.1)

pub report-requires-clause-caused : goal.report-requires-clause-caused
report-requires-clause-caused c = rw c.as_slice.ensures (have_causes c.requires.0 _ _ _ c.requires.1)

pub returns : goal.returns
returns c =
    has_kinds (λ lines. lines.items) c.args.inferred.now.typed c.args.inferred.now.code c.args.inferred.now.solved c.report.result
    (rw c.as_slice.ensures at c.report.ensures.text)
