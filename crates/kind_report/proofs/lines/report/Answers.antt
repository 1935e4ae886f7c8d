use Rattle.kind_report.proofs.LineLaws.{one-more}
use Rattle.kind_report.proofs.lines.report.Goals as goal

pub loop-one-preserved : goal.loop-one-preserved
loop-one-preserved c =
    one-more c.args.solved.now.kinds c.args.solved.now.causes c.args.printed.now c.loop-one.one-index _ _ _ _ _ c.loop-one-test.true
    c.kind_of-kind.ensures c.cause_of-cause.ensures c.loop-one.invariant c.in_ok-push_line.ensures
