use Rattle.std.proofs.Common.{◌≡◌, take}
use Rattle.kind_report.specs.Report.{report_of}
use Rattle.kind_report.proofs.lines.report.Given as goal

abbrev pub invariant-loop-one : goal.invariant-loop-one
invariant-loop-one l = l.text.items ≡ report_of l.fn.solved.kinds l.fn.solved.causes (take l.one-index l.fn.printed)
