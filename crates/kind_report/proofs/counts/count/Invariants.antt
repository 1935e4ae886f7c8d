use Rattle.std.proofs.Common.{◌≡◌, take}
use Rattle.kind_report.specs.Report.{pointers_of}
use Rattle.kind_report.proofs.counts.count.Given as goal

abbrev pub invariant-loop-one : goal.invariant-loop-one
invariant-loop-one l = l.found ≡ pointers_of l.fn.kinds l.fn.kind (take l.one-index l.fn.printed)
