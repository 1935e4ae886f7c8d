use Rattle.std.proofs.Common.{◌≤◌, ◌-◌, vec_len}
use Rattle.cc_io.specs.Bytes.{Takes}
use Rattle.cc_io.proofs.disk_files.read_whole.Given as goal

abbrev pub invariant-loop-count : goal.invariant-loop-count
invariant-loop-count g l = Takes (g.F.Read.remaining l.fn.file) (g.F.Read.remaining l.file) l.into.items × (vec_len l.into ≤ l.limit)

abbrev pub decreases-loop-count : goal.decreases-loop-count
decreases-loop-count g l = l.limit - vec_len l.into
