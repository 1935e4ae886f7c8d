use Rattle.std.proofs.Common.{◌≡◌, take, filter}
use Rattle.kind_solver.specs.Tables.{is_outside}
use Rattle.kind_solver.proofs.sets.outside.Given as goal

abbrev pub invariant-loop-origin : goal.invariant-loop-origin
invariant-loop-origin l = l.kept.items ≡ filter (is_outside l.causes) (take l.origin-index l.origins)
