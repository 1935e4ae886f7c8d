use Rattle.std.proofs.Common.{◌≡◌, take, All}
use Rattle.std.specs.List.{flat_map}
use Rattle.kind_solver.specs.Chains.{origins_of}
use Rattle.kind_solver.specs.Tables.{HasFitPlace}
use Rattle.kind_solver.proofs.gathering.gather_origins.Given as goal

abbrev pub invariant-loop-constraint : goal.invariant-loop-constraint
invariant-loop-constraint l = record {
  found : l.found.items ≡ flat_map (origins_of l.start) (take l.constraint-index l.list);
  fit : All HasFitPlace (take l.constraint-index l.list);
}
