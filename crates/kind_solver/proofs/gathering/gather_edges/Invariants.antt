use Rattle.std.proofs.Common.{◌≡◌, take}
use Rattle.std.specs.List.{flat_map}
use Rattle.kind_solver.specs.Chains.{edges_of}
use Rattle.kind_solver.proofs.gathering.gather_edges.Given as goal

abbrev pub invariant-loop-constraint : goal.invariant-loop-constraint
invariant-loop-constraint l = l.found.items ≡ flat_map (edges_of l.pass) (take l.constraint-index l.list)
