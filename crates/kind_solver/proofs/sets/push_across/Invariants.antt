use Rattle.std.proofs.Common.{◌≡◌, ◌++◌, take}
use Rattle.std.specs.List.{flat_map}
use Rattle.kind_solver.specs.Tables.{across}
use Rattle.kind_solver.proofs.sets.push_across.Given as goal

abbrev pub invariant-loop-edge : goal.invariant-loop-edge
invariant-loop-edge l = l.origins.items ≡ l.initial.origins.items ++ flat_map (across l.causes) (take l.edge-index l.edges)
