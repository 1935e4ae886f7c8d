use Rattle.std.proofs.Common.{length, take}
use Rattle.kind_solver.specs.Tables.{HoldsOrigins}
use Rattle.kind_solver.proofs.spreading.offer_all.Given as goal

abbrev pub invariant-loop-origin : goal.invariant-loop-origin
invariant-loop-origin l = HoldsOrigins (take l.origin-index l.origins) (length l.initial.causes) l.causes
