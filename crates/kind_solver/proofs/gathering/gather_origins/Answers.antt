use Rattle.std.proofs.Common.{arith}
use Rattle.std.proofs.lemmas.List.Elements.{All-more}
use Rattle.std.proofs.lemmas.Grind.{common_steps}
use Rattle.kind_solver.specs.Tables.{HasFitPlace}
use Rattle.kind_solver.proofs.gathering.gather_origins.Goals as goal

pub loop-constraint-preserved : goal.loop-constraint-preserved
loop-constraint-preserved c = record {
  found = grind (arith, common_steps);
  fit = All-more HasFitPlace _ _ _ (omega arith) c.loop-constraint.invariant.fit c.push_origins.ensures.fit;
}
