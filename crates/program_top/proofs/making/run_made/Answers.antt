use Rattle.std.proofs.Common.{refl, ap, length}
use Rattle.c_build.proofs.KindLines.{kinds_within}
use Rattle.program_answers.proofs.Reasons.{nothing_done}
use Rattle.program_top.proofs.Causing.{made_refusal}
use Rattle.program_top.proofs.making.run_made.Goals as goal

pub run_built-requires : goal.run_built-requires
run_built-requires g c = kinds_within _ _ _ _ c.in-Ok.ensures.built.inferred

pub returns-in-Ok : goal.returns-in-Ok
returns-in-Ok g c n same = c.run_built.ensures n (ap length same) (rw same at c.in-Ok.ensures.built)

pub returns-in-Err : goal.returns-in-Err
returns-in-Err g c n same =
    rw c.of_fault.ensures (made_refusal n c.in-Err.fault _ _ (rw same at c.in-Err.ensures.refused) (nothing_done _ _ refl refl))
