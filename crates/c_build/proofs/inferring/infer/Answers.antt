use Rattle.c_build.proofs.Passes.{inferred_so}
use Rattle.c_build.proofs.inferring.infer.Goals as goal

pub returns-in-Ok-clause-inferred : goal.returns-in-Ok-clause-inferred
returns-in-Ok-clause-inferred c =
    inferred_so c.args.text.now c.in-Ok.typed c.infer_unit.result c.in-Ok.ensures.accepted c.in-Ok.ensures.nodes c.in-Ok.ensures.printed
    c.in-Ok.ensures.ordered c.infer_unit.ensures.typed c.infer_unit.ensures.lowered c.infer_unit.ensures.solved
