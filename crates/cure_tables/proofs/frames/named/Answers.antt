use Rattle.src_mem.specs.Runs.{planned}
use Rattle.cil_form.specs.Machine.{plan}
use Rattle.cure_tables.proofs.Pushing.{named_next}
use Rattle.cure_tables.proofs.frames.named.Goals as goal

pub parameters-preserved : goal.parameters-preserved
parameters-preserved c =
    named_next (λ p. planned p.ty p.home) plan c.args.parameters.now c.parameters.named.items c.add_named.new.named.items c.parameters.parameter-index _ c.parameters-test.true
    c.parameters.invariant c.in_ok-add_named.ensures
