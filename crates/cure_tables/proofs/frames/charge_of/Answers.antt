use Rattle.c_types.specs.Layouts.{size_of}
use Rattle.src_mem.specs.Memory.{charge_of}
use Rattle.src_mem.specs.Checks.{source_frame_limit}
use Rattle.cil_form.specs.Machine.{plan}
use Rattle.cure_tables.proofs.Pushing.{part_more}
use Rattle.cure_tables.proofs.frames.charge_of.Goals as goal

pub returns-then-charge-gt1048576-clause-exact : goal.returns-then-charge-gt1048576-clause-exact
returns-then-charge-gt1048576-clause-exact c h =
    absurd (part_more (λ v. charge_of (size_of c.args.types.now v.type)) plan c.args.variables.now c.variables.variable-index source_frame_limit c.variables.charge c.variables.invariant
    c.if-charge-gt1048576.true h)
