use Rattle.std.proofs.Common.{◌∙◌}
use Rattle.program_top.proofs.Generated.{generated_within}
use Rattle.program_top.proofs.making.make_text.Goals as goal

pub run_made-requires : goal.run_made-requires
run_made-requires g c = rw (c.as_slice.ensures.value, c.in-Ok.ensures) (generated_within _ c.requires)

pub returns-in-Ok : goal.returns-in-Ok
returns-in-Ok g c = c.run_made.ensures _ (c.as_slice.ensures.value ∙ c.in-Ok.ensures)
