use Rattle.std.proofs.Common.{◌∙◌}
use Rattle.program_top.proofs.Causing.{made_of}
use Rattle.program_top.proofs.making.run_built.Goals as goal

pub returns-in-Ok : goal.returns-in-Ok
returns-in-Ok g c n bytes built =
    let told = c.summary_of-summary.ensures in
    let made = made_of n _ _ _ _ c.summary_of-summary.result built (told.bytes ∙ bytes) told.safe told.seq told.rtti told.wild in
    c.run_behind.ensures n (rw c.in-Ok.ensures made)
