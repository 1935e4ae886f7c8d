use Rattle.std.proofs.Common.{◌≡◌, ◌∙◌, refl}
use Rattle.program_answers.specs.Causes.{made_ran, made_unwritten}
use Rattle.program_answers.specs.Summaries.{summary_lines}
use Rattle.program_answers.proofs.Reasons.{keeps_itself}
use Rattle.program_top.proofs.making.run_behind.Goals as goal

pub returns-in-Ok : goal.returns-in-Ok
returns-in-Ok g c n made =
    let same : c.as_bytes.result.now ≡ summary_lines c.args.summary = c.as_bytes.ensures.value ∙ c.as_str.ensures.value ∙ c.lines-front.ensures in
    made_ran _ _ made c.run.result c.of_run.ensures _
    (record { written = rw same at c.in-Ok.ensures.appended; later = c.in-Ok.ensures.never_falls; after = refl; faults_after = refl })
    c.run.ensures.ran

pub returns-in-Err : goal.returns-in-Err
returns-in-Err g c n made =
    let same : c.as_bytes.result.now ≡ summary_lines c.args.summary = c.as_bytes.ensures.value ∙ c.as_str.ensures.value ∙ c.lines-front.ensures in
    made_unwritten _ _ made refl (keeps_itself _) c.in-Err.ensures.failed (rw same at c.in-Err.ensures.front)
