use Rattle.program_answers.proofs.JudgedStatuses.{has_cause, gives_answer, says_usage, says_usage_at_once}
use Rattle.program_top.proofs.Sources.{gives_source}
use Rattle.program_top.proofs.top.ccured.Goals as goal

pub returns-clause-cause : goal.returns-clause-cause
returns-clause-cause g c = has_cause _ _ _ _ _ _ _ (record { verdict = c.judge-verdict.result; cause = c.judge-verdict.ensures; reported = c.report_verdict.ensures })

pub returns-clause-answer : goal.returns-clause-answer
returns-clause-answer g c =
    gives_answer _ _ _ _ _ _ _ (has_cause _ _ _ _ _ _ _ (record { verdict = c.judge-verdict.result; cause = c.judge-verdict.ensures; reported = c.report_verdict.ensures }))

pub returns-clause-source : goal.returns-clause-source
returns-clause-source g c =
    λ files_held input_held output_held report_held there.
    gives_source _ _ _ _ _ _ (gives_answer _ _ _ _ _ _ _ (has_cause _ _ _ _ _ _ _ (record { verdict = c.judge-verdict.result; cause = c.judge-verdict.ensures; reported = c.report_verdict.ensures }))
    files_held input_held output_held report_held there)

pub returns-clause-usage : goal.returns-clause-usage
returns-clause-usage g c = says_usage _ _ _ _ _ _ _ (record { verdict = c.judge-verdict.result; cause = c.judge-verdict.ensures; reported = c.report_verdict.ensures })

pub returns-clause-at_once : goal.returns-clause-at_once
returns-clause-at_once g c = says_usage_at_once _ _ _ _ _ _ _ (record { verdict = c.judge-verdict.result; cause = c.judge-verdict.ensures; reported = c.report_verdict.ensures })
