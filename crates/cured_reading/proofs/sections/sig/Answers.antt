use Rattle.std.proofs.Common.{inl, inr}
use Rattle.cured_reading.proofs.ExitLaws.{exit-passes}
use Rattle.cured_reading.proofs.SectionLaws.{sig-misread, sig-over, sig-read}
use Rattle.cured_reading.proofs.sections.sig.Goals as goal

pub returns-in_err-params-clause-refused : goal.returns-in_err-params-clause-refused
returns-in_err-params-clause-refused c =
    exit-passes c.from_residual.result _ _ c.from_residual.ensures.1
    (λ k sigs lt. sig-misread k sigs lt _ _ _ c.in_err-params.ensures.misread)

pub returns-then-params-gt-PARAMS_LIMIT-clause-refused : goal.returns-then-params-gt-PARAMS_LIMIT-clause-refused
returns-then-params-gt-PARAMS_LIMIT-clause-refused c =
    λ k sigs lt.
    sig-over k sigs lt _ (record { params = c.in_ok-params.params; results = c.in_ok-params.results }) _ _
    (c.in_ok-params.ensures.small.0, (c.in_ok-params.ensures.small.1, tt)) (inl c.if-params-gt-PARAMS_LIMIT.true) c.in_ok-params.ensures.spelled
    c.in_ok-params.ensures.counted

pub returns-then-results-gt-RESULTS_LIMIT-clause-refused : goal.returns-then-results-gt-RESULTS_LIMIT-clause-refused
returns-then-results-gt-RESULTS_LIMIT-clause-refused c =
    λ k sigs lt.
    sig-over k sigs lt _ (record { params = c.in_ok-params.params; results = c.in_ok-params.results }) _ _
    (c.in_ok-params.ensures.small.0, (c.in_ok-params.ensures.small.1, tt)) (inr c.if-results-gt-RESULTS_LIMIT.true) c.in_ok-params.ensures.spelled
    c.in_ok-params.ensures.counted

pub returns-clause-read : goal.returns-clause-read
returns-clause-read c =
    λ k sigs lt.
    sig-read k sigs lt _ (record { params = c.in_ok-params.params; results = c.in_ok-params.results }) _
    (c.in_ok-params.ensures.small.0, (c.in_ok-params.ensures.small.1, tt))
    (record { params_kept = c.if-params-gt-PARAMS_LIMIT.false; results_kept = c.if-results-gt-RESULTS_LIMIT.false }) c.in_ok-params.ensures.spelled
    c.in_ok-params.ensures.counted
