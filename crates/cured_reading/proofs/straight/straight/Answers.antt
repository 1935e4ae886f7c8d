use Rattle.std.proofs.lemmas.Result.{IfErr-weaker, IfOk-weaker}
use Rattle.cured_reading.proofs.ExitLaws.{exit-passes}
use Rattle.cured_reading.proofs.StraightLaws.{out_of_range, same-line}
use Rattle.cured_reading.proofs.straight.straight.Goals as goal

pub returns-in_err-named-clause-bad : goal.returns-in_err-named-clause-bad
returns-in_err-named-clause-bad c =
    exit-passes c.from_residual.result _ _ c.from_residual.ensures.1
    (c.in_err-named.ensures.bad c.args.names.now c.requires)

pub returns-clause-line : goal.returns-clause-line
returns-clause-line c = IfOk-weaker c.in_range.result _ _ (λ i h. same-line _ _ _ _ h.0 c.in_ok-named.ensures.line) c.in_range.ensures.kept

pub returns-clause-bad : goal.returns-clause-bad
returns-clause-bad c =
    IfErr-weaker c.in_range.result _ _ (λ why h. out_of_range _ _ _ _ _ c.in_ok-named.ensures.line.0 h.0 h.1) c.in_range.ensures.out
