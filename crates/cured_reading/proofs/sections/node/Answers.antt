use Rattle.std.proofs.Common.{arith}
use Rattle.std.proofs.lemmas.Result.{IfErr-weaker}
use Rattle.cured_reading.proofs.ExitLaws.{exit-passes, ok-holds}
use Rattle.cured_reading.proofs.SectionLaws.{node-misread, node-over, node-read}
use Rattle.cured_reading.proofs.sections.node.Goals as goal

pub returns-in_err-parent-clause-refused : goal.returns-in_err-parent-clause-refused
returns-in_err-parent-clause-refused c =
    exit-passes c.from_residual.result _ _ c.from_residual.ensures.1
    (λ k sigs lt. node-misread k sigs c.args.before lt _ _ _ c.in_err-parent.ensures.misread)

pub returns-then-parent-before-clause-refused : goal.returns-then-parent-before-clause-refused
returns-then-parent-before-clause-refused c =
    λ k sigs lt.
    node-over k sigs c.args.before lt _ c.in_ok-parent.parent _ _ (c.in_ok-parent.ensures.small, tt) c.if-parent-before.true c.in_ok-parent.ensures.spelled
    c.in_ok-parent.ensures.counted

pub returns-clause-read : goal.returns-clause-read
returns-clause-read c =
    ok-holds c.low.result _
    (λ k sigs lt.
    node-read k sigs c.args.before lt _ c.in_ok-parent.parent _ (c.in_ok-parent.ensures.small, tt) c.if-parent-before.false c.in_ok-parent.ensures.spelled
    c.in_ok-parent.ensures.counted)

pub returns-clause-refused : goal.returns-clause-refused
returns-clause-refused c =
    IfErr-weaker c.low.result _ _ (λ why h. absurd (let over = h.1 in omega (arith, over, c.if-parent-before.false, c.requires))) c.low.ensures.over
