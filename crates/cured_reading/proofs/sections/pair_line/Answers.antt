use Rattle.std.proofs.Common.{[], refl}
use Rattle.cured_reading.specs.Refusals.{line_of_two}
use Rattle.cured_reading.proofs.ExitLaws.{exit-passes}
use Rattle.cured_reading.proofs.MisreadLaws.{lineless, misnamed, misfielded, after-two}
use Rattle.cured_reading.proofs.sections.pair_line.Goals as goal

pub returns-in_err-fields-clause-misread : goal.returns-in_err-fields-clause-misread
returns-in_err-fields-clause-misread c =
    exit-passes c.from_residual.result _ _ c.from_residual.ensures.1
    (lineless (line_of_two c.args.name.now) _ _ _ c.in_err-fields.ensures.none c.in_err-fields.ensures.still)

pub returns-in_err-expect-clause-misread : goal.returns-in_err-expect-clause-misread
returns-in_err-expect-clause-misread c =
    exit-passes c.from_residual-in_err-expect.result _ _ c.from_residual-in_err-expect.ensures.1
    (misnamed (line_of_two c.args.name.now) c.args.name.now c.requires (λ x. refl) _ _ _ _ _ c.in_ok-fields.ensures.cut c.in_ok-fields.ensures.whole
    c.in_ok-fields.ensures.counted c.in_err-expect.ensures.none.0 c.in_err-expect.ensures.none.1)

pub returns-in_err-numbers-clause-misread : goal.returns-in_err-numbers-clause-misread
returns-in_err-numbers-clause-misread c =
    exit-passes c.from_residual-in_err-numbers.result _ _ c.from_residual-in_err-numbers.ensures.1
    (misfielded (line_of_two c.args.name.now) c.args.name.now c.requires (λ x. refl) _ _ _ _ _ c.in_ok-fields.ensures.cut c.in_ok-fields.ensures.whole
    c.in_ok-fields.ensures.counted c.in_err-numbers.ensures.none.0 _ c.in_ok-expect.ensures.cut c.in_ok-expect.ensures.ends
    (λ p w e. c.in_err-numbers.ensures.none.1 p [] w e))

pub returns-in_err-end-clause-misread : goal.returns-in_err-end-clause-misread
returns-in_err-end-clause-misread c =
    exit-passes c.from_residual-in_err-end.result _ _ c.from_residual-in_err-end.ensures.1
    (misfielded (line_of_two c.args.name.now) c.args.name.now c.requires (λ x. refl) _ _ _ _ _ c.in_ok-fields.ensures.cut c.in_ok-fields.ensures.whole
    c.in_ok-fields.ensures.counted c.in_err-end.ensures.more.0 _ c.in_ok-expect.ensures.cut c.in_ok-expect.ensures.ends
    (λ p w e.
    c.in_err-end.ensures.more.1
    (after-two _ _ c.in_ok-numbers.numbers.0 c.in_ok-numbers.numbers.1 p.0 p.1 [] c.in_ok-numbers.ensures.small.0 c.in_ok-numbers.ensures.small.1 w.0 w.1.0
    c.in_ok-numbers.ensures.ends c.in_ok-numbers.ensures.cut e)))
