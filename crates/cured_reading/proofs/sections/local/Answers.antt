use Rattle.std.proofs.Common.{[], ◌∷◌, ◌∙◌, refl, arith, append_assoc}
use Rattle.std.specs.Prelude.{codes}
use Rattle.cured_spelling.specs.Spelling.{local_line}
use Rattle.cured_spelling.proofs.FieldLaws.{above-tested}
use Rattle.cured_reading.specs.Refusals.{IsName}
use Rattle.cured_reading.proofs.ExitLaws.{exit-passes}
use Rattle.cured_reading.proofs.MisreadLaws.{lineless, misnamed, misfielded, after-area, line-from, whole-front}
use Rattle.cured_reading.proofs.SectionLaws.{local-misread, local-over, local-read}
use Rattle.cured_reading.proofs.sections.local.Goals as goal

is : IsName (codes "local")
is = record { some = omega arith; bytes = above-tested (codes "local") refl }

pub returns-in_err-fields-clause-refused : goal.returns-in_err-fields-clause-refused
returns-in_err-fields-clause-refused c =
    exit-passes c.from_residual.result _ _ c.from_residual.ensures.1
    (λ k part rest lt. local-misread k part rest lt _ _ _ (lineless local_line _ _ _ c.in_err-fields.ensures.none c.in_err-fields.ensures.still))

pub returns-in_err-expect-clause-refused : goal.returns-in_err-expect-clause-refused
returns-in_err-expect-clause-refused c =
    exit-passes c.from_residual-in_err-expect.result _ _ c.from_residual-in_err-expect.ensures.1
    (λ k part rest lt.
    local-misread k part rest lt _ _ _
    (misnamed local_line (codes "local") is (λ x. refl) _ _ _ _ _ c.in_ok-fields.ensures.cut c.in_ok-fields.ensures.whole c.in_ok-fields.ensures.counted
    c.in_err-expect.ensures.none.0 c.in_err-expect.ensures.none.1))

pub returns-in_err-area-clause-refused : goal.returns-in_err-area-clause-refused
returns-in_err-area-clause-refused c =
    exit-passes c.from_residual-in_err-area.result _ _ c.from_residual-in_err-area.ensures.1
    (λ k part rest lt.
    local-misread k part rest lt _ _ _
    (misfielded local_line (codes "local") is (λ x. refl) _ _ _ _ _ c.in_ok-fields.ensures.cut c.in_ok-fields.ensures.whole c.in_ok-fields.ensures.counted
    c.in_err-area.ensures.none.0 _ c.in_ok-expect.ensures.cut c.in_ok-expect.ensures.ends (λ area w e. c.in_err-area.ensures.none.1 area [] w e)))

pub returns-in_err-end-clause-refused : goal.returns-in_err-end-clause-refused
returns-in_err-end-clause-refused c =
    exit-passes c.from_residual-in_err-end.result _ _ c.from_residual-in_err-end.ensures.1
    (λ k part rest lt.
    local-misread k part rest lt _ _ _
    (misfielded local_line (codes "local") is (λ x. refl) _ _ _ _ _ c.in_ok-fields.ensures.cut c.in_ok-fields.ensures.whole c.in_ok-fields.ensures.counted
    c.in_err-end.ensures.more.0 _ c.in_ok-expect.ensures.cut c.in_ok-expect.ensures.ends
    (λ area w e.
    c.in_err-end.ensures.more.1
    (after-area _ _ c.in_ok-area.area area [] c.in_ok-area.ensures.small w.1.0 c.in_ok-area.ensures.ends c.in_ok-area.ensures.cut e))))

pub returns-then-area-gt-LOCAL_BYTES_LIMIT-clause-refused : goal.returns-then-area-gt-LOCAL_BYTES_LIMIT-clause-refused
returns-then-area-gt-LOCAL_BYTES_LIMIT-clause-refused c =
    λ k part rest lt.
    local-over k part rest lt _ c.in_ok-area.area _ _ c.in_ok-area.ensures.small c.if-area-gt-LOCAL_BYTES_LIMIT.true
    (line-from (local_line c.in_ok-area.area) _ _ _ _ c.in_ok-fields.ensures.cut c.in_ok-expect.ensures.cut
    (whole-front (local_line c.in_ok-area.area).fields _ _ c.in_ok-area.ensures.cut c.in_ok-end.ensures.ended)) c.in_ok-fields.ensures.counted

pub returns-clause-read : goal.returns-clause-read
returns-clause-read c =
    λ k part rest lt.
    local-read k part rest lt _ c.in_ok-area.area _ c.in_ok-area.ensures.small c.if-area-gt-LOCAL_BYTES_LIMIT.false
    (line-from (local_line c.in_ok-area.area) _ _ _ _ c.in_ok-fields.ensures.cut c.in_ok-expect.ensures.cut
    (whole-front (local_line c.in_ok-area.area).fields _ _ c.in_ok-area.ensures.cut c.in_ok-end.ensures.ended)) c.in_ok-fields.ensures.counted
