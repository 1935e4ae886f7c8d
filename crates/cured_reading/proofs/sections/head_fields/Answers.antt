use Rattle.std.proofs.Common.{[], ◌∷◌, refl, arith}
use Rattle.std.specs.Prelude.{codes}
use Rattle.cured_spelling.specs.Lines.{Number}
use Rattle.cured_spelling.proofs.FieldLaws.{above-tested}
use Rattle.cured_reading.specs.Heads.{head_line}
use Rattle.cured_reading.specs.Refusals.{IsName}
use Rattle.cured_reading.proofs.ExitLaws.{exit-passes}
use Rattle.cured_reading.proofs.MisreadLaws.{lineless, misnamed, misfielded, after-two}
use Rattle.cured_reading.proofs.sections.head_fields.Goals as goal

is : IsName (codes "fn")
is = record { some = omega arith; bytes = above-tested (codes "fn") refl }

pub returns-in_err-fields-clause-misread : goal.returns-in_err-fields-clause-misread
returns-in_err-fields-clause-misread c =
    exit-passes c.from_residual.result _ _ c.from_residual.ensures.1
    (lineless head_line _ _ _ c.in_err-fields.ensures.none c.in_err-fields.ensures.still)

pub returns-in_err-expect-clause-misread : goal.returns-in_err-expect-clause-misread
returns-in_err-expect-clause-misread c =
    exit-passes c.from_residual-in_err-expect.result _ _ c.from_residual-in_err-expect.ensures.1
    (misnamed head_line (codes "fn") is (λ x. refl) _ _ _ _ _ c.in_ok-fields.ensures.cut c.in_ok-fields.ensures.whole c.in_ok-fields.ensures.counted
    c.in_err-expect.ensures.none.0 c.in_err-expect.ensures.none.1)

pub returns-in_err-sig-clause-misread : goal.returns-in_err-sig-clause-misread
returns-in_err-sig-clause-misread c =
    exit-passes c.from_residual-in_err-sig.result _ _ c.from_residual-in_err-sig.ensures.1
    (misfielded head_line (codes "fn") is (λ x. refl) _ _ _ _ _ c.in_ok-fields.ensures.cut c.in_ok-fields.ensures.whole c.in_ok-fields.ensures.counted
    c.in_err-sig.ensures.none.0 _ c.in_ok-expect.ensures.cut c.in_ok-expect.ensures.ends
    (λ h w e. c.in_err-sig.ensures.none.1 (h.sig, h.slots) (Number h.charge ∷ Number h.areas ∷ []) (w.0, (w.1.0, tt)) e))

pub returns-in_err-charge-clause-misread : goal.returns-in_err-charge-clause-misread
returns-in_err-charge-clause-misread c =
    exit-passes c.from_residual-in_err-charge.result _ _ c.from_residual-in_err-charge.ensures.1
    (misfielded head_line (codes "fn") is (λ x. refl) _ _ _ _ _ c.in_ok-fields.ensures.cut c.in_ok-fields.ensures.whole c.in_ok-fields.ensures.counted
    c.in_err-charge.ensures.none.0 _ c.in_ok-expect.ensures.cut c.in_ok-expect.ensures.ends
    (λ h w e.
    c.in_err-charge.ensures.none.1 (h.charge, h.areas) [] (w.1.1.0, (w.1.1.1.0, tt))
    (after-two _ _ c.in_ok-sig.sig c.in_ok-sig.slots h.sig h.slots (Number h.charge ∷ Number h.areas ∷ []) c.in_ok-sig.ensures.small.0
    c.in_ok-sig.ensures.small.1 w.0 w.1.0 c.in_ok-sig.ensures.ends c.in_ok-sig.ensures.cut e)))

pub returns-in_err-end-clause-misread : goal.returns-in_err-end-clause-misread
returns-in_err-end-clause-misread c =
    exit-passes c.from_residual-in_err-end.result _ _ c.from_residual-in_err-end.ensures.1
    (misfielded head_line (codes "fn") is (λ x. refl) _ _ _ _ _ c.in_ok-fields.ensures.cut c.in_ok-fields.ensures.whole c.in_ok-fields.ensures.counted
    c.in_err-end.ensures.more.0 _ c.in_ok-expect.ensures.cut c.in_ok-expect.ensures.ends
    (λ h w e.
    c.in_err-end.ensures.more.1
    (after-two _ _ c.in_ok-charge.charge c.in_ok-charge.areas h.charge h.areas [] c.in_ok-charge.ensures.small.0 c.in_ok-charge.ensures.small.1 w.1.1.0
    w.1.1.1.0 c.in_ok-charge.ensures.ends c.in_ok-charge.ensures.cut
    (after-two _ _ c.in_ok-sig.sig c.in_ok-sig.slots h.sig h.slots (Number h.charge ∷ Number h.areas ∷ []) c.in_ok-sig.ensures.small.0
    c.in_ok-sig.ensures.small.1 w.0 w.1.0 c.in_ok-sig.ensures.ends c.in_ok-sig.ensures.cut e))))
