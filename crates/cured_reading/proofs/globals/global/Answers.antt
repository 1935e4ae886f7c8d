use Rattle.std.proofs.Common.{[], ◌∷◌, ◌∙◌, subst, sym, refl, arith}
use Rattle.cured_code.specs.declared.parts.GlobalLine.{GlobalLine}
use Rattle.cured_code.specs.Ranges.{IsGlobalInRange}
use Rattle.std.specs.Prelude.{codes}
use Rattle.cured_spelling.specs.Lines.{Hex}
use Rattle.cured_spelling.specs.Spelling.{area_line}
use Rattle.cured_spelling.proofs.FieldLaws.{above-tested}
use Rattle.cured_reading.specs.Refusals.{IsName}
use Rattle.cured_reading.proofs.ExitLaws.{exit-passes}
use Rattle.cured_reading.proofs.MisreadLaws.{lineless, misnamed, misfielded, after-area, field-read, line-from, global-fields}
use Rattle.cured_reading.proofs.SectionLaws.{global-misread, global-over, global-out, global-read}
use Rattle.cured_reading.proofs.globals.global.Goals as goal

is : IsName (codes "area")
is = record { some = omega arith; bytes = above-tested (codes "area") refl }

pub returns-in_err-fields-clause-refused : goal.returns-in_err-fields-clause-refused
returns-in_err-fields-clause-refused c =
    exit-passes c.from_residual.result _ _ c.from_residual.ensures.1
    (λ k sigs nodes lt.
    global-misread k c.args.left sigs nodes lt _ _ _ (lineless area_line _ _ _ c.in_err-fields.ensures.none c.in_err-fields.ensures.still))

pub returns-in_err-expect-clause-refused : goal.returns-in_err-expect-clause-refused
returns-in_err-expect-clause-refused c =
    exit-passes c.from_residual-in_err-expect.result _ _ c.from_residual-in_err-expect.ensures.1
    (λ k sigs nodes lt.
    global-misread k c.args.left sigs nodes lt _ _ _
    (misnamed area_line (codes "area") is (λ x. refl) _ _ _ _ _ c.in_ok-fields.ensures.cut c.in_ok-fields.ensures.whole c.in_ok-fields.ensures.counted
    c.in_err-expect.ensures.none.0 c.in_err-expect.ensures.none.1))

pub returns-in_err-area-clause-refused : goal.returns-in_err-area-clause-refused
returns-in_err-area-clause-refused c =
    exit-passes c.from_residual-in_err-area.result _ _ c.from_residual-in_err-area.ensures.1
    (λ k sigs nodes lt.
    global-misread k c.args.left sigs nodes lt _ _ _
    (misfielded area_line (codes "area") is (λ x. refl) _ _ _ _ _ c.in_ok-fields.ensures.cut c.in_ok-fields.ensures.whole c.in_ok-fields.ensures.counted
    c.in_err-area.ensures.none.0 _ c.in_ok-expect.ensures.cut c.in_ok-expect.ensures.ends
    (λ g w e. c.in_err-area.ensures.none.1 g.area (Hex g.first ∷ []) (tt, (w.1.0, tt)) e)))

pub returns-in_err-word-clause-refused : goal.returns-in_err-word-clause-refused
returns-in_err-word-clause-refused c =
    exit-passes c.from_residual-in_err-word.result _ _ c.from_residual-in_err-word.ensures.1
    (λ k sigs nodes lt.
    global-misread k c.args.left sigs nodes lt _ _ _
    (misfielded area_line (codes "area") is (λ x. refl) _ _ _ _ _ c.in_ok-fields.ensures.cut c.in_ok-fields.ensures.whole c.in_ok-fields.ensures.counted
    c.in_err-word.ensures.none.0 _ c.in_ok-expect.ensures.cut c.in_ok-expect.ensures.ends
    (λ g w e.
    c.in_err-word.ensures.none.1 (Hex g.first) [] (w.1.1.0, tt)
    (after-area _ _ c.in_ok-area.area g.area (Hex g.first ∷ []) c.in_ok-area.ensures.small w.1.0 c.in_ok-area.ensures.ends c.in_ok-area.ensures.cut e))))

pub returns-in_err-first-clause-refused : goal.returns-in_err-first-clause-refused
returns-in_err-first-clause-refused c =
    exit-passes c.from_residual-in_err-first.result _ _ c.from_residual-in_err-first.ensures.1
    (λ k sigs nodes lt no.
    let bad = c.in_err-first.ensures.none no in
    global-misread k c.args.left sigs nodes lt _ _ _
    (misfielded area_line (codes "area") is (λ x. refl) _ _ _ _ _ c.in_ok-fields.ensures.cut c.in_ok-fields.ensures.whole c.in_ok-fields.ensures.counted
    bad.0 _ c.in_ok-expect.ensures.cut c.in_ok-expect.ensures.ends
    (λ g w e.
    let left = after-area _ _ c.in_ok-area.area g.area (Hex g.first ∷ []) c.in_ok-area.ensures.small w.1.0 c.in_ok-area.ensures.ends
    c.in_ok-area.ensures.cut e in
    bad.1 g.first w.1.1.0 (sym (field-read _ _ _ (Hex g.first) [] c.in_ok-word.ensures.word w.1.1.0 c.in_ok-word.ensures.cut left).0))) no)

pub returns-in_err-end-clause-refused : goal.returns-in_err-end-clause-refused
returns-in_err-end-clause-refused c =
    exit-passes c.from_residual-in_err-end.result _ _ c.from_residual-in_err-end.ensures.1
    (λ k sigs nodes lt.
    global-misread k c.args.left sigs nodes lt _ _ _
    (misfielded area_line (codes "area") is (λ x. refl) _ _ _ _ _ c.in_ok-fields.ensures.cut c.in_ok-fields.ensures.whole c.in_ok-fields.ensures.counted
    c.in_err-end.ensures.more.0 _ c.in_ok-expect.ensures.cut c.in_ok-expect.ensures.ends
    (λ g w e.
    let left = after-area _ _ c.in_ok-area.area g.area (Hex g.first ∷ []) c.in_ok-area.ensures.small w.1.0 c.in_ok-area.ensures.ends
    c.in_ok-area.ensures.cut e in
    c.in_err-end.ensures.more.1 (field-read _ _ _ (Hex g.first) [] c.in_ok-word.ensures.word w.1.1.0 c.in_ok-word.ensures.cut left).1)))

pub returns-then-area-left-clause-refused : goal.returns-then-area-left-clause-refused
returns-then-area-left-clause-refused c =
    λ k sigs nodes lt.
    let global : GlobalLine = record { area = c.in_ok-area.area; first = c.in_ok-first.first.items } in
    global-over k c.args.left sigs nodes lt _ global _ _ (tt, (c.in_ok-area.ensures.small, (c.in_ok-first.ensures.small, tt))) c.if-area-left.true
    (line-from (area_line global) _ _ _ _ c.in_ok-fields.ensures.cut c.in_ok-expect.ensures.cut
    (global-fields c.in_ok-area.area c.in_ok-first.first.items _ _ _ _ c.in_ok-area.ensures.cut c.in_ok-word.ensures.cut c.in_ok-first.ensures.found
    c.in_ok-end.ensures.ended)) c.in_ok-fields.ensures.counted

pub returns-then-not-fits-clause-refused : goal.returns-then-not-fits-clause-refused
returns-then-not-fits-clause-refused c =
    λ k sigs nodes lt.
    let global : GlobalLine = record { area = c.in_ok-area.area; first = c.in_ok-first.first.items } in
    global-out k c.args.left sigs nodes lt _ global _ _ (tt, (c.in_ok-area.ensures.small, (c.in_ok-first.ensures.small, tt))) c.if-area-left.false
    (λ r.
    let t = c.fits.ensures.1 (subst (λ l. IsGlobalInRange (record { area = c.in_ok-area.area; first = l })) (sym c.deref.ensures.value) r) in
    absurd (cc (t, c.if-not-fits.true)))
    (line-from (area_line global) _ _ _ _ c.in_ok-fields.ensures.cut c.in_ok-expect.ensures.cut
    (global-fields c.in_ok-area.area c.in_ok-first.first.items _ _ _ _ c.in_ok-area.ensures.cut c.in_ok-word.ensures.cut c.in_ok-first.ensures.found
    c.in_ok-end.ensures.ended)) c.in_ok-fields.ensures.counted

pub returns-clause-kept : goal.returns-clause-kept
returns-clause-kept c =
    subst (λ l. IsGlobalInRange (record { area = c.in_ok-area.area; first = l })) c.deref.ensures.value (c.fits.ensures.0 c.if-not-fits.false)

pub returns-clause-read : goal.returns-clause-read
returns-clause-read c =
    λ k sigs nodes lt.
    let global : GlobalLine = record { area = c.in_ok-area.area; first = c.in_ok-first.first.items } in
    global-read k c.args.left sigs nodes lt _ global _ (tt, (c.in_ok-area.ensures.small, (c.in_ok-first.ensures.small, tt))) c.if-area-left.false
    (subst (λ l. IsGlobalInRange (record { area = c.in_ok-area.area; first = l })) c.deref.ensures.value (c.fits.ensures.0 c.if-not-fits.false))
    (line-from (area_line global) _ _ _ _ c.in_ok-fields.ensures.cut c.in_ok-expect.ensures.cut
    (global-fields c.in_ok-area.area c.in_ok-first.first.items _ _ _ _ c.in_ok-area.ensures.cut c.in_ok-word.ensures.cut c.in_ok-first.ensures.found
    c.in_ok-end.ensures.ended)) c.in_ok-fields.ensures.counted
