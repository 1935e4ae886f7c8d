use Rattle.std.proofs.Common.{◌∷◌, [], ◌≡◌, sym, arith}
use Rattle.std.specs.Prelude.{codes}
use Rattle.cured_spelling.specs.Lines.{Number, Form, form_text, fields_text}
use Rattle.cured_reading.specs.Refusals.{IsFew}
use Rattle.cured_reading.proofs.ExitLaws.{exit-passes}
use Rattle.cured_reading.proofs.InstrLaws.{form-each}
use Rattle.cured_reading.proofs.MisreadLaws.{after-two, field-read}
use Rattle.cured_reading.proofs.StraightLaws.{bad-as, ext-none, ext-over, ext-bytes, ext-told}
use Rattle.cured_reading.proofs.WordLaws.{after-field}
use Rattle.cured_reading.proofs.straight.extension.Goals as goal

pub returns-in_err-v-clause-bad : goal.returns-in_err-v-clause-bad
returns-in_err-v-clause-bad c =
    exit-passes c.from_residual.result _ _ c.from_residual.ensures.1
    (λ names few.
    bad-as names (codes "ext") _ _ _ c.in_err-v.ensures.none.0
    (ext-none names _ (λ v a form p q e. c.in_err-v.ensures.none.1 (v, a) (Form form ∷ []) (p, (q, tt)) e)))

pub returns-in_err-word-clause-bad : goal.returns-in_err-word-clause-bad
returns-in_err-word-clause-bad c =
    exit-passes c.from_residual-in_err-word.result _ _ c.from_residual-in_err-word.ensures.1
    (λ names few.
    bad-as names (codes "ext") _ _ _ c.in_err-word.ensures.none.0
    (ext-none names _ (λ v a form p q e.
    c.in_err-word.ensures.none.1 (Form form) [] (tt, tt)
    (after-two _ _ c.in_ok-v.v c.in_ok-v.a v a (Form form ∷ []) c.in_ok-v.ensures.small.0 c.in_ok-v.ensures.small.1 p q c.in_ok-v.ensures.ends
    c.in_ok-v.ensures.cut e))))

pub returns-in_default-clause-bad : goal.returns-in_default-clause-bad
returns-in_default-clause-bad c =
    λ names few.
    ext-none names _ (λ v a form p q e.
    let left = after-two _ _ c.in_ok-v.v c.in_ok-v.a v a (Form form ∷ []) c.in_ok-v.ensures.small.0 c.in_ok-v.ensures.small.1 p q c.in_ok-v.ensures.ends
    c.in_ok-v.ensures.cut e in
    let word = field-read _ _ _ (Form form) [] c.in_ok-word.ensures.word tt c.in_ok-word.ensures.cut left in
    form-each (λ form. form_text form ≡ c.in_ok-word.word.now → ⊥) c.in_default.ensures.none form (sym word.0))

pub returns-in_err-end-clause-bad : goal.returns-in_err-end-clause-bad
returns-in_err-end-clause-bad c =
    exit-passes c.from_residual-in_err-end.result _ _ c.from_residual-in_err-end.ensures.1
    (λ names few.
    bad-as names (codes "ext") _ _ _ c.in_err-end.ensures.more.0
    (ext-none names _ (λ v a form p q e.
    let left = after-two _ _ c.in_ok-v.v c.in_ok-v.a v a (Form form ∷ []) c.in_ok-v.ensures.small.0 c.in_ok-v.ensures.small.1 p q c.in_ok-v.ensures.ends
    c.in_ok-v.ensures.cut e in
    c.in_err-end.ensures.more.1 (field-read _ _ _ (Form form) [] c.in_ok-word.ensures.word tt c.in_ok-word.ensures.cut left).1)))

pub returns-in_err-to-clause-bad : goal.returns-in_err-to-clause-bad
returns-in_err-to-clause-bad c =
    exit-passes c.from_residual-in_err-to.result _ _ c.from_residual-in_err-to.ensures.1
    (λ names few.
    bad-as names (codes "ext") _ _ _ c.in_err-to.ensures.over.0
    (ext-over names _ c.in_ok-v.v c.in_ok-v.a c.in-Some.form c.in_ok-v.ensures.small.0 c.in_ok-v.ensures.small.1
    (ext-bytes _ _ _ _ c.in_ok-v.v c.in_ok-v.a c.in-Some.form c.in_ok-v.ensures.cut c.in_ok-word.ensures.cut c.in-Some.ensures.found c.in_ok-end.ensures.ended)
    few (λ p q. omega (arith, p, c.in_err-to.ensures.over.1))))

pub returns-in_err-from-clause-bad : goal.returns-in_err-from-clause-bad
returns-in_err-from-clause-bad c =
    exit-passes c.from_residual-in_err-from.result _ _ c.from_residual-in_err-from.ensures.1
    (λ names few.
    bad-as names (codes "ext") _ _ _ c.in_err-from.ensures.over.0
    (ext-over names _ c.in_ok-v.v c.in_ok-v.a c.in-Some.form c.in_ok-v.ensures.small.0 c.in_ok-v.ensures.small.1
    (ext-bytes _ _ _ _ c.in_ok-v.v c.in_ok-v.a c.in-Some.form c.in_ok-v.ensures.cut c.in_ok-word.ensures.cut c.in-Some.ensures.found c.in_ok-end.ensures.ended)
    few (λ p q. omega (arith, q, c.in_err-from.ensures.over.1))))

pub returns-clause-line : goal.returns-clause-line
returns-clause-line c =
    ext-told _ c.in_ok-v.v c.in_ok-v.a c.in_ok-to.to c.in_ok-from.from c.in-Some.form c.in_ok-v.ensures.small.0 c.in_ok-v.ensures.small.1
    (ext-bytes _ _ _ _ c.in_ok-v.v c.in_ok-v.a c.in-Some.form c.in_ok-v.ensures.cut c.in_ok-word.ensures.cut c.in-Some.ensures.found c.in_ok-end.ensures.ended)
    c.in_ok-to.ensures.same c.in_ok-from.ensures.same
