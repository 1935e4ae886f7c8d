use Rattle.std.proofs.Common.{◌∷◌, [], ◌≡◌, sym, arith}
use Rattle.std.specs.Prelude.{codes}
use Rattle.cured_spelling.specs.Lines.{Number, Tag, fields_text}
use Rattle.cured_reading.proofs.ExitLaws.{exit-passes}
use Rattle.cured_reading.proofs.MisreadLaws.{field-read}
use Rattle.cured_reading.proofs.StraightLaws.{bad-as, new-none, new-over, word-bytes, new-told, after-three}
use Rattle.cured_reading.proofs.straight.block.Goals as goal

pub returns-in_err-letter-clause-bad : goal.returns-in_err-letter-clause-bad
returns-in_err-letter-clause-bad c =
    exit-passes c.from_residual.result _ _ c.from_residual.ensures.1
    (λ names few.
    bad-as names (codes "new") _ _ _ c.in_err-letter.ensures.none.0
    (new-none names _ (λ x v n s p q r e. c.in_err-letter.ensures.none.1 (Tag x) (Number v ∷ Number n ∷ Number s ∷ []) (tt, tt) e)))

pub returns-in_default-clause-bad : goal.returns-in_default-clause-bad
returns-in_default-clause-bad c =
    λ names few.
    new-none names _ (λ x v n s p q r e.
    let word = field-read _ _ _ (Tag x) (Number v ∷ Number n ∷ Number s ∷ []) c.in_ok-letter.ensures.word tt c.in_ok-letter.ensures.cut e in
    c.in_default.ensures.none x (sym word.0))

pub returns-in_err-v-clause-bad : goal.returns-in_err-v-clause-bad
returns-in_err-v-clause-bad c =
    exit-passes c.from_residual-in_err-v.result _ _ c.from_residual-in_err-v.ensures.1
    (λ names few.
    bad-as names (codes "new") _ _ _ c.in_err-v.ensures.none.0
    (new-none names _ (λ x v n s p q r e.
    c.in_err-v.ensures.none.1 (v, n, s) [] (p, (q, (r, tt)))
    (field-read _ _ _ (Tag x) (Number v ∷ Number n ∷ Number s ∷ []) c.in_ok-letter.ensures.word tt c.in_ok-letter.ensures.cut e).1)))

pub returns-in_err-end-clause-bad : goal.returns-in_err-end-clause-bad
returns-in_err-end-clause-bad c =
    exit-passes c.from_residual-in_err-end.result _ _ c.from_residual-in_err-end.ensures.1
    (λ names few.
    bad-as names (codes "new") _ _ _ c.in_err-end.ensures.more.0
    (new-none names _ (λ x v n s p q r e.
    let left = (field-read _ _ _ (Tag x) (Number v ∷ Number n ∷ Number s ∷ []) c.in_ok-letter.ensures.word tt c.in_ok-letter.ensures.cut e).1 in
    c.in_err-end.ensures.more.1
    (after-three _ _ c.in_ok-v.v c.in_ok-v.n c.in_ok-v.s v n s [] c.in_ok-v.ensures.small.0 c.in_ok-v.ensures.small.1 c.in_ok-v.ensures.small.2 p q r c.in_ok-v.ensures.ends c.in_ok-v.ensures.cut left))))

pub returns-in_err-to-clause-bad : goal.returns-in_err-to-clause-bad
returns-in_err-to-clause-bad c =
    exit-passes c.from_residual-in_err-to.result _ _ c.from_residual-in_err-to.ensures.1
    (λ names few.
    bad-as names (codes "new") _ _ _ c.in_err-to.ensures.over.0
    (new-over names _ c.in-Some.tagged c.in_ok-v.v c.in_ok-v.n c.in_ok-v.s c.in_ok-v.ensures.small.0 c.in_ok-v.ensures.small.1 c.in_ok-v.ensures.small.2
    (word-bytes _ _ _ _ (Tag c.in-Some.tagged) c.in_ok-v.v c.in_ok-v.n c.in_ok-v.s c.in_ok-letter.ensures.cut c.in-Some.ensures.found
    c.in_ok-v.ensures.cut c.in_ok-end.ensures.ended) few
    (λ p q r. omega (arith, p, c.in_err-to.ensures.over.1))))

pub returns-in_err-bytes-clause-bad : goal.returns-in_err-bytes-clause-bad
returns-in_err-bytes-clause-bad c =
    exit-passes c.from_residual-in_err-bytes.result _ _ c.from_residual-in_err-bytes.ensures.1
    (λ names few.
    bad-as names (codes "new") _ _ _ c.in_err-bytes.ensures.over.0
    (new-over names _ c.in-Some.tagged c.in_ok-v.v c.in_ok-v.n c.in_ok-v.s c.in_ok-v.ensures.small.0 c.in_ok-v.ensures.small.1 c.in_ok-v.ensures.small.2
    (word-bytes _ _ _ _ (Tag c.in-Some.tagged) c.in_ok-v.v c.in_ok-v.n c.in_ok-v.s c.in_ok-letter.ensures.cut c.in-Some.ensures.found
    c.in_ok-v.ensures.cut c.in_ok-end.ensures.ended) few
    (λ p q r. omega (arith, q, c.in_err-bytes.ensures.over.1))))

pub returns-in_err-charge-clause-bad : goal.returns-in_err-charge-clause-bad
returns-in_err-charge-clause-bad c =
    exit-passes c.from_residual-in_err-charge.result _ _ c.from_residual-in_err-charge.ensures.1
    (λ names few.
    bad-as names (codes "new") _ _ _ c.in_err-charge.ensures.over.0
    (new-over names _ c.in-Some.tagged c.in_ok-v.v c.in_ok-v.n c.in_ok-v.s c.in_ok-v.ensures.small.0 c.in_ok-v.ensures.small.1 c.in_ok-v.ensures.small.2
    (word-bytes _ _ _ _ (Tag c.in-Some.tagged) c.in_ok-v.v c.in_ok-v.n c.in_ok-v.s c.in_ok-letter.ensures.cut c.in-Some.ensures.found
    c.in_ok-v.ensures.cut c.in_ok-end.ensures.ended) few
    (λ p q r. omega (arith, r, c.in_err-charge.ensures.over.1))))

pub returns-clause-line : goal.returns-clause-line
returns-clause-line c =
    new-told _ c.in-Some.tagged c.in_ok-v.v c.in_ok-v.n c.in_ok-v.s c.in_ok-to.to c.in_ok-bytes.bytes c.in_ok-charge.charge c.in_ok-v.ensures.small.0 c.in_ok-v.ensures.small.1 c.in_ok-v.ensures.small.2
    (word-bytes _ _ _ _ (Tag c.in-Some.tagged) c.in_ok-v.v c.in_ok-v.n c.in_ok-v.s c.in_ok-letter.ensures.cut c.in-Some.ensures.found
    c.in_ok-v.ensures.cut c.in_ok-end.ensures.ended) c.in_ok-to.ensures.same c.in_ok-bytes.ensures.same c.in_ok-charge.ensures.same
