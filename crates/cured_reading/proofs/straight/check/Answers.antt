use Rattle.std.proofs.Common.{◌∷◌, [], ◌≡◌, sym, arith}
use Rattle.std.specs.Prelude.{codes}
use Rattle.cc_base.specs.Names.{check_name}
use Rattle.cured_spelling.specs.Lines.{Number, Name, fields_text}
use Rattle.cured_reading.proofs.ExitLaws.{exit-passes}
use Rattle.cured_reading.proofs.InstrLaws.{check-each}
use Rattle.cured_reading.proofs.MisreadLaws.{field-read}
use Rattle.cured_reading.proofs.StraightLaws.{bad-as, check-none, check-over, word-bytes, check-told, after-three}
use Rattle.cured_reading.proofs.straight.check.Goals as goal

pub returns-in_err-word-clause-bad : goal.returns-in_err-word-clause-bad
returns-in_err-word-clause-bad c =
    exit-passes c.from_residual.result _ _ c.from_residual.ensures.1
    (λ names few.
    bad-as names (codes "check") _ _ _ c.in_err-word.ensures.none.0
    (check-none names _ (λ x row col a p q r e. c.in_err-word.ensures.none.1 (Name x) (Number row ∷ Number col ∷ Number a ∷ []) (tt, tt) e)))

pub returns-in_default-clause-bad : goal.returns-in_default-clause-bad
returns-in_default-clause-bad c =
    λ names few.
    check-none names _ (λ x row col a p q r e.
    let word = field-read _ _ _ (Name x) (Number row ∷ Number col ∷ Number a ∷ []) c.in_ok-word.ensures.word tt c.in_ok-word.ensures.cut e in
    check-each (λ check. check_name check ≡ c.in_ok-word.word.now → ⊥) c.in_default.ensures.none x (sym word.0))

pub returns-in_err-row-clause-bad : goal.returns-in_err-row-clause-bad
returns-in_err-row-clause-bad c =
    exit-passes c.from_residual-in_err-row.result _ _ c.from_residual-in_err-row.ensures.1
    (λ names few.
    bad-as names (codes "check") _ _ _ c.in_err-row.ensures.none.0
    (check-none names _ (λ x row col a p q r e.
    c.in_err-row.ensures.none.1 (row, col, a) [] (p, (q, (r, tt)))
    (field-read _ _ _ (Name x) (Number row ∷ Number col ∷ Number a ∷ []) c.in_ok-word.ensures.word tt c.in_ok-word.ensures.cut e).1)))

pub returns-in_err-end-clause-bad : goal.returns-in_err-end-clause-bad
returns-in_err-end-clause-bad c =
    exit-passes c.from_residual-in_err-end.result _ _ c.from_residual-in_err-end.ensures.1
    (λ names few.
    bad-as names (codes "check") _ _ _ c.in_err-end.ensures.more.0
    (check-none names _ (λ x row col a p q r e.
    let left = (field-read _ _ _ (Name x) (Number row ∷ Number col ∷ Number a ∷ []) c.in_ok-word.ensures.word tt c.in_ok-word.ensures.cut e).1 in
    c.in_err-end.ensures.more.1
    (after-three _ _ c.in_ok-row.row c.in_ok-row.column c.in_ok-row.a row col a [] c.in_ok-row.ensures.small.0 c.in_ok-row.ensures.small.1 c.in_ok-row.ensures.small.2 p q r c.in_ok-row.ensures.ends c.in_ok-row.ensures.cut left))))

pub returns-in_err-line-clause-bad : goal.returns-in_err-line-clause-bad
returns-in_err-line-clause-bad c =
    exit-passes c.from_residual-in_err-line.result _ _ c.from_residual-in_err-line.ensures.1
    (λ names few.
    bad-as names (codes "check") _ _ _ c.in_err-line.ensures.over.0
    (check-over names _ c.in-Some.check c.in_ok-row.row c.in_ok-row.column c.in_ok-row.a c.in_ok-row.ensures.small.0 c.in_ok-row.ensures.small.1 c.in_ok-row.ensures.small.2
    (word-bytes _ _ _ _ (Name c.in-Some.check) c.in_ok-row.row c.in_ok-row.column c.in_ok-row.a c.in_ok-word.ensures.cut c.in-Some.ensures.found
    c.in_ok-row.ensures.cut c.in_ok-end.ensures.ended) few
    (λ p q r. omega (arith, p, c.in_err-line.ensures.over.1))))

pub returns-in_err-col-clause-bad : goal.returns-in_err-col-clause-bad
returns-in_err-col-clause-bad c =
    exit-passes c.from_residual-in_err-col.result _ _ c.from_residual-in_err-col.ensures.1
    (λ names few.
    bad-as names (codes "check") _ _ _ c.in_err-col.ensures.over.0
    (check-over names _ c.in-Some.check c.in_ok-row.row c.in_ok-row.column c.in_ok-row.a c.in_ok-row.ensures.small.0 c.in_ok-row.ensures.small.1 c.in_ok-row.ensures.small.2
    (word-bytes _ _ _ _ (Name c.in-Some.check) c.in_ok-row.row c.in_ok-row.column c.in_ok-row.a c.in_ok-word.ensures.cut c.in-Some.ensures.found
    c.in_ok-row.ensures.cut c.in_ok-end.ensures.ended) few
    (λ p q r. omega (arith, q, c.in_err-col.ensures.over.1))))

pub returns-in_err-of-clause-bad : goal.returns-in_err-of-clause-bad
returns-in_err-of-clause-bad c =
    exit-passes c.from_residual-in_err-of.result _ _ c.from_residual-in_err-of.ensures.1
    (λ names few.
    bad-as names (codes "check") _ _ _ c.in_err-of.ensures.over.0
    (check-over names _ c.in-Some.check c.in_ok-row.row c.in_ok-row.column c.in_ok-row.a c.in_ok-row.ensures.small.0 c.in_ok-row.ensures.small.1 c.in_ok-row.ensures.small.2
    (word-bytes _ _ _ _ (Name c.in-Some.check) c.in_ok-row.row c.in_ok-row.column c.in_ok-row.a c.in_ok-word.ensures.cut c.in-Some.ensures.found
    c.in_ok-row.ensures.cut c.in_ok-end.ensures.ended) few
    (λ p q r. omega (arith, r, c.in_err-of.ensures.over.1))))

pub returns-clause-line : goal.returns-clause-line
returns-clause-line c =
    check-told _ c.in-Some.check c.in_ok-row.row c.in_ok-row.column c.in_ok-row.a c.in_ok-line.line c.in_ok-col.col c.in_ok-of.of c.in_ok-line.ensures.small c.in_ok-col.ensures.small c.in_ok-row.ensures.small.2
    (word-bytes _ _ _ _ (Name c.in-Some.check) c.in_ok-row.row c.in_ok-row.column c.in_ok-row.a c.in_ok-word.ensures.cut c.in-Some.ensures.found
    c.in_ok-row.ensures.cut c.in_ok-end.ensures.ended) c.in_ok-line.ensures.same c.in_ok-col.ensures.same c.in_ok-of.ensures.same
