use Rattle.std.proofs.Common.{◌∷◌, [], ◌∙◌, sym, refl}
use Rattle.cured_spelling.specs.Lines.{Tag, Number}
use Rattle.cured_reading.proofs.ExitLaws.{exit-passes}
use Rattle.cured_reading.proofs.MisreadLaws.{field-read}
use Rattle.cured_reading.proofs.sections.area.Goals as goal

pub returns-in_err-letter-clause-none : goal.returns-in_err-letter-clause-none
returns-in_err-letter-clause-none c =
    exit-passes c.from_residual.result _ _ c.from_residual.ensures.1
    (c.in_err-letter.ensures.none.0, λ area more w e. c.in_err-letter.ensures.none.1 (Tag area.tagged) (Number area.bytes ∷ more) (tt, tt) e)

pub returns-in_err-bytes-clause-none : goal.returns-in_err-bytes-clause-none
returns-in_err-bytes-clause-none c =
    exit-passes c.from_residual-in_err-bytes.result _ _ c.from_residual-in_err-bytes.ensures.1 (
      c.in_err-bytes.ensures.none.0,
      λ area more w e.
          c.in_err-bytes.ensures.none.1 area.bytes more (w.1.0, tt)
          (field-read _ _ _ (Tag area.tagged) (Number area.bytes ∷ more) c.in_ok-letter.ensures.word tt c.in_ok-letter.ensures.cut e).1,
    )

pub returns-in_default-clause-none : goal.returns-in_default-clause-none
returns-in_default-clause-none c = (
  refl,
  λ area more w e.
      let word = field-read _ _ _ (Tag area.tagged) (Number area.bytes ∷ more) c.in_ok-letter.ensures.word tt c.in_ok-letter.ensures.cut e in
      c.in_default.ensures.none area.tagged (sym word.0),
)
