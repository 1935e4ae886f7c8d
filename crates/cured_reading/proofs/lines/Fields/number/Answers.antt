use Rattle.cured_reading.proofs.PartLaws.{loop-in_range}
use Rattle.cured_reading.proofs.ReadingLaws.{parts-kept}
use Rattle.std.proofs.Common.{◌∙◌, ap, sym, refl}
use Rattle.std.specs.Fmt.{decimal}
use Rattle.cured_spelling.specs.Lines.{Number}
use Rattle.cured_reading.proofs.ExitLaws.{exit-passes}
use Rattle.cured_reading.proofs.MisreadLaws.{field-read}
use Rattle.cured_reading.proofs.WordLaws.{different}
use Rattle.cured_reading.proofs.lines.Fields.number.Goals as goal

pub returns-in_err-field-clause-none : goal.returns-in_err-field-clause-none
returns-in_err-field-clause-none c =
    exit-passes c.from_residual.result _ _ c.from_residual.ensures.1
    (c.in_err-field.ensures.none.0, λ n more w e. c.in_err-field.ensures.none.1 (Number n) more w e)

pub returns-else-eq-clause-none : goal.returns-else-eq-clause-none
returns-else-eq-clause-none c = (
  refl,
  λ n more w e.
      let word = field-read c.args.self.now c.in_ok-field.field.now c.field.new.self (Number n) more c.in_ok-field.ensures.word w.0 c.in_ok-field.ensures.cut e in
      different c.as_bytes.result.now c.in_ok-field.field.now c.if-eq.ensures
      (c.as_bytes.ensures.value ∙ c.format.ensures.text ∙ ap decimal (c.value-n.ensures n w.0 word.0) ∙ sym word.0),
)
