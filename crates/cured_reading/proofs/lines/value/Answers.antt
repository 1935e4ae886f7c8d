use Rattle.std.proofs.Common.{◌≡◌, ◌≤◌, ◌∙◌, ap, sym, drop, length, arith}
use Rattle.std.proofs.Math.Seq.{drop-length}
use Rattle.cured_reading.proofs.NumberLaws.{value_of, value-decimal}
use Rattle.cured_reading.proofs.lines.value.Goals as goal

pub returns : goal.returns
returns c = λ n small e.
    let at : c.loop-digit.digit-index ≡ length c.args.digits.now = omega (arith, c.loop-digit-test.false, c.loop-digit.auto.digit-index-end) in
    ap (λ l. value_of c.loop-digit.value l) (sym (ap (λ k. drop k c.args.digits.now) at ∙ drop-length c.args.digits.now))
    ∙ c.loop-digit.invariant ∙ ap (value_of 0) e ∙ value-decimal n small
