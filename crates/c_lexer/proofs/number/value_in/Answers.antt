use Rattle.std.proofs.Common.{◌<◌, ◌+◌, ◌*◌, suc, length, drop, get_or, arith}
use Rattle.std.specs.Char.{digit_value}
use Rattle.std.proofs.lemmas.Grind.{common_steps}
use Rattle.std.proofs.Math.Seq.{drop-cons}
use Rattle.c_lexer.proofs.NumberLaws.{fold-le, None-in_64_bits, Some-in_64_bits}
use Rattle.c_lexer.proofs.number.value_in.Goals as goal

pub returns-in-None : goal.returns-in-None
returns-in-None c =
    let i = c.loop-digit.digit-index in
    let digits = c.args.digits.now in
    let inside : i < length digits = omega arith in
    None-in_64_bits _ _ c.in-None.ensures
    (rw (c.loop-digit.invariant.goes_on, drop-cons digits i 0) (fold-le c.args.radix (omega arith) (drop (suc i) digits) (c.loop-digit.value * c.args.radix + digit_value (get_or digits i 0))))

pub returns : goal.returns
returns c = Some-in_64_bits _ _ c.loop-digit.invariant.fits (grind (arith, common_steps, c.loop-digit.invariant.goes_on))
