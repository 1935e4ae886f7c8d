use Rattle.std.proofs.Common.{◌≡◌, ◌+◌, ◌*◌, ◌^◌, ◌<◌, drop}
use Rattle.std.specs.List.{fold}
use Rattle.std.specs.Char.{digit_value}
use Rattle.c_lexer.specs.Numbers.{value_in}
use Rattle.c_lexer.proofs.number.value_in.Given as goal

-- the digits that are left go on from the value so far, which has 64 bits
abbrev pub invariant-loop-digit : goal.invariant-loop-digit
invariant-loop-digit l = record {
  goes_on : value_in l.radix l.digits ≡ fold (λ value digit. value * l.radix + digit_value digit) l.value (drop l.digit-index l.digits);
  fits : l.value < 2 ^ 64;
}
