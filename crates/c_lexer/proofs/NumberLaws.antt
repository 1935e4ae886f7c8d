-- Values of digits that have more than 64 bits.
use Rattle.std.proofs.Common.{◌≡◌, ℕ, ◌+◌, ◌*◌, ◌^◌, ◌<◌, ◌≤◌, List, [], ◌∷◌, Some, None, arith}
use Rattle.std.specs.List.{fold}
use Rattle.std.specs.Char.{digit_value}
use Rattle.std.proofs.lemmas.Bool.Decides.{nat_tests}
use Rattle.c_lexer.specs.Numbers.{in_64_bits}

-- a value is no less than what its first digits are worth
pub fold-le : (radix : ℕ) → 0 < radix → (digits : List ℕ) (value : ℕ) → value ≤ fold (λ v digit. v * radix + digit_value digit) value digits
fold-le radix positive [] value = omega arith
fold-le radix positive (digit ∷ digits) value =
    let grows : value ≤ value * radix = grows_by radix value positive in
    let rest = fold-le radix positive digits (value * radix + digit_value digit) in
    omega (arith, rest)
  where
    grows_by : (r v : ℕ) → 0 < r → v ≤ v * r
    grows_by r v p = grind (arith)

-- what has more than 64 bits at first has so at the end
pub None-in_64_bits : (first total : ℕ) → None ≡ in_64_bits first → first ≤ total → None ≡ in_64_bits total
None-in_64_bits first total lost within = grind (arith, nat_tests)

pub Some-in_64_bits : (value total : ℕ) → value < 2 ^ 64 → total ≡ value → Some value ≡ in_64_bits total
Some-in_64_bits value total fits same = grind (arith, nat_tests)
