-- Numbers that words spell.
use Rattle.std.specs.Prelude.{ℕ, List, [], ◌∷◌, Bool, ◌&&◌, nat_le, nat_lt, ◌+◌, ◌*◌, ◌-◌, Option, None, Some, if◌then◌else◌}

-- a decimal digit
abbrev pub is_digit : ℕ → Bool
is_digit c = nat_le 48 c && nat_le c 57

-- The number that n and the digits behind it spell, if it is from 1 to `most`. It never falls as digits follow, so it may be compared at each.
abbrev pub digits_from : (most n : ℕ) → List ℕ → Option ℕ
digits_from most n [] = if nat_lt 0 n then Some n else None
digits_from most n (c ∷ cs) = if is_digit c && nat_le (n * 10 + (c - 48)) most then digits_from most (n * 10 + (c - 48)) cs else None

-- The number from 1 to `most` that a word spells: one or more decimal digits, leading zeros allowed.
abbrev pub number_of : (most : ℕ) → List ℕ → Option ℕ
number_of most word = digits_from most 0 word
