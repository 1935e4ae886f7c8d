-- The operators of a machine on words of 64 bits. Sums, differences, products and shifts wrap; the signed ones work on
-- the integers that the words hold (C99 6.5.5 to 6.5.8).
use Rattle.std.specs.Prelude.{ℕ, ℤ, pos, negsuc, ◌+◌, ◌-◌, ◌*◌, ◌/◌, ◌%◌, ◌^◌, Bool, not, ◌&&◌, nat_eq, nat_lt, int_lt, int_div, int_rem}
use Rattle.integers.specs.Words.{word, as_signed, truth_word}

-- the greatest word, which is also that of -1
abbrev pub greatest_word : ℕ
greatest_word = 2 ^ 64 - 1

-- the integer that a word holds in two's complement
abbrev pub signed : ℕ → ℤ
signed a = as_signed 64 (pos a)

abbrev pub sum_words : ℕ → ℕ → ℕ
sum_words a b = (a + b) % 2 ^ 64

-- a less b, where b is a word
abbrev pub difference_words : ℕ → ℕ → ℕ
difference_words a b = (a + (2 ^ 64 - b)) % 2 ^ 64

abbrev pub product_words : ℕ → ℕ → ℕ
product_words a b = (a * b) % 2 ^ 64

-- shifts by b modulo 64

abbrev pub shifted_left : ℕ → ℕ → ℕ
shifted_left a b = (a * 2 ^ (b % 64)) % 2 ^ 64

abbrev pub shifted_right : ℕ → ℕ → ℕ
shifted_right a b = a / 2 ^ (b % 64)

-- an integer divided by 2^k and rounded down
abbrev pub shifted_down : ℤ → ℕ → ℤ
shifted_down (pos n) k = pos (n / 2 ^ k)
shifted_down (negsuc n) k = negsuc (n / 2 ^ k)

abbrev pub shifted_signed : ℕ → ℕ → ℕ
shifted_signed a b = word (shifted_down (signed a) (b % 64))

-- quotients and remainders, the signed ones rounded towards zero

abbrev pub quotient_words : ℕ → ℕ → ℕ
quotient_words a b = a / b

abbrev pub remainder_words : ℕ → ℕ → ℕ
remainder_words a b = a % b

abbrev pub quotient_signed : ℕ → ℕ → ℕ
quotient_signed a b = word (int_div (signed a) (signed b))

abbrev pub remainder_signed : ℕ → ℕ → ℕ
remainder_signed a b = word (int_rem (signed a) (signed b))

-- tests

abbrev pub less_words : ℕ → ℕ → ℕ
less_words a b = truth_word (nat_lt a b)

abbrev pub less_signed : ℕ → ℕ → ℕ
less_signed a b = truth_word (int_lt (signed a) (signed b))

-- the low bits of a word, with zeros above or with copies of the highest of them

abbrev pub low_bits : ℕ → ℕ → ℕ
low_bits bits a = a % 2 ^ bits

abbrev pub extended : ℕ → ℕ → ℕ
extended bits a = word (as_signed bits (pos a))

-- a signed division has a result: the divisor isn't 0, and it isn't the least integer by -1
abbrev pub can_divide_signed : ℕ → ℕ → Bool
can_divide_signed a b = not (nat_eq b 0) && not (nat_eq a (2 ^ 63) && nat_eq b greatest_word)
