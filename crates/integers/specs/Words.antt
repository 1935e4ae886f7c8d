-- Integers, and the machine words that they are kept in. A word of 64 bits is a natural number below 2^64; an integer
-- is kept as its residue, so that a negative one has the word of two's complement (C99 6.2.6.2).
use Rattle.std.specs.Prelude.{ℕ, ℤ, pos, negsuc, ◌-◌, ◌%◌, ◌^◌, Bool, true, false, nat_lt, nat_eq, if◌then◌else◌}

-- the natural number below m that is z modulo m
abbrev pub residue : ℤ → ℕ → ℕ
residue (pos n) m = n % m
residue (negsuc n) m = m - 1 - n % m

-- the word of 64 bits that holds an integer
abbrev pub word : ℤ → ℕ
word z = residue z (2 ^ 64)

-- an integer converted to an unsigned type of so many bits (C99 6.3.1.3)
abbrev pub as_unsigned : ℕ → ℤ → ℤ
as_unsigned bits z = pos (residue z (2 ^ bits))

-- the integer that `bits` bits of two's complement hold as the number r
abbrev pub signed_of : ℕ → ℕ → ℤ
signed_of bits r = if nat_lt r (2 ^ (bits - 1)) then pos r else negsuc (2 ^ bits - 1 - r)

-- an integer converted to a signed type of so many bits (C99 6.3.1.3: it wraps, as gcc has it)
abbrev pub as_signed : ℕ → ℤ → ℤ
as_signed bits z = signed_of bits (residue z (2 ^ bits))

-- the word of a truth value
abbrev pub truth_word : Bool → ℕ
truth_word true = 1
truth_word false = 0

-- the tests that give words: equal, not equal
abbrev pub equal_words : ℕ → ℕ → ℕ
equal_words a b = truth_word (nat_eq a b)

abbrev pub different_words : ℕ → ℕ → ℕ
different_words a b = truth_word (if nat_eq a b then false else true)

-- whether a word stands for true: it isn't zero (C99 6.8.4.1)
abbrev pub is_true_word : ℕ → Bool
is_true_word a = if nat_eq a 0 then false else true

-- the low byte of a word
abbrev pub low_byte : ℕ → ℕ
low_byte a = a % 256
