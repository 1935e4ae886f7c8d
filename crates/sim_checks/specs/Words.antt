-- Words of 64 bits against integers, and distances on words against distances of pointers.
use Rattle.std.specs.Prelude.{◌≡◌, ℕ, suc, ◌+◌, ◌-◌, ◌*◌, ◌/◌, ◌%◌, ◌^◌, ◌<◌, ◌≤◌, ℤ, pos, negsuc, neg_ℤ, ◌+ℤ◌, ◌-ℤ◌, ◌*ℤ◌, ◌≤ℤ◌, int_lt, int_le, int_div, int_rem, true, not, ◌&&◌, nat_lt, nat_eq}
use Rattle.flat_mem.specs.Bytes.{IsAccessSize}
use Rattle.c_types.specs.Widths.{stair}
use Rattle.integers.specs.Words.{word, residue, as_signed, truth_word}
use Rattle.integers.specs.Operators.{signed, sum_words, difference_words, product_words, quotient_words, quotient_signed, remainder_words, remainder_signed, less_words, less_signed, shifted_left, shifted_right, shifted_down, shifted_signed, low_bits, extended}
use Rattle.check_forms.specs.declared.slots.Direction.{Direction}
use Rattle.check_forms.specs.Conditions.{moved, is_near, is_in_part, is_in_area}
use Rattle.sim_checks.specs.Moving.{steps}

-- an integer that 64 bits of two's complement hold
abbrev pub IsSigned : ℤ → Type 0
IsSigned (pos n) = n < 2 ^ 63
IsSigned (negsuc n) = n < 2 ^ 63

-- Words: an operator gives of the words of integers the word of what it gives of the integers

-- sums and differences, whatever the integers: both wrap
abbrev pub SumsStand : Type 0
SumsStand = (x y : ℤ) → sum_words (word x) (word y) ≡ word (x +ℤ y)

abbrev pub DifferencesStand : Type 0
DifferencesStand = (x y : ℤ) → difference_words (word x) (word y) ≡ word (x -ℤ y)

-- a product with a natural number, as a size
abbrev pub ProductsStand : Type 0
ProductsStand = (x : ℤ) (m : ℕ) → product_words (word x) m ≡ word (x *ℤ pos m)

-- a word is read as the integer that it is the word of, signed and unsigned
abbrev pub ReadingsStand : Type 0
ReadingsStand = ((x : ℤ) → IsSigned x → signed (word x) ≡ x) × ((n : ℕ) → n < 2 ^ 64 → word (pos n) ≡ n)

-- quotients and remainders, unsigned and signed
abbrev pub QuotientsStand : Type 0
QuotientsStand = (a b : ℕ) → a < 2 ^ 64 → b < 2 ^ 64
    → (quotient_words (word (pos a)) (word (pos b)) ≡ a / b) × (remainder_words (word (pos a)) (word (pos b)) ≡ a % b)

abbrev pub SignedQuotientsStand : Type 0
SignedQuotientsStand = (x y : ℤ) → IsSigned x → IsSigned y
    → (quotient_signed (word x) (word y) ≡ word (int_div x y)) × (remainder_signed (word x) (word y) ≡ word (int_rem x y))

-- comparisons, unsigned and signed
abbrev pub ComparisonsStand : Type 0
ComparisonsStand = ((a b : ℕ) → a < 2 ^ 64 → b < 2 ^ 64 → less_words (word (pos a)) (word (pos b)) ≡ truth_word (nat_lt a b))
    × ((x y : ℤ) → IsSigned x → IsSigned y → less_signed (word x) (word y) ≡ truth_word (int_lt x y))

-- shifts: to the left the product with a power of 2, to the right the quotient, rounded down
abbrev pub ShiftsStand : Type 0
ShiftsStand = ((x : ℤ) (k : ℕ) → shifted_left (word x) k ≡ word (x *ℤ pos (2 ^ (k % 64))))
    × ((n k : ℕ) → n < 2 ^ 64 → shifted_right (word (pos n)) k ≡ n / 2 ^ (k % 64))
    × ((x : ℤ) (k : ℕ) → IsSigned x → shifted_signed (word x) k ≡ word (shifted_down x (k % 64)))

-- an integer is narrowed to an unsigned type, and to a signed one, of so many bytes
abbrev pub NarrowingsStand : Type 0
NarrowingsStand = (n : ℕ) → IsAccessSize n
    → ((x : ℤ) → low_bits (8 * n) (word x) ≡ residue x (2 ^ (8 * n))) × ((x : ℤ) → extended (8 * n) (word x) ≡ word (as_signed (8 * n) x))

-- Distances

-- RANGE: a pointer that stands x behind `low` is moved by z elements. The test of how far behind `low` it stands then is on words what it is on
-- integers, wherever that distance and `least` together are an integer of 64 bits.
abbrev pub MovesAreExact : Type 0
MovesAreExact = (way : Direction) (low size : ℕ) (x z : ℤ) (least span : ℕ) → low < 2 ^ 64 → least < 2 ^ 64 → span ≤ 2 ^ 63
    → IsSigned ((x +ℤ steps way z *ℤ pos size) +ℤ pos least)
    → is_near (difference_words (moved way (word (pos low +ℤ x)) (word (z *ℤ pos size))) low) least span
    ≡ (int_le (pos 0) ((x +ℤ steps way z *ℤ pos size) +ℤ pos least) && int_lt ((x +ℤ steps way z *ℤ pos size) +ℤ pos least) (pos span))

-- A distance of q elements and a rest, moved by `a` elements, reaches from b elements before the start to less than b + 1 behind it exactly where
-- its whole elements, rounded down, lie from -b to b.
abbrev pub ElementsAreExact : Type 0
ElementsAreExact = (q a : ℤ) (m r b : ℕ) → r < m
    → (int_le (pos 0) (((q *ℤ pos m +ℤ pos r) +ℤ a *ℤ pos m) +ℤ pos (b * m)) && int_lt (((q *ℤ pos m +ℤ pos r) +ℤ a *ℤ pos m) +ℤ pos (b * m)) (pos (2 * b * m + m)))
    ≡ (int_le (neg_ℤ (pos b)) (q +ℤ a) && int_le (q +ℤ a) (pos b))

-- BOUNDS: m bytes at a lie between two ends
abbrev pub PartsAreExact : Type 0
PartsAreExact = (m a low high : ℤ) → IsSigned m → IsSigned a → IsSigned low → IsSigned (high -ℤ a)
    → is_in_part (word m) (word a) (word low) (word high) ≡ (not (int_lt a low) && not (int_lt (high -ℤ a) m))

-- and a whole element at a distance lies in a part of `length` bytes exactly where it does once both are cured. f r is what the first r of an
-- element's n bytes take once cured, and u r what byte r takes. An element's last byte takes some, and so does the last of n bytes there.
abbrev pub CuredPartsAreExact : Type 0
CuredPartsAreExact = (f u : ℕ → ℕ) (n : ℕ) → 0 < n → f 0 ≡ 0 → ((r : ℕ) → r < n → f (suc r) ≡ f r + u r) → 0 < u (n - 1)
    → (d : ℤ) (length : ℕ) → 0 < u (residue (d +ℤ pos (n - 1)) n)
    → (not (int_lt (stair f n (f n) d) (pos 0)) && not (int_lt (stair f n (f n) (pos length) -ℤ stair f n (f n) d) (pos (f n))))
    ≡ (int_le (pos 0) d && int_le (d +ℤ pos n) (pos length))

-- cured distances are in the order of C's: none goes back where C's goes on
abbrev pub CuredDistancesAreOrdered : Type 0
CuredDistancesAreOrdered = (f u : ℕ → ℕ) (n : ℕ) → 0 < n → f 0 ≡ 0 → ((r : ℕ) → r < n → f (suc r) ≡ f r + u r)
    → (x y : ℤ) → x ≤ℤ y → stair f n (f n) x ≤ℤ stair f n (f n) y

-- SAME: whole elements of m bytes lie between two places: the signed remainder of the words' difference is 0 exactly where the residue of the
-- integers' difference is
abbrev pub RemaindersAreExact : Type 0
RemaindersAreExact = (x y : ℤ) (m : ℕ) → IsSigned (x -ℤ y) → 0 < m → m < 2 ^ 60
    → nat_eq (remainder_signed (difference_words (word x) (word y)) m) 0 ≡ nat_eq (residue (x -ℤ y) m) 0

-- WBOUNDS: m bytes at the distance z lie in an area
abbrev pub AreasAreExact : Type 0
AreasAreExact = (size m : ℕ) (z : ℤ) → size < 2 ^ 40 → m < 2 ^ 40 → int_le (neg_ℤ (pos (2 ^ 41))) z ≡ true → int_le z (pos (2 ^ 41)) ≡ true
    → is_in_area m size (word z) ≡ (int_le (pos 0) z && int_le (z +ℤ pos m) (pos size))

-- ALIGN: from an address that is a multiple of 8
abbrev pub AlignmentsAreExact : Type 0
AlignmentsAreExact = (a : ℕ) (z : ℤ) → a % 8 ≡ 0 → word (pos a +ℤ z) % 8 ≡ residue z 8
