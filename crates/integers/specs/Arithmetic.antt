-- Integers of C's types and their operators (C99 6.5.3.3, 6.5.5 to 6.5.14), by the values that they have. What doesn't fit the
-- type wraps, where C99 leaves it open or says so.
use Rattle.std.specs.Prelude.{ℕ, ◌-◌, ◌*◌, ◌^◌, ℤ, pos, negsuc, ◌+ℤ◌, ◌-ℤ◌, ◌*ℤ◌, neg_ℤ, Bool, true, false, not, ◌&&◌, int_lt, int_le, int_div, int_rem, bit_and, bit_or, bit_xor, if◌then◌else◌}
use Rattle.std.specs.Int.{int_div_euclid}
use Rattle.std.specs.Ordering.{int_eq}
use Rattle.integers.specs.Words.{residue, word, as_unsigned, as_signed}

-- the integer of a truth value
abbrev pub truth : Bool → ℤ
truth true = pos 1
truth false = pos 0

-- an integer type
pub record IntegerType : Type 0 where
  pub bytes : ℕ
  pub signed : Bool

abbrev pub int : IntegerType
int = record { bytes = 4; signed = true }

abbrev pub long : IntegerType
long = record { bytes = 8; signed = true }

abbrev pub unsigned_long : IntegerType
unsigned_long = record { bytes = 8; signed = false }

abbrev pub bits_of : IntegerType → ℕ
bits_of t = 8 * t.bytes

-- an integer converted to a type (C99 6.3.1.3)
abbrev pub converted : IntegerType → ℤ → ℤ
converted t z = if t.signed then as_signed (bits_of t) z else as_unsigned (bits_of t) z

-- the least value of a signed type
abbrev pub least : IntegerType → ℤ
least t = neg_ℤ (pos (2 ^ (bits_of t - 1)))

pub data Operator : Type 0 where
  Add Subtract Multiply Divide Remainder : Operator
  And Or ExclusiveOr ShiftLeft ShiftRight : Operator
  Equal Different Less LessOrEqual Greater GreaterOrEqual : Operator

-- the amount of a shift is taken modulo the width of the left operand's type
abbrev pub shift_amount : IntegerType → ℤ → ℕ
shift_amount t y = residue y (bits_of t)

-- The result of an operator on operands of the type t. A shift is done in the type of its left operand. Division gives the
-- quotient rounded towards zero; a division that has none gives any integer, and is checked before.
abbrev pub computed : Operator → IntegerType → ℤ → ℤ → ℤ
computed Add t x y = converted t (x +ℤ y)
computed Subtract t x y = converted t (x -ℤ y)
computed Multiply t x y = converted t (x *ℤ y)
computed Divide t x y = converted t (int_div x y)
computed Remainder t x y = converted t (int_rem x y)
computed And t x y = converted t (pos (bit_and (word x) (word y)))
computed Or t x y = converted t (pos (bit_or (word x) (word y)))
computed ExclusiveOr t x y = converted t (pos (bit_xor (word x) (word y)))
computed ShiftLeft t x y = converted t (x *ℤ pos (2 ^ shift_amount t y))
computed ShiftRight t x y = converted t (int_div_euclid x (pos (2 ^ shift_amount t y)))
computed Equal t x y = truth (int_eq x y)
computed Different t x y = truth (not (int_eq x y))
computed Less t x y = truth (int_lt x y)
computed LessOrEqual t x y = truth (int_le x y)
computed Greater t x y = truth (int_lt y x)
computed GreaterOrEqual t x y = truth (int_le y x)

-- the operators that divide
abbrev pub divides : Operator → Bool
divides Divide = true
divides Remainder = true
divides operator = false

-- the operators of one operand
pub data UnaryOperator : Type 0 where
  Negate Complement : UnaryOperator

-- the complement of x is -1 - x
abbrev pub computed_alone : UnaryOperator → IntegerType → ℤ → ℤ
computed_alone Negate t x = converted t (neg_ℤ x)
computed_alone Complement t x = converted t (negsuc 0 -ℤ x)

-- the divisor isn't 0, and it isn't the least value of a signed type that is divided by -1
abbrev pub can_divide : IntegerType → ℤ → ℤ → Bool
can_divide t x y = not (int_eq y (pos 0)) && not (t.signed && (int_eq x (least t) && int_eq y (negsuc 0)))
