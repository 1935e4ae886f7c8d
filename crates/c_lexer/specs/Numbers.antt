-- Numbers: preprocessing numbers (C99 6.4.8), and the values and types of integer constants (C99 6.4.4.1).
use Rattle.std.specs.Prelude.{ℕ, Bool, true, false, ◌||◌, ◌&&◌, not, ◌==◌, nat_lt, nat_le, nat_eq, ◌+◌, ◌*◌, ◌^◌, List, [], ◌∷◌, codes, Option, Some, None, Result, take, drop, length, fold, find, if◌then◌else◌, count_by, option_map, ok_or}
use Rattle.std.specs.List.{starts_with, prefix_len, list_all}
use Rattle.std.specs.Char.{is_ascii_digit, is_ascii_hexdigit, digit_value}
use Rattle.cc_base.specs.declared.fault.Rule.{Rule}
use Rattle.cc_base.specs.declared.fault.Rule.TheVariants.{BadNumber, Unsupported}
use Rattle.c_lexer.specs.Bytes.{is_word_byte, begins_with}
use Rattle.c_lexer.specs.declared.number.IntegerType.{IntegerType}
use Rattle.c_lexer.specs.declared.number.IntegerType.TheVariants.{Int, Unsigned, Long, UnsignedLong}
use Rattle.c_lexer.specs.declared.token.TokenKind.{TokenKind}
use Rattle.c_lexer.specs.declared.token.TokenKind.TheVariants.{Integer}

-- The shape of a number.

abbrev pub is_sign : ℕ → Bool
is_sign b = (b == 43) || (b == 45)

-- `e`, `E`, `p` or `P`
abbrev pub is_exponent_letter : ℕ → Bool
is_exponent_letter b = ((b == 101) || (b == 69)) || ((b == 112) || (b == 80))

-- whether a number that has come to one byte goes on with the next: with a letter, a digit or a point, or with a sign after the letter of an exponent
abbrev pub goes_on : ℕ → ℕ → Bool
goes_on previous b = (is_word_byte b || (b == 46)) || (is_exponent_letter previous && is_sign b)

abbrev pub all_go_on : ℕ → List ℕ → Bool
all_go_on previous [] = true
all_go_on previous (b ∷ rest) = goes_on previous b && all_go_on b rest

-- a digit, or a point and a digit
abbrev pub begins_number : List ℕ → Bool
begins_number [] = false
begins_number (b ∷ rest) = is_ascii_digit b || ((b == 46) && begins_with is_ascii_digit rest)

abbrev pub is_number : List ℕ → Bool
is_number [] = false
is_number (b ∷ rest) = begins_number (b ∷ rest) && all_go_on b rest

-- The value of an integer constant: a prefix, digits and a suffix.

abbrev pub is_hexadecimal : List ℕ → Bool
is_hexadecimal number = starts_with nat_eq number (codes "0x") || starts_with nat_eq number (codes "0X")

abbrev pub radix_of : List ℕ → ℕ
radix_of number = if is_hexadecimal number then 16 else (if starts_with nat_eq number (codes "0") then 8 else 10)

abbrev pub digits_of : List ℕ → List ℕ
digits_of number =
    if is_hexadecimal number then take (prefix_len is_ascii_hexdigit (drop 2 number)) (drop 2 number)
    else take (prefix_len is_ascii_digit number) number

abbrev pub suffix_of : List ℕ → List ℕ
suffix_of number =
    if is_hexadecimal number then drop (prefix_len is_ascii_hexdigit (drop 2 number)) (drop 2 number)
    else drop (prefix_len is_ascii_digit number) number

-- what the digits are worth, the first of them most
abbrev pub value_in : ℕ → List ℕ → ℕ
value_in radix digits = fold (λ value digit. value * radix + digit_value digit) 0 digits

-- the value, where it has at most 64 bits
abbrev pub in_64_bits : ℕ → Option ℕ
in_64_bits value = if nat_lt value (2 ^ 64) then Some value else None

-- there is a digit, and each is below the radix
abbrev pub has_value : ℕ → List ℕ → Bool
has_value radix digits = not (length digits == 0) && list_all (λ digit. nat_lt (digit_value digit) radix) digits

-- one more than the greatest value
abbrev pub limit_of : IntegerType → ℕ
limit_of Int = 2 ^ 31
limit_of Unsigned = 2 ^ 32
limit_of Long = 2 ^ 63
limit_of UnsignedLong = 2 ^ 64

abbrev pub is_unsigned_letter : ℕ → Bool
is_unsigned_letter b = (b == 117) || (b == 85)

abbrev pub is_long_letter : ℕ → Bool
is_long_letter b = (b == 108) || (b == 76)

-- each letter at most once, and no other
abbrev pub is_suffix : List ℕ → Bool
is_suffix suffix =
    (list_all (λ b. is_unsigned_letter b || is_long_letter b) suffix && nat_le (count_by is_unsigned_letter suffix) 1)
    && nat_le (count_by is_long_letter suffix) 1

-- whether a type may be that of a constant: one with `u` has no signed type, one with `l` no short one, and an unsuffixed decimal no unsigned one
abbrev pub may_have : (is_decimal is_unsigned is_long : Bool) → IntegerType → Bool
may_have is_decimal is_unsigned is_long Int = not is_unsigned && not is_long
may_have is_decimal is_unsigned is_long Unsigned = (is_unsigned || not is_decimal) && not is_long
may_have is_decimal is_unsigned is_long Long = not is_unsigned
may_have is_decimal is_unsigned is_long UnsignedLong = is_unsigned || not is_decimal

abbrev pub integer_types : List IntegerType
integer_types = Int ∷ Unsigned ∷ Long ∷ UnsignedLong ∷ []

-- the first of the types that the suffix and the radix allow and that holds the value
abbrev pub type_of : (radix : ℕ) (suffix : List ℕ) (value : ℕ) → Option IntegerType
type_of radix suffix value =
    find (λ type. may_have (radix == 10) (nat_lt 0 (count_by is_unsigned_letter suffix)) (nat_lt 0 (count_by is_long_letter suffix)) type && nat_lt value (limit_of type)) integer_types

-- the type and the value of a number that is an integer constant
abbrev pub integer_of : List ℕ → Option TokenKind
integer_of number =
    if has_value (radix_of number) (digits_of number) && is_suffix (suffix_of number)
    then option_map (λ type. Integer type (value_in (radix_of number) (digits_of number))) (type_of (radix_of number) (suffix_of number) (value_in (radix_of number) (digits_of number)))
    else None

-- Numbers that the language leaves out.

abbrev pub after_run : (ℕ → Bool) → List ℕ → List ℕ
after_run test text = drop (prefix_len test text) text

-- nothing, or one of `f`, `F`, `l` and `L`
abbrev pub is_floating_suffix : List ℕ → Bool
is_floating_suffix [] = true
is_floating_suffix (b ∷ rest) = (((b == 102) || (b == 70)) || is_long_letter b) && (length rest == 0)

abbrev pub after_sign : List ℕ → List ℕ
after_sign text = if begins_with is_sign text then drop 1 text else text

-- a letter, a sign or none, digits, and the suffix of a floating constant
abbrev pub is_exponent : (ℕ → Bool) → List ℕ → Bool
is_exponent letter text =
    begins_with letter text
    && (begins_with is_ascii_digit (after_sign (drop 1 text)) && is_floating_suffix (after_run is_ascii_digit (after_sign (drop 1 text))))

abbrev pub is_decimal_letter : ℕ → Bool
is_decimal_letter b = (b == 101) || (b == 69)

abbrev pub is_binary_letter : ℕ → Bool
is_binary_letter b = (b == 112) || (b == 80)

-- digits with a point among, before or after them, and then an exponent, which a decimal constant may leave out; or digits and an exponent
abbrev pub is_floating_in : (digit letter : ℕ → Bool) (is_decimal : Bool) → List ℕ → Bool
is_floating_in digit letter is_decimal text =
    if begins_with (λ b. b == 46) (after_run digit text)
    then (begins_with digit text || begins_with digit (drop 1 (after_run digit text)))
    && (is_exponent letter (after_run digit (drop 1 (after_run digit text))) || (is_decimal && is_floating_suffix (after_run digit (drop 1 (after_run digit text)))))
    else begins_with digit text && is_exponent letter (after_run digit text)

-- a floating constant (C99 6.4.4.2)
abbrev pub is_floating : List ℕ → Bool
is_floating number =
    if is_hexadecimal number then is_floating_in is_ascii_hexdigit is_binary_letter false (drop 2 number)
    else is_floating_in is_ascii_digit is_decimal_letter true number

-- a suffix of the letters of integer constants with two `l` or more, as in `long long`
abbrev pub has_long_long_suffix : List ℕ → Bool
has_long_long_suffix number =
    list_all (λ b. is_unsigned_letter b || is_long_letter b) (suffix_of number) && nat_lt 1 (count_by is_long_letter (suffix_of number))

-- what a number is: an integer constant, or the rule that refuses it
abbrev pub number_kind : List ℕ → Result TokenKind Rule
number_kind number =
    ok_or (integer_of number) (if is_floating number || has_long_long_suffix number then Unsupported else BadNumber)
