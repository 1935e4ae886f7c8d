-- Character constants (C99 6.4.4.4) and string literals (C99 6.4.5).
use Rattle.std.specs.Prelude.{ℕ, zero, suc, Bool, true, false, ◌||◌, ◌&&◌, not, ◌==◌, nat_lt, ◌+◌, ◌-◌, List, [], ◌∷◌, Option, Some, None, Result, Ok, Err, take, drop, length, if◌then◌else◌, pos, ◌-ℤ◌, ℤ, unwrap_or}
use Rattle.std.specs.List.{prefix_len, list_any, flat_map}
use Rattle.std.specs.Char.{is_ascii_hexdigit}
use Rattle.cc_base.specs.declared.fault.Rule.{Rule}
use Rattle.cc_base.specs.declared.fault.Rule.TheVariants.{BadNumber, Unsupported}
use Rattle.c_lexer.specs.Bytes.{line_feed, backslash, is_octal_digit, is_quote, begins_with}
use Rattle.c_lexer.specs.Numbers.{value_in}
use Rattle.c_lexer.specs.declared.literal.Character.{Character}
use Rattle.c_lexer.specs.declared.literal.Character.TheVariants.{Byte, Bad, Universal}
use Rattle.c_lexer.specs.declared.token.TokenKind.{TokenKind}
use Rattle.c_lexer.specs.declared.token.TokenKind.TheVariants.{Character as CharacterKind, StringLiteral}

-- The shape of a literal.

-- the rest of a literal ends with the quote, on the line, and no quote before it stands without a backslash; is_escaped says that a backslash stands before the rest
abbrev pub closes : (quote : ℕ) (is_escaped : Bool) → List ℕ → Bool
closes quote is_escaped [] = false
closes quote is_escaped (b ∷ rest) =
    not (b == line_feed)
    && (if is_escaped then closes quote false rest else (if b == quote then length rest == 0 else closes quote (b == backslash) rest))

abbrev pub is_literal : List ℕ → Bool
is_literal [] = false
is_literal (quote ∷ rest) = is_quote quote && closes quote false rest

-- The characters of a literal.

-- what `\` and a letter stand for
abbrev pub simple_escape : ℕ → Option ℕ
simple_escape b =
    if b == 39 then Some 39 else (if b == 34 then Some 34 else (if b == 63 then Some 63 else (if b == backslash then Some backslash
    else (if b == 97 then Some 7 else (if b == 98 then Some 8 else (if b == 102 then Some 12 else (if b == 110 then Some 10
    else (if b == 114 then Some 13 else (if b == 116 then Some 9 else (if b == 118 then Some 11 else None))))))))))

abbrev pub byte_or_bad : ℕ → Character
byte_or_bad value = if nat_lt value 256 then Byte value else Bad

-- at most three octal digits
abbrev pub octal_digits : List ℕ → List ℕ
octal_digits text = take (prefix_len is_octal_digit (take 3 text)) text

abbrev pub hexadecimal_digits : List ℕ → List ℕ
hexadecimal_digits text = take (prefix_len is_ascii_hexdigit text) text

-- what the bytes after a backslash stand for
abbrev pub escape_value : List ℕ → Character
escape_value [] = Bad
escape_value (b ∷ rest) =
    if is_octal_digit b then byte_or_bad (value_in 8 (octal_digits (b ∷ rest)))
    else (if b == 120 then (if begins_with is_ascii_hexdigit rest then byte_or_bad (value_in 16 (hexadecimal_digits rest)) else Bad)
    else (if (b == 117) || (b == 85) then Universal
    else byte_or_bad (unwrap_or (simple_escape b) 256)))

-- how many bytes after a backslash belong to its escape
abbrev pub escape_size : List ℕ → ℕ
escape_size [] = 0
escape_size (b ∷ rest) =
    if is_octal_digit b then length (octal_digits (b ∷ rest))
    else (if b == 120 then 1 + length (hexadecimal_digits rest) else 1)

-- the bytes between the quotes, as characters; skipped bytes belong to the escape before them
abbrev pub characters : (skipped : ℕ) → List ℕ → List Character
characters skipped [] = []
characters zero (b ∷ rest) =
    if b == backslash then escape_value rest ∷ characters (escape_size rest) rest else Byte b ∷ characters 0 rest
characters (suc skipped) (b ∷ rest) = characters skipped rest

-- the bytes of a literal between its quotes
abbrev pub between_quotes : List ℕ → List ℕ
between_quotes literal = take (length literal - 2) (drop 1 literal)

abbrev pub characters_of : List ℕ → List Character
characters_of literal = characters 0 (between_quotes literal)

abbrev pub is_universal : Character → Bool
is_universal (Byte value) = false
is_universal Bad = false
is_universal Universal = true

abbrev pub is_bad : Character → Bool
is_bad (Byte value) = false
is_bad Bad = true
is_bad Universal = false

-- the value of a byte as a signed char
abbrev pub signed_value : ℕ → ℤ
signed_value byte = if nat_lt byte 128 then pos byte else pos byte -ℤ pos 256

-- what a character constant without universal names is: one character has a value, several are left out
abbrev pub constant_kind : List Character → Result TokenKind Rule
constant_kind [] = Err BadNumber
constant_kind (Byte value ∷ []) = Ok (CharacterKind (signed_value value))
constant_kind (Bad ∷ []) = Err BadNumber
constant_kind (Universal ∷ []) = Err Unsupported
constant_kind (first ∷ second ∷ rest) = Err Unsupported

-- what a literal is: a character constant, a string literal, or the rule that refuses it
abbrev pub literal_kind : List ℕ → Result TokenKind Rule
literal_kind literal =
    if list_any is_universal (characters_of literal) then Err Unsupported
    else (if begins_with (λ b. b == 39) literal then constant_kind (characters_of literal)
    else (if list_any is_bad (characters_of literal) then Err BadNumber else Ok StringLiteral))

-- the byte of a character that has one
abbrev pub bytes_of : Character → List ℕ
bytes_of (Byte value) = value ∷ []
bytes_of Bad = []
bytes_of Universal = []

-- the bytes that a string literal holds
abbrev pub literal_bytes : List ℕ → List ℕ
literal_bytes literal = flat_map bytes_of (characters_of literal)
