-- Classes of bytes, and how a list of bytes begins.
use Rattle.std.specs.Prelude.{ℕ, Bool, false, ◌||◌, ◌&&◌, not, ◌==◌, nat_lt, nat_le, List, [], ◌∷◌}
use Rattle.std.specs.Char.{is_ascii_digit, is_ascii_alphabetic}

abbrev pub line_feed : ℕ
line_feed = 10

abbrev pub backslash : ℕ
backslash = 92

-- space, tab, line feed, vertical tab, form feed and carriage return
abbrev pub is_blank : ℕ → Bool
is_blank b = (b == 32) || (nat_le 9 b && nat_le b 13)

-- a letter or `_`
abbrev pub is_letter : ℕ → Bool
is_letter b = is_ascii_alphabetic b || (b == 95)

abbrev pub is_word_byte : ℕ → Bool
is_word_byte b = is_letter b || is_ascii_digit b

abbrev pub is_octal_digit : ℕ → Bool
is_octal_digit b = nat_le 48 b && nat_le b 55

-- `'` or `"`
abbrev pub is_quote : ℕ → Bool
is_quote b = (b == 39) || (b == 34)

-- the bytes that begin no token: control bytes that are no blanks, `$`, `@`, `\`, a backquote, and bytes past ASCII
abbrev pub is_bad_byte : ℕ → Bool
is_bad_byte b = (nat_lt b 32 && not (is_blank b)) || ((b == 36) || ((b == 64) || ((b == backslash) || ((b == 96) || nat_le 127 b))))

-- there is a first byte, and it passes the test
abbrev pub begins_with : (ℕ → Bool) → List ℕ → Bool
begins_with test [] = false
begins_with test (b ∷ rest) = test b
