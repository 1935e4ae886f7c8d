-- What lies between tokens: comments and line markers.
use Rattle.std.specs.Prelude.{ℕ, Bool, false, ◌||◌, ◌&&◌, not, ◌==◌, nat_eq, List, [], ◌∷◌, codes, take, drop}
use Rattle.std.specs.List.{starts_with, list_all, position_or_len}
use Rattle.std.specs.Char.{is_ascii_digit}
use Rattle.c_lexer.specs.Bytes.{line_feed, is_blank, begins_with}
use Rattle.c_lexer.specs.Numbers.{after_run}

-- a `*/` stands in the text
abbrev pub has_comment_end : List ℕ → Bool
has_comment_end [] = false
has_comment_end (b ∷ rest) = ((b == 42) && begins_with (λ c. c == 47) rest) || has_comment_end rest

abbrev pub begins_comment : List ℕ → Bool
begins_comment text = starts_with nat_eq text (codes "/*") || starts_with nat_eq text (codes "//")

-- the text up to the end of its line
abbrev pub line_of : List ℕ → List ℕ
line_of text = take (position_or_len (λ b. b == line_feed) text) text

abbrev pub is_marker_name : List ℕ → Bool
is_marker_name text =
    begins_with (λ b. b == 34) text
    && (begins_with (λ b. b == 34) (after_run (λ b. not (b == 34)) (drop 1 text))
    && list_all (λ b. is_blank b || is_ascii_digit b) (drop 1 (after_run (λ b. not (b == 34)) (drop 1 text))))

-- `#`, blanks, digits, blanks, a text in double quotes, and then only blanks and digits
abbrev pub is_line_marker : List ℕ → Bool
is_line_marker line =
    begins_with (λ b. b == 35) line
    && (begins_with is_ascii_digit (after_run is_blank (drop 1 line))
    && is_marker_name (after_run is_blank (after_run is_ascii_digit (after_run is_blank (drop 1 line)))))
