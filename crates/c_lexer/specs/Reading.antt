-- Reading a text forward: the piece that it begins with. The laws in proofs/ say that this is the one piece that stands there.
use Rattle.std.specs.Prelude.{ℕ, Bool, true, false, ◌&&◌, ◌==◌, nat_eq, ◌+◌, List, [], ◌∷◌, codes, take, drop, length, Option, Some, None, Result, Ok, Err, if◌then◌else◌, find}
use Rattle.std.specs.List.{starts_with, prefix_len}
use Rattle.cc_base.specs.declared.place.Place.{Place}
use Rattle.cc_base.specs.declared.fault.Rule.{Rule}
use Rattle.cc_base.specs.declared.fault.Rule.TheVariants.{BadByte, OpenComment, OpenText, Unsupported}
use Rattle.c_lexer.specs.Bytes.{line_feed, backslash, is_blank, is_letter, is_word_byte, is_quote, begins_with}
use Rattle.c_lexer.specs.Gaps.{line_of, is_line_marker}
use Rattle.c_lexer.specs.Lexemes.{begins_wide_literal}
use Rattle.c_lexer.specs.Literals.{literal_kind}
use Rattle.c_lexer.specs.Numbers.{begins_number, goes_on, number_kind}
use Rattle.c_lexer.specs.Punctuators.{punctuator_spelling, ellipsis}
use Rattle.c_lexer.specs.Tokens.{Token}
use Rattle.c_lexer.specs.Words.{word_kind}
use Rattle.c_lexer.specs.declared.position.Position.{Position}
use Rattle.c_lexer.specs.declared.punctuator.Punctuator.{Punctuator}
use Rattle.c_lexer.specs.declared.punctuator.TheConstants.{PUNCTUATORS}
use Rattle.c_lexer.specs.declared.step.Step.{Step}
use Rattle.c_lexer.specs.declared.token.TokenKind.{TokenKind}
use Rattle.c_lexer.specs.declared.token.TokenKind.TheVariants.{Punctuator as PunctuatorKind}

abbrev pub gap_of : ℕ → Result Step Rule
gap_of size = Ok (record { size = size; kind = None })

abbrev pub token_of : ℕ → Result TokenKind Rule → Result Step Rule
token_of size (Ok kind) = Ok (record { size = size; kind = Some kind })
token_of size (Err rule) = Err rule

-- how many bytes stand before the first `*/` of the text and in it, after those that were passed
abbrev pub comment_end : (passed : ℕ) → List ℕ → Option ℕ
comment_end passed [] = None
comment_end passed (b ∷ rest) = if (b == 42) && begins_with (λ c. c == 47) rest then Some (passed + 2) else comment_end (passed + 1) rest

abbrev pub comment_step : Option ℕ → Result Step Rule
comment_step None = Err OpenComment
comment_step (Some size) = gap_of size

abbrev pub directive_step : List ℕ → Result Step Rule
directive_step line = if is_line_marker line then gap_of (length line) else Err Unsupported

-- how many bytes of a number follow the one before
abbrev pub number_run : ℕ → List ℕ → ℕ
number_run previous [] = 0
number_run previous (b ∷ rest) = if goes_on previous b then 1 + number_run b rest else 0

abbrev pub number_size : List ℕ → ℕ
number_size [] = 0
number_size (b ∷ rest) = 1 + number_run b rest

-- how many bytes of a literal stand before its closing quote and with it, after those that were passed
abbrev pub literal_end : (quote : ℕ) (passed : ℕ) (is_escaped : Bool) → List ℕ → Option ℕ
literal_end quote passed is_escaped [] = None
literal_end quote passed is_escaped (b ∷ rest) =
    if b == line_feed then None
    else (if is_escaped then literal_end quote (passed + 1) false rest
    else (if b == quote then Some (passed + 1) else literal_end quote (passed + 1) (b == backslash) rest))

abbrev pub literal_size : List ℕ → Option ℕ
literal_size [] = None
literal_size (quote ∷ rest) = literal_end quote 1 false rest

abbrev pub literal_step : List ℕ → Option ℕ → Result Step Rule
literal_step text None = Err OpenText
literal_step text (Some size) = token_of size (literal_kind (take size text))

-- the first of the punctuators that the text begins with
abbrev pub punctuator_at : List ℕ → Option Punctuator
punctuator_at text = find (λ each. starts_with nat_eq text (punctuator_spelling each)) PUNCTUATORS

abbrev pub punctuator_step : Option Punctuator → Result Step Rule
punctuator_step None = Err BadByte
punctuator_step (Some found) = Ok (record { size = length (punctuator_spelling found); kind = Some (PunctuatorKind found) })

-- the lexeme that the text begins with
abbrev pub lexeme_at : List ℕ → Result Step Rule
lexeme_at text =
    if begins_with is_letter text then token_of (prefix_len is_word_byte text) (word_kind (take (prefix_len is_word_byte text) text))
    else (if begins_number text then token_of (number_size text) (number_kind (take (number_size text) text))
    else (if begins_with is_quote text then literal_step text (literal_size text)
    else (if starts_with nat_eq text ellipsis then Err Unsupported
    else punctuator_step (punctuator_at text))))

-- the piece that the text begins with, or the rule that refuses it; starts_line says that only blanks stand before on the line
abbrev pub step_at : (starts_line : Bool) → List ℕ → Result Step Rule
step_at starts_line text =
    if begins_with is_blank text then gap_of 1
    else (if starts_with nat_eq text (codes "/*") then comment_step (comment_end 2 (drop 2 text))
    else (if starts_with nat_eq text (codes "//") then gap_of (length (line_of text))
    else (if starts_line && begins_with (λ b. b == 35) text then directive_step (line_of text)
    else (if begins_wide_literal text then Err Unsupported
    else lexeme_at text))))

-- the position after one more byte
abbrev pub next_position : Position → ℕ → Position
next_position position b =
    if b == line_feed then record { place = record { line = position.place.line + 1; col = 1 }; starts_line = true }
    else record { place = record { line = position.place.line; col = position.place.col + 1 }; starts_line = position.starts_line && is_blank b }

-- the token that a piece is, if it is one
abbrev pub token_list : Option TokenKind → (bytes : List ℕ) (start : ℕ) → Place → List Token
token_list None bytes start place = []
token_list (Some kind) bytes start place = record { kind = kind; bytes = bytes; start = start; place = place } ∷ []
