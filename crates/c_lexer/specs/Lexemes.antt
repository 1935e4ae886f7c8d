-- Lexemes: the preprocessing tokens of C99 6.4, without header names, wide literals and digraphs. A lexeme is an allowed token, or a rule refuses it.
use Rattle.std.specs.Prelude.{◌≡◌, ℕ, Bool, false, ◌||◌, nat_eq, List, ◌∷◌, ◌++◌, codes, Result, IsTrue, if◌then◌else◌}
use Rattle.std.specs.List.{starts_with}
use Rattle.cc_base.specs.declared.fault.Rule.{Rule}
use Rattle.c_lexer.specs.Literals.{is_literal, literal_kind}
use Rattle.c_lexer.specs.Numbers.{is_number, number_kind}
use Rattle.c_lexer.specs.Punctuators.{is_punctuator, punctuator_kind}
use Rattle.c_lexer.specs.Words.{is_word, word_kind}
use Rattle.c_lexer.specs.declared.token.TokenKind.{TokenKind}

abbrev pub is_lexeme : List ℕ → Bool
is_lexeme bytes = (is_word bytes || is_number bytes) || (is_literal bytes || is_punctuator bytes)

abbrev pub lexeme_kind : List ℕ → Result TokenKind Rule
lexeme_kind bytes =
    if is_word bytes then word_kind bytes
    else (if is_number bytes then number_kind bytes
    else (if is_literal bytes then literal_kind bytes
    else punctuator_kind bytes))

-- no longer lexeme begins where these bytes begin
abbrev pub IsLongest : (bytes after : List ℕ) → Type 0
IsLongest bytes after = (b : ℕ) (more rest : List ℕ) → after ≡ b ∷ (more ++ rest) → is_lexeme (bytes ++ b ∷ more) ≡ false

-- a lexeme stands at the beginning of the text, as long as possible
pub record Begins (text lexeme after : List ℕ) : Type 0 where
  pub whole : text ≡ lexeme ++ after
  pub is_one : IsTrue (is_lexeme lexeme)
  pub longest : IsLongest lexeme after

-- an `L` right before a quote begins a wide literal
abbrev pub begins_wide_literal : List ℕ → Bool
begins_wide_literal text = starts_with nat_eq text (codes "L'") || starts_with nat_eq text (codes "L\"")
