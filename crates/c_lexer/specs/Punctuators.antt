-- Punctuators of C99 6.4.6, without digraphs.
use Rattle.std.specs.Prelude.{ℕ, Bool, ◌||◌, List, codes, Option, is_some, option_map, ok_or, Result, find, bytes_eq}
use Rattle.cc_base.specs.declared.fault.Rule.{Rule}
use Rattle.cc_base.specs.declared.fault.Rule.TheVariants.{Unsupported}
use Rattle.c_lexer.specs.declared.punctuator.TheConstants.{PUNCTUATORS}
use Rattle.c_lexer.specs.declared.token.TokenKind.{TokenKind}
use Rattle.c_lexer.specs.declared.token.TokenKind.TheVariants.{Punctuator as PunctuatorKind}
use Rattle.c_lexer.specs.declared.punctuator.Punctuator.{Punctuator}
use Rattle.c_lexer.specs.declared.punctuator.Punctuator.TheVariants as mark

abbrev pub punctuator_spelling : Punctuator → List ℕ
punctuator_spelling mark.ShiftLeftEqual = codes "<<="
punctuator_spelling mark.ShiftRightEqual = codes ">>="
punctuator_spelling mark.Arrow = codes "->"
punctuator_spelling mark.PlusPlus = codes "++"
punctuator_spelling mark.MinusMinus = codes "--"
punctuator_spelling mark.ShiftLeft = codes "<<"
punctuator_spelling mark.ShiftRight = codes ">>"
punctuator_spelling mark.LessEqual = codes "<="
punctuator_spelling mark.GreaterEqual = codes ">="
punctuator_spelling mark.EqualEqual = codes "=="
punctuator_spelling mark.NotEqual = codes "!="
punctuator_spelling mark.AndAnd = codes "&&"
punctuator_spelling mark.OrOr = codes "||"
punctuator_spelling mark.StarEqual = codes "*="
punctuator_spelling mark.SlashEqual = codes "/="
punctuator_spelling mark.PercentEqual = codes "%="
punctuator_spelling mark.PlusEqual = codes "+="
punctuator_spelling mark.MinusEqual = codes "-="
punctuator_spelling mark.AndEqual = codes "&="
punctuator_spelling mark.CaretEqual = codes "^="
punctuator_spelling mark.OrEqual = codes "|="
punctuator_spelling mark.HashHash = codes "##"
punctuator_spelling mark.OpenBracket = codes "["
punctuator_spelling mark.CloseBracket = codes "]"
punctuator_spelling mark.OpenParen = codes "("
punctuator_spelling mark.CloseParen = codes ")"
punctuator_spelling mark.OpenBrace = codes "{"
punctuator_spelling mark.CloseBrace = codes "}"
punctuator_spelling mark.Dot = codes "."
punctuator_spelling mark.And = codes "&"
punctuator_spelling mark.Star = codes "*"
punctuator_spelling mark.Plus = codes "+"
punctuator_spelling mark.Minus = codes "-"
punctuator_spelling mark.Tilde = codes "~"
punctuator_spelling mark.Not = codes "!"
punctuator_spelling mark.Slash = codes "/"
punctuator_spelling mark.Percent = codes "%"
punctuator_spelling mark.Less = codes "<"
punctuator_spelling mark.Greater = codes ">"
punctuator_spelling mark.Caret = codes "^"
punctuator_spelling mark.Or = codes "|"
punctuator_spelling mark.Question = codes "?"
punctuator_spelling mark.Colon = codes ":"
punctuator_spelling mark.Semicolon = codes ";"
punctuator_spelling mark.Equal = codes "="
punctuator_spelling mark.Comma = codes ","
punctuator_spelling mark.Hash = codes "#"

-- `...` is a punctuator of C99 that the language leaves out
abbrev pub ellipsis : List ℕ
ellipsis = codes "..."

abbrev pub punctuator_of : List ℕ → Option Punctuator
punctuator_of bytes = find (λ each. bytes_eq (punctuator_spelling each) bytes) PUNCTUATORS

abbrev pub is_punctuator : List ℕ → Bool
is_punctuator bytes = bytes_eq ellipsis bytes || is_some (punctuator_of bytes)

-- what a punctuator is: a token, or left out
abbrev pub punctuator_kind : List ℕ → Result TokenKind Rule
punctuator_kind bytes = ok_or (option_map PunctuatorKind (punctuator_of bytes)) Unsupported
