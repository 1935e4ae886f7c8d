-- Words of C99 6.4.1 and 6.4.2: keywords and names.
use Rattle.std.specs.Prelude.{ℕ, Bool, false, ◌&&◌, List, [], ◌∷◌, codes, Option, Result, Ok, Err, find, bytes_eq, if◌then◌else◌}
use Rattle.std.specs.List.{list_all, list_any}
use Rattle.std.specs.Option.{option_map_or}
use Rattle.cc_base.specs.declared.fault.Rule.{Rule}
use Rattle.cc_base.specs.declared.fault.Rule.TheVariants.{Unsupported}
use Rattle.c_lexer.specs.Bytes.{is_letter, is_word_byte}
use Rattle.c_lexer.specs.declared.word.TheConstants.{KEYWORDS}
use Rattle.c_lexer.specs.declared.token.TokenKind.{TokenKind}
use Rattle.c_lexer.specs.declared.token.TokenKind.TheVariants.{Keyword as KeywordKind, Identifier}
use Rattle.c_lexer.specs.declared.word.Keyword.{Keyword}
use Rattle.c_lexer.specs.declared.word.Keyword.TheVariants as keyword

abbrev pub keyword_spelling : Keyword → List ℕ
keyword_spelling keyword.Auto = codes "auto"
keyword_spelling keyword.Break = codes "break"
keyword_spelling keyword.Case = codes "case"
keyword_spelling keyword.Char = codes "char"
keyword_spelling keyword.Const = codes "const"
keyword_spelling keyword.Continue = codes "continue"
keyword_spelling keyword.Default = codes "default"
keyword_spelling keyword.Do = codes "do"
keyword_spelling keyword.Else = codes "else"
keyword_spelling keyword.Enum = codes "enum"
keyword_spelling keyword.Extern = codes "extern"
keyword_spelling keyword.For = codes "for"
keyword_spelling keyword.If = codes "if"
keyword_spelling keyword.Inline = codes "inline"
keyword_spelling keyword.Int = codes "int"
keyword_spelling keyword.Long = codes "long"
keyword_spelling keyword.Register = codes "register"
keyword_spelling keyword.Restrict = codes "restrict"
keyword_spelling keyword.Return = codes "return"
keyword_spelling keyword.Short = codes "short"
keyword_spelling keyword.Signed = codes "signed"
keyword_spelling keyword.Sizeof = codes "sizeof"
keyword_spelling keyword.Static = codes "static"
keyword_spelling keyword.Struct = codes "struct"
keyword_spelling keyword.Switch = codes "switch"
keyword_spelling keyword.Typedef = codes "typedef"
keyword_spelling keyword.Union = codes "union"
keyword_spelling keyword.Unsigned = codes "unsigned"
keyword_spelling keyword.Void = codes "void"
keyword_spelling keyword.Volatile = codes "volatile"
keyword_spelling keyword.While = codes "while"

-- the keywords of C99 that the language leaves out
abbrev pub words_left_out : List (List ℕ)
words_left_out = codes "double" ∷ codes "float" ∷ codes "goto" ∷ codes "_Bool" ∷ codes "_Complex" ∷ codes "_Imaginary" ∷ []

abbrev pub is_word : List ℕ → Bool
is_word [] = false
is_word (b ∷ rest) = is_letter b && list_all is_word_byte rest

abbrev pub keyword_of : List ℕ → Option Keyword
keyword_of word = find (λ each. bytes_eq (keyword_spelling each) word) KEYWORDS

abbrev pub is_left_out : List ℕ → Bool
is_left_out word = list_any (λ each. bytes_eq each word) words_left_out

-- what a word is: a keyword, an identifier, or left out
abbrev pub word_kind : List ℕ → Result TokenKind Rule
word_kind word =
    if is_left_out word then Err Unsupported
    else Ok (option_map_or KeywordKind (keyword_of word) Identifier)
