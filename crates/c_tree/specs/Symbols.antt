-- Tokens as the tree keeps them.
use Rattle.std.specs.Prelude.{ℕ, ℤ, List}
use Rattle.cc_base.specs.declared.place.Place.{Place}
use Rattle.c_lexer.specs.Tokens.{Token}
use Rattle.c_lexer.specs.declared.number.IntegerType.{IntegerType}
use Rattle.c_lexer.specs.declared.word.Keyword.{Keyword}
use Rattle.c_lexer.specs.declared.word.Keyword.TheVariants as keyword
use Rattle.c_lexer.specs.declared.punctuator.Punctuator.{Punctuator}
use Rattle.c_lexer.specs.declared.punctuator.Punctuator.TheVariants as mark
use Rattle.c_lexer.specs.declared.token.TokenKind.{TokenKind}
use Rattle.c_lexer.specs.declared.token.TokenKind.TheVariants as kind
use Rattle.c_tree.specs.declared.leaf.Separator.{Separator}
use Rattle.c_tree.specs.declared.leaf.Separator.TheVariants as separator

-- A token by what the tree keeps of it: of a name and a string literal the bytes, of a constant what it means, and the place.
-- What only closes or separates is kept without its place.
pub data Symbol : Type 0 where
  Name : List ℕ → Place → Symbol
  Integer : IntegerType → ℕ → Place → Symbol
  Character : ℤ → Place → Symbol
  Quoted : List ℕ → Place → Symbol
  Word : Keyword → Place → Symbol
  Mark : Punctuator → Place → Symbol
  Bare : Separator → Symbol

-- `else` and `do` only separate
abbrev pub keyword_symbol : Keyword → Place → Symbol
keyword_symbol keyword.Else place = Bare separator.Else
keyword_symbol keyword.Do place = Bare separator.Do
keyword_symbol word place = Word word place

abbrev pub punctuator_symbol : Punctuator → Place → Symbol
punctuator_symbol mark.CloseParen place = Bare separator.CloseParen
punctuator_symbol mark.CloseBracket place = Bare separator.CloseBracket
punctuator_symbol mark.CloseBrace place = Bare separator.CloseBrace
punctuator_symbol mark.Semicolon place = Bare separator.Semicolon
punctuator_symbol mark.Comma place = Bare separator.Comma
punctuator_symbol mark.Colon place = Bare separator.Colon
punctuator_symbol punctuator place = Mark punctuator place

abbrev pub symbol_of_kind : TokenKind → List ℕ → Place → Symbol
symbol_of_kind (kind.Keyword word) bytes place = keyword_symbol word place
symbol_of_kind kind.Identifier bytes place = Name bytes place
symbol_of_kind (kind.Integer type value) bytes place = Integer type value place
symbol_of_kind (kind.Character value) bytes place = Character value place
symbol_of_kind kind.StringLiteral bytes place = Quoted bytes place
symbol_of_kind (kind.Punctuator punctuator) bytes place = punctuator_symbol punctuator place

-- a token of the lexer
abbrev pub symbol_of : Token → Symbol
symbol_of token = symbol_of_kind token.kind token.bytes token.place
