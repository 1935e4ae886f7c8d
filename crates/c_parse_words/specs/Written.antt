-- Which symbols stand for tokens.
use Rattle.std.specs.Prelude.{◌≡◌, ℕ, List, Ok}
use Rattle.cc_base.specs.declared.place.Place.{Place}
use Rattle.c_lexer.specs.Lexemes.{lexeme_kind}
use Rattle.c_lexer.specs.declared.token.TokenKind.{TokenKind}
use Rattle.c_tree.specs.Symbols.{Symbol, symbol_of_kind}

-- The symbol is that of some bytes which are an allowed token.
pub record IsWritten (symbol : Symbol) : Type 0 where
  pub bytes : List ℕ
  pub kind : TokenKind
  pub place : Place
  pub is_token : lexeme_kind bytes ≡ Ok kind
  pub is_symbol : symbol_of_kind kind bytes place ≡ symbol
