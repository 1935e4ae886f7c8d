-- Tokens as contracts see them.
use Rattle.std.specs.Prelude.{ℕ, List}
use Rattle.cc_base.specs.declared.place.Place.{Place}
use Rattle.c_lexer.specs.declared.token.TokenKind.{TokenKind}

-- what a token is, the bytes that spell it, how many bytes stand before it in the text, and the place of its first byte
pub record Token : Type 0 where
  pub kind : TokenKind
  pub bytes : List ℕ
  pub start : ℕ
  pub place : Place
