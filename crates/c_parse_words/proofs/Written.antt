-- The symbols with which a begun part is completed stand for tokens.
use Rattle.std.proofs.Common.{[], ◌∷◌, refl}
use Rattle.cc_base.specs.declared.place.Place.{Place}
use Rattle.c_lexer.specs.declared.word.Keyword.TheVariants as keyword
use Rattle.c_lexer.specs.declared.punctuator.Punctuator.TheVariants as mark
use Rattle.c_lexer.specs.declared.token.TokenKind.TheVariants as kind
use Rattle.c_tree.specs.declared.leaf.Separator.TheVariants as separator
use Rattle.c_tree.specs.Symbols.{Word, Mark, Bare}
use Rattle.c_parse_words.specs.Written.{IsWritten}

pub some_place : Place
some_place = record { line = 1; col = 1 }

pub written_close_paren : IsWritten (Bare separator.CloseParen)
written_close_paren = record { bytes = 41 ∷ []; kind = kind.Punctuator mark.CloseParen; place = some_place; is_token = refl; is_symbol = refl }

pub written_close_bracket : IsWritten (Bare separator.CloseBracket)
written_close_bracket = record { bytes = 93 ∷ []; kind = kind.Punctuator mark.CloseBracket; place = some_place; is_token = refl; is_symbol = refl }

pub written_close_brace : IsWritten (Bare separator.CloseBrace)
written_close_brace = record { bytes = 125 ∷ []; kind = kind.Punctuator mark.CloseBrace; place = some_place; is_token = refl; is_symbol = refl }

pub written_semicolon : IsWritten (Bare separator.Semicolon)
written_semicolon = record { bytes = 59 ∷ []; kind = kind.Punctuator mark.Semicolon; place = some_place; is_token = refl; is_symbol = refl }

pub written_comma : IsWritten (Bare separator.Comma)
written_comma = record { bytes = 44 ∷ []; kind = kind.Punctuator mark.Comma; place = some_place; is_token = refl; is_symbol = refl }

pub written_colon : IsWritten (Bare separator.Colon)
written_colon = record { bytes = 58 ∷ []; kind = kind.Punctuator mark.Colon; place = some_place; is_token = refl; is_symbol = refl }

pub written_int : (place : Place) → IsWritten (Word keyword.Int place)
written_int place = record { bytes = 105 ∷ 110 ∷ 116 ∷ []; kind = kind.Keyword keyword.Int; place = place; is_token = refl; is_symbol = refl }

pub written_open_bracket : (place : Place) → IsWritten (Mark mark.OpenBracket place)
written_open_bracket place = record { bytes = 91 ∷ []; kind = kind.Punctuator mark.OpenBracket; place = place; is_token = refl; is_symbol = refl }

pub written_open_brace : (place : Place) → IsWritten (Mark mark.OpenBrace place)
written_open_brace place = record { bytes = 123 ∷ []; kind = kind.Punctuator mark.OpenBrace; place = place; is_token = refl; is_symbol = refl }
