-- Rows of words, read from the tokens that are left: string literals (C99 6.5.1), the words of an array part, stars (6.7.5).
use Rattle.std.specs.Prelude.{List, [], ◌∷◌, ◌++◌, Option, Some, None, is_some}
use Rattle.parse_rules.specs.Parsers.{Parser, pure, refuse, skip, by_first, loop, ◌>>=◌, ◌>>◌}
use Rattle.c_tree.specs.declared.leaf.Star.{Star}
use Rattle.c_tree.specs.declared.leaf.StringPiece.{StringPiece}
use Rattle.c_tree.specs.declared.leaf.Word.{Word}
use Rattle.c_tree.specs.Symbols.{Symbol}
use Rattle.c_parse_words.specs.Tests.{star_sign, string_piece, qualifier_word, array_word}

-- the token that tells x
unfoldable pub take : {X : Type 0} → (Option Symbol → Option X) → Parser Symbol X
take tells = by_first tells taken
  where
    taken : {X : Type 0} → Option X → Parser Symbol X
    taken (Some x) = skip >> pure x
    taken None = refuse

unfoldable pub next_piece : List StringPiece → Parser Symbol (List StringPiece)
next_piece pieces = do
  piece ← take string_piece
  pure (pieces ++ piece ∷ [])

unfoldable pub next_array_word : List Word → Parser Symbol (List Word)
next_array_word words = do
  word ← take (array_word words)
  pure (words ++ word ∷ [])

unfoldable pub next_qualifier : List Word → Parser Symbol (List Word)
next_qualifier words = do
  word ← take qualifier_word
  pure (words ++ word ∷ [])

unfoldable pub star_step : List Star → Parser Symbol (List Star)
star_step stars = do
  at ← take star_sign
  qualifiers ← loop (λ _ next. is_some (qualifier_word next)) next_qualifier []
  pure (stars ++ record { place = at; qualifiers = qualifiers } ∷ [])
