-- The characters of a literal.
use Rattle.std.proofs.Common.{◌≡◌, ◌∙◌, ℕ, zero, suc, List, [], ◌∷◌, drop, refl, ap, sym}
use Rattle.c_lexer.specs.Literals.{characters, escape_value, escape_size}
use Rattle.c_lexer.specs.Bytes.{backslash}
use Rattle.c_lexer.specs.declared.literal.Character.{Character}

-- bytes that are skipped don't count
pub characters-drop : (skipped : ℕ) (text : List ℕ) → characters skipped text ≡ characters 0 (drop skipped text)
characters-drop zero [] = refl
characters-drop zero (b ∷ rest) = refl
characters-drop (suc skipped) [] = refl
characters-drop (suc skipped) (b ∷ rest) = characters-drop skipped rest

-- a backslash begins an escape, and the next character stands after it
pub characters-escape : (text rest after : List ℕ) (value : Character) → text ≡ backslash ∷ rest → value ≡ escape_value rest → after ≡ drop (escape_size rest) rest → characters 0 text ≡ value ∷ characters 0 after
characters-escape text rest after value text_is value_is after_is =
    ap (characters 0) text_is
    ∙ ap (λ v. v ∷ characters (escape_size rest) rest) (sym value_is)
    ∙ ap (λ l. value ∷ l) (characters-drop (escape_size rest) rest)
    ∙ ap (λ l. value ∷ characters 0 l) (sym after_is)
