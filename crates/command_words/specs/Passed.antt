-- Which words are read at all.
use Rattle.std.specs.Prelude.{ℕ, List, [], ◌∷◌, Bool, false, not, ◌==◌, ◌&&◌, ◌||◌, bytes_eq, codes}
use Rattle.std.specs.List.{list_all}
use Rattle.command_words.specs.Commands.{sets_turns}

-- the word begins with `-`
abbrev pub is_dashed : List ℕ → Bool
is_dashed [] = false
is_dashed (c ∷ cs) = c == 45

-- A word that begins with `-` is read only where it is the option, or the option and its value.
abbrev pub is_read : List ℕ → Bool
is_read word = not (is_dashed word) || (bytes_eq word (codes "--turns") || sets_turns word)

abbrev pub are_read : List (List ℕ) → Bool
are_read words = list_all is_read words

-- the word is a command's own
abbrev pub is_name : List ℕ → Bool
is_name first = bytes_eq first (codes "run") || (bytes_eq first (codes "kinds")
    || (bytes_eq first (codes "cure") || (bytes_eq first (codes "exec") || bytes_eq first (codes "make"))))

-- The first word is a command's own, and each word behind it is read. Other words are refused without memory.
abbrev pub are_asked : List (List ℕ) → Bool
are_asked [] = false
are_asked (first ∷ words) = is_name first && are_read words
