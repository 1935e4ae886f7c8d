-- What the words after the program's name ask for.
use Rattle.std.specs.Prelude.{ℕ, List, [], ◌∷◌, Bool, false, not, ◌==◌, nat_eq, bytes_eq, codes, drop, Option, None, Some, option_map, option_and_then, if◌then◌else◌}
use Rattle.std.specs.List.{starts_with}
use Rattle.command_words.specs.Numbers.{number_of}
use Rattle.command_words.specs.declared.command.Action.{Action}
use Rattle.command_words.specs.declared.command.Action.TheVariants.{Kinds, Cure, Run, Exec}

pub data Command : Type 0 where
  -- do this with the file of this name
  OnFile : Action → (name : List ℕ) → Command
  -- generate the program of so many functions and run it
  Make : ℕ → Command

-- the most turns that a run may be given, and those that it has where none are
abbrev pub most_turns : ℕ
most_turns = 1000000000

abbrev pub default_turns : ℕ
default_turns = 1000000

-- the most functions of a generated program
abbrev pub most_functions : ℕ
most_functions = 1000

-- a file's name isn't empty and doesn't begin with `-`
abbrev pub is_file_name : List ℕ → Bool
is_file_name [] = false
is_file_name (c ∷ cs) = not (c == 45)

-- the file of the word
abbrev pub file_of : List ℕ → Option (List ℕ)
file_of word = if is_file_name word then Some word else None

-- a file, and the turns of its run
abbrev pub on_file : (file turns : List ℕ) → Option (List ℕ × ℕ)
on_file file turns = option_and_then (λ name. option_map (λ n. (name, n)) (number_of most_turns turns)) (file_of file)

-- the word is the option and its value
abbrev pub sets_turns : List ℕ → Bool
sets_turns word = starts_with nat_eq word (codes "--turns=")

-- FILE `--turns=N` or `--turns=N` FILE
abbrev pub in_two_words : (a b : List ℕ) → Option (List ℕ × ℕ)
in_two_words a b = if sets_turns a then on_file b (drop 8 a) else (if sets_turns b then on_file a (drop 8 b) else None)

-- FILE `--turns` N or `--turns` N FILE
abbrev pub in_three_words : (a b c : List ℕ) → Option (List ℕ × ℕ)
in_three_words a b c = if bytes_eq a (codes "--turns") then on_file c b else (if bytes_eq b (codes "--turns") then on_file a c else None)

-- The file and the turns that the words behind `run` or `exec` are: FILE, and at most one option, before it or behind it.
abbrev pub running : List (List ℕ) → Option (List ℕ × ℕ)
running [] = None
running (file ∷ []) = option_map (λ name. (name, default_turns)) (file_of file)
running (a ∷ b ∷ []) = in_two_words a b
running (a ∷ b ∷ c ∷ []) = in_three_words a b c
running (a ∷ b ∷ c ∷ d ∷ more) = None

-- the file that the words behind `kinds` or `cure` are
abbrev pub only_file : List (List ℕ) → Option (List ℕ)
only_file [] = None
only_file (file ∷ []) = file_of file
only_file (file ∷ more ∷ words) = None

-- the number that the words behind `make` are
abbrev pub only_number : List (List ℕ) → Option ℕ
only_number [] = None
only_number (n ∷ []) = number_of most_functions n
only_number (n ∷ more ∷ words) = None

-- what the first word asks for with those behind it
abbrev pub asked_by : List ℕ → List (List ℕ) → Option Command
asked_by first words =
    if bytes_eq first (codes "run") then option_map (λ r. OnFile (Run r.1) r.0) (running words)
    else (if bytes_eq first (codes "kinds") then option_map (OnFile Kinds) (only_file words)
    else (if bytes_eq first (codes "cure") then option_map (OnFile Cure) (only_file words)
    else (if bytes_eq first (codes "exec") then option_map (λ r. OnFile (Exec r.1) r.0) (running words)
    else (if bytes_eq first (codes "make") then option_map Make (only_number words)
    else None))))

-- The command that the words are: `run FILE`, `exec FILE`, both with `--turns N` or `--turns=N` before FILE or behind it,
-- `kinds FILE`, `cure FILE` or `make N`. Other words are none.
abbrev pub command_of : List (List ℕ) → Option Command
command_of [] = None
command_of (first ∷ words) = asked_by first words
