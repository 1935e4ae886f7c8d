-- What is read of the words behind a command's own, where memory may be wanted.
use Rattle.std.specs.Prelude.{ℕ, ◌≡◌, List, [], ◌∷◌, Option, None, Some, option_map, Result, Ok, Err, ⊤}
use Rattle.std.specs.Borrow.{Bor}
use Rattle.command_words.specs.Commands.{default_turns, file_of, on_file, only_file, only_number, running}
use Rattle.command_words.specs.declared.fault.WordsFault.{WordsFault}
use Rattle.command_words.specs.declared.fault.WordsFault.TheVariants.{NoCommand, NoMemory}

-- Ok has what is wanted, as it is seen; NoCommand comes exactly where nothing is; else memory was wanted.
abbrev pub Reads : {T U : Type 0} → (T → U) → Option U → Result T WordsFault → Type 0
Reads view wanted (Ok x) = wanted ≡ Some (view x)
Reads view wanted (Err NoCommand) = wanted ≡ None
Reads view wanted (Err NoMemory) = ⊤

-- the words are this one alone, or no command has them
abbrev pub ReadsWord : List (List ℕ) → Result (Bor (List ℕ)) WordsFault → Type 0
ReadsWord words (Ok word) = words ≡ word.now ∷ []
ReadsWord words (Err NoCommand) = (only_file words ≡ None) × (only_number words ≡ None)
ReadsWord words (Err NoMemory) = ⊤

-- the file and the turns of a run, by the words of both
abbrev pub run_of : (file : List ℕ) → Option (List ℕ) → Option (List ℕ × ℕ)
run_of file None = option_map (λ name. (name, default_turns)) (file_of file)
run_of file (Some turns) = on_file file turns

-- the words are a run's with this file and this word of its turns, or no run's
abbrev pub ReadsRun : List (List ℕ) → Result (Bor (List ℕ) × Option (Bor (List ℕ))) WordsFault → Type 0
ReadsRun words (Ok r) = running words ≡ run_of r.0.now (option_map (λ turns. turns.now) r.1)
ReadsRun words (Err NoCommand) = running words ≡ None
ReadsRun words (Err NoMemory) = ⊤
