-- What the program answers to words, files and input where nothing fails: what it writes, and how it reports.
use Rattle.std.specs.Prelude.{ℕ, ◌≡◌, ◌≤◌, ◌<◌, List, [], ◌++◌, length, Option, None, Some, IfSome}
use Rattle.runs.specs.Input.{Closed}
use Rattle.cured_code.specs.declared.parts.Parts.{Parts}
use Rattle.cured_code.specs.FlatMachine.{flat_run}
use Rattle.cured_machine.specs.declared.ending.Ending.{Ending}
use Rattle.cured_machine.specs.Runs.{IsEnding}
use Rattle.command_words.specs.declared.command.Action.{Action}
use Rattle.command_words.specs.Commands.{OnFile, Make, command_of, default_turns}
use Rattle.program_gen.specs.Generated.{generated}
use Rattle.program_answers.specs.declared.verdict.Verdict.{Verdict}
use Rattle.program_answers.specs.declared.verdict.Verdict.TheVariants.{Done, Usage, TextTooLong}
use Rattle.program_answers.specs.Verdicts.{verdict_of_run}
use Rattle.program_answers.specs.Texts.{Texts, Refuses, IsRefusedWith, IsWrittenOf, IsCodeOf, IsMadeOf, limit_of, turns_of}

-- what is written to the output, and how the run is reported
pub record Answer : Type 0 where
  pub output : List ℕ
  pub verdict : Verdict

-- nothing is written to the output
abbrev pub silent : Verdict → Answer
silent verdict = record { output = []; verdict = verdict }

-- a program of these parts ends so over an input, by its meaning
abbrev pub Ends : Parts → (input : List ℕ) (turns : ℕ) → Ending → Type 0
Ends parts input turns ending = IsEnding ending (flat_run parts (Closed input) turns).ending

-- what it writes then, behind these lines, and the report of its ending
abbrev pub answer_of_run : (lines : List ℕ) → Parts → (input : List ℕ) (turns : ℕ) → Ending → Answer
answer_of_run lines parts input turns ending = record {
  output = lines ++ (flat_run parts (Closed input) turns).output;
  verdict = verdict_of_run ending;
}

-- The answer to a text over an input.
pub data IsTextAnswer (texts : Texts) (action : Action) (text input : List ℕ) (answer : Answer) : Type 0 where
  refused : (verdict : Verdict) → Refuses texts action text verdict → answer ≡ silent verdict → IsTextAnswer texts action text input answer
  writes : (bytes : List ℕ) → IsWrittenOf texts action text bytes → answer ≡ record { output = bytes; verdict = Done }
      → IsTextAnswer texts action text input answer
  -- the code runs, and ends so
  runs : (parts : Parts) → IsCodeOf texts action text parts → (ending : Ending) → Ends parts input (turns_of action) ending
      → answer ≡ answer_of_run [] parts input (turns_of action) ending → IsTextAnswer texts action text input answer

-- The answer to a file, whose text may be too long.
pub data IsFileAnswer (texts : Texts) (action : Action) (text input : List ℕ) (answer : Answer) : Type 0 where
  too_long : (most : ℕ) → most ≡ limit_of action → most < length text → answer ≡ silent (TextTooLong most)
      → IsFileAnswer texts action text input answer
  has_text : length text ≤ limit_of action → IsTextAnswer texts action text input answer → IsFileAnswer texts action text input answer

-- The answer to the generated program of n functions over an input: two lines, and then what it writes.
pub data IsMadeAnswer (texts : Texts) (n : ℕ) (input : List ℕ) (answer : Answer) : Type 0 where
  made_refused : (verdict : Verdict) → IsRefusedWith texts (generated n) verdict → answer ≡ silent verdict → IsMadeAnswer texts n input answer
  made_runs : (lines : List ℕ) (parts : Parts) → IsMadeOf texts n lines parts → (ending : Ending) → Ends parts input default_turns ending
      → answer ≡ answer_of_run lines parts input default_turns ending → IsMadeAnswer texts n input answer

-- The answer to the words, the files and the input: a word on their use where the words are no command; else the answer to the text of
-- the file that they name, or to the program of so many functions. Where a file isn't told, it may have any text.
pub data IsAnswerTo (texts : Texts) (words : List (List ℕ)) (holds : List ℕ → Option (List ℕ)) (input : List ℕ) (answer : Answer) : Type 0 where
  no_command : command_of words ≡ None → answer ≡ silent Usage → IsAnswerTo texts words holds input answer
  of_file : (action : Action) (name text : List ℕ) → command_of words ≡ Some (OnFile action name) → IfSome (holds name) (λ bytes. text ≡ bytes)
      → IsFileAnswer texts action text input answer → IsAnswerTo texts words holds input answer
  of_number : (n : ℕ) → command_of words ≡ Some (Make n) → IsMadeAnswer texts n input answer → IsAnswerTo texts words holds input answer
