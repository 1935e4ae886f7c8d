-- What justifies how the program reports, also where the outside fails.
use Rattle.std.specs.Prelude.{ℕ, ◌≡◌, ◌≤◌, ◌<◌, true, List, length, Option, None, Some, IfSome}
use Rattle.cc_io.specs.Faults.{Rose}
use Rattle.cc_io.specs.Bytes.{Keeps, Gains, GainsFront}
use Rattle.cured_code.specs.declared.parts.Parts.{Parts}
use Rattle.cured_machine.specs.declared.ending.Ending.{Ending}
use Rattle.cured_machine.specs.Runs.{Outside, IsRun}
use Rattle.command_words.specs.declared.command.Action.{Action}
use Rattle.command_words.specs.Commands.{OnFile, Make, command_of, default_turns}
use Rattle.command_words.specs.Passed.{are_asked}
use Rattle.program_gen.specs.Generated.{generated}
use Rattle.program_answers.specs.declared.verdict.Verdict.{Verdict}
use Rattle.program_answers.specs.declared.verdict.Verdict.TheVariants.{Done, Usage, FileFault, OutputFault, TextTooLong, NoMemory}
use Rattle.program_answers.specs.Verdicts.{line_of, status_of, verdict_of_run}
use Rattle.program_answers.specs.Texts.{Texts, Refuses, IsRefusedWith, IsWrittenOf, IsCodeOf, IsMadeOf, limit_of, turns_of}

-- the files by their names, where they are told; the count of their faults before a run and after it; and then the name in
-- the last call that failed
pub record Filed : Type 0 where
  pub holds : List ℕ → Option (List ℕ)
  pub faults_before : ℕ
  pub faults_after : ℕ
  pub last : Option (List ℕ)

abbrev pub filed : {S : Type 0} → (S → List ℕ → Option (List ℕ)) → (S → ℕ) → (S → Option (List ℕ)) → S → S → Filed
filed holds faults last old new = record { holds = holds old; faults_before = faults old; faults_after = faults new; last = last new }

-- nothing was taken from the input, and nothing written
pub record IsIdle (input output : Outside) : Type 0 where
  pub untaken : Keeps input.before input.after
  pub unwritten : Keeps output.before output.after

-- Why a verdict is given on a text.
pub data IsTextCause (texts : Texts) (action : Action) (text : List ℕ) (input output : Outside) (verdict : Verdict) : Type 0 where
  -- the text is refused
  refused : Refuses texts action text verdict → IsIdle input output → IsTextCause texts action text input output verdict
  -- memory was wanted before anything was read or written
  no_room : verdict ≡ NoMemory → IsIdle input output → IsTextCause texts action text input output verdict
  -- all that was asked for was written
  written : (bytes : List ℕ) → IsWrittenOf texts action text bytes → verdict ≡ Done → Keeps input.before input.after
      → Gains output.before output.after bytes → IsTextCause texts action text input output verdict
  -- a write of it failed, and a front of it was written
  unwritten : (bytes : List ℕ) → IsWrittenOf texts action text bytes → verdict ≡ OutputFault → Keeps input.before input.after
      → Rose output.faults_before output.faults_after → GainsFront output.before output.after bytes
      → IsTextCause texts action text input output verdict
  -- the code ran, and ended so
  ran : (parts : Parts) → IsCodeOf texts action text parts → (ending : Ending) → verdict ≡ verdict_of_run ending
      → IsRun parts (turns_of action) input output ending → IsTextCause texts action text input output verdict

-- Why a verdict is given on the file of a name.
pub data IsFileCause (texts : Texts) (action : Action) (name : List ℕ) (files : Filed) (input output : Outside) (verdict : Verdict) : Type 0 where
  -- the file could not be read
  unread : verdict ≡ FileFault → Rose files.faults_before files.faults_after → files.last ≡ Some name → IsIdle input output
      → IsFileCause texts action name files input output verdict
  -- memory was wanted to read it
  unheld : verdict ≡ NoMemory → IsIdle input output → IsFileCause texts action name files input output verdict
  -- it has too many bytes; where it isn't told, that may be
  too_long : (most : ℕ) → most ≡ limit_of action → IfSome (files.holds name) (λ bytes. most < length bytes) → verdict ≡ TextTooLong most
      → IsIdle input output → IsFileCause texts action name files input output verdict
  -- it has this text; where it isn't told, it may have any
  has_text : (text : List ℕ) → IfSome (files.holds name) (λ bytes. text ≡ bytes) → length text ≤ limit_of action
      → IsTextCause texts action text input output verdict → IsFileCause texts action name files input output verdict

-- These lines were written to the output, and this is what came of it behind them.
pub record IsBehind (lines : List ℕ) (output rest : Outside) : Type 0 where
  pub written : Gains output.before rest.before lines
  pub later : output.faults_before ≤ rest.faults_before
  pub after : rest.after ≡ output.after
  pub faults_after : rest.faults_after ≡ output.faults_after

-- Why a verdict is given on the generated program of n functions.
pub data IsMadeCause (texts : Texts) (n : ℕ) (input output : Outside) (verdict : Verdict) : Type 0 where
  -- its text is refused
  made_refused : IsRefusedWith texts (generated n) verdict → IsIdle input output → IsMadeCause texts n input output verdict
  -- memory was wanted before anything was read or written
  made_no_room : verdict ≡ NoMemory → IsIdle input output → IsMadeCause texts n input output verdict
  -- a write of the lines failed, and a front of them was written
  made_unwritten : (lines : List ℕ) (parts : Parts) → IsMadeOf texts n lines parts → verdict ≡ OutputFault → Keeps input.before input.after
      → Rose output.faults_before output.faults_after → GainsFront output.before output.after lines → IsMadeCause texts n input output verdict
  -- behind the lines the code ran, and ended so
  made_ran : (lines : List ℕ) (parts : Parts) → IsMadeOf texts n lines parts → (ending : Ending) → verdict ≡ verdict_of_run ending
      → (rest : Outside) → IsBehind lines output rest → IsRun parts default_turns input rest ending → IsMadeCause texts n input output verdict

-- Why a verdict is given on the words. The words are judged first, then the file, then the text, then the run. To read words that begin as a
-- command does memory is wanted, whether they are one or not.
pub data IsCause (texts : Texts) (words : List (List ℕ)) (files : Filed) (input output : Outside) (verdict : Verdict) : Type 0 where
  no_command : command_of words ≡ None → verdict ≡ Usage → IsIdle input output → IsCause texts words files input output verdict
  unread_words : are_asked words ≡ true → verdict ≡ NoMemory → IsIdle input output → IsCause texts words files input output verdict
  on_file : (action : Action) (name : List ℕ) → command_of words ≡ Some (OnFile action name)
      → IsFileCause texts action name files input output verdict → IsCause texts words files input output verdict
  on_number : (n : ℕ) → command_of words ≡ Some (Make n) → IsMadeCause texts n input output verdict → IsCause texts words files input output verdict

-- How a verdict is reported, with which status: by its line; or by a front of it, and 6, where a write of the report failed.
pub data IsReported (verdict : Verdict) (report : Outside) (status : ℕ) : Type 0 where
  said : Gains report.before report.after (line_of verdict) → status ≡ status_of verdict → IsReported verdict report status
  unsaid : Rose report.faults_before report.faults_after → GainsFront report.before report.after (line_of verdict) → status ≡ 6
      → IsReported verdict report status

-- What a run of the program does: a verdict is given for its cause, and reported.
pub record IsJudged (texts : Texts) (words : List (List ℕ)) (files : Filed) (input output report : Outside) (status : ℕ) : Type 0 where
  pub verdict : Verdict
  pub cause : IsCause texts words files input output verdict
  pub reported : IsReported verdict report status
