-- What the statuses say, one by one.
use Rattle.std.specs.Prelude.{ℕ, ◌≡◌, ◌≤◌, true, List, [], ◌++◌, length, Option, Some, ◌⊎◌, IfSome}
use Rattle.cc_io.specs.Faults.{Rose}
use Rattle.cc_io.specs.Bytes.{Takes, Gains}
use Rattle.runs.specs.Input.{Open}
use Rattle.cured_code.specs.declared.parts.Parts.{Parts}
use Rattle.cured_code.specs.FlatState.{Wants}
use Rattle.cured_code.specs.FlatMachine.{flat_run}
use Rattle.cured_machine.specs.Runs.{Outside}
use Rattle.command_words.specs.declared.command.Action.{Action}
use Rattle.command_words.specs.Commands.{OnFile, Make, command_of, default_turns}
use Rattle.command_words.specs.Passed.{are_asked}
use Rattle.program_answers.specs.declared.verdict.Verdict.TheVariants.{FileFault, InputFault, NoMemory}
use Rattle.program_answers.specs.Verdicts.{line_of, status_of}
use Rattle.program_answers.specs.Texts.{Texts, IsCodeOf, IsMadeOf, limit_of, turns_of}
use Rattle.program_answers.specs.Answers.{Answer, IsAnswerTo}
use Rattle.program_answers.specs.Causes.{Filed, IsIdle}

abbrev pub FaultsRose : Outside → Type 0
FaultsRose o = Rose o.faults_before o.faults_after

abbrev pub FilesFailed : Filed → Type 0
FilesFailed files = Rose files.faults_before files.faults_after

-- what is written, the report and the status are those of the answer to the words, the files and all that the input held
pub record GivesAnswer (texts : Texts) (words : List (List ℕ)) (files : Filed) (input output report : Outside) (status : ℕ) : Type 0 where
  pub bytes : List ℕ
  pub held : IfSome input.before (λ held. held ≡ bytes)
  pub answer : Answer
  pub is_answer : IsAnswerTo texts words files.holds bytes answer
  pub written : Gains output.before output.after answer.output
  pub reported : Gains report.before report.after (line_of answer.verdict)
  pub ended : status ≡ status_of answer.verdict

-- a call for the file of the words failed; nothing is read or written, and the report says so
pub record IsUnread (texts : Texts) (words : List (List ℕ)) (files : Filed) (input output report : Outside) : Type 0 where
  pub action : Action
  pub name : List ℕ
  pub command : command_of words ≡ Some (OnFile action name)
  pub rose : FilesFailed files
  pub last : files.last ≡ Some name
  pub idle : IsIdle input output
  pub reported : Gains report.before report.after (line_of FileFault)

-- The words ask for a run of this code with so many turns, behind these lines: the code of a file's text, or that of a generated program.
pub data IsAskedRun (texts : Texts) (words : List (List ℕ)) (holds : List ℕ → Option (List ℕ)) (lines : List ℕ) (parts : Parts) (turns : ℕ)
    : Type 0 where
  of_file : (action : Action) (name text : List ℕ) → command_of words ≡ Some (OnFile action name) → IfSome (holds name) (λ bytes. text ≡ bytes)
      → length text ≤ limit_of action → IsCodeOf texts action text parts → lines ≡ [] → turns ≡ turns_of action
      → IsAskedRun texts words holds lines parts turns
  of_number : (n : ℕ) → command_of words ≡ Some (Make n) → IsMadeOf texts n lines parts → turns ≡ default_turns
      → IsAskedRun texts words holds lines parts turns

-- A read of the input failed while code ran that the words ask for. The bytes that were taken make it want more; its lines and all its
-- output were written, and the report says so.
pub record IsCutOff (texts : Texts) (words : List (List ℕ)) (files : Filed) (input output report : Outside) : Type 0 where
  pub lines : List ℕ
  pub parts : Parts
  pub turns : ℕ
  pub asked : IsAskedRun texts words files.holds lines parts turns
  pub failed : FaultsRose input
  pub taken : List ℕ
  pub takes : Takes input.before input.after taken
  pub wants_more : (flat_run parts (Open taken) turns).ending ≡ Wants
  pub written : Gains output.before output.after (lines ++ (flat_run parts (Open taken) turns).output)
  pub reported : Gains report.before report.after (line_of InputFault)

-- memory was wanted, and the words begin as a command does; nothing is read or written, and the report says so
pub record IsOutOfMemory (texts : Texts) (words : List (List ℕ)) (input output report : Outside) : Type 0 where
  pub asked : are_asked words ≡ true
  pub idle : IsIdle input output
  pub reported : Gains report.before report.after (line_of NoMemory)

-- Each status has its cause. 3: the file could not be read. 5: a read of the input failed. 6: a count of the output or of the report
-- rose. 9: memory was wanted. Every other status is the answer's, also where a count rose.
abbrev pub HasCause : Texts → List (List ℕ) → Filed → Outside → Outside → Outside → ℕ → Type 0
HasCause texts words files input output report status =
    ((status ≡ 3) × IsUnread texts words files input output report)
    ⊎ (((status ≡ 5) × IsCutOff texts words files input output report)
    ⊎ (((status ≡ 6) × (FaultsRose output ⊎ FaultsRose report))
    ⊎ (((status ≡ 9) × IsOutOfMemory texts words input output report)
    ⊎ GivesAnswer texts words files input output report status)))
