-- What `run` answers, by the meaning of C itself.
use Rattle.std.specs.Prelude.{ℕ, ◌≡◌, ◌<◌, ◌≤◌, ◌⊎◌, List, length, IfSome}
use Rattle.cc_base.specs.Kinds.{kind_at}
use Rattle.flat_mem.specs.Bytes.{AreBytes}
use Rattle.runs.specs.Input.{Closed}
use Rattle.c_tree.specs.TypedStatementViews.{typed_unit_view}
use Rattle.c_tree.specs.declared.typed_unit.Typed.{Typed}
use Rattle.src_mem.specs.State as source
use Rattle.src_mem.specs.Runs.{SourceOutcome}
use Rattle.src_machine.specs.Machine.{source_run}
use Rattle.cil_form.specs.declared.program.Program.{Program}
use Rattle.kind_solver.specs.declared.solved.Solved.{Solved}
use Rattle.sim_laws.specs.Plain.{IsPlainProgram}
use Rattle.sim_laws.specs.PlainKinds.{ArePlainKinds}
use Rattle.c_build.specs.Inferred.{IsInferred}
use Rattle.cured_machine.specs.Runs.{Outside}
use Rattle.cc_io.specs.Bytes.{Gains}
use Rattle.program_answers.specs.declared.verdict.Verdict.{Verdict}
use Rattle.program_answers.specs.declared.verdict.Verdict.TheVariants.{Exited, Stopped, OutOfTurns, TextTooLong}
use Rattle.program_answers.specs.Answers.{Answer, silent}
use Rattle.program_answers.specs.Causes.{Filed}
use Rattle.program_answers.specs.Texts.{IsRefusedWith, text_limit}
use Rattle.program_answers.specs.Verdicts.{line_of, status_of}
use Rattle.program_top.specs.Made.{texts}

-- the run of a typed unit by the meaning of C, under its kinds, over an input of these bytes
abbrev pub unit_run : Typed → Solved → (bytes : List ℕ) (turns : ℕ) → SourceOutcome
unit_run t s bytes turns = source_run (typed_unit_view t.unit) t.types (kind_at s.kinds) (Closed bytes) turns

-- how an ending of the C program is reported
abbrev pub IsVerdictOf : source.Ending → Verdict → Type 0
IsVerdictOf (source.Exited n) verdict = verdict ≡ Exited n
IsVerdictOf (source.Stopped check place) verdict = verdict ≡ Stopped check place
IsVerdictOf source.Turns verdict = verdict ≡ OutOfTurns
IsVerdictOf other verdict = ⊥

-- the answer is what the C program writes, and how it ends
pub record IsAnswerOf (run : SourceOutcome) (answer : Answer) : Type 0 where
  pub output : answer.output ≡ run.output
  pub verdict : IsVerdictOf run.ending answer.verdict

-- the kinds make the code plain, as they do where each of its nodes is SAFE or SEQ
abbrev pub IsPlainBy : Program → Solved → Type 0
IsPlainBy p s = IsPlainProgram p (kind_at s.kinds) ⊎ ArePlainKinds p.nodes (kind_at s.kinds)

-- THE ANSWER TO A TEXT OF C over an input of these bytes: it is too long; or it isn't, and is refused, or runs; and where its kinds make its code
-- plain, it runs as the meaning of C says.
pub data IsSourceAnswer (text bytes : List ℕ) (turns : ℕ) (answer : Answer) : Type 0 where
  too_long : text_limit < length text → answer ≡ silent (TextTooLong text_limit) → IsSourceAnswer text bytes turns answer
  refused : length text ≤ text_limit → (verdict : Verdict) → IsRefusedWith texts text verdict → answer ≡ silent verdict → IsSourceAnswer text bytes turns answer
  runs : length text ≤ text_limit → (typed : Typed) (code : Program) (solved : Solved) → IsInferred text typed code solved
      → (IsPlainBy code solved → AreBytes bytes → IsAnswerOf (unit_run typed solved bytes turns) answer)
      → IsSourceAnswer text bytes turns answer

-- What is written, the report and the status are those of the answer to the file's text over all that the input held. Where the file isn't told,
-- it may have any text.
pub record GivesSourceAnswer (name : List ℕ) (turns : ℕ) (files : Filed) (input output report : Outside) (status : ℕ) : Type 0 where
  pub bytes : List ℕ
  pub held : IfSome input.before (λ held. held ≡ bytes)
  pub text : List ℕ
  pub is_text : IfSome (files.holds name) (λ bytes. text ≡ bytes)
  pub answer : Answer
  pub is_answer : IsSourceAnswer text bytes turns answer
  pub written : Gains output.before output.after answer.output
  pub reported : Gains report.before report.after (line_of answer.verdict)
  pub ended : status ≡ status_of answer.verdict
