-- What is made of a text, as far as answers speak of it. The program gives these relations; the laws of this crate hold for any.
use Rattle.std.specs.Prelude.{ℕ, ◌≡◌, ◌≢◌, List, length}
use Rattle.cc_base.specs.declared.kind.Kind.{Kind}
use Rattle.cc_base.specs.declared.fault.Fault.{Fault}
use Rattle.cc_base.specs.declared.fault.Fault.TheVariants as refusal
use Rattle.cured_code.specs.declared.parts.Parts.{Parts}
use Rattle.cured_spelling.specs.Spelling.{cured_spelling}
use Rattle.cured_reading.specs.declared.wrong.CuredFault.{CuredFault}
use Rattle.cured_reading.specs.declared.wrong.CuredFault.TheVariants as uncured
use Rattle.command_words.specs.declared.command.Action.{Action}
use Rattle.command_words.specs.declared.command.Action.TheVariants.{Kinds, Cure, Run, Exec}
use Rattle.program_answers.specs.declared.verdict.Verdict.{Verdict}
use Rattle.program_answers.specs.declared.summary.Summary.{Summary}
use Rattle.program_answers.specs.Summaries.{pointers_in, summary_lines}
use Rattle.program_answers.specs.Verdicts.{verdict_of_fault, verdict_of_cured_fault}
use Rattle.program_gen.specs.Generated.{generated}

pub record Texts : Type 1 where
  -- the text of C is accepted, and cured to these parts
  pub IsCured : (text : List ℕ) → Parts → Type 0
  -- it is accepted, and its kinds are written so
  pub HasKinds : (text lines : List ℕ) → Type 0
  -- it is accepted, and so many of its pointer types are of each kind
  pub HasPointers : (text : List ℕ) → (Kind → ℕ) → Type 0
  -- it is refused so
  pub IsRefused : (text : List ℕ) → Fault → Type 0
  -- a text spells no cured program, for this reason
  pub IsUncured : (text : List ℕ) → CuredFault → Type 0

-- the most bytes that a text of C may have, and a cured text
unfoldable pub text_limit : ℕ
text_limit = 1048576

unfoldable pub cured_text_limit : ℕ
cured_text_limit = 134217728

abbrev pub limit_of : Action → ℕ
limit_of Kinds = text_limit
limit_of Cure = text_limit
limit_of (Run n) = text_limit
limit_of (Exec n) = cured_text_limit

-- a text of C is refused with this verdict
pub record IsRefusedWith (texts : Texts) (text : List ℕ) (verdict : Verdict) : Type 0 where
  pub fault : Fault
  pub refused : texts.IsRefused text fault
  pub no_want : fault ≢ refusal.NoMemory
  pub verdict_is : verdict ≡ verdict_of_fault fault

-- a cured text is refused with this verdict
pub record IsUncuredWith (texts : Texts) (text : List ℕ) (verdict : Verdict) : Type 0 where
  pub fault : CuredFault
  pub refused : texts.IsUncured text fault
  pub no_want : fault ≢ uncured.NoMemory
  pub verdict_is : verdict ≡ verdict_of_cured_fault fault

-- the verdict refuses the text of a file with which this is to be done
abbrev pub Refuses : Texts → Action → (text : List ℕ) → Verdict → Type 0
Refuses texts Kinds text verdict = IsRefusedWith texts text verdict
Refuses texts Cure text verdict = IsRefusedWith texts text verdict
Refuses texts (Run n) text verdict = IsRefusedWith texts text verdict
Refuses texts (Exec n) text verdict = IsUncuredWith texts text verdict

-- the text is cured to parts that these bytes spell
pub record IsCuredAs (texts : Texts) (text bytes : List ℕ) : Type 0 where
  pub parts : Parts
  pub cured : texts.IsCured text parts
  pub spelled : bytes ≡ cured_spelling parts

-- these bytes are what is to be written of the text, without a run
abbrev pub IsWrittenOf : Texts → Action → (text bytes : List ℕ) → Type 0
IsWrittenOf texts Kinds text bytes = texts.HasKinds text bytes
IsWrittenOf texts Cure text bytes = IsCuredAs texts text bytes
IsWrittenOf texts (Run n) text bytes = ⊥
IsWrittenOf texts (Exec n) text bytes = ⊥

-- this code of the text is to be run
abbrev pub IsCodeOf : Texts → Action → (text : List ℕ) → Parts → Type 0
IsCodeOf texts Kinds text parts = ⊥
IsCodeOf texts Cure text parts = ⊥
IsCodeOf texts (Run n) text parts = texts.IsCured text parts
IsCodeOf texts (Exec n) text parts = text ≡ cured_spelling parts

-- the turns of a run
abbrev pub turns_of : Action → ℕ
turns_of Kinds = 0
turns_of Cure = 0
turns_of (Run n) = n
turns_of (Exec n) = n

-- The generated program of n functions is accepted, and this code of it is to be run behind these lines, which tell its length and how
-- many of its pointer types are of each kind.
pub record IsMadeOf (texts : Texts) (n : ℕ) (lines : List ℕ) (parts : Parts) : Type 0 where
  pub cured : texts.IsCured (generated n) parts
  pub summary : Summary
  pub bytes : summary.bytes ≡ length (generated n)
  pub pointers : texts.HasPointers (generated n) (pointers_in summary)
  pub lines_are : lines ≡ summary_lines summary
