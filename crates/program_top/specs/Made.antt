-- What is made of texts.
use Rattle.std.specs.Prelude.{ℕ, ◌≡◌, List}
use Rattle.cc_base.specs.declared.kind.Kind.{Kind}
use Rattle.c_tree.specs.declared.typed_unit.Typed.{Typed}
use Rattle.cil_form.specs.declared.program.Program.{Program}
use Rattle.kind_report.specs.Report.{pointers_of}
use Rattle.kind_solver.specs.declared.solved.Solved.{Solved}
use Rattle.c_front.specs.Refused.{IsFirstRefusal}
use Rattle.c_build.specs.Inferred.{HasKinds, IsInferred}
use Rattle.c_build.specs.Built.{IsCured}
use Rattle.cured_reading.specs.Faults.{IsUncured}
use Rattle.program_answers.specs.Texts.{Texts}

-- the text is accepted, and so many of the pointer types for which `kinds` has a line are of each kind
pub record HasPointers (text : List ℕ) (count : Kind → ℕ) : Type 0 where
  pub typed : Typed
  pub code : Program
  pub solved : Solved
  pub inferred : IsInferred text typed code solved
  pub counted : (kind : Kind) → count kind ≡ pointers_of solved.kinds kind typed.printed

abbrev pub texts : Texts
texts = record {
  IsCured = IsCured;
  HasKinds = HasKinds;
  HasPointers = HasPointers;
  IsRefused = IsFirstRefusal;
  IsUncured = IsUncured;
}
