-- What is inferred of a text of C.
use Rattle.std.specs.Prelude.{ℕ, ◌≡◌, List, length}
use Rattle.cc_base.specs.declared.kind.Kind.{Kind}
use Rattle.cc_base.specs.declared.number.NodeId.{NodeId}
use Rattle.runs.specs.Input.{Input}
use Rattle.c_tree.specs.TypedParts.{made_by_unit, nodes_made}
use Rattle.c_tree.specs.TypedStatementViews.{typed_unit_view}
use Rattle.c_tree.specs.declared.typed_unit.Typed.{Typed}
use Rattle.c_printed.specs.Printing.{AreInOrder, HasPrinted}
use Rattle.src_machine.specs.Machine.{source_run}
use Rattle.src_machine.specs.Sites.{sites_of}
use Rattle.cil_form.specs.Machine.{code_run}
use Rattle.cil_form.specs.Told.{IsToldOf}
use Rattle.cil_form.specs.declared.program.Program.{Program}
use Rattle.lower_rules.specs.Units.{IsCodeOfUnit}
use Rattle.kind_report.specs.Report.{report_of}
use Rattle.kind_solver.specs.declared.solved.Solved.{Solved}
use Rattle.c_front.specs.Accepted.{IsTypedText}
use Rattle.c_build.specs.Solved.{IsSolvedBy}

-- The three-address code is that of the unit, of its types, nodes and sites, which tell all of it, and means what the unit means for whatever kinds.
pub record IsLowered (t : Typed) (p : Program) : Type 0 where
  pub code : IsCodeOfUnit (typed_unit_view t.unit) p
  pub types : p.types ≡ t.types
  pub nodes : p.nodes ≡ t.nodes
  pub sites : p.sites ≡ sites_of (typed_unit_view t.unit) t.types
  pub told : IsToldOf p
  pub means : (kind : NodeId → Kind) (input : Input) (turns : ℕ) → code_run p kind input turns ≡ source_run (typed_unit_view t.unit) t.types kind input turns

-- The text is accepted with this typed unit, whose printed nodes stand in the order of the text; with its code, and the kinds of that.
pub record IsInferred (text : List ℕ) (t : Typed) (p : Program) (s : Solved) : Type 0 where
  pub typed : IsTypedText text t.types (typed_unit_view t.unit)
  pub counted : t.nodes ≡ length (nodes_made (made_by_unit (typed_unit_view t.unit)))
  pub printed : HasPrinted (typed_unit_view t.unit) t.printed
  pub ordered : AreInOrder t.printed
  pub lowered : IsLowered t p
  pub solved : IsSolvedBy p s

-- the text is accepted, and these are the lines of its kinds
pub record HasKinds (text lines : List ℕ) : Type 0 where
  pub typed : Typed
  pub code : Program
  pub solved : Solved
  pub inferred : IsInferred text typed code solved
  pub lines_are : lines ≡ report_of solved.kinds solved.causes typed.printed
