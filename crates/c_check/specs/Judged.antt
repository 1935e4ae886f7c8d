-- What the typing of a whole unit answers.
use Rattle.std.specs.Prelude.{◌≡◌, ◌≢◌, Option, None, Some, Result, Ok, Err}
use Rattle.cc_base.specs.declared.fault.Fault.{Fault}
use Rattle.cc_base.specs.declared.fault.Fault.TheVariants.{NoMemory}
use Rattle.c_tree.specs.Tree.{TranslationUnit}
use Rattle.c_tree.specs.TypedStatementViews.{typed_unit_view}
use Rattle.c_tree.specs.TypedTree.{TypedTranslationUnit}
use Rattle.c_tree.specs.declared.typed_unit.Typed.{Typed}
use Rattle.c_printed.specs.Printing.{AreInOrder, HasPrinted}
use Rattle.c_unit_typing.specs.UnitJudging.{UnitOutcome, UnitState, Gives, Stops}
use Rattle.c_unit_typing.specs.DefinitionJudging.{judged_unit}

-- the typed unit is what the judging of the unit gives, with its types and the number of its nodes
pub record IsJudged (u : TranslationUnit) (t : Typed) : Type 0 where
  pub after : UnitState
  pub gives : judged_unit u ≡ Gives (typed_unit_view t.unit) after
  pub types : t.types ≡ after.table
  pub nodes : t.nodes ≡ after.seen.node
  -- each node whose kind is printed, in the order of their places
  pub printed : HasPrinted (typed_unit_view t.unit) t.printed
  pub sorted : AreInOrder t.printed

-- the fault with which judging stops
abbrev pub fault_of : {A : Type 0} → UnitOutcome A → Option Fault
fault_of (Gives a s) = None
fault_of (Stops fault s) = Some fault

-- want of memory apart, a refusal is the first that the judging of the unit meets
abbrev pub IsAnswered : TranslationUnit → Result Typed Fault → Type 0
IsAnswered u (Ok t) = IsJudged u t
IsAnswered u (Err fault) = fault ≢ NoMemory → fault_of (judged_unit u) ≡ Some fault

-- the answer is this tree, or memory was wanted
abbrev pub IsAccepted : TypedTranslationUnit → Result Typed Fault → Type 0
IsAccepted whole (Ok t) = typed_unit_view t.unit ≡ whole
IsAccepted whole (Err fault) = fault ≡ NoMemory
