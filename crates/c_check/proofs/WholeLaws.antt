-- The typing of a whole unit, by how it is judged.
use Rattle.std.proofs.Common.{◌≡◌, ◌≢◌, Some, ap, sym, ◌∙◌, subst}
use Rattle.cc_base.specs.declared.fault.Fault.{Fault}
use Rattle.cc_base.specs.declared.fault.Fault.TheVariants.{NoMemory}
use Rattle.c_tree.specs.Tree.{TranslationUnit}
use Rattle.c_tree.specs.TypedTree.{TypedTranslationUnit}
use Rattle.c_tree.specs.TypedStatementViews.{typed_unit_view}
use Rattle.c_tree.specs.declared.typed_statement.TypedUnit.{TypedUnit}
use Rattle.c_tree.specs.declared.typed_unit.Typed.{Typed}
use Rattle.c_check.specs.Judged.{IsJudged, fault_of}
use Rattle.c_printed.specs.Printing.{AreInOrder, HasPrinted}
use Rattle.c_unit_typing.specs.UnitJudging.{UnitState, Gives, Stops}
use Rattle.c_unit_typing.specs.DefinitionJudging.{before_unit, judge_whole, judged_unit}

pub whole_stops : (u : TranslationUnit) (s r : UnitState) (f : Fault) → s ≡ before_unit u → (f ≢ NoMemory → judge_whole u s ≡ Stops f r)
    → f ≢ NoMemory → fault_of (judged_unit u) ≡ Some f
whole_stops u s r f begins stops real = ap fault_of (ap (judge_whole u) (sym begins) ∙ stops real)

pub whole_judged : (u : TranslationUnit) (s r : UnitState) (one : TypedTranslationUnit) → s ≡ before_unit u → judge_whole u s ≡ Gives one r → judged_unit u ≡ Gives one r
whole_judged u s r one begins gives = ap (judge_whole u) (sym begins) ∙ gives

pub whole_gives : (u : TranslationUnit) (r : UnitState) (one : TypedUnit) (t : Typed) → judged_unit u ≡ Gives (typed_unit_view one) r
    → t.unit ≡ one → t.types ≡ r.table → t.nodes ≡ r.seen.node → HasPrinted (typed_unit_view one) t.printed → AreInOrder t.printed → IsJudged u t
whole_gives u r one t gives unit types nodes printed sorted = record {
  after = r;
  gives = gives ∙ ap (λ (o : TypedUnit). Gives (typed_unit_view o) r) (sym unit);
  types = types;
  nodes = nodes;
  printed = subst (λ (o : TypedUnit). HasPrinted (typed_unit_view o) t.printed) (sym unit) printed;
  sorted = sorted;
}
