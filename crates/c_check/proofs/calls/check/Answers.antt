use Rattle.std.proofs.Common.{◌≡◌, ◌≤◌, ℕ, length, sym, subst}
use Rattle.c_tree.specs.Depth.{unit_height}
use Rattle.c_tree.specs.Erasure.{erased_unit}
use Rattle.c_tree.specs.StatementViews.{unit_view}
use Rattle.c_tree.specs.Tree.{TranslationUnit}
use Rattle.c_tree.specs.TypedParts.{made_by_unit, nodes_made}
use Rattle.c_tree.specs.TypedStatementViews.{typed_unit_view}
use Rattle.c_tree.specs.TypedTree.{TypedTranslationUnit}
use Rattle.c_printed.specs.Printing.{AreInOrder, HasPrinted}
use Rattle.c_unit_typing.specs.Limits.{IsWithinLimits}
use Rattle.c_ready.specs.Ready.{IsReadyUnit}
use Rattle.c_unit_typing.specs.WellTyped.{IsWellTyped}
use Rattle.c_check.proofs.UnitFacts.{accepts, answered-ok, breaks-rule, counts-nodes, erases, is-only, is-ready, is-well-typed, within-limits}
use Rattle.c_check.proofs.calls.check.Goals as goal

pub returns-clause-typed : goal.returns-clause-typed
returns-clause-typed c =
    let u = unit_view c.args.unit.now in
    answered-ok u c.checked.result (λ t. IsWellTyped t.types (typed_unit_view t.unit)) (is-well-typed u) c.checked.ensures

pub returns-clause-ready : goal.returns-clause-ready
returns-clause-ready c =
    let u = unit_view c.args.unit.now in
    answered-ok u c.checked.result (λ t. IsReadyUnit t.types (typed_unit_view t.unit)) (is-ready u) c.checked.ensures

pub returns-clause-erases : goal.returns-clause-erases
returns-clause-erases c =
    let u = unit_view c.args.unit.now in
    answered-ok u c.checked.result (λ t. erased_unit (typed_unit_view t.unit) ≡ u) (erases u) c.checked.ensures

pub returns-clause-only : goal.returns-clause-only
returns-clause-only c =
    let u = unit_view c.args.unit.now in
    answered-ok u c.checked.result
    (λ t. (other : TypedTranslationUnit) → IsWellTyped t.types other → erased_unit other ≡ u → other ≡ typed_unit_view t.unit) (is-only u) c.checked.ensures

pub returns-clause-nodes : goal.returns-clause-nodes
returns-clause-nodes c =
    let u = unit_view c.args.unit.now in
    answered-ok u c.checked.result (λ t. t.nodes ≡ length (nodes_made (made_by_unit (typed_unit_view t.unit)))) (counts-nodes u) c.checked.ensures

pub returns-clause-printed : goal.returns-clause-printed
returns-clause-printed c =
    let u = unit_view c.args.unit.now in
    answered-ok u c.checked.result (λ t. HasPrinted (typed_unit_view t.unit) t.printed) (λ t j. j.printed) c.checked.ensures

pub returns-clause-ordered : goal.returns-clause-ordered
returns-clause-ordered c =
    let u = unit_view c.args.unit.now in
    answered-ok u c.checked.result (λ t. AreInOrder t.printed) (λ t j. j.sorted) c.checked.ensures

pub returns-clause-limited : goal.returns-clause-limited
returns-clause-limited c =
    let u = unit_view c.args.unit.now in
    answered-ok u c.checked.result (λ t. IsWithinLimits t.types (typed_unit_view t.unit)) (within-limits u) c.checked.ensures

pub returns-clause-low : goal.returns-clause-low
returns-clause-low c =
    let u = unit_view c.args.unit.now in
    answered-ok u c.checked.result (λ t. unit_height (erased_unit (typed_unit_view t.unit)) ≤ 256)
    (λ t j. subst (λ (v : TranslationUnit). unit_height v ≤ 256) (sym (erases u t j)) c.requires) c.checked.ensures

pub returns-clause-accepts : goal.returns-clause-accepts
returns-clause-accepts c = accepts (unit_view c.args.unit.now) c.checked.result c.checked.ensures

pub returns-clause-refused : goal.returns-clause-refused
returns-clause-refused c p rule e = breaks-rule (unit_view c.args.unit.now) c.checked.result p rule c.checked.ensures e
