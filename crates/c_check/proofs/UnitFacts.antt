-- What an answer of the typing of a unit means.
use Rattle.std.proofs.lemmas.Option.{none-some}
use Rattle.std.proofs.Common.{◌≡◌, Option, None, Some, ◌∙◌, true≢false, Result, Ok, Err, IfOk, length, ap, sym, subst, arith}
use Rattle.cc_base.specs.declared.fault.Fault.{Fault}
use Rattle.cc_base.specs.declared.fault.Fault.TheVariants.{Refused, NoMemory}
use Rattle.cc_base.specs.declared.fault.Rule.{Rule}
use Rattle.cc_base.specs.declared.place.Place.{Place}
use Rattle.c_types.specs.Sound.{IsWellFormed}
use Rattle.c_types.specs.Table.{Table}
use Rattle.c_tree.specs.Erasure.{erased_unit}
use Rattle.c_tree.specs.Tree as tree
use Rattle.c_tree.specs.TypedParts.{made_by_unit, nodes_made}
use Rattle.c_tree.specs.TypedStatementViews.{typed_unit_view}
use Rattle.c_tree.specs.TypedTree.{TypedTranslationUnit}
use Rattle.c_tree.specs.declared.typed_unit.Typed.{Typed}
use Rattle.c_typing.specs.Settled.{IsBasic}
use Rattle.c_typing.specs.Tests.{first_broken}
use Rattle.c_check.specs.Judged.{IsAccepted, IsAnswered, IsJudged, fault_of}
use Rattle.c_check_expr.proofs.AcceptedLaws.{is_wanting, memory_alone}
use Rattle.c_unit_given.specs.Tokens.{HasFewTokens}
use Rattle.c_unit_given.proofs.WholeGiven.{given-of, whole-given}
use Rattle.c_unit_limits.proofs.UnitLimits.{whole-limits}
use Rattle.c_unit_typing.specs.DefinitionJudging.{before_unit, judge_unit, judge_whole, judged_unit, main_tests}
use Rattle.c_unit_typing.specs.Limits.{IsWithinLimits}
use Rattle.c_unit_typing.specs.UnitJudged.{IsUnitJudged}
use Rattle.c_unit_typing.specs.UnitJudging.{UnitState, UnitOutcome, Gives, Stops, known_of, obeying, pure}
use Rattle.c_unit_typing.specs.UnitRefusals.{RefusesUnit}
use Rattle.c_ready.specs.Ready.{IsReadyUnit}
use Rattle.c_ready.proofs.ReadyUnit.{well-typed-ready}
use Rattle.c_unit_typing.specs.WellTyped.{IsWellTyped}
use Rattle.c_unit_typing.proofs.JudgedUnits.{unit-judged}
use Rattle.c_unit_typing.proofs.RefusedUnits.{whole-stopped}
use Rattle.c_unit_typing.proofs.UnitOutcomes.{bind-gives, given-same, unless-gives}
use Rattle.c_unit_typing.proofs.WholeUnits.{before-known, whole-judged}
use Rattle.c_unit_unique.proofs.UnitSteps.{unit-whole}

-- what holds of what is judged holds of what is given
pub answered-ok : (u : tree.TranslationUnit) (result : Result Typed Fault) (P : Typed → Type 0) → ((t : Typed) → IsJudged u t → P t) → IsAnswered u result → IfOk result P
answered-ok u (Ok t) P law h = law t h
answered-ok u (Err f) P law h = tt

abbrev err_of : Result Typed Fault → Fault
err_of (Ok t) = NoMemory
err_of (Err f) = f

abbrev fault_in : Option Fault → Fault
fault_in None = NoMemory
fault_in (Some f) = f

stops-with : (o : UnitOutcome TypedTranslationUnit) (f : Fault) → fault_of o ≡ Some f → (r : UnitState) × (o ≡ Stops f r)
stops-with (Gives a s) f h = absurd (none-some f h)
stops-with (Stops g s) f h = (s, ap (λ (x : Fault). Stops x s) (ap fault_in h))

-- a refusal is where the judging stops
pub answered-stops : (u : tree.TranslationUnit) (result : Result Typed Fault) (p : Place) (t : Rule) → IsAnswered u result → result ≡ Err (Refused p t)
    → (r : UnitState) × (judged_unit u ≡ Stops (Refused p t) r)
answered-stops u (Ok x) p t h e = absurd (true≢false (ap (λ y. is_wanting (err_of y)) e))
answered-stops u (Err f) p t h e =
    let same : f ≡ Refused p t = ap err_of e in
    let stopped = h (λ n. true≢false (ap is_wanting (sym n ∙ same))) in
    stops-with (judged_unit u) (Refused p t) (stopped ∙ ap (λ (g : Fault). Some g) same)

-- the parts of a unit that is given, in the state after it
pub parts-judged : (u : tree.TranslationUnit) (whole : TypedTranslationUnit) (r : UnitState) → judged_unit u ≡ Gives whole r → IsUnitJudged u whole (before_unit u) r
unfolding judge_whole
parts-judged u whole r h =
    let s = before_unit u in
    let e1 = bind-gives (judge_unit u s) (λ v. obeying main_tests (pure v)) whole r h in
    let go = unless-gives (first_broken (main_tests e1.1)) (pure e1.0) e1.1 whole r e1.3 in
    given-same (λ (v : TypedTranslationUnit) (q : UnitState). IsUnitJudged u v s q) e1.0 whole e1.1 r go.1 (unit-judged u e1.0 s e1.1 (before-known u) e1.2).judged

pub is-well-typed : (u : tree.TranslationUnit) (t : Typed) → IsJudged u t → IsWellTyped t.types (typed_unit_view t.unit)
is-well-typed u t j =
    subst (λ (T : Table). IsWellTyped T (typed_unit_view t.unit)) (sym j.types) (whole-judged u (typed_unit_view t.unit) j.after j.gives).0

pub is-ready : (u : tree.TranslationUnit) (t : Typed) → IsJudged u t → IsReadyUnit t.types (typed_unit_view t.unit)
is-ready u t j = well-typed-ready t.types (typed_unit_view t.unit) (is-well-typed u t j)

pub erases : (u : tree.TranslationUnit) (t : Typed) → IsJudged u t → erased_unit (typed_unit_view t.unit) ≡ u
erases u t j = (whole-judged u (typed_unit_view t.unit) j.after j.gives).1

pub is-basic : (u : tree.TranslationUnit) (t : Typed) → IsJudged u t → IsBasic t.types
is-basic u t j = subst IsBasic (sym j.types) (parts-judged u (typed_unit_view t.unit) j.after j.gives).goes.goes.known.basic

pub well-formed : (u : tree.TranslationUnit) (t : Typed) → IsJudged u t → IsWellFormed t.types
well-formed u t j = (is-basic u t j).formed

-- no other tree of the unit is well typed
pub is-only : (u : tree.TranslationUnit) (t : Typed) → IsJudged u t → (other : TypedTranslationUnit) → IsWellTyped t.types other → erased_unit other ≡ u → other ≡ typed_unit_view t.unit
is-only u t j other w e = unit-whole t.types other (typed_unit_view t.unit) (well-formed u t j) w (is-well-typed u t j) (e ∙ sym (erases u t j))

pub counts-nodes : (u : tree.TranslationUnit) (t : Typed) → IsJudged u t → t.nodes ≡ length (nodes_made (made_by_unit (typed_unit_view t.unit)))
counts-nodes u t j = j.nodes ∙ ((parts-judged u (typed_unit_view t.unit) j.after j.gives).numbers.after ∙ omega arith)

-- a refusal breaks its rule
pub breaks-rule : (u : tree.TranslationUnit) (result : Result Typed Fault) (p : Place) (t : Rule) → IsAnswered u result → result ≡ Err (Refused p t)
    → (T : Table) × RefusesUnit T u (known_of (before_unit u)) (Refused p t)
breaks-rule u result p t h e =
    let stopped = answered-stops u result p t h e in
    (stopped.0.table, whole-stopped p t u stopped.0 stopped.1)

-- the limits that it is within
pub within-limits : (u : tree.TranslationUnit) (t : Typed) → IsJudged u t → IsWithinLimits t.types (typed_unit_view t.unit)
within-limits u t j = subst (λ (T : Table). IsWithinLimits T (typed_unit_view t.unit)) (sym j.types) (whole-limits u (typed_unit_view t.unit) j.after j.gives)

-- Acceptance

-- what judging gives is the answer, unless memory is wanted
pub is-accepted : (u : tree.TranslationUnit) (result : Result Typed Fault) (whole : TypedTranslationUnit) (r : UnitState) → judged_unit u ≡ Gives whole r → IsAnswered u result → IsAccepted whole result
is-accepted u (Ok t) whole r g h = ap (λ (o : UnitOutcome TypedTranslationUnit). given-of o whole) (sym h.gives ∙ g)
is-accepted u (Err f) whole r g h = memory_alone f (λ n. none-some f (ap fault_of (sym g) ∙ h n))

pub accepts : (u : tree.TranslationUnit) (result : Result Typed Fault) → IsAnswered u result → HasFewTokens u → (T : Table) (whole : TypedTranslationUnit)
    → IsWellTyped T whole → IsWithinLimits T whole → erased_unit whole ≡ u → IsAccepted whole result
accepts u result h few T whole typed limits e =
    let given = whole-given T whole typed.basic typed limits (subst HasFewTokens (sym e) few) in
    is-accepted u result whole given.0 (ap judged_unit (sym e) ∙ given.1) h
