-- A unit of few tokens that is well typed over a table of types, and within its limits, is given.
use Rattle.std.proofs.Common.{◌≡◌, ◌≤◌, ◌+◌, ℕ, List, [], length, refl, ap, sym, subst, ◌∙◌, arith}
use Rattle.std.proofs.lemmas.List.{append-nil, length-map}
use Rattle.c_types.specs.Calls.{basic_table}
use Rattle.c_types.specs.Table.{Table}
use Rattle.c_tree.specs.Erasure.{erased_unit}
use Rattle.c_tree.specs.TypedTree.{TypedTranslationUnit}
use Rattle.c_tree.specs.TypedParts.{functions_of, made_by_unit, nodes_made}
use Rattle.c_typing.specs.Scopes.{Name}
use Rattle.c_typing.specs.Settled.{IsBasic}
use Rattle.c_typing_unique.specs.Points.{Numbers}
use Rattle.c_typing_unique.proofs.Numbering.{numbers-from}
use Rattle.c_type_order.specs.TypesUsed.{AreUses}
use Rattle.c_unit_typing.specs.DefinitionJudging.{main_tests, judge_unit, judge_whole, judged_unit}
use Rattle.c_unit_typing.specs.Limits.{IsWithinLimits}
use Rattle.c_unit_typing.specs.Units.{Known}
use Rattle.c_unit_typing.specs.UnitJudging.{UnitState, UnitOutcome, Gives, Stops, pure, obeying}
use Rattle.c_unit_typing.specs.WellTyped.{defined_names, known_before, IsWellTyped}
use Rattle.c_unit_typing.proofs.JudgedUnits.{name_in_bytes, IsWholeJudged, unit-judged}
use Rattle.c_unit_typing.proofs.UnitStillDefined.{unit-defined}
use Rattle.c_unit_given.specs.Tokens.{HasFewTokens}
use Rattle.c_unit_given.proofs.Countable.{IsCountable}
use Rattle.c_unit_given.proofs.TokensCounted.{tokens-countable}
use Rattle.c_unit_given.proofs.UnitGiven.{AreSizesWritten, IsUnitGivenAs, Nothing, AreScopesKept, AreExpressionsGiven, AreDeclaratorsGiven}
use Rattle.c_unit_typing.specs.TypesUsed.{used_by_unit}
use Rattle.c_unit_given.proofs.DefinitionsGiven.{definition-run}
use Rattle.c_unit_given.proofs.LawsGiven.{expressions-given, declarators-given}
use Rattle.c_unit_given.proofs.ScopesKept.{scopes-kept}
use Rattle.c_unit_given.proofs.SizesWritten.{sizes-written}
use Rattle.c_unit_given.proofs.StatementTrees.{block-items-run}
use Rattle.c_unit_given.proofs.BeforeText.{before_text, text-known, text-here}
use Rattle.c_unit_given.proofs.FunctionNames.{AreAmong, names-own, place-own, all-among}
use Rattle.c_unit_given.proofs.MainGiven.{main-passes}
use Rattle.c_unit_given.proofs.Runs.{then-is, obeying-is}
use Rattle.c_unit_given.proofs.UnitCosts.{text-room, unit-limited}
use Rattle.c_unit_given.proofs.UnitsGiven.{IsDefinitionRun, unit-run}

module _ (T : Table) (basic : IsBasic T) (exprs : AreExpressionsGiven T) (scopes : AreScopesKept T) (decls : AreDeclaratorsGiven T) (sizes : AreSizesWritten T)
    (whole : TypedTranslationUnit) (typed : IsWellTyped T whole) (limits : IsWithinLimits T whole) (countable : IsCountable whole) where
  few_names : length (defined_names whole) ≤ 65535
  few_names = let few = limits.functions in let count = length-map (functions_of whole) name_in_bytes in omega (arith, few, count)

  among : AreAmong (defined_names whole) whole
  among = all-among (defined_names whole) whole [] (sym (append-nil (defined_names whole)))

  abbrev nodes : ℕ
  nodes = 0 + length (nodes_made (made_by_unit whole))

  numbers : Numbers (made_by_unit whole) 0 nodes
  numbers = numbers-from (made_by_unit whole) 0 typed.numbered

  abbrev IsGivenFrom : UnitState → Type 0
  IsGivenFrom s = IsUnitGivenAs T Nothing (made_by_unit whole) (judge_unit (erased_unit whole) s) whole s typed.after nodes (length T)

  -- from a state that has the names of its functions
  parts_given : IsDefinitionRun T (defined_names whole) → AreUses (used_by_unit T whole) (length basic_table) (length T) → IsGivenFrom (before_text (defined_names whole))
  parts_given definitions uses =
      unit-run T (defined_names whole) basic exprs scopes decls sizes definitions whole limits.holds among (before_text (defined_names whole)) typed.after nodes (length T)
      (text-here T basic (defined_names whole) few_names (place-own (defined_names whole) (names-own T whole (known_before whole) typed.after typed.typed))) tt (refl, typed.typed) numbers uses
      (text-room T basic.formed whole (known_before whole) typed.after typed.typed limits countable (defined_names whole))

  abbrev WholeFrom : List Name → UnitState → Type 0
  WholeFrom all r = judge_whole (erased_unit whole) (before_text all) ≡ Gives whole r

  module _ (g : IsGivenFrom (before_text (defined_names whole))) where
    judged : IsWholeJudged (erased_unit whole) whole (before_text (defined_names whole)) g.after
    judged = unit-judged (erased_unit whole) whole (before_text (defined_names whole)) g.after (text-known (defined_names whole)) g.gives

    same_names : g.after.seen.scopes.defined ≡ defined_names whole
    same_names = ap (λ (k : Known). k.scopes.defined) g.reached.known ∙ unit-defined T whole (known_before whole) typed.after typed.typed

    whole_from : WholeFrom (defined_names whole) g.after
    unfolding judge_whole
    whole_from =
        then-is (judge_unit (erased_unit whole)) (λ w. obeying main_tests (pure w)) whole (before_text (defined_names whole)) g.after (Gives whole g.after) g.gives
        (obeying-is main_tests (pure whole) g.after (Gives whole g.after)
        (main-passes T (erased_unit whole) whole (before_text (defined_names whole)) g.after g.reached.here.here.first g.reached.here.unit judged typed.main
        (subst (λ (all : List Name). AreAmong all whole) (sym same_names) among)) refl)

    -- the names are those of the text
    whole_given : judged_unit (erased_unit whole) ≡ Gives whole g.after
    whole_given = subst (λ (all : List Name). WholeFrom all g.after) judged.names whole_from

  pub unit-given : IsDefinitionRun T (defined_names whole) → AreUses (used_by_unit T whole) (length basic_table) (length T) → (r : UnitState) × (judged_unit (erased_unit whole) ≡ Gives whole r)
  unit-given definitions uses = let g = parts_given definitions uses in (g.after, whole_given g)

-- where 32 bits count what it makes
countable_given : (T : Table) (whole : TypedTranslationUnit) → IsBasic T → IsWellTyped T whole → IsWithinLimits T whole → IsCountable whole
    → (r : UnitState) × (judged_unit (erased_unit whole) ≡ Gives whole r)
countable_given T whole basic typed limits countable =
    let limited = unit-limited T whole limits in
    let exprs = expressions-given T basic limited in
    let decls = declarators-given T basic limited in
    let scopes = scopes-kept T in
    let sizes = sizes-written T in
    let names : List Name = defined_names whole in
    let few : length names ≤ 65535 = few_names T basic exprs scopes decls sizes whole typed limits countable in
    unit-given T basic exprs scopes decls sizes whole typed limits countable
    (λ before x form t brace body among holds.
    definition-run T basic exprs scopes decls sizes names few before x form t brace body among (block-items-run T basic exprs scopes decls sizes body) holds) typed.types

-- a unit of few tokens that is well typed, and within its limits, is given
pub whole-given : (T : Table) (whole : TypedTranslationUnit) → IsBasic T → IsWellTyped T whole → IsWithinLimits T whole → HasFewTokens (erased_unit whole)
    → (r : UnitState) × (judged_unit (erased_unit whole) ≡ Gives whole r)
whole-given T whole basic typed limits few = countable_given T whole basic typed limits (tokens-countable T whole limits few)

-- so two such units that erase to one tree are one, over whichever tables

abbrev pub given-of : UnitOutcome TypedTranslationUnit → TypedTranslationUnit → TypedTranslationUnit
given-of (Gives a s) other = a
given-of (Stops f s) other = other

pub one-given : (T U : Table) (one other : TypedTranslationUnit) → IsBasic T → IsWellTyped T one → IsWithinLimits T one → HasFewTokens (erased_unit one)
    → IsBasic U → IsWellTyped U other → IsWithinLimits U other → HasFewTokens (erased_unit other) → erased_unit one ≡ erased_unit other → one ≡ other
one-given T U one other b w l c b' w' l' c' e =
    let left = whole-given T one b w l c in
    let right = whole-given U other b' w' l' c' in
    ap (λ (o : UnitOutcome TypedTranslationUnit). given-of o one) (sym left.1 ∙ ap judged_unit e ∙ right.1)
