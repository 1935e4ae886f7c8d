-- What a whole unit is given with: its types, what it holds, and the parameters of its function types.
use Rattle.std.proofs.Common.{◌≡◌, ℕ, ◌≤◌, true, false, [], ◌∷◌, length, drop, sym, subst, ◌∙◌, arith}
use Rattle.std.proofs.lemmas.List.{append-nil}
use Rattle.std.proofs.lemmas.List.Elements.{All-nil, All-cons}
use Rattle.c_types.specs.Calls.{basic_entry, basic_table}
use Rattle.c_types.specs.declared.shape.TypeShape.{TypeShape}
use Rattle.c_types.specs.declared.shape.TypeShape.TheVariants.{Void, Integer}
use Rattle.c_types.specs.Table.{Table}
use Rattle.c_types.specs.Sound.{IsWellFormed}
use Rattle.c_tree.specs.Erasure.{erased_unit}
use Rattle.c_tree.specs.Tree as tree
use Rattle.c_tree.specs.TypedTree.{TypedTranslationUnit}
use Rattle.c_tree.specs.TypedParts.{functions_of}
use Rattle.c_typing.specs.Judging as judging
use Rattle.c_typing.specs.Judging.{State, Outcome}
use Rattle.c_typing.specs.Operands.{Operand}
use Rattle.c_typing.specs.Tests.{first_broken}
use Rattle.c_typing.specs.Walks.{judge}
use Rattle.c_unit_typing.specs.DefinitionJudging.{judge_unit, judge_whole, main_tests, before_unit, judged_unit}
use Rattle.c_unit_typing.specs.Holding.{expr_holds, unit_holds}
use Rattle.c_unit_typing.specs.Limits.{parameters_of_shape}
use Rattle.c_unit_typing.specs.UnitJudging.{UnitState, UnitOutcome, Gives, pure, obeying}
use Rattle.c_unit_typing.proofs.JudgedUnits.{IsWholeJudged, unit-judged}
use Rattle.c_unit_typing.proofs.UnitOutcomes.{bind-gives, unless-gives, given-same}
use Rattle.c_unit_typing.proofs.WholeUnits.{before-known}
use Rattle.c_unit_typing.specs.WellTyped.{defined_names}
use Rattle.c_unit_limits.specs.Few.{HasFewParameters, AreFew, IsBounded}
use Rattle.c_unit_limits.specs.Literals.{expr_literals}
use Rattle.c_unit_limits.proofs.NumberedFunctions.{unit-functions}
use Rattle.c_unit_limits.proofs.HeldSteps.{Holds}
use Rattle.c_unit_limits.proofs.HeldTrees.{expr-held}
use Rattle.c_unit_limits.proofs.HeldUnits.{unit-held}
use Rattle.c_unit_limits.proofs.UnitSteps.{UnitHolds}

out : {A : Type 0} (o : Outcome A) (n w : ℕ) (s : State) (a : A) (r : State) → Holds o n w s → o ≡ judging.Gives a r → n ≤ 256
out o n w s a r h e = (subst (λ (m : Outcome _). Holds m n w s) e h).1

pub expr-limited : (called : _) (e : tree.Expr) (o : Operand) (s r : State) → judge called e s ≡ judging.Gives o r → expr_holds e ≤ 256
expr-limited called e o s r h = out (judge called e s) (expr_holds e) (expr_literals e) s o r ((expr-held e called).holds s) h

-- the parts of a unit, judged from the beginning
pub record IsGiven (u : tree.TranslationUnit) (whole : TypedTranslationUnit) (r : UnitState) : Type 0 where
  pub parts : judge_unit u (before_unit u) ≡ Gives whole r
  pub judged : IsWholeJudged u whole (before_unit u) r

pub whole-given : (u : tree.TranslationUnit) (whole : TypedTranslationUnit) (r : UnitState) → judged_unit u ≡ Gives whole r → IsGiven u whole r
unfolding judge_whole
whole-given u whole r h =
    let s = before_unit u in
    let e1 = bind-gives (judge_unit u s) (λ v. obeying main_tests (pure v)) whole r h in
    let go = unless-gives (first_broken (main_tests e1.1)) (pure e1.0) e1.1 whole r e1.3 in
    given-same (λ (v : TypedTranslationUnit) (q : UnitState). IsGiven u v q) e1.0 whole e1.1 r go.1
    (record { parts = e1.2; judged = unit-judged u e1.0 s e1.1 (before-known u) e1.2 })

pub whole-formed : (u : tree.TranslationUnit) (whole : TypedTranslationUnit) (r : UnitState) → judged_unit u ≡ Gives whole r → IsWellFormed r.table
whole-formed u whole r h = (whole-given u whole r h).judged.judged.goes.known.known.basic.formed

held_of : (u : tree.TranslationUnit) (whole : TypedTranslationUnit) (r : UnitState) → judged_unit u ≡ Gives whole r
    → (IsBounded basic_table (before_unit u).seen → IsBounded r.table r.seen) × (unit_holds u ≤ 256)
held_of u whole r h =
    subst (λ (m : UnitOutcome TypedTranslationUnit). UnitHolds m (unit_holds u) (before_unit u)) (whole-given u whole r h).parts ((unit-held u).holds (before_unit u))

pub whole-held : (u : tree.TranslationUnit) (whole : TypedTranslationUnit) (r : UnitState) → judged_unit u ≡ Gives whole r → unit_holds (erased_unit whole) ≤ 256
whole-held u whole r h =
    subst (λ (v : tree.TranslationUnit). unit_holds v ≤ 256) (sym (whole-given u whole r h).judged.judged.erases) (held_of u whole r h).1

-- none of the types that each table begins with is of a function
basic_few : AreFew basic_table
basic_few =
    each Void none (drop 1 basic_table) (each (Integer 1 true) none (drop 2 basic_table) (each (Integer 1 false) none (drop 3 basic_table)
    (each (Integer 2 true) none (drop 4 basic_table) (each (Integer 2 false) none (drop 5 basic_table) (each (Integer 4 true) none (drop 6 basic_table)
    (each (Integer 4 false) none (drop 7 basic_table) (each (Integer 8 true) none (drop 8 basic_table) (each (Integer 8 false) none [] (All-nil HasFewParameters)))))))))
  where
    none : 0 ≤ 127
    none = omega arith

    each : (x : TypeShape) → parameters_of_shape x ≤ 127 → (rest : Table) → AreFew rest → AreFew (basic_entry x ∷ rest)
    each x few rest h = All-cons HasFewParameters (basic_entry x) rest few h

pub whole-bounded : (u : tree.TranslationUnit) (whole : TypedTranslationUnit) (r : UnitState) → judged_unit u ≡ Gives whole r → IsBounded r.table r.seen
whole-bounded u whole r h = (held_of u whole r h).0 (basic_few, omega arith, omega arith)

pub whole-functions : (u : tree.TranslationUnit) (whole : TypedTranslationUnit) (r : UnitState) → judged_unit u ≡ Gives whole r → length (functions_of whole) ≤ 65535
whole-functions u whole r h =
    let w = whole-given u whole r h in
    unit-functions u whole [] (before_unit u) r (before-known u) (sym w.judged.names ∙ sym (append-nil (defined_names whole))) w.parts
