-- Operators on values are given: constants, parentheses, `a[b]`, operators on two operands, `+`, `-`, `~`, `!` and `*`.
use Rattle.std.proofs.Common.{◌≡◌, ◌≤◌, ℕ, ℤ, max, Bool, true, false, List, [], ◌∷◌, ◌++◌, length, None, refl, ap, sym, subst, ◌∙◌, inl, inr, ◌⊎◌}
use Rattle.cc_base.specs.declared.place.Place.{Place}
use Rattle.cc_base.specs.declared.number.TypeId.{TypeId}
use Rattle.c_lexer.specs.declared.number.IntegerType.{IntegerType as ConstantType}
use Rattle.c_types.specs.Table.{Table}
use Rattle.c_tree.specs.declared.operator.Binary.{Binary}
use Rattle.c_tree.specs.declared.operator.Binary.TheVariants as binary
use Rattle.c_tree.specs.declared.operator.Unary.{Unary}
use Rattle.c_tree.specs.declared.operator.Unary.TheVariants as unary
use Rattle.c_tree.specs.declared.typed_word.Side.{Side}
use Rattle.c_tree.specs.declared.typed_word.Side.TheVariants as side
use Rattle.c_tree.specs.Erasure.{erased}
use Rattle.c_tree.specs.Tree as tree
use Rattle.c_tree.specs.TypedTree as typed
use Rattle.c_tree.specs.TypedTree.{TypedExpr, TypedPlace}
use Rattle.c_tree.specs.TypedParts.{Made, made_by, type_of}
use Rattle.c_typing.specs.Conversions.{bare, IsPlain, is_taken_over}
use Rattle.c_typing.specs.Held.{held, held_with}
use Rattle.c_typing.specs.Integers.{constant_type}
use Rattle.c_typing.specs.Judging.{State, Gives, next, pure, by_known, integer_type}
use Rattle.c_typing.specs.Operands.{Operand, Value, value}
use Rattle.c_typing.specs.Operations.{index, element, infix_of, operation, prefix, prefix_of, operator_on, target, target_of, pointed, paren, in_parens, integer, character, int_type, is_arithmetic_prefix}
use Rattle.c_typing.specs.Rules.{IsElement, IsPrefix}
use Rattle.c_typing.specs.Scopes.{Scopes}
use Rattle.c_typing.specs.Settled.{IsBasic, IsAlike}
use Rattle.c_typing.specs.Shapes.{pointee_at}
use Rattle.c_typing.specs.Tests.{Elaborated, AsPlace, AsValue, AsAllocation, first_broken, index_tests, infix_tests, prefix_tests, target_tests}
use Rattle.c_typing_laws.specs.Numbers.{made_by_part}
use Rattle.c_typing_laws.proofs.ValuesTaken.{natural-no_allocation, natural-plain}
use Rattle.c_typing_unique.specs.Points.{Point, IsRead}
use Rattle.c_typing_unique.proofs.OperatorLaws.{Sort, ByArithmetic, ByMove, ByDifference, ByComparison, ByLogic, IsInfix, sort_of, shape_of, bare-plain, prefix-plain}
use Rattle.c_typing_unique.proofs.Reading.{Part, OfValue, OfPlace, IsPartRead}
use Rattle.c_typing_unique.proofs.Readings.{IsPointed, to-function, to-object, in_parens as part_in_parens}
use Rattle.c_typing_unique.proofs.Shapes.{no_true}
use Rattle.c_typing_exact.specs.Numbered.{IsElaboratedAt}
use Rattle.c_typing_exact.specs.Passing.{Passes}
use Rattle.c_typing_exact.proofs.InfixPasses.{arithmetic-passes, moved-passes, difference-passes, compared-passes, logical-passes}
use Rattle.c_typing_exact.proofs.OperatorPasses.{index-passes, target-passes, function-passes, prefix-passes}
use Rattle.c_rules_alike.proofs.OperatorRules.{index-over, infix-over, prefix-over, target-over}
use Rattle.c_type_order.specs.Uses.{used_by_part}
use Rattle.c_typing_given.specs.Given.{point_at, IsHere, IsOnWay, IsCallableAs, IsPartGiven, IsGiven}
use Rattle.c_unit_typing.specs.Holding.{expr_holds}
use Rattle.c_typing_given.specs.Spending.{HasRoom, HasSpent}
use Rattle.c_type_order.specs.TypesUsed.{AreUses, used_by, Use}
use Rattle.c_typing_given.proofs.Constructing.{part-value, as-place, as-value, of-part, finish, uses-as, room-as, alike-as, scopes-at, plain-given, two-given, max-left, max-right, held-as}
use Rattle.c_typing_given.proofs.Settling.{of_part, part-read}
use Rattle.c_typing_given.proofs.Spent.{spent-none}
use Rattle.c_typing_given.proofs.Steps.{construct-is, leaf-is, operand_with}
use Rattle.c_typing_given.proofs.ValuesGiven.{natural-by}
use Rattle.c_typing_given.proofs.OperatorSteps.{judges-index, judges-infix, judges-paren, judges-integer, judges-character, judges-valued}
pub use Rattle.c_typing_given.proofs.OperatorSteps.{then-again, judges-prefix}

module _ (T : Table) (basic : IsBasic T) where
  -- Constants

  nothing_spent : (s : State) → HasSpent T [] s s
  nothing_spent s = spent-none T s s refl refl refl

  pub stay : (s : State) (count : ℕ) → IsHere T s → AreUses [] (length s.table) count → IsOnWay T [] s s count
  stay s count here uses = record { first = here.first; small = here.small; types = sym uses; spent = nothing_spent s }

  integer_is : (of : ConstantType) (number : ℕ) (at : Place) (s : State)
      → integer of number at s ≡ Gives (operand_with at (AsValue (typed.Integer of number at (integer_type (constant_type of)))) 1) s
  unfolding integer
  integer_is of number at s =
      leaf-is at (pure (AsValue (typed.Integer of number at (integer_type (constant_type of))))) s s (AsValue (typed.Integer of number at (integer_type (constant_type of)))) refl

  pub integer-given : (of : ConstantType) (number : ℕ) (at : Place) → IsGiven T (tree.Integer of number at)
  integer-given of number at called z s b count here h c uses room holds =
      let e : tree.Expr = tree.Integer of number at in
      let i = of-part T basic (tree.Integer of number at) z (point_at s) b h in
      let q = as-value T basic (tree.Integer of number at) z (typed.Integer of number at i.0) (point_at s) b h i.2 refl in
      finish T basic called (tree.Integer of number at) z (AsValue (typed.Integer of number at i.0))
      (operand_with at (AsValue (typed.Integer of number at (integer_type (constant_type of)))) 1) s s b count here h q (judges-integer called of number at s ∙ integer_is of number at s)
      (stay s count here (uses-as T basic z (AsValue (typed.Integer of number at i.0)) (length s.table) count q uses))

  character_is : (number : ℤ) (at : Place) (s : State) → character number at s ≡ Gives (operand_with at (AsValue (typed.Character number at int_type)) 1) s
  unfolding character
  character_is number at s = leaf-is at (pure (AsValue (typed.Character number at int_type))) s s (AsValue (typed.Character number at int_type)) refl

  pub character-given : (number : ℤ) (at : Place) → IsGiven T (tree.Character number at)
  character-given number at called z s b count here h c uses room holds =
      let i = of-part T basic (tree.Character number at) z (point_at s) b h in
      let q = as-value T basic (tree.Character number at) z (typed.Character number at i.0) (point_at s) b h i.2 refl in
      finish T basic called (tree.Character number at) z (AsValue (typed.Character number at i.0)) (operand_with at (AsValue (typed.Character number at int_type)) 1) s s b count here h q
      (judges-character called number at s ∙ character_is number at s)
      (stay s count here (uses-as T basic z (AsValue (typed.Character number at i.0)) (length s.table) count q uses))

  -- Two operands

  element_plain : (s : Scopes) (which : Side) (e d : TypedExpr) (t : TypeId) → IsElement T s which e d t → IsPlain (bare e) × IsPlain (bare d)
  element_plain s side.Left e d t g = (bare-plain e g.pointer.plain, bare-plain d g.integer.plain)
  element_plain s side.Right e d t g = (bare-plain e g.integer.plain, bare-plain d g.pointer.plain)

  index_is : (at : Place) (v w : Value) (r : State) → first_broken (index_tests r.table r.seen.scopes at (AsValue v.expr) (AsValue w.expr)) ≡ None
      → held_with 0 (v.held ∷ w.held ∷ []) ≤ 256
      → index v at w r ≡ Gives (operand_with v.place (element v.expr at w.expr (pointee_at r.table (type_of v.expr)) (pointee_at r.table (type_of w.expr))) (held_with 0 (v.held ∷ w.held ∷ []))) r
  unfolding index
  index_is at v w r pass few =
      construct-is (λ s. index_tests s.table s.seen.scopes at (AsValue v.expr) (AsValue w.expr)) v.place (v.held ∷ w.held ∷ [])
      (by_known (λ s. pure (element v.expr at w.expr (pointee_at s.table (type_of v.expr)) (pointee_at s.table (type_of w.expr))))) r r
      (element v.expr at w.expr (pointee_at r.table (type_of v.expr)) (pointee_at r.table (type_of w.expr))) pass few refl

  pub index-given : (x : tree.Expr) (at : Place) (y : tree.Expr) → IsGiven T x → IsGiven T y → IsGiven T (tree.Index x at y)
  index-given x at y gx gy called z s b count here h c uses room holds =
      let i = of-part T basic (tree.Index x at y) z (point_at s) b h in
      let q = as-place z (typed.Element i.0 i.1 at i.2 i.3) i.6 in
      let plain = element_plain b.scopes i.0 i.1 i.2 i.3 i.5 in
      let rest = max-right (held (tree.Index x at y)) (max (expr_holds x) (expr_holds y)) 256 holds in
      let g =
      two-given T basic x y gx gy i.1 i.2 s b count here i.4 plain.0 plain.1 (uses-as T basic z (AsPlace (typed.Element i.0 i.1 at i.2 i.3)) (length s.table) count q uses)
      (room-as T basic z (AsPlace (typed.Element i.0 i.1 at i.2 i.3)) s q room) (max-left (expr_holds x) (expr_holds y) 256 rest) (max-right (expr_holds x) (expr_holds y) 256 rest) in
      let v : Value = g.first in
      let w : Value = g.second in
      let r : State = g.after in
      let pass =
      ap first_broken (index-over r.table T g.reached.way.first g.reached.here.known.basic r.seen.scopes at (AsValue v.expr) (AsValue w.expr) g.there_first g.there_second)
      ∙ subst (λ (sc : Scopes). Passes (index_tests T sc at (AsValue v.expr) (AsValue w.expr))) (sym (scopes-at T basic (made_by i.1 ++ made_by i.2) s r b count g.reached))
      (index-passes T b.scopes i.0 at i.1 i.2 i.3 (AsValue v.expr) (AsValue w.expr) i.5 (alike-as T basic v.expr (bare i.1) g.same_first) (alike-as T basic w.expr (bare i.2) g.same_second)) in
      let few = held-as (held_with 0 (v.held ∷ w.held ∷ [])) (held (tree.Index x at y)) 256 g.holds (max-left (held (tree.Index x at y)) (max (expr_holds x) (expr_holds y)) 256 holds) in
      finish T basic called (tree.Index x at y) z (AsPlace (typed.Element i.0 i.1 at i.2 i.3))
      (operand_with v.place (element v.expr at w.expr (pointee_at r.table (type_of v.expr)) (pointee_at r.table (type_of w.expr))) (held_with 0 (v.held ∷ w.held ∷ []))) s r b count here h q
      (judges-index called x at y v w s g.middle r
      (Gives (operand_with v.place (element v.expr at w.expr (pointee_at r.table (type_of v.expr)) (pointee_at r.table (type_of w.expr))) (held_with 0 (v.held ∷ w.held ∷ []))) r)
      g.gives_first g.gives_second (index_is at v w r pass few)) g.reached.way

  -- the part that an operator on two operands makes
  infix_part : (s : Scopes) (operator : Binary) (e : TypedExpr) (at : Place) (f : TypedExpr) (y : Part) (sort : Sort) → IsInfix T s operator e at f y sort
      → (w : TypedExpr) × (y ≡ OfValue w) × (is_taken_over w ≡ false) × (used_by T w ≡ used_by T e ++ used_by T f) × (made_by w ≡ made_by e ++ made_by f)
  infix_part s operator e at f y ByArithmetic h = (typed.Arithmetic operator e at f h.0, h.2, refl, refl, refl)
  infix_part s operator e at f y ByMove h = (typed.Moved operator h.0 e at f h.1, h.3, refl, refl, refl)
  infix_part s operator e at f y ByDifference h = (typed.Difference e at f h.0, h.2, refl, refl, refl)
  infix_part s operator e at f y ByComparison h = (typed.Compared operator e at f h.0, h.2, refl, refl, refl)
  infix_part s operator e at f y ByLogic h = (typed.Logical operator e at f h.0, h.2, refl, refl, refl)

  is_subtraction : (operator other : Binary) (e d x x' : tree.Expr) (at p : Place) → tree.Infix operator e at d ≡ tree.Infix other x p x' → operator ≡ other
  is_subtraction operator other e d x x' at p h = cc

  infix_passes : (operator : Binary) (x : tree.Expr) (at : Place) (y : tree.Expr) (begin : Place) (e d : TypedExpr) (w : Part) (a b : Point) (sort : Sort)
      → IsPartRead T (tree.Infix operator x at y) w a b → IsInfix T b.scopes operator e at d w sort → Passes (infix_tests T b.scopes operator at begin (AsValue (bare e)) (AsValue (bare d)))
  infix_passes operator x at y begin e d w a b ByArithmetic r h = arithmetic-passes T b.scopes operator at begin e d h.0 basic h.1
  infix_passes operator x at y begin e d w a b ByMove r h = moved-passes T b.scopes operator h.0 at begin e d h.1 h.2
  infix_passes operator x at y begin e d w a b ByDifference r h =
      let read = subst (λ (v : Part). IsPartRead T (tree.Infix operator x at y) v a b) h.2 r in
      let same : binary.Subtract ≡ operator = is_subtraction binary.Subtract operator (erased e) (erased d) x y at at read.1.0 in
      subst (λ (o : Binary). Passes (infix_tests T b.scopes o at begin (AsValue (bare e)) (AsValue (bare d)))) same (difference-passes T b.scopes at begin e d h.0 h.1)
  infix_passes operator x at y begin e d w a b ByComparison r h = compared-passes T b.scopes operator at begin e d h.0 h.1
  infix_passes operator x at y begin e d w a b ByLogic r h = logical-passes T b.scopes operator at begin e d h.0 h.1

  infix_is : (operator : Binary) (at : Place) (v w : Value) (r : State) → first_broken (infix_tests r.table r.seen.scopes operator at v.place (AsValue v.expr) (AsValue w.expr)) ≡ None
      → held_with 0 (v.held ∷ w.held ∷ []) ≤ 256
      → infix_of operator v at w r ≡ Gives (operand_with v.place (AsValue (operation r.table operator v.expr at w.expr)) (held_with 0 (v.held ∷ w.held ∷ []))) r
  unfolding infix_of
  infix_is operator at v w r pass few =
      construct-is (λ s. infix_tests s.table s.seen.scopes operator at v.place (AsValue v.expr) (AsValue w.expr)) v.place (v.held ∷ w.held ∷ [])
      (by_known (λ s. pure (AsValue (operation s.table operator v.expr at w.expr)))) r r (AsValue (operation r.table operator v.expr at w.expr)) pass few refl

  pub infix-given : (operator : Binary) (x : tree.Expr) (at : Place) (y : tree.Expr) → IsGiven T x → IsGiven T y → IsGiven T (tree.Infix operator x at y)
  infix-given operator x at y gx gy called z s b count here h c uses room holds =
      let i = of-part T basic (tree.Infix operator x at y) z (point_at s) b h in
      let sort : Sort = sort_of operator (shape_of T (bare i.0)) (shape_of T (bare i.1)) in
      let part = infix_part b.scopes operator i.0 at i.1 (of_part z) sort i.5 in
      let q = as-value T basic (tree.Infix operator x at y) z part.0 (point_at s) b h part.1 part.2 in
      let rest = max-right (held (tree.Infix operator x at y)) (max (expr_holds x) (expr_holds y)) 256 holds in
      let g =
      two-given T basic x y gx gy i.0 i.1 s b count here i.2 i.3 i.4
      (subst (λ (us : List Use). AreUses us (length s.table) count) part.3 (uses-as T basic z (AsValue part.0) (length s.table) count q uses))
      (subst (λ (made : List Made). HasRoom T made s) part.4 (room-as T basic z (AsValue part.0) s q room)) (max-left (expr_holds x) (expr_holds y) 256 rest) (max-right (expr_holds x) (expr_holds y) 256 rest) in
      let v : Value = g.first in
      let w : Value = g.second in
      let r : State = g.after in
      let pass =
      ap first_broken (infix-over r.table T g.reached.way.first g.reached.here.known.basic operator r.seen.scopes at v.place (AsValue v.expr) (AsValue w.expr) g.there_first g.there_second)
      ∙ subst (λ (sc : Scopes). Passes (infix_tests T sc operator at v.place (AsValue v.expr) (AsValue w.expr))) (sym (scopes-at T basic (made_by i.0 ++ made_by i.1) s r b count g.reached))
      (subst (λ (e : TypedExpr). Passes (infix_tests T b.scopes operator at v.place (AsValue e) (AsValue w.expr))) (sym g.same_first)
      (subst (λ (e : TypedExpr). Passes (infix_tests T b.scopes operator at v.place (AsValue (bare i.0)) (AsValue e))) (sym g.same_second)
      (infix_passes operator x at y v.place i.0 i.1 (of_part z) (point_at s) b sort (part-read T basic (tree.Infix operator x at y) z (point_at s) b h) i.5))) in
      let few = held-as (held_with 0 (v.held ∷ w.held ∷ [])) (held (tree.Infix operator x at y)) 256 g.holds (max-left (held (tree.Infix operator x at y)) (max (expr_holds x) (expr_holds y)) 256 holds) in
      finish T basic called (tree.Infix operator x at y) z (AsValue part.0)
      (operand_with v.place (AsValue (operation r.table operator v.expr at w.expr)) (held_with 0 (v.held ∷ w.held ∷ []))) s r b count here h q
      (judges-infix called operator x at y v w s g.middle r
      (Gives (operand_with v.place (AsValue (operation r.table operator v.expr at w.expr)) (held_with 0 (v.held ∷ w.held ∷ []))) r) g.gives_first g.gives_second (infix_is operator at v w r pass few))
      (subst (λ (made : List Made). IsOnWay T made s r count) (sym part.4) g.reached.way)

  -- Parentheses

  paren_inner : (at : Place) (x : tree.Expr) (z : Elaborated) (w : Part) (a b : Point) → IsElaboratedAt T (tree.Paren at x) z a b → of_part z ≡ part_in_parens at w → IsPartRead T x w a b
      → (u : Elaborated) × IsElaboratedAt T x u a b × (z ≡ in_parens at u)
  paren_inner at x z (OfPlace p) a b h q r = (AsPlace p, r, as-place z (typed.ParenPlace at p) q)
  paren_inner at x z (OfValue e) a b h q r = by (part-value z (typed.Paren at e) q)
    where
      by : (z ≡ AsValue (typed.Paren at e)) ⊎ (z ≡ AsAllocation (typed.Paren at e)) → (u : Elaborated) × IsElaboratedAt T x u a b × (z ≡ in_parens at u)
      by (inl k) =
          let n = (subst (λ (y : Elaborated). IsElaboratedAt T (tree.Paren at x) y a b) k h).1 in
          (AsValue e, (r.1, natural-by e false false true r.0 (natural-no_allocation (typed.Paren at e) n) (natural-plain (typed.Paren at e) n)), k)
      by (inr k) =
          let n = (subst (λ (y : Elaborated). IsElaboratedAt T (tree.Paren at x) y a b) k h).1 in
          (AsAllocation e, (r.1, n), k)

  parens_same : (at : Place) (u : Elaborated) → (used_by_part T (in_parens at u) ≡ used_by_part T u) × (made_by_part (in_parens at u) ≡ made_by_part u)
  parens_same at (AsPlace p) = (refl, refl)
  parens_same at (AsValue e) = (refl, refl)
  parens_same at (AsAllocation e) = (refl, refl)

  parens_called : (called : Bool) (at : Place) (u : Elaborated) → IsCallableAs called (in_parens at u) → IsCallableAs called u
  parens_called true at u h = tt
  parens_called false at (AsPlace p) h = tt
  parens_called false at (AsValue e) h = h
  parens_called false at (AsAllocation e) h = tt

  paren_is : (at : Place) (p : Operand) (r : State) → held_with 0 (p.held ∷ []) ≤ 256 → paren at p r ≡ Gives (operand_with at (in_parens at p.part) (held_with 0 (p.held ∷ []))) r
  unfolding paren
  paren_is at p r few = construct-is (λ s. []) at (p.held ∷ []) (pure (in_parens at p.part)) r r (in_parens at p.part) refl few refl

  pub paren-given : (at : Place) (x : tree.Expr) → IsGiven T x → IsGiven T (tree.Paren at x)
  paren-given at x gx called z s b count here h c uses room holds =
      let i = of-part T basic (tree.Paren at x) z (point_at s) b h in
      let u = paren_inner at x z i.0 (point_at s) b h i.2 i.1 in
      let same = parens_same at u.0 in
      let g =
      gx called u.0 s b count here u.1 (parens_called called at u.0 (subst (IsCallableAs called) u.2 c))
      (subst (λ (us : List Use). AreUses us (length s.table) count) same.0 (uses-as T basic z (in_parens at u.0) (length s.table) count u.2 uses))
      (subst (λ (made : List Made). HasRoom T made s) same.1 (room-as T basic z (in_parens at u.0) s u.2 room)) (max-right (held (tree.Paren at x)) (expr_holds x) 256 holds) in
      let p : Operand = g.operand in
      let few = held-as (held_with 0 (p.held ∷ [])) (held (tree.Paren at x)) 256 (λ j. held_with 0 (g.held j ∷ [])) (max-left (held (tree.Paren at x)) (expr_holds x) 256 holds) in
      finish T basic called (tree.Paren at x) z (in_parens at u.0) (operand_with at (in_parens at p.part) (held_with 0 (p.held ∷ []))) s g.after b count here h u.2
      (judges-paren called at x p s g.after (Gives (operand_with at (in_parens at p.part) (held_with 0 (p.held ∷ []))) g.after) g.gives (paren_is at p g.after few))
      (subst (λ (made : List Made). IsOnWay T made s g.after count) (sym same.1) g.reached.way)

  -- `+`, `-`, `~` and `!`

  prefix_is : (operator : Unary) (at : Place) (v : Value) (r : State) → first_broken (prefix_tests r.table r.seen.scopes operator at (AsValue v.expr)) ≡ None
      → held_with 0 (v.held ∷ []) ≤ 256 → prefix_of operator at v r ≡ Gives (operand_with at (AsValue (operator_on r.table operator at v.expr)) (held_with 0 (v.held ∷ []))) r
  unfolding prefix_of
  prefix_is operator at v r pass few =
      construct-is (λ s. prefix_tests s.table s.seen.scopes operator at (AsValue v.expr)) at (v.held ∷ []) (by_known (λ s. pure (AsValue (operator_on s.table operator at v.expr)))) r r
      (AsValue (operator_on r.table operator at v.expr)) pass few refl

  prefixed_given : (operator : Unary) (at : Place) (x : tree.Expr) → IsGiven T x → ((p : Operand) (q : State) → prefix operator at p q ≡ next (value p q) (prefix_of operator at))
      → (called : Bool) (z : Elaborated) (s : State) (b : Point) (count : ℕ) → IsHere T s → IsElaboratedAt T (tree.Prefix operator at x) z (point_at s) b
      → (e : TypedExpr) (t : TypeId) → IsRead T x e (point_at s) b → IsPrefix operator T at e t → of_part z ≡ OfValue (typed.Prefix operator at e t)
      → AreUses (used_by_part T z) (length s.table) count → HasRoom T (made_by_part z) s → expr_holds (tree.Prefix operator at x) ≤ 256
      → IsPartGiven T called (tree.Prefix operator at x) z s b count
  prefixed_given operator at x gx same called z s b count here h e t read w k uses room holds =
      let q = as-value T basic (tree.Prefix operator at x) z (typed.Prefix operator at e t) (point_at s) b h k refl in
      let g =
      plain-given T basic x gx e s b count here read (prefix-plain operator T at e t w) (uses-as T basic z (AsValue (typed.Prefix operator at e t)) (length s.table) count q uses)
      (room-as T basic z (AsValue (typed.Prefix operator at e t)) s q room) (max-right (held (tree.Prefix operator at x)) (expr_holds x) 256 holds) in
      let v : Value = g.value in
      let r : State = g.after in
      let pass =
      ap first_broken (prefix-over r.table T g.reached.way.first g.reached.here.known.basic operator r.seen.scopes at (AsValue v.expr) g.there)
      ∙ subst (λ (sc : Scopes). Passes (prefix_tests T sc operator at (AsValue v.expr))) (sym (scopes-at T basic (made_by e) s r b count g.reached))
      (prefix-passes operator T b.scopes at e t (AsValue v.expr) w (alike-as T basic v.expr (bare e) g.same)) in
      let few = held-as (held_with 0 (v.held ∷ [])) (held (tree.Prefix operator at x)) 256 (λ j. held_with 0 (g.held j ∷ [])) (max-left (held (tree.Prefix operator at x)) (expr_holds x) 256 holds) in
      finish T basic called (tree.Prefix operator at x) z (AsValue (typed.Prefix operator at e t))
      (operand_with at (AsValue (operator_on r.table operator at v.expr)) (held_with 0 (v.held ∷ []))) s r b count here h q
      (judges-valued called operator at x (prefix_of operator at) v s r (Gives (operand_with at (AsValue (operator_on r.table operator at v.expr)) (held_with 0 (v.held ∷ []))) r) same
      g.gives (prefix_is operator at v r pass few)) g.reached.way

  prefix_valued : (operator : Unary) (at : Place) (p : Operand) (q : State) → is_arithmetic_prefix operator ≡ true → prefix operator at p q ≡ next (value p q) (prefix_of operator at)
  unfolding prefix
  prefix_valued unary.Plus at p q h = refl
  prefix_valued unary.Minus at p q h = refl
  prefix_valued unary.Complement at p q h = refl
  prefix_valued unary.Not at p q h = refl
  prefix_valued unary.AddressOf at p q h = no_true h
  prefix_valued unary.Dereference at p q h = no_true h
  prefix_valued unary.SizeOf at p q h = no_true h
  prefix_valued unary.Increment at p q h = no_true h
  prefix_valued unary.Decrement at p q h = no_true h

  pub plus-given : (at : Place) (x : tree.Expr) → IsGiven T x → IsGiven T (tree.Prefix unary.Plus at x)
  plus-given at x gx called z s b count here h c uses room holds =
      let i = of-part T basic (tree.Prefix unary.Plus at x) z (point_at s) b h in
      prefixed_given unary.Plus at x gx (λ p q. prefix_valued unary.Plus at p q refl) called z s b count here h i.0 i.1 i.2 i.3 i.4 uses room holds

  pub minus-given : (at : Place) (x : tree.Expr) → IsGiven T x → IsGiven T (tree.Prefix unary.Minus at x)
  minus-given at x gx called z s b count here h c uses room holds =
      let i = of-part T basic (tree.Prefix unary.Minus at x) z (point_at s) b h in
      prefixed_given unary.Minus at x gx (λ p q. prefix_valued unary.Minus at p q refl) called z s b count here h i.0 i.1 i.2 i.3 i.4 uses room holds

  pub complement-given : (at : Place) (x : tree.Expr) → IsGiven T x → IsGiven T (tree.Prefix unary.Complement at x)
  complement-given at x gx called z s b count here h c uses room holds =
      let i = of-part T basic (tree.Prefix unary.Complement at x) z (point_at s) b h in
      prefixed_given unary.Complement at x gx (λ p q. prefix_valued unary.Complement at p q refl) called z s b count here h i.0 i.1 i.2 i.3 i.4 uses room holds

  pub not-given : (at : Place) (x : tree.Expr) → IsGiven T x → IsGiven T (tree.Prefix unary.Not at x)
  not-given at x gx called z s b count here h c uses room holds =
      let i = of-part T basic (tree.Prefix unary.Not at x) z (point_at s) b h in
      prefixed_given unary.Not at x gx (λ p q. prefix_valued unary.Not at p q refl) called z s b count here h i.0 i.1 i.2 i.3 i.4 uses room holds

  -- `*`

  target_valued : (at : Place) (p : Operand) (q : State) → prefix unary.Dereference at p q ≡ next (value p q) (target_of at)
  unfolding prefix target
  target_valued at p q = refl

  target_is : (at : Place) (v : Value) (r : State) → first_broken (target_tests r.table r.seen.scopes at (AsValue v.expr)) ≡ None → held_with 0 (v.held ∷ []) ≤ 256
      → target_of at v r ≡ Gives (operand_with at (pointed r.table at v.expr (pointee_at r.table (type_of v.expr))) (held_with 0 (v.held ∷ []))) r
  unfolding target_of
  target_is at v r pass few =
      construct-is (λ s. target_tests s.table s.seen.scopes at (AsValue v.expr)) at (v.held ∷ []) (by_known (λ s. pure (pointed s.table at v.expr (pointee_at s.table (type_of v.expr))))) r r
      (pointed r.table at v.expr (pointee_at r.table (type_of v.expr))) pass few refl

  -- what `*` makes of a value, by its tests
  pointed_given : (at : Place) (x : tree.Expr) → IsGiven T x → (called : Bool) (z u : Elaborated) (s : State) (b : Point) (count : ℕ) → IsHere T s
      → IsElaboratedAt T (tree.Prefix unary.Dereference at x) z (point_at s) b → (e : TypedExpr) → IsRead T x e (point_at s) b → IsPlain (bare e) → z ≡ u → used_by_part T u ≡ used_by T e
      → made_by_part u ≡ made_by e → ((y : Elaborated) → IsAlike T y (bare e) → Passes (target_tests T b.scopes at y))
      → AreUses (used_by_part T z) (length s.table) count → HasRoom T (made_by_part z) s → expr_holds (tree.Prefix unary.Dereference at x) ≤ 256
      → IsPartGiven T called (tree.Prefix unary.Dereference at x) z s b count
  pointed_given at x gx called z u s b count here h e read plain q used made passes uses room holds =
      let g =
      plain-given T basic x gx e s b count here read plain (subst (λ (us : List Use). AreUses us (length s.table) count) used (uses-as T basic z u (length s.table) count q uses))
      (subst (λ (all : List Made). HasRoom T all s) made (room-as T basic z u s q room)) (max-right (held (tree.Prefix unary.Dereference at x)) (expr_holds x) 256 holds) in
      let v : Value = g.value in
      let r : State = g.after in
      let pass =
      ap first_broken (target-over r.table T g.reached.way.first g.reached.here.known.basic r.seen.scopes at (AsValue v.expr) g.there)
      ∙ subst (λ (sc : Scopes). Passes (target_tests T sc at (AsValue v.expr))) (sym (scopes-at T basic (made_by e) s r b count g.reached)) (passes (AsValue v.expr) (alike-as T basic v.expr (bare e) g.same)) in
      let few = held-as (held_with 0 (v.held ∷ [])) (held (tree.Prefix unary.Dereference at x)) 256 (λ j. held_with 0 (g.held j ∷ [])) (max-left (held (tree.Prefix unary.Dereference at x)) (expr_holds x) 256 holds) in
      finish T basic called (tree.Prefix unary.Dereference at x) z u (operand_with at (pointed r.table at v.expr (pointee_at r.table (type_of v.expr))) (held_with 0 (v.held ∷ []))) s r b count here h q
      (judges-valued called unary.Dereference at x (target_of at) v s r
      (Gives (operand_with at (pointed r.table at v.expr (pointee_at r.table (type_of v.expr))) (held_with 0 (v.held ∷ []))) r) (target_valued at) g.gives (target_is at v r pass few))
      (subst (λ (all : List Made). IsOnWay T all s r count) (sym made) g.reached.way)

  pub target-given : (at : Place) (x : tree.Expr) → IsGiven T x → IsGiven T (tree.Prefix unary.Dereference at x)
  target-given at x gx called z s b count here h c uses room holds = by (of_part z) refl (of-part T basic (tree.Prefix unary.Dereference at x) z (point_at s) b h)
    where
      by : (y : Part) → of_part z ≡ y → IsPointed T x at (point_at s) b y → IsPartGiven T called (tree.Prefix unary.Dereference at x) z s b count
      by _ q (to-function e read f) =
          pointed_given at x gx called z (AsValue (typed.FunctionAt at e)) s b count here h e read (bare-plain e f.pointer.plain)
          (as-value T basic (tree.Prefix unary.Dereference at x) z (typed.FunctionAt at e) (point_at s) b h q refl) refl refl (λ y like. function-passes T b.scopes at e y f like) uses room holds
      by _ q (to-object e t read f) =
          pointed_given at x gx called z (AsPlace (typed.Target at e t)) s b count here h e read (bare-plain e f.pointer.plain)
          (as-place z (typed.Target at e t) q) refl refl (λ y like. target-passes T b.scopes at e t y f like) uses room holds
