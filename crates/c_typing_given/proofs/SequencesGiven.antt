-- `,` and `?:` are given.
use Rattle.std.proofs.Common.{◌≡◌, ◌≤◌, ℕ, max, true, false, ◌&&◌, List, [], ◌∷◌, ◌++◌, length, Some, refl, ap, sym, subst, ◌∙◌, inl, inr, ◌⊎◌}
use Rattle.cc_base.specs.declared.place.Place.{Place}
use Rattle.c_types.specs.declared.shape.TypeShape.TheVariants.{Void}
use Rattle.c_types.specs.Table.{Table, IsAggregate, shape_at}
use Rattle.c_tree.specs.Tree as tree
use Rattle.c_tree.specs.TypedTree as typed
use Rattle.c_tree.specs.TypedTree.{TypedExpr, TypedPlace}
use Rattle.c_tree.specs.TypedParts.{Made, Address, made_by, type_of, place_type}
use Rattle.c_typing.specs.Assignments.{comma_part, choice_of_parts}
use Rattle.c_typing.specs.Constants.{is_null_constant}
use Rattle.c_typing.specs.Conversions.{bare, is_plain, IsPlain, to_integer}
use Rattle.c_typing.specs.Held.{held, held_with}
use Rattle.c_typing.specs.Integers.{common}
use Rattle.c_typing.specs.Judging.{State, Gives, next, void_type, integer_type}
use Rattle.c_typing.specs.Operands.{Value, value, side_of}
use Rattle.c_typing.specs.Rules.{IsCondition, AreOneStruct, IsIntegerChoice, IsVoidChoice, meeting, meeting_type, into_choice}
use Rattle.c_typing.specs.Settled.{IsBasic}
use Rattle.c_typing.specs.Shapes.{integer_at, integer_of_shape, is_void_shape}
use Rattle.c_typing.specs.Tests.{Elaborated, AsPlace, AsValue, first_broken}
use Rattle.c_typing.specs.Walks.{judge}
use Rattle.c_typing_laws.specs.Numbers.{made_by_part}
use Rattle.c_typing_unique.specs.Points.{Point, IsRead, IsReadPlace}
use Rattle.c_typing_unique.proofs.OperatorLaws.{bare-plain}
use Rattle.c_typing_unique.proofs.Reading.{Part, OfValue, OfPlace, plain-bare}
use Rattle.c_typing_unique.proofs.Readings.{Both, IsChosen, between-values, between-structs, IsSequence, with-value, with-struct}
use Rattle.c_typing_unique.proofs.ValueLaws.{IsValueChoice, plainly, by-pointers, choice-plain}
use Rattle.c_typing_exact.proofs.ChoicePasses.{choice-passes, pointer-choice-passes, struct-choice-passes}
use Rattle.c_typing_exact.proofs.ExprExact.{droppable_over}
use Rattle.c_rules_alike.specs.PartsThere.{IsPartThere}
use Rattle.c_rules_alike.proofs.ConversionRules.{choice-over}
use Rattle.c_rules_alike.proofs.MadeAlike.{meeting-over}
use Rattle.c_rules_alike.proofs.PartsThere.{part_there-kept}
use Rattle.c_rules_alike.proofs.TypesAlike.{integer-over, shape-over}
use Rattle.c_type_order.specs.Uses.{used_by_part}
use Rattle.c_typing_given.specs.Given.{point_at, IsHere, IsOnWay, IsReached, IsPartGiven, IsGiven}
use Rattle.c_unit_typing.specs.Holding.{expr_holds}
use Rattle.c_typing_given.specs.Spending.{HasRoom}
use Rattle.c_type_order.specs.TypesUsed.{AreUses, used_by, Use, OfType}
use Rattle.c_typing_given.proofs.Constructing.{as-place, as-value, of-part, finish, uses-as, room-as, uses-at, alike-as, reached-both, IsSimple, plain-simple, simple-given, two-simple, max-left, max-right, held-as}
use Rattle.c_typing_given.proofs.Settling.{of_part}
use Rattle.c_typing_given.proofs.Spent.{room-first, room-then}
use Rattle.c_typing_given.proofs.Steps.{operand_with}
use Rattle.c_typing_given.proofs.ValuesGiven.{uses-first, pointer-after, way-pointer}
use Rattle.c_typing_given.proofs.SequenceSteps.{judges-comma, judges-choice, comma-is, choice-is, structs-chosen, integers-chosen, others-chosen, voids-chosen, pointers-chosen, met-by}
pub use Rattle.c_typing_given.proofs.SequenceSteps.{unread-read, side-plain, one-aggregate}

module _ (T : Table) (basic : IsBasic T) where
  pub comma-given : (x y : tree.Expr) → IsGiven T x → IsGiven T y → IsGiven T (tree.Comma x y)
  comma-given x y gx gy called z s b count here h c uses room holds = by (of_part z) refl (of-part T basic (tree.Comma x y) z (point_at s) b h)
    where
      rest : max (expr_holds x) (expr_holds y) ≤ 256
      rest = max-right (held (tree.Comma x y)) (max (expr_holds x) (expr_holds y)) 256 holds

      done : (e f : TypedExpr) (u : Elaborated) → z ≡ u → used_by_part T u ≡ used_by T e ++ used_by T f → made_by_part u ≡ made_by e ++ made_by f
          → Both (IsRead T x e) (IsRead T y f) (point_at s) b → IsSimple T basic e → IsSimple T basic f → IsPartGiven T called (tree.Comma x y) z s b count
      done e f u q used made both se sf =
          let g =
          two-simple T basic x y gx gy e f s b count here both se sf (subst (λ (us : List Use). AreUses us (length s.table) count) used (uses-as T basic z u (length s.table) count q uses))
          (subst (λ (all : List Made). HasRoom T all s) made (room-as T basic z u s q room)) (max-left (expr_holds x) (expr_holds y) 256 rest) (max-right (expr_holds x) (expr_holds y) 256 rest) in
          let v : Value = g.first in
          let w : Value = g.second in
          let few = held-as (held_with 0 (v.held ∷ w.held ∷ [])) (held (tree.Comma x y)) 256 g.holds (max-left (held (tree.Comma x y)) (max (expr_holds x) (expr_holds y)) 256 holds) in
          finish T basic called (tree.Comma x y) z u (operand_with v.place (comma_part v.expr (side_of w.expr)) (held_with 0 (v.held ∷ w.held ∷ []))) s g.after b count here h q
          (judges-comma called x y v w s g.middle g.after (Gives (operand_with v.place (comma_part v.expr (side_of w.expr)) (held_with 0 (v.held ∷ w.held ∷ []))) g.after)
          g.gives_first g.gives_second (comma-is v w g.after few))
          (subst (λ (all : List Made). IsOnWay T all s g.after count) (sym made) g.reached.way)

      by : (p : Part) → of_part z ≡ p → IsSequence T x y (point_at s) b p → IsPartGiven T called (tree.Comma x y) z s b count
      by _ k (with-value e f both d p) =
          done e f (AsValue (typed.Comma e f)) (as-value T basic (tree.Comma x y) z (typed.Comma e f) (point_at s) b h k refl) refl refl both (droppable_over e d)
          (plain-simple T basic f (bare-plain f p))
      by _ k (with-struct e p both d a) =
          done e (typed.Unread p) (AsPlace (typed.StructComma e p)) (as-place z (typed.StructComma e p) k) refl refl
          (both.0, both.1, unread-read T y p both.0 b both.2 a) (droppable_over e d) (refl, refl)

  -- Three values

  record AreThreeGiven (x y y' : tree.Expr) (c v w : TypedExpr) (s : State) (b : Point) (count : ℕ) : Type 0 where
    test : Value
    first : Value
    second : Value
    early : State
    middle : State
    after : State
    gives_test : next (judge false x s) value ≡ Gives test early
    gives_first : next (judge false y early) value ≡ Gives first middle
    gives_second : next (judge false y' middle) value ≡ Gives second after
    same_test : test.expr ≡ bare c
    same_first : first.expr ≡ bare v
    same_second : second.expr ≡ bare w
    held_test : test.held ≡ held x
    held_first : first.held ≡ held y
    held_second : second.held ≡ held y'
    there_test : IsPartThere after.table (AsValue test.expr)
    there_first : IsPartThere after.table (AsValue first.expr)
    there_second : IsPartThere after.table (AsValue second.expr)
    reached : IsReached T (made_by c ++ made_by v ++ made_by w) s after b count

  three_given : (x y y' : tree.Expr) → IsGiven T x → IsGiven T y → IsGiven T y' → (c v w : TypedExpr) (s : State) (b : Point) (count : ℕ) → IsHere T s
      → Both (IsRead T x c) (Both (IsRead T y v) (IsRead T y' w)) (point_at s) b → IsSimple T basic c → IsSimple T basic v → IsSimple T basic w
      → AreUses (used_by T c ++ used_by T v ++ used_by T w) (length s.table) count → HasRoom T (made_by c ++ made_by v ++ made_by w) s
      → expr_holds x ≤ 256 → expr_holds y ≤ 256 → expr_holds y' ≤ 256 → AreThreeGiven x y y' c v w s b count
  three_given x y y' gx gy gz c v w s b count here h sc sv sw uses room hx hy hz =
      let us = uses-first (used_by T c ++ used_by T v) (used_by T w) (length s.table) count uses in
      let vs = uses-first (used_by T c) (used_by T v) (length s.table) us.0 us.1 in
      let half = room-first T (made_by c ++ made_by v) (made_by w) s room in
      let p = simple-given T basic x gx c s h.0 vs.0 here h.1 sc vs.1 (room-first T (made_by c) (made_by v) s half) hx in
      let read : IsRead T y v (point_at p.after) h.2.0 = subst (λ (a : Point). IsRead T y v a h.2.0) (sym p.reached.point) h.2.1 in
      let q =
      simple-given T basic y gy v p.after h.2.0 us.0 p.reached.here read sv (uses-at T basic (used_by T v) (made_by c) s p.after h.0 vs.0 us.0 p.reached vs.2)
      (room-then T (made_by c) (made_by v) s p.after half p.reached.way.spent) hy in
      let two = reached-both T basic (made_by c) (made_by v) s p.after q.after h.0 h.2.0 vs.0 us.0 p.reached q.reached in
      let read' : IsRead T y' w (point_at q.after) b = subst (λ (a : Point). IsRead T y' w a b) (sym q.reached.point) h.2.2 in
      let r =
      simple-given T basic y' gz w q.after b count q.reached.here read' sw (uses-at T basic (used_by T w) (made_by c ++ made_by v) s q.after h.2.0 us.0 count two us.2)
      (room-then T (made_by c ++ made_by v) (made_by w) s q.after room two.way.spent) hz in
      record {
        test = p.value;
        first = q.value;
        second = r.value;
        early = p.after;
        middle = q.after;
        after = r.after;
        gives_test = p.gives;
        gives_first = q.gives;
        gives_second = r.gives;
        same_test = p.same;
        same_first = q.same;
        same_second = r.same;
        held_test = p.held;
        held_first = q.held;
        held_second = r.held;
        there_test = part_there-kept q.after.table r.after.table r.reached.grown q.reached.here.known.basic (AsValue p.value.expr)
            (part_there-kept p.after.table q.after.table q.reached.grown p.reached.here.known.basic (AsValue p.value.expr) p.there);
        there_first = part_there-kept q.after.table r.after.table r.reached.grown q.reached.here.known.basic (AsValue q.value.expr) q.there;
        there_second = r.there;
        reached = reached-both T basic (made_by c ++ made_by v) (made_by w) s q.after r.after h.2.0 b us.0 count two r.reached;
      }

  side_there : (J : Table) (p : TypedPlace) (v : TypedExpr) → v ≡ typed.Unread p → IsPartThere J (AsValue v) → IsPartThere J (AsPlace p)
  side_there J p v h k =
      let t = subst (λ (w : TypedExpr). IsPartThere J (AsValue w)) h k in
      record { before = t.before; after = t.after; typed = t.typed.0; type = t.type }

  pub conditional-given : (x : tree.Expr) (at : Place) (y y' : tree.Expr) → IsGiven T x → IsGiven T y → IsGiven T y' → IsGiven T (tree.Conditional x at y y')
  conditional-given x at y y' gx gy gz called z s b count here h c uses room holds = by (of_part z) refl (of-part T basic (tree.Conditional x at y y') z (point_at s) b h)
    where
      whole : tree.Expr
      whole = tree.Conditional x at y y'

      rest : max (expr_holds x) (max (expr_holds y) (expr_holds y')) ≤ 256
      rest = max-right (held (tree.Conditional x at y y')) (max (expr_holds x) (max (expr_holds y) (expr_holds y'))) 256 holds

      hx : expr_holds x ≤ 256
      hx = max-left (expr_holds x) (max (expr_holds y) (expr_holds y')) 256 rest

      hr : max (expr_holds y) (expr_holds y') ≤ 256
      hr = max-right (expr_holds x) (max (expr_holds y) (expr_holds y')) 256 rest

      few_of : (u v w : Value) → u.held ≡ held x → v.held ≡ held y → w.held ≡ held y' → held_with 0 (u.held ∷ v.held ∷ w.held ∷ []) ≤ 256
      few_of u v w p q r =
          held-as (held_with 0 (u.held ∷ v.held ∷ w.held ∷ [])) (held (tree.Conditional x at y y')) 256 (λ i. held_with 0 (p i ∷ q i ∷ r i ∷ []))
          (max-left (held (tree.Conditional x at y y')) (max (expr_holds x) (max (expr_holds y) (expr_holds y'))) 256 holds)

      three : (e f g : TypedExpr) (m : Point) (k : ℕ) → Both (IsRead T x e) (Both (IsRead T y f) (IsRead T y' g)) (point_at s) m → IsSimple T basic e → IsSimple T basic f → IsSimple T basic g
          → AreUses (used_by T e ++ used_by T f ++ used_by T g) (length s.table) k → HasRoom T (made_by e ++ made_by f ++ made_by g) s → AreThreeGiven x y y' e f g s m k
      three e f g m k both se sf sg us rm =
          three_given x y y' gx gy gz e f g s m k here both se sf sg us rm hx (max-left (expr_holds y) (expr_holds y') 256 hr) (max-right (expr_holds y) (expr_holds y') 256 hr)

      values : (e f g v : TypedExpr) (m : Point) → of_part z ≡ OfValue v → Both (IsRead T x e) (Both (IsRead T y f) (IsRead T y' g)) (point_at s) m
          → IsValueChoice T e at f g m.node b.node v → IsPartGiven T called (tree.Conditional x at y y') z s b count
      values e f g _ m k both (plainly t w n) = plain_choice w.1
        where
          plain : IsPlain e × IsPlain (bare f) × IsPlain (bare g)
          plain = choice-plain T e at f g m.node b.node (typed.Conditional e at f g t) (plainly t w n)

          q : z ≡ AsValue (typed.Conditional e at f g t)
          q = as-value T basic (tree.Conditional x at y y') z (typed.Conditional e at f g t) (point_at s) b h k refl

          g3 : AreThreeGiven x y y' e f g s m count
          g3 =
              three e f g m count both (plain-simple T basic e (bare-plain e plain.0)) (plain-simple T basic f plain.1) (plain-simple T basic g plain.2)
              (uses-as T basic z (AsValue (typed.Conditional e at f g t)) (length s.table) count q uses) (room-as T basic z (AsValue (typed.Conditional e at f g t)) s q room)

          done : (d : AreThreeGiven x y y' e f g s m count) (u : Elaborated) → choice_of_parts d.test.expr d.test.place at (AsValue d.first.expr) (AsValue d.second.expr) d.after ≡ Gives u d.after
              → IsPartGiven T called (tree.Conditional x at y y') z s b count
          done d u made =
              let r : State = d.after in
              let pass =
              ap first_broken (choice-over r.table T d.reached.way.first d.reached.here.known.basic at (AsValue d.test.expr) (AsValue d.first.expr) (AsValue d.second.expr) d.there_test d.there_first d.there_second)
              ∙ choice-passes T at e f g (AsValue d.test.expr) (AsValue d.first.expr) (AsValue d.second.expr) w.0 (alike-as T basic d.test.expr (bare e) d.same_test)
              (alike-as T basic d.first.expr (bare f) d.same_first) (alike-as T basic d.second.expr (bare g) d.same_second) t w.1 in
              finish T basic called (tree.Conditional x at y y') z (AsValue (typed.Conditional e at f g t))
              (operand_with d.test.place u (held_with 0 (d.test.held ∷ d.first.held ∷ d.second.held ∷ []))) s r b count here h q
              (judges-choice called x at y y' d.test d.first d.second s d.early d.middle r (Gives (operand_with d.test.place u (held_with 0 (d.test.held ∷ d.first.held ∷ d.second.held ∷ []))) r)
              d.gives_test d.gives_first d.gives_second
              (choice-is d.test at d.first d.second (AsValue d.first.expr) (AsValue d.second.expr) u r r (side-plain d.first.expr (ap is_plain d.same_first ∙ plain.1))
              (side-plain d.second.expr (ap is_plain d.same_second ∙ plain.2)) pass (few_of d.test d.first d.second d.held_test d.held_first d.held_second) made))
              d.reached.way

          kind : (d : AreThreeGiven x y y' e f g s m count) (a v : TypedExpr) → IsPartThere d.after.table (AsValue a) → a ≡ v → integer_at d.after.table (type_of a) ≡ integer_at T (type_of v)
          kind d a v there same = integer-over d.after.table T d.reached.way.first d.reached.here.known.basic (type_of a) there.type ∙ ap (λ (o : TypedExpr). integer_at T (type_of o)) same

          shape : (d : AreThreeGiven x y y' e f g s m count) (a v : TypedExpr) → IsPartThere d.after.table (AsValue a) → a ≡ v → shape_at d.after.table (type_of a) ≡ shape_at T (type_of v)
          shape d a v there same = shape-over d.after.table T d.reached.way.first d.reached.here.known.basic (type_of a) there.type ∙ ap (λ (o : TypedExpr). shape_at T (type_of o)) same

          plain_choice : IsIntegerChoice T at f g t ⊎ IsVoidChoice T f g t → IsPartGiven T called (tree.Conditional x at y y') z s b count
          plain_choice (inl i) =
              done g3 (AsValue (typed.Conditional g3.test.expr at (to_integer at (integer_type (common i.left i.right)) g3.first.expr) (to_integer at (integer_type (common i.left i.right)) g3.second.expr)
              (integer_type (common i.left i.right))))
              (integers-chosen g3.test.expr g3.test.place at g3.first.expr g3.second.expr i.left i.right g3.after (kind g3 g3.first.expr (bare f) g3.there_first g3.same_first ∙ i.first)
              (kind g3 g3.second.expr (bare g) g3.there_second g3.same_second ∙ i.second))
          plain_choice (inr i) =
              let left : shape_at g3.after.table (type_of g3.first.expr) ≡ Void =
              shape g3 g3.first.expr f g3.there_first (g3.same_first ∙ plain-bare f i.first.0) ∙ i.first.1.1 in
              let right : shape_at g3.after.table (type_of g3.second.expr) ≡ Void =
              shape g3 g3.second.expr g g3.there_second (g3.same_second ∙ plain-bare g i.second.0) ∙ i.second.1.1 in
              done g3 (AsValue (typed.Conditional g3.test.expr at g3.first.expr g3.second.expr void_type))
              (others-chosen g3.test.expr g3.test.place at g3.first.expr g3.second.expr true g3.after
              (Gives (AsValue (typed.Conditional g3.test.expr at g3.first.expr g3.second.expr void_type)) g3.after) (inl (ap integer_of_shape left))
              (λ j. is_void_shape (left j) && is_void_shape (right j)) (voids-chosen g3.test.expr g3.test.place at g3.first.expr g3.second.expr g3.after))
      values e f g _ m k both (by-pointers n t w node) =
          let q = as-value T basic (tree.Conditional x at y y') z (typed.PointerConditional e at f g n t) (point_at s) b h k refl in
          let us = uses-first (used_by T e ++ used_by T f ++ used_by T g) (OfType t ∷ []) (length s.table) count (uses-as T basic z (AsValue (typed.PointerConditional e at f g n t)) (length s.table) count q uses) in
          let all = room-as T basic z (AsValue (typed.PointerConditional e at f g n t)) s q room in
          let d =
          three e f g m us.0 both (plain-simple T basic e (bare-plain e w.condition.plain)) (plain-simple T basic f w.plain.0) (plain-simple T basic g w.plain.1) us.1
          (room-first T (made_by e ++ made_by f ++ made_by g) (Address n ∷ []) s all) in
          let r : State = d.after in
          let first = d.reached.way.first in
          let known = d.reached.here.known.basic in
          let met : meeting_type (meeting r.table d.first.expr d.second.expr) ≡ Some w.to =
          ap meeting_type (meeting-over r.table T first known d.first.expr d.second.expr d.there_first d.there_second)
          ∙ (λ i. meeting_type (meeting T (d.same_first i) (d.same_second i))) ∙ w.meets in
          let apart = met-by r.table (is_null_constant r.table d.first.expr) (is_null_constant r.table d.second.expr) (shape_at r.table (type_of d.first.expr)) (shape_at r.table (type_of d.second.expr)) w.to met in
          let made = pointer-after T basic d.test.place n t w.to (made_by e ++ made_by f ++ made_by g) s r m us.0 count d.reached w.type node us.2 all in
          let pass =
          ap first_broken (choice-over r.table T first known at (AsValue d.test.expr) (AsValue d.first.expr) (AsValue d.second.expr) d.there_test d.there_first d.there_second)
          ∙ pointer-choice-passes T at e f g (AsValue d.test.expr) (AsValue d.first.expr) (AsValue d.second.expr) w.condition (alike-as T basic d.test.expr (bare e) d.same_test)
          (alike-as T basic d.first.expr (bare f) d.same_first) (alike-as T basic d.second.expr (bare g) d.same_second) n t w in
          let u : Elaborated = AsValue (typed.PointerConditional d.test.expr at (into_choice made.after.table at t d.first.expr) (into_choice made.after.table at t d.second.expr) n t) in
          finish T basic called (tree.Conditional x at y y') z (AsValue (typed.PointerConditional e at f g n t))
          (operand_with d.test.place (AsValue (typed.PointerConditional d.test.expr at (into_choice made.after.table at t d.first.expr) (into_choice made.after.table at t d.second.expr) n t))
          (held_with 0 (d.test.held ∷ d.first.held ∷ d.second.held ∷ []))) s made.after b count here h q
          (judges-choice called x at y y' d.test d.first d.second s d.early d.middle r (Gives (operand_with d.test.place u (held_with 0 (d.test.held ∷ d.first.held ∷ d.second.held ∷ []))) made.after)
          d.gives_test d.gives_first d.gives_second
          (choice-is d.test at d.first d.second (AsValue d.first.expr) (AsValue d.second.expr) u r made.after (side-plain d.first.expr (ap is_plain d.same_first ∙ w.plain.0))
          (side-plain d.second.expr (ap is_plain d.same_second ∙ w.plain.1)) pass (few_of d.test d.first d.second d.held_test d.held_first d.held_second)
          (others-chosen d.test.expr d.test.place at d.first.expr d.second.expr false r (Gives u made.after) apart.0 apart.1
          (pointers-chosen d.test.expr d.test.place at d.first.expr d.second.expr w.to n t r made.after met made.gives))))
          (way-pointer T basic (made_by e ++ made_by f ++ made_by g) s r us.0 count d.test.place n t w.to d.reached.here d.reached.way made)

      structs : (e : TypedExpr) (p p' : TypedPlace) → of_part z ≡ OfPlace (typed.StructConditional e at p p') → Both (IsRead T x e) (Both (IsReadPlace T y p) (IsReadPlace T y' p')) (point_at s) b
          → IsCondition T e → AreOneStruct T p p' → IsAggregate T (place_type p') → IsPartGiven T called (tree.Conditional x at y y') z s b count
      structs e p p' k both w i other =
          let q = as-place z (typed.StructConditional e at p p') k in
          let d =
          three e (typed.Unread p) (typed.Unread p') b count
          (both.0, both.1, (both.2.0, unread-read T y p both.0 both.2.0 both.2.1 i.aggregate, unread-read T y' p' both.2.0 b both.2.2 other))
          (plain-simple T basic e (bare-plain e w.plain)) (refl, refl) (refl, refl)
          (uses-as T basic z (AsPlace (typed.StructConditional e at p p')) (length s.table) count q uses) (room-as T basic z (AsPlace (typed.StructConditional e at p p')) s q room) in
          let r : State = d.after in
          let pass =
          ap first_broken (choice-over r.table T d.reached.way.first d.reached.here.known.basic at (AsValue d.test.expr) (AsPlace p) (AsPlace p') d.there_test
          (side_there r.table p d.first.expr d.same_first d.there_first) (side_there r.table p' d.second.expr d.same_second d.there_second))
          ∙ struct-choice-passes T at e (AsValue d.test.expr) p p' w (alike-as T basic d.test.expr (bare e) d.same_test) i in
          finish T basic called (tree.Conditional x at y y') z (AsPlace (typed.StructConditional e at p p'))
          (operand_with d.test.place (AsPlace (typed.StructConditional d.test.expr at p p')) (held_with 0 (d.test.held ∷ d.first.held ∷ d.second.held ∷ []))) s r b count here h q
          (judges-choice called x at y y' d.test d.first d.second s d.early d.middle r
          (Gives (operand_with d.test.place (AsPlace (typed.StructConditional d.test.expr at p p')) (held_with 0 (d.test.held ∷ d.first.held ∷ d.second.held ∷ []))) r)
          d.gives_test d.gives_first d.gives_second
          (choice-is d.test at d.first d.second (AsPlace p) (AsPlace p') (AsPlace (typed.StructConditional d.test.expr at p p')) r r (ap side_of d.same_first) (ap side_of d.same_second) pass
          (few_of d.test d.first d.second d.held_test d.held_first d.held_second) (structs-chosen d.test.expr d.test.place at p p' r)))
          d.reached.way

      by : (p : Part) → of_part z ≡ p → IsChosen T x at y y' (point_at s) b p → IsPartGiven T called (tree.Conditional x at y y') z s b count
      by _ k (between-values e f g v m both sc w) = values e f g v m k both w
      by _ k (between-structs e p p' both w i) = structs e p p' k both w i (one-aggregate T p p' i)
