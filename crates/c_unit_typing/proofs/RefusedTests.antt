-- What judging refuses of the expressions of statements breaks the rule that is named.
use Rattle.std.proofs.Common.{◌≡◌, Bool, true, false, not, ◌||◌, ◌&&◌, [], ◌∷◌, Option, Some, None, refl, ap, sym, subst, ◌∙◌, inl, inr}
use Rattle.cc_base.specs.declared.place.Place.{Place}
use Rattle.cc_base.specs.declared.number.TypeId.{TypeId}
use Rattle.cc_base.specs.declared.fault.Fault.TheVariants.{Refused}
use Rattle.cc_base.specs.declared.fault.Rule.{Rule}
use Rattle.cc_base.specs.declared.fault.Rule.TheVariants as rule
use Rattle.c_types.specs.Table.{Table, shape_at, is_aggregate_shape}
use Rattle.c_types.specs.Sameness.{is_same_type}
use Rattle.c_tree.specs.Tree as tree
use Rattle.c_tree.specs.TypedTree.{TypedExpr, TypedStatement}
use Rattle.c_tree.specs.TypedParts.{place_type}
use Rattle.c_typing.specs.Checking.{checked, checked_value, becomes}
use Rattle.c_typing.specs.Judging as judging
use Rattle.c_typing.specs.Judging.{State}
use Rattle.c_typing.specs.Operands.{Value, value}
use Rattle.c_typing.specs.Refusals.{Fails, Refuses}
use Rattle.c_typing.specs.Settled.{IsKnown}
use Rattle.c_typing.specs.Shapes.{is_void_shape}
use Rattle.c_typing.specs.Tests.{Elaborated, AsPlace, AsValue, AsAllocation, first_broken, broken_at, fits}
use Rattle.c_typing.specs.Walks.{judge, judge_value}
use Rattle.c_typing_laws.proofs.JudgedTrees.{expr-judged}
use Rattle.c_typing_laws.proofs.Outcomes
use Rattle.c_typing_laws.proofs.PartsTaken.{IsPartTaken, taken-part}
use Rattle.c_typing_laws.proofs.RefusedWhole.{checked-refuses, checked_value-refuses}
use Rattle.c_unit_typing.specs.StatementJudging.{dropped, returned, switched, tested, tested_or_none}
use Rattle.c_unit_typing.specs.UnitJudged.{state_of, IsResult}
use Rattle.c_unit_typing.specs.UnitJudging.{UnitState, Stops, pure, lifted}
use Rattle.c_unit_typing.specs.UnitRefusals.{condition_tests, switch_tests, FailsTest, RefusesOptional, RefusesReturn}
use Rattle.c_unit_typing.proofs.UnitStops.{never-stops, IsStopped, stopped-as, stopped-step, stopped-rules, lifted-stops}

-- The part that a value was taken of

pub record IsValuePart (e : tree.Expr) (c : TypedExpr) (s m : State) : Type 0 where
  pub value : Value
  pub is : value.expr ≡ c
  pub part : IsPartTaken e value s m

pub value_part : (e : tree.Expr) (v : Value) (s m : State) → IsKnown s → judge_value e s ≡ judging.Gives v m → IsPartTaken e v s m
unfolding judge_value
value_part e v s m k h =
    let one = Outcomes.bind-gives (judge false e s) value v m h in
    taken-part false e one.0 v s one.1 m (expr-judged e false one.0 s one.1 k one.2) one.3

pub checked-part : (e : tree.Expr) (c : TypedExpr) (s m : State) → IsKnown s → checked e s ≡ judging.Gives c m → IsValuePart e c s m
unfolding checked
checked-part e c s m k h =
    let one = Outcomes.bind-gives (judge_value e s) (λ v. judging.pure v.expr) c m h in
    let p = value_part e one.0 s one.1 k one.2 in
    record {
      value = one.0;
      is = Outcomes.gives-value one.0.expr c one.1 m one.3;
      part = subst (λ (q : State). IsPartTaken e one.0 s q) (Outcomes.gives-state one.0.expr c one.1 m one.3) p;
    }

module _ (p : Place) (t : Rule) where
  pub value-stopped : (e : tree.Expr) (s r : UnitState) → IsKnown (state_of s) → lifted (checked e) s ≡ Stops (Refused p t) r
      → IsStopped (λ T. Refuses T false e s.seen.scopes (Refused p t)) s r
  value-stopped e s r k h = let i = checked-refuses p t e (state_of s) (state_of r) k (lifted-stops (checked e) (Refused p t) s r h) in record { fails = i.fails; extends = i.extends }

  pub tested-stopped : (at : Place) (c : TypedExpr) (one : TypedStatement) (s r : UnitState) → tested at c one s ≡ Stops (Refused p t) r
      → IsStopped (λ T. FailsTest T at (Some c) (Refused p t)) s r
  unfolding tested
  tested-stopped at c one s r h =
      stopped-rules p t (λ w. condition_tests w.table at (AsValue c)) (pure one) (λ T. FailsTest T at (Some c) (Refused p t)) s r (λ f. f)
      (λ n y. never-stops one (Refused p t) s r y) h

  pub tested_or_none-stopped : (at : Place) (c : Option TypedExpr) (one : TypedStatement) (s r : UnitState) → tested_or_none at c one s ≡ Stops (Refused p t) r
      → IsStopped (λ T. FailsTest T at c (Refused p t)) s r
  unfolding tested_or_none
  tested_or_none-stopped at None one s r h = never-stops one (Refused p t) s r h
  tested_or_none-stopped at (Some c) one s r h = tested-stopped at c one s r h

  pub switched-stopped : (at : Place) (c : TypedExpr) (one : TypedStatement) (s r : UnitState) → switched at c one s ≡ Stops (Refused p t) r
      → IsStopped (λ T. Fails (switch_tests T at (AsValue c)) (Refused p t)) s r
  unfolding switched
  switched-stopped at c one s r h =
      stopped-rules p t (λ w. switch_tests w.table at (AsValue c)) (pure one) (λ T. Fails (switch_tests T at (AsValue c)) (Refused p t)) s r (λ f. f)
      (λ n y. never-stops one (Refused p t) s r y) h

  pub dropped-stopped : (e : Option tree.Expr) (s r : UnitState) → IsKnown (state_of s) → dropped e s ≡ Stops (Refused p t) r
      → IsStopped (λ T. RefusesOptional T e s.seen.scopes (Refused p t)) s r
  unfolding dropped
  dropped-stopped None s r k h = never-stops None (Refused p t) s r h
  dropped-stopped (Some e) s r k h =
      let P : Table → Type 0 = λ T. RefusesOptional T (Some e) s.seen.scopes (Refused p t) in
      stopped-step p t (lifted (checked e) s) (λ v. pure (Some v)) P s r
      (λ q. stopped-as p t (λ T. Refuses T false e s.seen.scopes (Refused p t)) P s r (λ x f. f) (value-stopped e s r k q))
      (λ c m q g. never-stops (Some c) (Refused p t) m r g) h

  -- no struct is returned
  plain_becomes : (T : Table) (u : TypeId) (x : Elaborated) → is_aggregate_shape (shape_at T u) ≡ false → becomes T u x ≡ fits T x (shape_at T u)
  plain_becomes T u (AsPlace q) n = ap (λ (b : Bool). fits T (AsPlace q) (shape_at T u) || (b && is_same_type T u (place_type q))) n ∙ or_false (fits T (AsPlace q) (shape_at T u))
    where
      or_false : (b : Bool) → (b || false) ≡ b
      or_false true = refl
      or_false false = refl
  plain_becomes T u (AsValue v) n = refl
  plain_becomes T u (AsAllocation v) n = refl

  pub returned-stopped : (at : Place) (u : TypeId) (e : Option tree.Expr) (s r : UnitState) → IsKnown (state_of s) → IsResult s.table u → returned at u e s ≡ Stops (Refused p t) r
      → IsStopped (λ T. RefusesReturn T at u e s.seen.scopes (Refused p t)) s r
  unfolding returned
  returned-stopped at u None s r k b h =
      stopped-rules p t (λ w. broken_at rule.Mismatch at (not (is_void_shape (shape_at w.table u))) ∷ []) (pure None) (λ T. RefusesReturn T at u None s.seen.scopes (Refused p t)) s r
      (λ f. f) (λ n y. never-stops None (Refused p t) s r y) h
  returned-stopped at u (Some e) s r k b h =
      let P : Table → Type 0 = λ T. RefusesReturn T at u (Some e) s.seen.scopes (Refused p t) in
      stopped-step p t (lifted (checked_value u at false e) s) (λ v. pure (Some v)) P s r
      (λ q.
      let i = checked_value-refuses p t u at false e (state_of s) (state_of r) k b.there (lifted-stops (checked_value u at false e) (Refused p t) s r q) in
      let plain : is_aggregate_shape (shape_at r.table u) ≡ false = ap is_aggregate_shape (i.extends.shapes u b.there) ∙ b.no_struct in
      record {
        fails = elim i.fails [
          | inl f ↦ inl f
          | inr f ↦
              let same = plain_becomes r.table u f.0 plain in
              inr (f.0, f.1, f.2, (λ j. first_broken (broken_at rule.Mismatch at (not (sym same j)) ∷ [])) ∙ f.3)
        ];
        extends = i.extends;
      })
      (λ c m q g. never-stops (Some c) (Refused p t) m r g) h
