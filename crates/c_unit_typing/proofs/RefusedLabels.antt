-- What judging refuses of labels breaks the rule that is named.
use Rattle.std.proofs.Common.{◌≡◌, ℤ, Bool, true, false, not, ◌==◌, [], ◌∷◌, Option, Some, None, refl, ap, sym, subst, ◌∙◌, ◌⊎◌, inl, inr, if◌then◌else◌}
use Rattle.std.specs.List.{list_any}
use Rattle.std.specs.Ordering.{int_eq}
use Rattle.std.proofs.lemmas.Option.{none-some}
use Rattle.cc_base.specs.declared.place.Place.{Place}
use Rattle.cc_base.specs.declared.number.TypeId.{TypeId}
use Rattle.cc_base.specs.declared.fault.Fault.{Fault}
use Rattle.cc_base.specs.declared.fault.Fault.TheVariants.{Refused}
use Rattle.cc_base.specs.declared.fault.Limit.TheVariants.{Types}
use Rattle.cc_base.specs.declared.fault.Rule.{Rule}
use Rattle.cc_base.specs.declared.fault.Rule.TheVariants as rule
use Rattle.c_types.specs.Table.{Table}
use Rattle.c_tree.specs.Places.{expr_place}
use Rattle.c_tree.specs.Tree as tree
use Rattle.c_tree.specs.TypedTree as typed
use Rattle.c_tree.specs.TypedTree.{TypedExpr, TypedStatement, TypedBlockItems}
use Rattle.integers.specs.Arithmetic.{IntegerType}
use Rattle.c_typing.specs.Checking.{Constant, constant_as, checked_constant}
use Rattle.c_typing.specs.Constants.{constant_value, with_value}
use Rattle.c_typing.specs.Judging as judging
use Rattle.c_typing.specs.Judging.{State}
use Rattle.c_typing.specs.Operands.{Value}
use Rattle.c_typing.specs.Refusals.{Fails, After, Refuses}
use Rattle.c_typing.specs.Settled.{IsKnown, IsAlike}
use Rattle.c_typing.specs.Shapes.{integer_at}
use Rattle.c_typing.specs.Tests
use Rattle.c_typing.specs.Tests.{Elaborated, AsPlace, AsValue, AsAllocation, first_broken, broken_at, has_constant}
use Rattle.c_typing.specs.Walks.{judge_value}
use Rattle.c_typing_laws.specs.Judged.{IsConstantJudged}
use Rattle.c_typing_laws.proofs.ExtensionLaws.{no_true, extended_refl}
use Rattle.c_typing_laws.proofs.JudgedWhole.{constant-judged}
use Rattle.c_typing_laws.proofs.Outcomes
use Rattle.c_typing_laws.proofs.PartsTaken.{IsPartTaken}
use Rattle.c_typing_laws.proofs.RefusedWhole.{constant-refuses}
use Rattle.c_unit_typing.specs.StatementJudging.{label_as, labelled, case_label, default_label, jump}
use Rattle.c_unit_typing.specs.UnitJudged.{state_of}
use Rattle.c_unit_typing.specs.UnitJudging.{UnitState, Stops, pure, lifted}
use Rattle.c_unit_typing.specs.UnitRefusals.{converted_label, label_tests, label_value, jump_tests}
use Rattle.c_unit_typing.specs.Units.{labels_of, defaults_in}
use Rattle.c_unit_typing.proofs.RefusedTests.{IsValuePart, value_part}
use Rattle.c_unit_typing.proofs.UnitOutcomes.{lifted-gives}
use Rattle.c_unit_typing.proofs.UnitStops.{never-stops, large-unrefused, IsStopped, stopped-after, stopped-as, stopped-step, stopped-rules, lifted-stops}

constant_of : (v : Value) (o : Option ℤ) (c : Constant) (s r : State) → constant_as v o s ≡ judging.Gives c r → (v.expr ≡ c.expr) × (s ≡ r)
unfolding constant_as
constant_of v None c s r h = Outcomes.never-gives c (Refused v.place rule.NotConstant) s r h
constant_of v (Some z) c s r h =
    (ap (λ (k : Constant). k.expr) (Outcomes.gives-value (record { expr = v.expr; value = z }) c s r h), Outcomes.gives-state (record { expr = v.expr; value = z }) c s r h)

constant-part : (e : tree.Expr) (c : Constant) (s m : State) → IsKnown s → checked_constant e s ≡ judging.Gives c m → IsValuePart e c.expr s m
unfolding checked_constant
constant-part e c s m k h =
    let one = Outcomes.bind-gives (judge_value e s) (λ v. λ q. constant_as v (constant_value q.table v.expr) q) c m h in
    let same = constant_of one.0 (constant_value one.1.table one.0.expr) c one.1 m one.3 in
    record { value = one.0; is = same.0; part = subst (λ (q : State). IsPartTaken e one.0 s q) same.1 (value_part e one.0 s one.1 k one.2) }

-- what is no constant is no label
no_constant : (T : Table) (on : Option TypeId) (x : Elaborated) → has_constant T x ≡ false → label_value T on x ≡ None
no_constant T None x n = refl
no_constant T (Some u) (AsPlace q) n = refl
no_constant T (Some u) (AsAllocation q) n = refl
no_constant T (Some u) (AsValue v) n = by (integer_at T u) (constant_value T v) n
  where
    by : (o : Option IntegerType) (c : Option ℤ) → Tests.has_some c ≡ false → with_value c (λ z. Some (converted_label o z)) ≡ None
    by o None m = refl
    by o (Some z) m = no_true (sym m)

failed : (b : Bool) (f g : Fault) → (if b then Some f else None) ≡ Some g → b ≡ true
failed true f g h = refl
failed false f g h = absurd (none-some g h)

not_holds : (b : Bool) → not b ≡ true → b ≡ false
not_holds true h = no_true h
not_holds false h = refl

-- a constant is a value as its own rules leave it
constant_is : (T : Table) (x : Elaborated) (v : TypedExpr) (z : ℤ) → IsAlike T x v → constant_value T v ≡ Some z → x ≡ AsValue v
constant_is T x v z a c = elim a.value [
  | inl e ↦ e
  | inr e ↦ absurd (none-some z (sym e.1 ∙ c))
]

label_is : (T : Table) (on : Option TypeId) (v : TypedExpr) (z w : ℤ) → constant_value T v ≡ Some z → label_as T on z ≡ Some w → label_value T on (AsValue v) ≡ Some w
label_is T None v z w c h = absurd (none-some w h)
label_is T (Some u) v z w c h = ap (λ (o : Option ℤ). with_value o (λ y. Some (converted_label (integer_at T u) y))) c ∙ h

module _ (p : Place) (t : Rule) where
  pub jump-stopped : (P : Table → Type 0) (at : Place) (allowed : Bool) (one : TypedStatement) (s r : UnitState) → ((T : Table) → Fails (jump_tests at allowed) (Refused p t) → P T)
      → jump at allowed one s ≡ Stops (Refused p t) r → IsStopped P s r
  unfolding jump
  jump-stopped P at allowed one s r f h =
      stopped-rules p t (λ w. jump_tests at allowed) (pure one) P s r (f s.table) (λ n y. never-stops one (Refused p t) s r y) h

  pub default-stopped : (at : Place) (list : TypedBlockItems) (s r : UnitState) → default_label at list s ≡ Stops (Refused p t) r
      → IsStopped (λ T. Fails (broken_at rule.Redeclared at (not (defaults_in list == 0)) ∷ []) (Refused p t)) s r
  unfolding default_label
  default-stopped at list s r h =
      stopped-rules p t (λ w. broken_at rule.Redeclared at (not (defaults_in list == 0)) ∷ []) (pure (typed.AndDefault list at))
      (λ T. Fails (broken_at rule.Redeclared at (not (defaults_in list == 0)) ∷ []) (Refused p t)) s r (λ f. f) (λ n y. never-stops (typed.AndDefault list at) (Refused p t) s r y) h

  labelled_stopped : (on : Option TypeId) (at : Place) (e : tree.Expr) (list : TypedBlockItems) (c : Constant) (s m r : UnitState) → IsValuePart e c.expr (state_of s) (state_of m)
      → IsConstantJudged e c (state_of s) (state_of m) → (o : Option ℤ) → label_as m.table on c.value ≡ o → labelled at (labels_of list) list c.expr o m ≡ Stops (Refused p t) r
      → IsStopped (λ T. After T e s.seen.scopes (λ x q. Fails (label_tests T (label_value T on x) at (expr_place e) (labels_of list)) (Refused p t))) m r
  unfolding labelled
  labelled_stopped on at e list c s m r j v None q h = absurd (large-unrefused TypedBlockItems at Types m p t r h)
  labelled_stopped on at e list c s m r j v (Some z) q h =
      let same : Bool = list_any (λ each. int_eq z each) (labels_of list) in
      stopped-rules p t (λ w. broken_at rule.Redeclared at same ∷ []) (pure (typed.AndCase list at c.expr z))
      (λ T. After T e s.seen.scopes (λ x d. Fails (label_tests T (label_value T on x) at (expr_place e) (labels_of list)) (Refused p t))) m r
      (λ f.
      let constant : constant_value m.table j.value.expr ≡ Some c.value = ap (constant_value m.table) j.is ∙ v.value in
      let is = constant_is m.table j.part.x j.value.expr c.value (j.part.alike m.table (extended_refl m.table)) constant in
      let label : label_value m.table on j.part.x ≡ Some z = ap (label_value m.table on) is ∙ label_is m.table on j.value.expr c.value z constant q in (
        j.part.x,
        m.seen.scopes,
        j.part.part m.table (extended_refl m.table),
        ap (λ (o : Option ℤ). first_broken (label_tests m.table o at (expr_place e) (labels_of list))) label ∙ f,
      ))
      (λ n y. never-stops (typed.AndCase list at c.expr z) (Refused p t) m r y) h

  pub case-stopped : (on : Option TypeId) (at : Place) (e : tree.Expr) (list : TypedBlockItems) (s r : UnitState) → IsKnown (state_of s) → case_label on at e list s ≡ Stops (Refused p t) r
      → IsStopped (λ T. Refuses T false e s.seen.scopes (Refused p t)
      ⊎ After T e s.seen.scopes (λ x q. Fails (label_tests T (label_value T on x) at (expr_place e) (labels_of list)) (Refused p t))) s r
  unfolding case_label
  case-stopped on at e list s r k h =
      let A : Table → Type 0 = λ T. After T e s.seen.scopes (λ x q. Fails (label_tests T (label_value T on x) at (expr_place e) (labels_of list)) (Refused p t)) in
      let P : Table → Type 0 = λ T. Refuses T false e s.seen.scopes (Refused p t) ⊎ A T in
      stopped-step p t (lifted (checked_constant e) s) (λ c. λ q. labelled at (labels_of list) list c.expr (label_as q.table on c.value) q) P s r
      (λ q.
      let i = constant-refuses p t e (state_of s) (state_of r) k (lifted-stops (checked_constant e) (Refused p t) s r q) in
      record {
        fails = elim i.fails [
          | inl f ↦ inl f
          | inr f ↦
              let none = no_constant r.table on f.0 (not_holds (has_constant r.table f.0) (failed (not (has_constant r.table f.0)) (Refused (expr_place e) rule.NotConstant) (Refused p t) f.3)) in
              let yes = failed (not (has_constant r.table f.0)) (Refused (expr_place e) rule.NotConstant) (Refused p t) f.3 in
              inr (
                f.0,
                f.1,
                f.2,
                ap (λ (o : Option ℤ). first_broken (label_tests r.table o at (expr_place e) (labels_of list))) none
                    ∙ ((λ j. first_broken (broken_at rule.NotConstant (expr_place e) (sym yes j) ∷ [])) ∙ f.3),
              )
        ];
        extends = i.extends;
      })
      (λ c m q g.
      let l = lifted-gives (checked_constant e) c s m q in
      let j = constant-part e c (state_of s) (state_of m) k l.0 in
      let v = constant-judged e c (state_of s) (state_of m) k l.0 in
      stopped-after p t P s m r j.part.goes.extends
      (stopped-as p t A P m r (λ x f. inr f) (labelled_stopped on at e list c s m r j v (label_as m.table on c.value) refl g))) h
