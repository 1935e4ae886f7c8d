-- What judging refuses of what stands by itself: lists of specifiers, declarators, prototypes, values, values for a type, and constants.
use Rattle.std.proofs.Common.{◌≡◌, ℕ, ℤ, Bool, true, false, not, ◌||◌, [], ◌∷◌, Option, Some, None, refl, ap, sym, subst, ◌∙◌, inl, inr}
use Rattle.cc_base.specs.declared.place.Place.{Place}
use Rattle.cc_base.specs.declared.number.TypeId.{TypeId}
use Rattle.cc_base.specs.declared.fault.Fault.{Fault}
use Rattle.cc_base.specs.declared.fault.Fault.TheVariants.{Refused}
use Rattle.cc_base.specs.declared.fault.Rule.{Rule}
use Rattle.cc_base.specs.declared.fault.Rule.TheVariants as rule
use Rattle.c_types.specs.Table.{Table, IsType, shape_at}
use Rattle.c_tree.specs.declared.leaf.Identifier.{Identifier}
use Rattle.c_tree.specs.declared.operator.AggregateKind.{AggregateKind}
use Rattle.c_tree.specs.Places.{nowhere, expr_place}
use Rattle.c_tree.specs.Tree as tree
use Rattle.c_tree.specs.TypedTree as typed
use Rattle.c_tree.specs.TypedTree.{TypedExpr, TypedSpecifierList}
use Rattle.c_typing.specs.declared.naming.Naming.{Naming}
use Rattle.c_typing.specs.Checking.{checked, taken, becomes, value_tests, converted_part, converted_value, checked_value, Constant, constant_as, checked_constant}
use Rattle.c_typing.specs.Constants.{constant_value}
use Rattle.c_typing.specs.Declaring.{NotDerived, derived_by, declarator_name, is_function_by, unless_function, form_makes, entered, left, stopped_outside}
use Rattle.c_typing.specs.Judging.{State, Stops, next, pure, by_known}
use Rattle.c_typing.specs.Operands.{Operand, Value, value, side_of, given}
use Rattle.c_typing.specs.Refusals.{After, Fails, Refuses, RefusesSpecifiers, RefusesAlone, RefusesParameters, name_place, is_void_alone}
use Rattle.c_typing.specs.Scopes.{Scopes, tag_here, entering}
use Rattle.c_typing.specs.Settled.{IsKnown, IsSideOf}
use Rattle.c_typing.specs.Specifying.{specified, tagged_by, tagged_alone}
use Rattle.c_typing.specs.Tests
use Rattle.c_typing.specs.Tests.{Elaborated, AsPlace, AsValue, AsAllocation, first_broken, fits, is_tag_of, are_one_struct, has_some}
use Rattle.c_typing.specs.Walks
use Rattle.c_typing.specs.Walks.{judge, judge_list, judge_alone_list, judge_value, judge_specifiers, judge_specifiers_of, judge_form, judge_parameters, judge_prototype, judge_declarator_at}
use Rattle.c_typing_laws.specs.Judged.{IsRefused, SpecifiersFail, DeclaratorFails, ValueFails, ConstantFails}
use Rattle.c_typing_laws.proofs.ExtensionLaws.{extended_refl, still_in}
use Rattle.c_typing_laws.proofs.JudgedAssignments.{given-gives}
use Rattle.c_typing_laws.proofs.JudgedDeclarators.{entered-judged}
use Rattle.c_typing_laws.proofs.JudgedTrees.{IsJudgedFree, form-judged, void_self}
use Rattle.c_typing_laws.proofs.KeptTrees.{form-kept}
use Rattle.c_typing_laws.proofs.Outcomes.{bind-gives, gives-value, gives-state, never-stops, stops-fault, stops-state, gives-never, next-never, outside-stops}
use Rattle.c_typing_laws.proofs.PartsTaken.{taken-part, constant-alike}
use Rattle.c_typing_laws.proofs.RefusedConstructs.{given-never}
use Rattle.c_typing_laws.proofs.RefusedDeclarators.{refused-here, refused-after, obeying-refuses, form-refused}
use Rattle.c_typing_laws.proofs.RefusedSteps.{tagged_by-never, left-never, entered-never, step-refused, operand-first, value-first, value-fails, second, refused-outside}
use Rattle.c_typing_laws.proofs.RefusedTrees.{expr-refuses, specifiers-refuses, form-refuses, parameters-refuses}
use Rattle.c_typing_laws.proofs.SidesAlike.{fits_same}
use Rattle.c_typing_laws.proofs.SidesTaken.{given-side}
use Rattle.c_typing_laws.proofs.ValuesTaken
use Rattle.c_typing_laws.proofs.ValuesTaken.{part-kept, value-never}

-- a part becomes a value of the type, or is a struct of it, where a place of the type is one struct with it
abbrev becomes_by : Table → TypeId → Elaborated → Bool
becomes_by T t x = fits T x (shape_at T t) || are_one_struct T (AsPlace (typed.String [] (record { 0 = 0 }) t)) x

or_no : (b : Bool) → b ≡ (b || false)
or_no true = refl
or_no false = refl

becomes_is : (T : Table) (t : TypeId) (x : Elaborated) → becomes T t x ≡ becomes_by T t x
becomes_is T t (AsPlace p) = refl
becomes_is T t (AsValue e) = or_no (fits T (AsValue e) (shape_at T t))
becomes_is T t (AsAllocation e) = or_no (fits T (AsAllocation e) (shape_at T t))

becomes_alike : (T : Table) (t : TypeId) (x y : Elaborated) → IsSideOf T x y → becomes T t x ≡ becomes T t y
becomes_alike T t x y a =
    let fit = fits_same T x y a (shape_at T t) in
    let struct = (a.structs (AsPlace (typed.String [] (record { 0 = 0 }) t))).1 in
    becomes_is T t x ∙ (λ i. fit i || struct i) ∙ sym (becomes_is T t y)

constant_fails : (v : Value) (o : Option ℤ) (s : State) (f : Fault) (r : State) → constant_as v o s ≡ Stops f r
    → (first_broken (Tests.broken_at rule.NotConstant v.place (not (has_some o)) ∷ []) ≡ Some f) × (r ≡ s)
unfolding constant_as
constant_fails v None s f r h = (ap Some (stops-fault Constant (Refused v.place rule.NotConstant) f s r h), sym (stops-state Constant (Refused v.place rule.NotConstant) f s r h))
constant_fails v (Some z) s f r h = never-stops (record { expr = v.expr; value = z }) f s r h

module _ (p : Place) (t : Rule) where
  -- Lists of specifiers

  pub whole-refuses : (all : tree.Specifiers) (s r : State) → IsKnown s → judge_specifiers all s ≡ Stops (Refused p t) r
      → IsRefused (λ T. RefusesSpecifiers T all s.seen.scopes (Refused p t)) s r
  unfolding judge_specifiers
  whole-refuses all s r k h =
      step-refused p t (judge_list all s) (λ list. pure (specified list)) (λ T. RefusesSpecifiers T all s.seen.scopes (Refused p t)) s r
      (λ q. specifiers-refuses p t all s r k q) (λ list m q g. never-stops (specified list) (Refused p t) m r g) h

  alone-refuses : (which : AggregateKind) (at : Place) (name : Identifier) (s r : State) → tagged_alone which at name s ≡ Stops (Refused p t) r
      → IsRefused (λ T. Fails (Tests.alone_tests s.seen.scopes (is_tag_of which) name.bytes name.place) (Refused p t)) s r
  unfolding tagged_alone
  alone-refuses which at name s r h =
      let c = obeying-refuses (λ q. Tests.alone_tests q.seen.scopes (is_tag_of which) name.bytes name.place) (tagged_by which at name (λ q. tag_here q.seen.scopes.levels name.bytes)) s p t r
      (tagged_by-never which at name (λ q. tag_here q.seen.scopes.levels name.bytes) s) h in
      refused-here (λ T. Fails (Tests.alone_tests s.seen.scopes (is_tag_of which) name.bytes name.place) (Refused p t)) s r c.1 c.0

  listed-refuses : (all : tree.Specifiers) (P : Table → Type 0) (s r : State) → IsKnown s → ((T : Table) → RefusesSpecifiers T all s.seen.scopes (Refused p t) → P T)
      → next (judge_list all s) (λ list. pure (specified list)) ≡ Stops (Refused p t) r → IsRefused P s r
  listed-refuses all P s r k f h =
      step-refused p t (judge_list all s) (λ list. pure (specified list)) P s r
      (λ q. let i = specifiers-refuses p t all s r k q in record { fails = f r.table i.fails; extends = i.extends })
      (λ list m q g. never-stops (specified list) (Refused p t) m r g) h

  alone_by : (all : tree.Specifiers) (s r : State) → IsKnown s → next (judge_alone_list all s) (λ list. pure (specified list)) ≡ Stops (Refused p t) r
      → IsRefused (λ T. RefusesAlone T all s.seen.scopes (Refused p t)) s r
  alone_by (tree.AndSpecifier tree.NoSpecifier (tree.Tagged which at name)) s r k h =
      let P : Table → Type 0 = λ T. RefusesAlone T (tree.AndSpecifier tree.NoSpecifier (tree.Tagged which at name)) s.seen.scopes (Refused p t) in
      step-refused p t (next (tagged_alone which at name s) (λ v. pure (typed.AndSpecifier typed.NoSpecifier v))) (λ list. pure (specified list)) P s r
      (λ q. step-refused p t (tagged_alone which at name s) (λ v. pure (typed.AndSpecifier typed.NoSpecifier v)) P s r
      (λ q2. let i = alone-refuses which at name s r q2 in record { fails = i.fails; extends = i.extends })
      (λ v m q2 g. never-stops (typed.AndSpecifier typed.NoSpecifier v) (Refused p t) m r g) q)
      (λ list m q g. never-stops (specified list) (Refused p t) m r g) h
  alone_by tree.NoSpecifier s r k h = listed-refuses tree.NoSpecifier (λ T. RefusesAlone T tree.NoSpecifier s.seen.scopes (Refused p t)) s r k (λ T q. q) h
  alone_by (tree.AndSpecifier (tree.AndSpecifier all one) specifier) s r k h =
      listed-refuses (tree.AndSpecifier (tree.AndSpecifier all one) specifier)
      (λ T. RefusesAlone T (tree.AndSpecifier (tree.AndSpecifier all one) specifier) s.seen.scopes (Refused p t)) s r k (λ T q. q) h
  alone_by (tree.AndSpecifier tree.NoSpecifier specifier) s r k h =
      listed-refuses (tree.AndSpecifier tree.NoSpecifier specifier) (λ T. RefusesAlone T (tree.AndSpecifier tree.NoSpecifier specifier) s.seen.scopes (Refused p t)) s r k (λ T q. q) h

  pub specifiers_of-refuses : (alone : Bool) (all : tree.Specifiers) (s r : State) → IsKnown s → judge_specifiers_of alone all s ≡ Stops (Refused p t) r
      → IsRefused (λ T. SpecifiersFail alone T all s.seen.scopes (Refused p t)) s r
  unfolding judge_specifiers_of
  specifiers_of-refuses false all s r k h = let i = whole-refuses all s r k h in record { fails = i.fails; extends = i.extends }
  specifiers_of-refuses true all s r k h = let i = alone_by all s r k h in record { fails = i.fails; extends = i.extends }

  -- Declarators

  pub declarator-refuses : (which : Naming) (base : TypeId) (size : Option ℕ) (d : tree.Declarator) (s r : State) → IsKnown s → IsType s.table base
      → judge_declarator_at (name_place (declarator_name d) nowhere) which base size d s ≡ Stops (Refused p t) r
      → IsRefused (λ T. DeclaratorFails T (Walks.outermost_of size) base d s.seen.scopes (Refused p t)) s r
  unfolding judge_declarator_at
  declarator-refuses which base size d s r k b h =
      let at = name_place (declarator_name d) nowhere in
      let naming : Naming = unless_function (is_function_by (derived_by d NotDerived) (shape_at s.table base)) which in
      let P : Table → Type 0 = λ T. DeclaratorFails T (Walks.outermost_of size) base d s.seen.scopes (Refused p t) in
      step-refused p t (judge_form naming at d s) (λ form. λ m. next (form_makes at (Walks.outermost_of size) form base m) (λ u. pure (typed.Declares form u))) P s r
      (λ q. let i = form-refuses p t d naming at s r k q in record { fails = inl i.fails; extends = i.extends })
      (λ form m q g.
      let j = form-judged d naming at form s m k q in
      refused-after P s m r j.goes.extends
      (step-refused p t (form_makes at (Walks.outermost_of size) form base m) (λ u. pure (typed.Declares form u)) P m r
      (λ q2. let i = form-refused p t at (Walks.outermost_of size) form base m r j.goes.known (still_in s.table m.table j.goes.extends base b) q2 in record {
        fails = inr (form, m.seen.scopes, form-kept m.table r.table i.extends j.goes.known.basic form s.seen.scopes m.seen.scopes j.typed, j.erases, i.fails);
        extends = i.extends;
      })
      (λ u n q2 g2. never-stops (typed.Declares form u) (Refused p t) n r g2) g)) h

  pub prototype-refuses : (at : Place) (all : tree.Parameters) (s r : State) → IsKnown s → judge_prototype at all s ≡ Stops (Refused p t) r
      → IsRefused (λ T. RefusesParameters T (is_void_alone all) all (entering s.seen.scopes) (Refused p t)) s r
  unfolding judge_prototype
  prototype-refuses at all s r k h =
      let P : Table → Type 0 = λ T. RefusesParameters T (is_void_alone all) all (entering s.seen.scopes) (Refused p t) in
      step-refused p t (entered s) (λ b. λ m. next (stopped_outside (judge_parameters (is_void_alone all) all m)) (left at)) P s r (λ q. absurd (entered-never p t s p t r q))
      (λ b m q g.
      let inside = entered-judged b s m k q in
      refused-after P s m r inside.1.extends
      (step-refused p t (stopped_outside (judge_parameters (is_void_alone all) all m)) (left at) P m r
      (λ q2.
      let stop = outside-stops (judge_parameters (is_void_alone all) all m) (Refused p t) r q2 in
      let i = refused-outside (λ T. RefusesParameters T (is_void_alone all) all m.seen.scopes (Refused p t)) m stop.0 r stop.2
      (parameters-refuses p t all (is_void_alone all) m stop.0 (void_self all) inside.1.known stop.1) in record {
        fails = subst (λ (c : Scopes). RefusesParameters r.table (is_void_alone all) all c (Refused p t)) inside.0 i.fails;
        extends = i.extends;
      })
      (λ list n q2 g2. absurd (left-never at list n p t r g2)) g)) h

  -- Values

  pub checked-refuses : (e : tree.Expr) (s r : State) → IsKnown s → checked e s ≡ Stops (Refused p t) r → IsRefused (λ T. Refuses T false e s.seen.scopes (Refused p t)) s r
  unfolding checked judge_value
  checked-refuses e s r k h =
      value-first p t e s r (λ v. pure v.expr) (λ T. Refuses T false e s.seen.scopes (Refused p t)) k (λ q g. expr-refuses p t e false s q k g) (λ T ext q. q)
      (λ v m A g. never-stops v.expr (Refused p t) m r g) h

  pub constant-refuses : (e : tree.Expr) (s r : State) → IsKnown s → checked_constant e s ≡ Stops (Refused p t) r → IsRefused (λ T. ConstantFails T e s.seen.scopes (Refused p t)) s r
  unfolding checked_constant judge_value
  constant-refuses e s r k h =
      let N : Table → Elaborated → Scopes → Type 0 = λ T x c. Fails (Tests.constant_tests T (expr_place e) x) (Refused p t) in
      value-first p t e s r (λ v. λ m. constant_as v (constant_value m.table v.expr) m) (λ T. ConstantFails T e s.seen.scopes (Refused p t)) k (λ q g. expr-refuses p t e false s q k g) (λ T ext q. inl q)
      (λ v m A g.
      let c = constant_fails v (constant_value m.table v.expr) m (Refused p t) r g in
      let alike = constant-alike m.table A.x v.expr (A.alike m.table (extended_refl m.table)) in
      let place = A.place in
      let f = (λ i. first_broken (Tests.broken_at rule.NotConstant (sym place i) (not (alike i)) ∷ [])) ∙ c.0 in
      second p t (λ T. Refuses T false e s.seen.scopes (Refused p t)) (λ T. After T e s.seen.scopes (N T)) m r (value-fails p t e v s m r A N c.1 f)) h

  converted-refuses : (u : TypeId) (at : Place) (y : Elaborated) (s r : State) → converted_value u at y s ≡ Stops (Refused p t) r
      → Fails (value_tests s.table u at y) (Refused p t) × (r ≡ s)
  unfolding converted_value
  converted-refuses u at y s r h =
      obeying-refuses (λ q. value_tests q.table u at y) (by_known (λ q. pure (converted_part q.table u at y))) s p t r (gives-never (converted_part s.table u at y) s) h

  side_fails : (T : Table) (u : TypeId) (at : Place) (x y : Elaborated) → IsSideOf T x y → Fails (value_tests T u at y) (Refused p t) → Fails (value_tests T u at x) (Refused p t)
  side_fails T u at x y a h =
      let same = becomes_alike T u x y a in
      (λ i. first_broken (Tests.broken_at rule.Mismatch at (not (same i)) ∷ [])) ∙ h

  taken-refuses : (init : Bool) (u : TypeId) (at : Place) (e : tree.Expr) (o : Operand) (s m r : State) → IsJudgedFree false e o s m → IsType m.table u
      → next (taken init u o m) (converted_value u at) ≡ Stops (Refused p t) r → IsRefused (λ T. After T e s.seen.scopes (λ x c. Fails (value_tests T u at x) (Refused p t))) m r
  unfolding taken
  taken-refuses true u at e o s m r j b h =
      let P : Table → Type 0 = λ T. After T e s.seen.scopes (λ x c. Fails (value_tests T u at x) (Refused p t)) in
      let k = j.judged.goes.known in
      step-refused p t (given u o.place o.part m) (converted_value u at) P m r (λ q. absurd (given-never u o.place o.part m p t r q))
      (λ y n q g.
      let got = (given-gives e u o.place o.part y s.seen.scopes m n k b j.judged.part q).1 in
      let side = given-side e u o.place o.part y s.seen.scopes m n k j.judged.part q in
      let c = converted-refuses u at y n r g in
      refused-after P m n r got.goes.extends (refused-here P n r c.1 (
        o.part,
        m.seen.scopes,
        part-kept m.table n.table got.goes.extends k.basic e o.part s.seen.scopes m.seen.scopes j.judged.part,
        side_fails n.table u at o.part y side c.0,
      ))) h
  taken-refuses false u at e o s m r j b h =
      let P : Table → Type 0 = λ T. After T e s.seen.scopes (λ x c. Fails (value_tests T u at x) (Refused p t)) in
      let N : Table → Elaborated → Scopes → Type 0 = λ T x c. Fails (value_tests T u at x) (Refused p t) in
      step-refused p t (next (value o m) (λ v. pure (side_of v.expr))) (converted_value u at) P m r
      (λ q. absurd (next-never (value o m) (λ v. pure (side_of v.expr)) (value-never o m) (λ v n. gives-never (side_of v.expr) n) p t r q))
      (λ y n q g.
      let one = bind-gives (value o m) (λ v. pure (side_of v.expr)) y n q in
      let A = taken-part false e o one.0 s m one.1 j one.2 in
      let there = (ValuesTaken.value-gives e o one.0 s.seen.scopes m one.1 j.judged.goes.known j.judged.part one.2).goes in
      let same = gives-value (side_of one.0.expr) y one.1 n one.3 in
      let state = gives-state (side_of one.0.expr) y one.1 n one.3 in
      let c = converted-refuses u at (side_of one.0.expr) one.1 r ((λ i. converted_value u at (same i) (state i)) ∙ g) in
      refused-after P m one.1 r there.goes.extends (value-fails p t e one.0 s one.1 r A N c.1
      (side_fails one.1.table u at A.x (side_of one.0.expr) (A.side one.1.table (extended_refl one.1.table)) c.0))) h

  pub checked_value-refuses : (u : TypeId) (at : Place) (init : Bool) (e : tree.Expr) (s r : State) → IsKnown s → IsType s.table u
      → checked_value u at init e s ≡ Stops (Refused p t) r → IsRefused (λ T. ValueFails T u at e s.seen.scopes (Refused p t)) s r
  unfolding checked_value
  checked_value-refuses u at init e s r k b h =
      operand-first p t false e s r (λ x. λ m. next (taken init u x m) (converted_value u at)) (λ T. ValueFails T u at e s.seen.scopes (Refused p t)) k (λ q g. expr-refuses p t e false s q k g) (λ T ext q. inl q)
      (λ o m j g. second p t (λ T. Refuses T false e s.seen.scopes (Refused p t)) (λ T. After T e s.seen.scopes (λ x c. Fails (value_tests T u at x) (Refused p t))) m r
      (taken-refuses init u at e o s m r j (still_in s.table m.table j.judged.goes.extends u b) g)) h
