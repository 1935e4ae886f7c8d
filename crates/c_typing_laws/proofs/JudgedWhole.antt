-- What judging gives for what stands by itself: lists of specifiers, declarators, prototypes, values, values for a type, and constants.
use Rattle.std.proofs.Common.{◌≡◌, ℕ, ℤ, Bool, true, false, not, ◌&&◌, Option, Some, None, refl, ap, sym, subst, ◌∙◌, inl, inr}
use Rattle.cc_base.specs.declared.place.Place.{Place}
use Rattle.cc_base.specs.declared.number.TypeId.{TypeId}
use Rattle.cc_base.specs.declared.fault.Fault.TheVariants.{Refused}
use Rattle.cc_base.specs.declared.fault.Rule.TheVariants as rule
use Rattle.c_types.specs.Table.{Table, IsType, IsAggregate, shape_at, is_aggregate_shape}
use Rattle.c_types.specs.Sameness.{is_same_type}
use Rattle.c_tree.specs.declared.leaf.Identifier.{Identifier}
use Rattle.c_tree.specs.declared.operator.AggregateKind.{AggregateKind}
use Rattle.c_tree.specs.Erasure.{erased_place, erased_specifier_list, erased_form}
use Rattle.c_tree.specs.Tree as tree
use Rattle.c_tree.specs.TypedTree as typed
use Rattle.c_tree.specs.TypedTree.{TypedExpr, TypedPlace, TypedSpecifiers, TypedSpecifierList, TypedSpecifier, TypedDeclarator, TypedParameters}
use Rattle.c_tree.specs.TypedParts.{specified_type, place_type, type_of, name_of_form, home_of_form, is_void_list}
use Rattle.c_typing.specs.declared.naming.Naming.{Naming}
use Rattle.c_typing.specs.Assignments.{converted_to}
use Rattle.c_typing.specs.Checking.{checked, taken, becomes, value_tests, converted_part, converted_value, checked_value, Constant, constant_as, checked_constant}
use Rattle.c_typing.specs.Constants.{constant_value, is_null_constant}
use Rattle.c_typing.specs.Conversions.{implicit, is_allocation, is_pointer_to_complete, takes_over, IsAssignedBy}
use Rattle.c_typing.specs.Declarators.{is_pointed}
use Rattle.c_typing.specs.Declaring.{NotDerived, derived_by, is_function_by, unless_function, form_makes, entered, left, stopped_outside}
use Rattle.c_typing.specs.Judging.{State, Gives, next, pure}
use Rattle.c_typing.specs.Operands.{Operand, Value, value, side_of}
use Rattle.c_typing.specs.Refusals.{is_void_alone}
use Rattle.c_typing.specs.Scopes.{Scopes, tag_here, entering}
use Rattle.c_typing.specs.Settled.{IsKnown, GoesOn, IsValueOf}
use Rattle.c_typing.specs.Shapes.{is_function_shape}
use Rattle.c_typing.specs.Specifying.{specified, tagged_as, tagged_by, tagged_alone}
use Rattle.c_typing.specs.Tests
use Rattle.c_typing.specs.Tests.{Elaborated, AsPlace, AsValue, AsAllocation, first_broken, fits, is_tag_of, is_other_tag}
use Rattle.c_typing.specs.Typing.{IsPlace, AreSpecifiers, AreAlone, AreParameters, IsForm}
use Rattle.c_typing.specs.Walks
use Rattle.c_typing.specs.Walks.{judge, judge_list, judge_alone_list, judge_value, judge_specifiers, judge_specifiers_of, judge_form, judge_parameters, judge_prototype, judge_declarator_at}
use Rattle.c_typing_laws.specs.Judged.{IsHomeOf, AreSpecifiersJudged, IsDeclaratorJudged, IsPrototypeJudged, IsChecked, BecomesBy, IsCheckedFor, IsConstantJudged}
use Rattle.c_typing_laws.proofs.ConstructLaws.{not_false, one_unbroken}
use Rattle.c_typing_laws.proofs.ConversionLaws.{fits-converted, fits-typed}
use Rattle.c_typing_laws.proofs.ExtensionLaws.{no_true, and_left, and_right, still_in}
use Rattle.c_typing_laws.proofs.FunctionNames.{form_tells}
use Rattle.c_typing_laws.proofs.JudgedAssignments.{IsGiven, given-gives, converted-bare, converted-erased, implicit-scalar, struct-fits, pointed-scalar, over-bare, or_else}
use Rattle.c_typing_laws.proofs.JudgedDeclarators.{entered-judged, left-judged, voids-alike}
use Rattle.c_typing_laws.proofs.JudgedForms.{form-made}
use Rattle.c_typing_laws.proofs.JudgedLists.{list-typed}
use Rattle.c_typing_laws.proofs.JudgedTrees.{IsJudgedFree, IsValueFree, value-here, expr-judged, specifiers-judged, form-judged, parameters-judged, void_self}
use Rattle.c_typing_laws.proofs.KeptTrees.{form-kept, parameters-kept}
use Rattle.c_typing_laws.proofs.JudgedSpecifiers.{tagged_as-judged}
use Rattle.c_typing_laws.proofs.KnownScopes.{tag_here-there}
use Rattle.c_typing_laws.proofs.KnownStates.{goes-on}
use Rattle.c_typing_laws.proofs.Outcomes.{bind-gives, unless-gives, never-gives, outside-gives}
use Rattle.c_typing_laws.proofs.ValuesTaken.{given-same}

-- Lists of specifiers

pub specifiers-whole : (all : tree.Specifiers) (t : TypedSpecifiers) (s r : State) → IsKnown s → judge_specifiers all s ≡ Gives t r → AreSpecifiersJudged false all t s r
unfolding judge_specifiers
specifiers-whole all t s r k h =
    let one = bind-gives (judge_list all s) (λ list. pure (specified list)) t r h in
    let l = specifiers-judged all one.0 s one.1 k one.2 in
    let named = list-typed all one.0 s one.1 l in
    given-same (λ (v : TypedSpecifiers) (q : State). AreSpecifiersJudged false all v s q) (specified one.0) t one.1 r one.3
    (record { typed = named.0; erases = l.erases; there = named.1; goes = l.goes })

-- a tag alone, which is looked for in the innermost scope
alone-judged : (which : AggregateKind) (at : Place) (name : Identifier) (one : TypedSpecifier) (s r : State) → IsKnown s → tagged_alone which at name s ≡ Gives one r
    → AreSpecifiersJudged true (tree.AndSpecifier tree.NoSpecifier (tree.Tagged which at name)) (specified (typed.AndSpecifier typed.NoSpecifier one)) s r
unfolding tagged_alone tagged_by
alone-judged which at name one s r k h =
    let found = tag_here s.seen.scopes.levels name.bytes in
    let go = unless-gives (first_broken (Tests.alone_tests s.seen.scopes (is_tag_of which) name.bytes name.place))
    (λ q. next (tagged_as which name (tag_here q.seen.scopes.levels name.bytes) q) (λ t. pure (typed.Tagged which at name t))) s one r h in
    let fits = one_unbroken (is_other_tag (is_tag_of which) found) (Refused name.place rule.Redeclared) go.0 in
    let two = bind-gives (tagged_as which name found s) (λ t. pure (typed.Tagged which at name t)) one r go.1 in
    let made = tagged_as-judged which name two.0 s two.1 found k (λ what q. tag_here-there s.table s.seen.scopes.levels k.levels name.bytes what q) fits two.2 in
    given-same (λ (v : TypedSpecifier) (q : State).
    AreSpecifiersJudged true (tree.AndSpecifier tree.NoSpecifier (tree.Tagged which at name)) (specified (typed.AndSpecifier typed.NoSpecifier v)) s q)
    (typed.Tagged which at name two.0) one two.1 r two.3
    (record { typed = (made.0, refl); erases = refl; there = made.1; goes = made.2 })

abbrev is_tag_alone : TypedSpecifierList → Bool
is_tag_alone (typed.AndSpecifier typed.NoSpecifier (typed.Tagged which at name t)) = true
is_tag_alone list = false

abbrev is_tag_alone_tree : tree.Specifiers → Bool
is_tag_alone_tree (tree.AndSpecifier tree.NoSpecifier (tree.Tagged which at name)) = true
is_tag_alone_tree all = false

alone_erased : (list : TypedSpecifierList) → is_tag_alone list ≡ is_tag_alone_tree (erased_specifier_list list)
alone_erased typed.NoSpecifier = refl
alone_erased (typed.AndSpecifier (typed.AndSpecifier all one) specifier) = refl
alone_erased (typed.AndSpecifier typed.NoSpecifier (typed.Tagged which at name t)) = refl
alone_erased (typed.AndSpecifier typed.NoSpecifier specifier) = refl

-- other specifiers are judged alike, whether a declarator follows or not
not_alone : (T : Table) (list : TypedSpecifierList) (t : TypeId) (s s' : Scopes) → is_tag_alone list ≡ false → AreSpecifiers T (typed.Specified list t) s s'
    → AreAlone T (typed.Specified list t) s s'
not_alone T typed.NoSpecifier t s s' n h = h
not_alone T (typed.AndSpecifier (typed.AndSpecifier all one) specifier) t s s' n h = h
not_alone T (typed.AndSpecifier typed.NoSpecifier (typed.Tagged which at name u)) t s s' n h = no_true (sym n)
not_alone T (typed.AndSpecifier typed.NoSpecifier specifier) t s s' n h = h

listed_alone : (all : tree.Specifiers) (t : TypedSpecifiers) (s r : State) → IsKnown s → is_tag_alone_tree all ≡ false
    → next (judge_list all s) (λ list. pure (specified list)) ≡ Gives t r → AreSpecifiersJudged true all t s r
listed_alone all t s r k n h =
    let one = bind-gives (judge_list all s) (λ list. pure (specified list)) t r h in
    let l = specifiers-judged all one.0 s one.1 k one.2 in
    let named = list-typed all one.0 s one.1 l in
    given-same (λ (v : TypedSpecifiers) (q : State). AreSpecifiersJudged true all v s q) (specified one.0) t one.1 r one.3 (record {
      typed = not_alone one.1.table one.0 (specified_type (specified one.0)) s.seen.scopes one.1.seen.scopes
          (alone_erased one.0 ∙ (ap is_tag_alone_tree l.erases ∙ n)) named.0;
      erases = l.erases;
      there = named.1;
      goes = l.goes;
    })

alone_by : (all : tree.Specifiers) (t : TypedSpecifiers) (s r : State) → IsKnown s → next (judge_alone_list all s) (λ list. pure (specified list)) ≡ Gives t r
    → AreSpecifiersJudged true all t s r
alone_by (tree.AndSpecifier tree.NoSpecifier (tree.Tagged which at name)) t s r k h =
    let one = bind-gives (next (tagged_alone which at name s) (λ v. pure (typed.AndSpecifier typed.NoSpecifier v))) (λ list. pure (specified list)) t r h in
    let two = bind-gives (tagged_alone which at name s) (λ v. pure (typed.AndSpecifier typed.NoSpecifier v)) one.0 one.1 one.2 in
    let j = alone-judged which at name two.0 s two.1 k two.2 in
    given-same (λ (v : TypedSpecifiers) (q : State). AreSpecifiersJudged true (tree.AndSpecifier tree.NoSpecifier (tree.Tagged which at name)) v s q) (specified one.0) t one.1 r one.3
    (given-same (λ (v : TypedSpecifierList) (q : State). AreSpecifiersJudged true (tree.AndSpecifier tree.NoSpecifier (tree.Tagged which at name)) (specified v) s q)
    (typed.AndSpecifier typed.NoSpecifier two.0) one.0 two.1 one.1 two.3 j)
alone_by tree.NoSpecifier t s r k h = listed_alone tree.NoSpecifier t s r k refl h
alone_by (tree.AndSpecifier (tree.AndSpecifier all one) specifier) t s r k h = listed_alone (tree.AndSpecifier (tree.AndSpecifier all one) specifier) t s r k refl h
alone_by (tree.AndSpecifier tree.NoSpecifier specifier) t s r k h = listed_alone (tree.AndSpecifier tree.NoSpecifier specifier) t s r k refl h

pub specifiers_of-judged : (alone : Bool) (all : tree.Specifiers) (t : TypedSpecifiers) (s r : State) → IsKnown s → judge_specifiers_of alone all s ≡ Gives t r
    → AreSpecifiersJudged alone all t s r
unfolding judge_specifiers_of
specifiers_of-judged false all t s r k h = specifiers-whole all t s r k h
specifiers_of-judged true all t s r k h = alone_by all t s r k h

-- Declarators

unpointed : (size : Option ℕ) → is_pointed (Walks.outermost_of size) ≡ false
unpointed None = refl
unpointed (Some count) = refl

pub declarator-at : (at : Place) (which : Naming) (base : TypeId) (size : Option ℕ) (d : tree.Declarator) (one : TypedDeclarator) (s r : State) → IsKnown s
    → IsType s.table base → judge_declarator_at at which base size d s ≡ Gives one r → IsDeclaratorJudged which (Walks.outermost_of size) base d one s r
unfolding judge_declarator_at
declarator-at at which base size d one s r k b h =
    let naming : Naming = unless_function (is_function_by (derived_by d NotDerived) (shape_at s.table base)) which in
    let first = bind-gives (judge_form naming at d s) (λ form. λ m. next (form_makes at (Walks.outermost_of size) form base m) (λ t. pure (typed.Declares form t))) one r h in
    let j = form-judged d naming at first.0 s first.1 k first.2 in
    let two = bind-gives (form_makes at (Walks.outermost_of size) first.0 base first.1) (λ t. pure (typed.Declares first.0 t)) one r first.3 in
    let made = form-made at (Walks.outermost_of size) first.0 base two.0 first.1 two.1 j.goes.known (still_in s.table first.1.table j.goes.extends base b) two.2 in
    let same_base : shape_at two.1.table base ≡ shape_at s.table base = (goes-on s first.1 two.1 j.goes made.goes.goes).extends.shapes base b in
    let told : is_function_by (derived_by d NotDerived) (shape_at s.table base) ≡ is_function_shape (shape_at two.1.table two.0) =
    ap (λ (e : tree.Declarator). is_function_by (derived_by e NotDerived) (shape_at s.table base)) (sym j.erases)
    ∙ ap (is_function_by (derived_by (erased_form first.0) NotDerived)) (sym same_base)
    ∙ form_tells two.1.table two.1.seen.scopes (shape_at two.1.table base) first.0 (Walks.outermost_of size) base two.0 NotDerived (unpointed size) made.makes refl in
    given-same (λ (v : TypedDeclarator) (q : State). IsDeclaratorJudged which (Walks.outermost_of size) base d v s q) (typed.Declares first.0 two.0) one two.1 r two.3 (record {
      typed = subst (IsForm two.1.table first.0 s.seen.scopes) (sym made.goes.scopes)
          (form-kept first.1.table two.1.table made.goes.goes.extends j.goes.known.basic first.0 s.seen.scopes first.1.seen.scopes j.typed);
      makes = made.makes;
      home = subst (λ (f : Bool). IsHomeOf (unless_function f which) (name_of_form first.0) (home_of_form first.0)) told j.home;
      erases = j.erases;
      there = made.there;
      goes = goes-on s first.1 two.1 j.goes made.goes.goes;
    })

pub prototype-judged : (at : Place) (all : tree.Parameters) (list : TypedParameters) (s r : State) → IsKnown s → judge_prototype at all s ≡ Gives list r
    → IsPrototypeJudged all list s r
unfolding judge_prototype
prototype-judged at all list s r k h =
    let one = bind-gives (entered s) (λ b. λ m. next (stopped_outside (judge_parameters (is_void_alone all) all m)) (left at)) list r h in
    let inside = entered-judged one.0 s one.1 k one.2 in
    let two = bind-gives (stopped_outside (judge_parameters (is_void_alone all) all one.1)) (left at) list r one.3 in
    let p = parameters-judged all (is_void_alone all) two.0 one.1 two.1 (void_self all) inside.1.known (outside-gives (judge_parameters (is_void_alone all) all one.1) two.0 two.1 two.2) in
    let out = left-judged at two.0 list two.1 r p.goes.known two.3 in
    let void : is_void_alone all ≡ is_void_list two.0 = ap is_void_alone (sym p.erases) ∙ sym (voids-alike two.0) in
    let kept = parameters-kept two.1.table r.table out.2.extends p.goes.known.basic (is_void_alone all) two.0 one.1.seen.scopes two.1.seen.scopes p.typed in
    subst (λ (v : TypedParameters). IsPrototypeJudged all v s r) out.0 (record {
      inside = two.1.seen.scopes;
      typed = subst (λ (w : Bool). AreParameters r.table w two.0 (entering s.seen.scopes) two.1.seen.scopes) void
          (subst (λ (c : Scopes). AreParameters r.table (is_void_alone all) two.0 c two.1.seen.scopes) inside.0 kept);
      left = out.1;
      erases = p.erases;
      goes = goes-on s one.1 r inside.1 (goes-on one.1 two.1 r p.goes out.2);
    })

-- Values

value-free : (e : tree.Expr) (v : Value) (s r : State) → IsKnown s → judge_value e s ≡ Gives v r → IsValueFree false e v s r
unfolding judge_value
value-free e v s r k h =
    let one = bind-gives (judge false e s) value v r h in
    value-here false e one.0 v s one.1 r (expr-judged e false one.0 s one.1 k one.2) one.3

is_checked : (e : tree.Expr) (v : Value) (s r : State) → IsValueFree false e v s r → IsChecked e v.expr s r
is_checked e v s r j = record { typed = j.value.taken.typed; erases = j.value.taken.erases; droppable = j.free refl; goes = j.value.goes }

pub checked-judged : (e : tree.Expr) (v : TypedExpr) (s r : State) → IsKnown s → checked e s ≡ Gives v r → IsChecked e v s r
unfolding checked
checked-judged e v s r k h =
    let one = bind-gives (judge_value e s) (λ w. pure w.expr) v r h in
    given-same (λ (w : TypedExpr) (q : State). IsChecked e w s q) one.0.expr v one.1 r one.3 (is_checked e one.0 s one.1 (value-free e one.0 s one.1 k one.2))

constant_as-judged : (e : tree.Expr) (v : Value) (o : Option ℤ) (c : Constant) (s0 s r : State) → IsChecked e v.expr s0 s → constant_value s.table v.expr ≡ o
    → constant_as v o s ≡ Gives c r → IsConstantJudged e c s0 r
unfolding constant_as
constant_as-judged e v None c s0 s r j q h = never-gives c (Refused v.place rule.NotConstant) s r h
constant_as-judged e v (Some z) c s0 s r j q h =
    given-same (λ (w : Constant) (p : State). IsConstantJudged e w s0 p) (record { expr = v.expr; value = z }) c s r h (record { checked = j; value = q })

pub constant-judged : (e : tree.Expr) (c : Constant) (s r : State) → IsKnown s → checked_constant e s ≡ Gives c r → IsConstantJudged e c s r
unfolding checked_constant
constant-judged e c s r k h =
    let one = bind-gives (judge_value e s) (λ v. λ m. constant_as v (constant_value m.table v.expr) m) c r h in
    constant_as-judged e one.0 (constant_value one.1.table one.0.expr) c s one.1 r (is_checked e one.0 s one.1 (value-free e one.0 s one.1 k one.2)) refl one.3

-- Values for a type

abbrev IsSide : Table → tree.Expr → Elaborated → Scopes → Scopes → Type 0
IsSide T e (AsPlace p) s s' = IsPlace T p s s' × IsAggregate T (place_type p) × (erased_place p ≡ e)
IsSide T e (AsValue v) s s' = IsValueOf T e v s s'
IsSide T e (AsAllocation v) s s' = ⊥

side_here : (T : Table) (e : tree.Expr) (v : TypedExpr) (s s' : Scopes) → IsValueOf T e v s s' → IsSide T e (side_of v) s s'
side_here T e (typed.Unread p) s s' h = (h.typed.0, h.typed.1, h.erases)
side_here T e v s s' h = h

-- what was taken for the type: of an initialiser what is given, of a returned value its value
abbrev IsTakenFor : Bool → Table → TypeId → tree.Expr → Elaborated → Scopes → Scopes → Type 0
IsTakenFor true T t e y s s' = IsGiven T t e y s s'
IsTakenFor false T t e y s s' = IsSide T e y s s'

taken_for : (init : Bool) (t : TypeId) (e : tree.Expr) (x : Operand) (y : Elaborated) (s0 m r : State) → IsJudgedFree false e x s0 m → IsType m.table t
    → taken init t x m ≡ Gives y r → IsTakenFor init r.table t e y s0.seen.scopes r.seen.scopes × GoesOn s0 r
unfolding taken
taken_for true t e x y s0 m r j b h =
    let got = given-gives e t x.place x.part y s0.seen.scopes m r j.judged.goes.known b j.judged.part h in
    (got.0, goes-on s0 m r j.judged.goes got.1.goes)
taken_for false t e x y s0 m r j b h =
    let one = bind-gives (value x m) (λ v. pure (side_of v.expr)) y r h in
    let v = value-here false e x one.0 s0 m one.1 j one.2 in
    given-same (λ (z : Elaborated) (q : State). IsSide q.table e z s0.seen.scopes q.seen.scopes × GoesOn s0 q) (side_of one.0.expr) y one.1 r one.3
    (side_here one.1.table e one.0.expr s0.seen.scopes one.1.seen.scopes v.value.taken, v.value.goes)

module _ (t : TypeId) (at : Place) (e : tree.Expr) (s0 s : State) (goes : GoesOn s0 s) where
  struct_for : (init : Bool) (p : TypedPlace) → IsSide s.table e (AsPlace p) s0.seen.scopes s.seen.scopes → becomes s.table t (AsPlace p) ≡ true
      → IsCheckedFor t at init e (typed.Unread p) s0 s
  struct_for init p g h =
      let T : Table = s.table in
      let one = or_else (fits T (AsPlace p) (shape_at T t)) (is_aggregate_shape (shape_at T t) && is_same_type T t (place_type p))
      (struct-fits T (shape_at T (place_type p)) (shape_at T t) g.1) h in
      record {
        typed = (g.0, g.1);
        erases = g.2;
        becomes = inl (record {
          place = p;
          unread = refl;
          aggregate = and_left (is_aggregate_shape (shape_at T t)) (is_same_type T t (place_type p)) one;
          same = and_right (is_aggregate_shape (shape_at T t)) (is_same_type T t (place_type p)) one;
        });
        goes = goes;
      }

  module _ (w : TypedExpr) (value : IsValueOf s.table e w s0.seen.scopes s.seen.scopes) (fit : fits s.table (AsValue w) (shape_at s.table t) ≡ true) where
    value_for : (init : Bool) → BecomesBy init s.table s.seen.scopes at t (converted_to s.table at t w) → IsCheckedFor t at init e (converted_to s.table at t w) s0 s
    value_for init by = record {
      typed = fits-typed s.table s0.seen.scopes s.seen.scopes at t w value.settled value.typed fit;
      erases = converted-erased at t w (implicit s.table w t) ∙ value.erases;
      becomes = inr (implicit-scalar s.table (is_null_constant s.table w) (shape_at s.table (type_of w)) (shape_at s.table t) fit, by);
      goes = goes;
    }

    returned : IsCheckedFor t at false e (converted_to s.table at t w) s0 s
    returned = value_for false (fits-converted s.table s0.seen.scopes s.seen.scopes at t w value.settled value.typed fit)

    initialised : (is_allocation w && is_pointer_to_complete s.table s.seen.scopes t) ≡ false → IsCheckedFor t at true e (converted_to s.table at t w) s0 s
    initialised none =
        let free : takes_over s.table s.seen.scopes t (converted_to s.table at t w) ≡ false =
        ap (λ (v : TypedExpr). is_allocation v && is_pointer_to_complete s.table s.seen.scopes t) (converted-bare at t w (implicit s.table w t) value.settled.bare) ∙ none in
        value_for true (subst (λ (c : Bool). IsAssignedBy c s.table at t (converted_to s.table at t w)) (sym free)
        (fits-converted s.table s0.seen.scopes s.seen.scopes at t w value.settled value.typed fit))

  made_for_type : (init : Bool) (y : Elaborated) → IsTakenFor init s.table t e y s0.seen.scopes s.seen.scopes → becomes s.table t y ≡ true
      → IsCheckedFor t at init e (converted_part s.table t at y) s0 s
  made_for_type true (AsPlace p) g h = struct_for true p g h
  made_for_type false (AsPlace p) g h = struct_for false p g h
  made_for_type true (AsValue w) g h = initialised w g.value h g.free
  made_for_type false (AsValue w) g h = returned w g h
  made_for_type true (AsAllocation w) g h =
      let block = over-bare w g.over in
      let over : takes_over s.table s.seen.scopes t w ≡ true =
      ap (λ (v : TypedExpr). is_allocation v && is_pointer_to_complete s.table s.seen.scopes t) block.0 ∙ (λ i. block.1 i && g.pointer i) in
      record {
        typed = g.typed;
        erases = g.erases;
        becomes = inr (
          pointed-scalar s.table s.seen.scopes (shape_at s.table t) g.pointer,
          subst (λ (c : Bool). IsAssignedBy c s.table at t w) (sym over) (record { over = g.over; type = g.type }),
        );
        goes = goes;
      }
  made_for_type false (AsAllocation w) g h = absurd g

pub checked_value-judged : (t : TypeId) (at : Place) (init : Bool) (e : tree.Expr) (v : TypedExpr) (s r : State) → IsKnown s → IsType s.table t
    → checked_value t at init e s ≡ Gives v r → IsCheckedFor t at init e v s r
unfolding checked_value converted_value
checked_value-judged t at init e v s r k b h =
    let one = bind-gives (judge false e s) (λ x. λ m. next (taken init t x m) (converted_value t at)) v r h in
    let j = expr-judged e false one.0 s one.1 k one.2 in
    let two = bind-gives (taken init t one.0 one.1) (converted_value t at) v r one.3 in
    let y = taken_for init t e one.0 two.0 s one.1 two.1 j (still_in s.table one.1.table j.judged.goes.extends t b) two.2 in
    let go = unless-gives (first_broken (value_tests two.1.table t at two.0)) (λ (q : State). pure (converted_part q.table t at two.0) q) two.1 v r two.3 in
    let fit = not_false (becomes two.1.table t two.0) (one_unbroken (not (becomes two.1.table t two.0)) (Refused at rule.Mismatch) go.0) in
    given-same (λ (w : TypedExpr) (q : State). IsCheckedFor t at init e w s q) (converted_part two.1.table t at two.0) v two.1 r go.1
    (made_for_type t at e s two.1 y.1 init two.0 y.0 fit)
