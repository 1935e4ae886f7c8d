-- What judging gives for whole expressions, by one recursion over the tree, from the law of type names.
use Rattle.std.proofs.Common.{◌≡◌, Bool, true, false, not, ◌&&◌, ◌||◌, List, [], ◌∷◌, ◌++◌, Option, Some, None, refl, ap, sym, subst, ◌∙◌, inl, inr, ◌⊎◌}
use Rattle.std.proofs.lemmas.List.{append-nil}
use Rattle.cc_base.specs.declared.place.Place.{Place}
use Rattle.cc_base.specs.declared.number.TypeId.{TypeId}
use Rattle.cc_base.specs.declared.fault.Fault.TheVariants.{Refused, TooLarge}
use Rattle.cc_base.specs.declared.fault.Limit.TheVariants.{Types}
use Rattle.cc_base.specs.declared.fault.Rule.TheVariants as rule
use Rattle.c_types.specs.declared.shape.TypeShape.{TypeShape}
use Rattle.c_types.specs.declared.shape.TypeShape.TheVariants.{Void, Integer, Pointer, Array, Function, Struct, Union}
use Rattle.c_types.specs.Table.{Table, IsType, shape_at, is_aggregate_shape}
use Rattle.c_tree.specs.declared.leaf.Identifier.{Identifier}
use Rattle.c_tree.specs.declared.operator.AggregateKind.{AggregateKind}
use Rattle.c_tree.specs.declared.operator.Assignment.{Assignment}
use Rattle.c_tree.specs.declared.operator.Assignment.TheVariants as assignment
use Rattle.c_tree.specs.declared.operator.MemberOperator.TheVariants as member
use Rattle.c_tree.specs.declared.operator.Step.TheVariants as step
use Rattle.c_tree.specs.declared.operator.Unary.{Unary}
use Rattle.c_tree.specs.declared.operator.Unary.TheVariants as unary
use Rattle.c_tree.specs.declared.typed_word.Runtime.{Runtime}
use Rattle.c_tree.specs.Erasure.{erased}
use Rattle.c_tree.specs.Places.{expr_place, nowhere}
use Rattle.c_tree.specs.Tree as tree
use Rattle.c_tree.specs.TypedTree as typed
use Rattle.c_tree.specs.TypedTree.{TypedExpr, TypedPlace, TypedTypeName, TypedSpecifierList, TypedSpecifier, TypedMembers, TypedMemberDeclarators, TypedEnumerators, TypedForm, TypedCore, TypedParts, TypedParameters, TypedDeclared}
use Rattle.c_tree.specs.TypedParts.{type_of, place_type, named_type, name_of_form, home_of_form}
use Rattle.runtime_calls.specs.Prototypes.{runtime_of}
use Rattle.c_typing.specs.declared.declared.Declared.{Declared}
use Rattle.c_typing.specs.declared.declared.Declared.TheVariants as declared
use Rattle.c_typing.specs.Assignments
use Rattle.c_typing.specs.Assignments.{part_expr, function_name, named_as}
use Rattle.c_typing.specs.declared.naming.Naming.{Naming}
use Rattle.c_typing.specs.declared.naming.Naming.TheVariants as naming
use Rattle.c_typing.specs.Adjusting.{derived_by_declared, typedef_place, adjusted_at}
use Rattle.c_typing.specs.Declarators.{Counted, Written, counted, declarator_names, member_names}
use Rattle.c_typing.specs.Declaring.{declarator_name, stars_with_nodes, sized, declared_makes, member_named, parameter, entered, left, stopped_outside}
use Rattle.c_typing.specs.Conversions.{is_plain, is_droppable, is_pointer_to_complete}
use Rattle.c_typing.specs.Extensions.{IsExtended}
use Rattle.c_typing.specs.Judging.{State, Gives, next, ◌>>=◌, pure, by_known, new_pointer}
use Rattle.c_typing.specs.Operands.{Operand, Value, value_of, value, made_for, raw_value, reading_of, side_of, given_allocation, given}
use Rattle.c_typing.specs.Operations
use Rattle.c_typing.specs.Operations.{construct, numbered, in_parens, prefix, target, target_of, prefix_of}
use Rattle.c_typing.specs.Refusals.{is_natural, IsElaborated, name_place, is_void_alone}
use Rattle.c_typing.specs.Rules.{is_made_of_place, runtime_named, is_compound}
use Rattle.c_typing.specs.Scopes.{Name, Scopes, name_in, place_among}
use Rattle.c_typing.specs.Settled.{IsBasic, is_converted, IsValueOf, AreValuesOf, IsKnown, GoesOn, IsJudged, IsSpecifierJudged, IsBegun, AreEnumeratorsJudged, IsListJudged}
use Rattle.c_typing.specs.Specifying.{specified, begun, ended, enumeration_begun, enumeration, enumerator, valued_enumerator}
use Rattle.c_typing.specs.Shapes.{is_scalar_shape, is_void_shape}
use Rattle.c_typing.specs.Tests.{Elaborated, AsPlace, AsValue, AsAllocation, has_some, runtime_part, name_tests, is_none, is_function_declared, is_type_declared, is_main}
use Rattle.c_typing.specs.Typing.{IsTyped, AreEnumerators, AreDistinct}
use Rattle.c_typing.specs.Walks.{listed, declared_place, judge, judge_arguments, judge_type_name, judge_list, judge_specifier, judge_members, judge_member_declarators, judge_enumerators, judge_form, judge_core, judge_parts, judge_parameters, judge_declared}
use Rattle.c_typing_laws.specs.Judged.{IsTypeNameJudged, IsHomeOf}
use Rattle.c_typing_laws.proofs.ExtensionLaws.{no_true, still_in}
use Rattle.c_typing_laws.proofs.ConstructLaws.{two_unbroken, or_right}
use Rattle.c_typing_laws.proofs.KeptTrees.{value-kept, type_name-kept}
use Rattle.c_typing_laws.proofs.Outcomes.{construct-gives, gives-value, gives-state, never-gives, bind-gives, outside-gives}
use Rattle.c_typing_laws.proofs.KnownStates.{stays, goes-on}
use Rattle.c_typing_laws.proofs.ValuesTaken.{natural-plain, runtime-void, part-kept, given-same, value_of-gives, value-gives}
use Rattle.c_typing_laws.proofs.JudgedOperators.{target-judged, index-judged, prefix-judged, infix-judged, before-judged, after-judged, paren-judged, integer-judged, character-judged, address-judged}
use Rattle.c_typing_laws.proofs.JudgedMembers.{raw_plain, raw_made, size-judged, size_of_type-judged, member-judged, pointed_member-judged}
use Rattle.c_typing_laws.proofs.JudgedAssignments.{place-form, assign-judged, comma-judged}
use Rattle.c_typing_laws.proofs.JudgedCasts.{cast-judged, update-judged}
use Rattle.c_typing_laws.proofs.JudgedChoices.{choice-judged}
use Rattle.c_typing_laws.proofs.JudgedNames.{name-judged, literal-judged}
use Rattle.c_typing_laws.proofs.JudgedCalls.{call-judged}
use Rattle.c_typing_laws.proofs.JudgedLists.{list-judged, list-typed, no_specifier-judged}
use Rattle.c_typing_laws.proofs.JudgedSpecifiers.{word-judged, typedef-judged, tagged-judged, begun-judged, ended_by, enum-judged, enumeration_begun-judged, enumeration-judged, enumerator-judged, valued-judged}
use Rattle.c_typing_laws.proofs.JudgedDeclarators.{IsFormJudged, IsCoreJudged, ArePartsJudged, AreParametersJudged, IsDeclaredJudged, IsRowJudged, AreMembersJudged, IsVoidOf, first_alone, no_home, stars-judged, form-step, name-step, sized-step, entered-judged, function-step, parameter-step, member-step, members-step, type_name-step}

-- What may be dropped

-- a value: it may be dropped, or it is a runtime function that is called
abbrev IsDone : TypedExpr → Type 0
IsDone v = (is_droppable v ≡ true) ⊎ (has_some (runtime_named v) ≡ true)

plain_droppable : (v : TypedExpr) → is_plain v ≡ true → is_droppable v ≡ true
plain_droppable (typed.Unread p) h = refl
plain_droppable v h = h

place_droppable : (v : TypedExpr) → is_made_of_place v ≡ true → is_converted v ≡ false → is_droppable v ≡ true
place_droppable (typed.Read p) h c = refl
place_droppable (typed.Unread p) h c = refl
place_droppable (typed.Decay p n t) h c = refl
place_droppable (typed.Convert which at t e) h c = no_true (sym c)
place_droppable v h c = no_true h

or_done : (v : TypedExpr) (b : Bool) → is_plain v ≡ b → (b || has_some (runtime_named v)) ≡ true → IsDone v
or_done v true p h = inl (plain_droppable v p)
or_done v false p h = inr h

no_runtime : (v : TypedExpr) → runtime_named v ≡ None → has_some (runtime_named v) ≡ false
no_runtime v h = ap has_some h

dropped : (v : TypedExpr) → IsDone v → runtime_named v ≡ None → is_droppable v ≡ true
dropped v (inl d) h = d
dropped v (inr r) h = no_true (sym (no_runtime v h) ∙ r)

natural_done : (v : TypedExpr) → is_natural v ≡ true → IsDone v
natural_done v h = or_done v (is_plain v) refl (natural-plain v h)

-- the value of a part is done, and may be dropped unless the part is a runtime function
pub value_done : (e : tree.Expr) (at : Place) (x : Elaborated) (v : TypedExpr) (s0 : Scopes) (s r : State) → IsKnown s → IsElaborated s.table e x s0 s.seen.scopes
    → value_of at x s ≡ Gives v r → IsDone v × (runtime_part x ≡ None → is_droppable v ≡ true)
unfolding value_of
value_done e at (AsPlace p) v s0 s r k el h =
    let taken = value_of-gives e at (AsPlace p) v s0 s r k el h in
    let d = place_droppable v (place-form at p (reading_of (shape_at s.table (place_type p))) v s r h) taken.0.settled.unconverted in
    (inl d, λ free. d)
value_done e at (AsValue w) v s0 s r k el h =
    let same = gives-value w v s r h in (
      subst IsDone same (natural_done w el.2),
      λ free. subst (λ (u : TypedExpr). is_droppable u ≡ true) same (dropped w (natural_done w el.2) free),
    )
value_done e at (AsAllocation w) v s0 s r k el h =
    let made = raw_made at w v s r k h in
    let d = plain_droppable v (ap is_plain made.2 ∙ raw_plain made.0 made.1 w el.2) in
    (inl d, λ free. d)

-- A value over a later table

aggregate_no_scalar : (x : TypeShape) → is_aggregate_shape x ≡ true → is_scalar_shape x ≡ false
aggregate_no_scalar (Struct n) h = refl
aggregate_no_scalar (Union n) h = refl
aggregate_no_scalar Void h = refl
aggregate_no_scalar (Integer bytes signed) h = no_true h
aggregate_no_scalar (Pointer n t) h = no_true h
aggregate_no_scalar (Array t n) h = refl
aggregate_no_scalar (Function ps r) h = refl

void_no_scalar : (x : TypeShape) → is_void_shape x ≡ true → is_scalar_shape x ≡ false
void_no_scalar Void h = refl
void_no_scalar (Integer bytes signed) h = no_true h
void_no_scalar (Pointer n t) h = no_true h
void_no_scalar (Array t n) h = refl
void_no_scalar (Function ps r) h = refl
void_no_scalar (Struct n) h = refl
void_no_scalar (Union n) h = refl

done_plain : (T : Table) (v : TypedExpr) (s s' : Scopes) → IsTyped T v s s' → IsDone v → is_scalar_shape (shape_at T (type_of v)) ≡ true → is_plain v ≡ true
done_plain T v s s' h (inr r) scalar = no_true (sym (void_no_scalar (shape_at T (type_of v)) (runtime-void T v s s' h r)) ∙ scalar)
done_plain T (typed.Unread p) s s' h (inl d) scalar = no_true (sym (aggregate_no_scalar (shape_at T (place_type p)) h.1) ∙ scalar)
done_plain T v s s' h (inl d) scalar = d

valued-kept : (T U : Table) (x : IsExtended T U) (b : IsBasic T) (e : tree.Expr) (v : TypedExpr) (s s' : Scopes) → IsDone v → IsValueOf T e v s s' → IsValueOf U e v s s'
valued-kept T U x b e v s s' d h =
    let later = value-kept T U x b v s s' h.typed in
    record {
      typed = later;
      erases = h.erases;
      settled = record { bare = h.settled.bare; unconverted = h.settled.unconverted; plain = done_plain U v s s' later d };
    }

-- What is judged and is not called is no runtime function

abbrev is_name : tree.Expr → Bool
is_name (tree.Name word) = true
is_name (tree.Paren at e) = is_name e
is_name e = false

runtime_name : (v : TypedExpr) → has_some (runtime_named v) ≡ true → is_name (erased v) ≡ true
runtime_name (typed.RuntimeName word function t) h = refl
runtime_name (typed.Paren at e) h = runtime_name e h
runtime_name v h = no_true h

some_or_none : (o : Option Runtime) → has_some o ≡ false → o ≡ None
some_or_none None h = refl
some_or_none (Some x) h = no_true (sym h)

free_by : (v : TypedExpr) (b : Bool) → has_some (runtime_named v) ≡ b → is_name (erased v) ≡ false → runtime_named v ≡ None
free_by v true p h = no_true (sym h ∙ runtime_name v p)
free_by v false p h = some_or_none (runtime_named v) p

unnamed-free : (T : Table) (e : tree.Expr) (x : Elaborated) (s s' : Scopes) → IsElaborated T e x s s' → is_name e ≡ false → runtime_part x ≡ None
unnamed-free T e (AsPlace p) s s' h n = refl
unnamed-free T e (AsValue v) s s' h n = free_by v (has_some (runtime_named v)) refl (ap is_name h.1 ∙ n)
unnamed-free T e (AsAllocation v) s s' h n = refl

module _ (word : Identifier) (o : Operand) (s r : State) where
  name_free : (runtime : Option Runtime) (what : Option Declared) → (has_some runtime && (is_none what || is_function_declared what)) ≡ false
      → named_as word runtime what s ≡ Gives o.part r → runtime_part o.part ≡ None
  unfolding named_as function_name
  name_free runtime (Some (declared.Object t home)) u h = ap runtime_part (sym (gives-value (AsPlace (typed.Variable word home t)) o.part s r h))
  name_free runtime (Some (declared.Enumerator n)) u h = ap runtime_part (sym (gives-value (AsValue (typed.Enumerator word n Operations.int_type)) o.part s r h))
  name_free runtime (Some (declared.Typedef t)) u h = never-gives o.part (TooLarge word.place Types) s r h
  name_free (Some function) (Some (declared.Function t)) u h = no_true (sym u)
  name_free (Some function) None u h = no_true (sym u)
  name_free None (Some (declared.Function t)) u h =
      let one = bind-gives (numbered word.place (place_among s.seen.scopes.defined word.bytes) s)
      (λ number. new_pointer word.place t >>= (λ made. pure (AsValue (typed.FunctionName word number made.node made.type)))) o.part r h in
      let two = bind-gives (new_pointer word.place t one.1) (λ made. pure (AsValue (typed.FunctionName word one.0 made.node made.type))) o.part r one.3 in
      ap runtime_part (sym (gives-value (AsValue (typed.FunctionName word one.0 two.0.node two.0.type)) o.part two.1 r two.3))
  name_free None None u h = never-gives o.part (TooLarge word.place Types) s r h

  pub name-free : Assignments.name false word s ≡ Gives o r → runtime_part o.part ≡ None
  unfolding Assignments.name
  name-free h =
      let what : Option Declared = name_in s.seen.scopes.levels word.bytes in
      let runtime : Bool = has_some (runtime_of word.bytes) in
      let c = construct-gives (λ (q : State). name_tests q.seen.scopes (has_some (runtime_of word.bytes)) false word.bytes word.place) word.place []
      (by_known (λ q. named_as word (runtime_of word.bytes) (name_in q.seen.scopes.levels word.bytes))) s o r h in
      let two = two_unbroken
      ((is_none what && not runtime) || (is_type_declared what || (is_function_declared what && (not runtime && is_none (place_among s.seen.scopes.defined word.bytes)))))
      ((is_function_declared what && is_main word.bytes) || (runtime && (is_none what || is_function_declared what)))
      (Refused word.place rule.UnknownName) (Refused word.place rule.BadCall) c.unbroken in
      name_free (runtime_of word.bytes) what
      (or_right (is_function_declared what && is_main word.bytes) (runtime && (is_none what || is_function_declared what)) two.1) c.part

parens_free : (at : Place) (x : Elaborated) → runtime_part x ≡ None → runtime_part (in_parens at x) ≡ None
parens_free at (AsPlace p) h = refl
parens_free at (AsValue v) h = h
parens_free at (AsAllocation v) h = refl

paren-free : (at : Place) (x o : Operand) (s r : State) → Operations.paren at x s ≡ Gives o r → runtime_part x.part ≡ None → runtime_part o.part ≡ None
unfolding Operations.paren
paren-free at x o s r h free =
    let c = construct-gives (λ (q : State). []) at (x.held ∷ []) (pure (in_parens at x.part)) s o r h in
    ap runtime_part (sym (gives-value (in_parens at x.part) o.part s r c.part)) ∙ parens_free at x.part free

-- what is given to a type may be dropped

is_value_part : Elaborated → Bool
is_value_part (AsValue v) = true
is_value_part x = false

side_droppable : (u w : TypedExpr) → side_of u ≡ AsValue w → is_droppable u ≡ true → is_droppable w ≡ true
unfolding is_value_part
side_droppable (typed.Unread p) w h d = no_true (ap is_value_part h)
side_droppable u w h d = subst (λ (v : TypedExpr). is_droppable v ≡ true) (ap part_expr h) d

given-dropped : (e : tree.Expr) (t : TypeId) (at : Place) (x : Elaborated) (w : TypedExpr) (s0 : Scopes) (s r : State) → IsKnown s → IsElaborated s.table e x s0 s.seen.scopes
    → runtime_part x ≡ None → given t at x s ≡ Gives (AsValue w) r → is_droppable w ≡ true
unfolding given given_allocation is_value_part
given-dropped e t at (AsAllocation v) w s0 s r k el free h = by (is_pointer_to_complete s.table s.seen.scopes t) h
  where
    by : (b : Bool) → given_allocation t at v b s ≡ Gives (AsValue w) r → is_droppable w ≡ true
    by true q = no_true (ap is_value_part (gives-value (AsAllocation (made_for t v)) (AsValue w) s r q))
    by false q =
        let one = bind-gives (raw_value at v s) (λ u. pure (AsValue u)) (AsValue w) r q in
        let made = raw_made at v one.0 s one.1 k one.2 in
        let d = plain_droppable one.0 (ap is_plain made.2 ∙ raw_plain made.0 made.1 v el.2) in
        subst (λ (u : TypedExpr). is_droppable u ≡ true) (ap part_expr (gives-value (AsValue one.0) (AsValue w) one.1 r one.3)) d
given-dropped e t at (AsValue v) w s0 s r k el free h =
    let one = bind-gives (value_of at (AsValue v) s) (λ u. pure (side_of u)) (AsValue w) r h in
    let d = (value_done e at (AsValue v) one.0 s0 s one.1 k el one.2).1 free in
    side_droppable one.0 w (gives-value (side_of one.0) (AsValue w) one.1 r one.3) d
given-dropped e t at (AsPlace p) w s0 s r k el free h =
    let one = bind-gives (value_of at (AsPlace p) s) (λ u. pure (side_of u)) (AsValue w) r h in
    let d = (value_done e at (AsPlace p) one.0 s0 s one.1 k el one.2).1 free in
    side_droppable one.0 w (gives-value (side_of one.0) (AsValue w) one.1 r one.3) d

-- Values of judged parts

pub record IsValueJudged (e : tree.Expr) (v : Value) (s r : State) : Type 0 where
  pub taken : IsValueOf r.table e v.expr s.seen.scopes r.seen.scopes
  pub goes : GoesOn s r
  pub place : v.place ≡ expr_place e
  pub done : IsDone v.expr

pub record IsJudgedFree (called : Bool) (e : tree.Expr) (o : Operand) (s r : State) : Type 0 where
  pub judged : IsJudged e o s.seen.scopes s r
  pub free : called ≡ false → runtime_part o.part ≡ None

-- a value, with what it may be where it is not called
pub record IsValueFree (called : Bool) (e : tree.Expr) (v : Value) (s r : State) : Type 0 where
  pub value : IsValueJudged e v s r
  pub free : called ≡ false → is_droppable v.expr ≡ true

pub value-here : (called : Bool) (e : tree.Expr) (x : Operand) (v : Value) (s m r : State) → IsJudgedFree called e x s m → value x m ≡ Gives v r → IsValueFree called e v s r
unfolding value
value-here called e x v s m r j h =
    let k = j.judged.goes.known in
    let got = value-gives e x v s.seen.scopes m r k j.judged.part h in
    let one = bind-gives (value_of x.place x.part m) (λ w. pure (record { expr = w; place = x.place; held = x.held })) v r h in
    let done = value_done e x.place x.part one.0 s.seen.scopes m one.1 k j.judged.part one.2 in
    let same : one.0 ≡ v.expr = ap (λ (w : Value). w.expr) (gives-value (record { expr = one.0; place = x.place; held = x.held }) v one.1 r one.3) in
    record {
      value = record {
        taken = got.taken;
        goes = goes-on s m r j.judged.goes got.goes.goes;
        place = got.place ∙ j.judged.place;
        done = subst IsDone same done.0;
      };
      free = λ c. subst (λ (u : TypedExpr). is_droppable u ≡ true) same (done.1 (j.free c));
    }

-- a construct after its operands
then : (e : tree.Expr) (o : Operand) (s0 : Scopes) (s m r : State) → GoesOn s m → IsJudged e o s0 m r → IsJudged e o s0 s r
then e o s0 s m r g j = record { part = j.part; place = j.place; goes = goes-on s m r g j.goes }

unnamed : (called : Bool) (e : tree.Expr) (o : Operand) (s r : State) → is_name e ≡ false → IsJudged e o s.seen.scopes s r → IsJudgedFree called e o s r
unnamed called e o s r n j = record { judged = j; free = λ c. unnamed-free r.table e o.part s.seen.scopes r.seen.scopes j.part n }

values-kept : (T U : Table) (x : IsExtended T U) (b : IsBasic T) (all : tree.Arguments) (values : List Value) (s s' : Scopes) → AreValuesOf T all values s s'
    → AreValuesOf U all values s s'
values-kept T U x b tree.NoArgument values s s' h = h
values-kept T U x b (tree.AndArgument all e) values s s' h = (
  h.0,
  h.1,
  h.2,
  values-kept T U x b all h.0 s h.1 h.3,
  valued-kept T U x b e h.2.expr h.1 s' (inl h.6) h.4,
  h.5,
  h.6,
  h.7,
)

-- the value of a part that is judged next
abbrev Judged : Bool → tree.Expr → State → Type 0
Judged called e s = (o : Operand) (q : State) → judge called e s ≡ Gives o q → IsJudgedFree called e o s q

taken : (e : tree.Expr) (v : Value) (s m : State) → Judged false e s → next (judge false e s) value ≡ Gives v m → IsValueFree false e v s m
taken e v s m ih h = let one = bind-gives (judge false e s) value v m h in value-here false e one.0 v s one.1 m (ih one.0 one.1 one.2) one.3

-- a value while another one is judged
later : (called : Bool) (e : tree.Expr) (v : Value) (s m r : State) → IsValueFree called e v s m → GoesOn m r → IsValueOf r.table e v.expr s.seen.scopes m.seen.scopes
later called e v s m r h g =
    valued-kept m.table r.table g.extends h.value.goes.known.basic e v.expr s.seen.scopes m.seen.scopes h.value.done h.value.taken

-- a part while another one is judged
part-later : (e : tree.Expr) (o : Operand) (s m r : State) → IsJudged e o s.seen.scopes s m → GoesOn m r → IsElaborated r.table e o.part s.seen.scopes m.seen.scopes
part-later e o s m r j g = part-kept m.table r.table g.extends j.goes.known.basic e o.part s.seen.scopes m.seen.scopes j.part

prefix-any : (operator : Unary) (e : tree.Expr) (at : Place) (x o : Operand) (s m r : State) → IsJudgedFree false e x s m → prefix operator at x m ≡ Gives o r
    → IsJudged (tree.Prefix operator at e) o s.seen.scopes s r
unfolding prefix target
prefix-any unary.Increment e at x o s m r j h =
    then (tree.Prefix unary.Increment at e) o s.seen.scopes s m r j.judged.goes (before-judged step.Increment e at x o s.seen.scopes m r j.judged.goes.known j.judged.part h)
prefix-any unary.Decrement e at x o s m r j h =
    then (tree.Prefix unary.Decrement at e) o s.seen.scopes s m r j.judged.goes (before-judged step.Decrement e at x o s.seen.scopes m r j.judged.goes.known j.judged.part h)
prefix-any unary.AddressOf e at x o s m r j h =
    then (tree.Prefix unary.AddressOf at e) o s.seen.scopes s m r j.judged.goes (address-judged e at x o s.seen.scopes m r j.judged.goes.known j.judged.part h)
prefix-any unary.SizeOf e at x o s m r j h =
    then (tree.Prefix unary.SizeOf at e) o s.seen.scopes s m r j.judged.goes (size-judged e at x o s.seen.scopes m r j.judged.goes.known j.judged.part h)
prefix-any unary.Dereference e at x o s m r j h =
    let one = bind-gives (value x m) (target_of at) o r h in
    let v = value-here false e x one.0 s m one.1 j one.2 in
    then (tree.Prefix unary.Dereference at e) o s.seen.scopes s one.1 r v.value.goes (target-judged e at one.0 o s.seen.scopes one.1 r v.value.goes.known v.value.taken one.3)
prefix-any unary.Plus e at x o s m r j h =
    let one = bind-gives (value x m) (prefix_of unary.Plus at) o r h in
    let v = value-here false e x one.0 s m one.1 j one.2 in
    then (tree.Prefix unary.Plus at e) o s.seen.scopes s one.1 r v.value.goes (prefix-judged unary.Plus e at one.0 o s.seen.scopes one.1 r refl v.value.goes.known v.value.taken one.3)
prefix-any unary.Minus e at x o s m r j h =
    let one = bind-gives (value x m) (prefix_of unary.Minus at) o r h in
    let v = value-here false e x one.0 s m one.1 j one.2 in
    then (tree.Prefix unary.Minus at e) o s.seen.scopes s one.1 r v.value.goes (prefix-judged unary.Minus e at one.0 o s.seen.scopes one.1 r refl v.value.goes.known v.value.taken one.3)
prefix-any unary.Complement e at x o s m r j h =
    let one = bind-gives (value x m) (prefix_of unary.Complement at) o r h in
    let v = value-here false e x one.0 s m one.1 j one.2 in
    then (tree.Prefix unary.Complement at e) o s.seen.scopes s one.1 r v.value.goes (prefix-judged unary.Complement e at one.0 o s.seen.scopes one.1 r refl v.value.goes.known v.value.taken one.3)
prefix-any unary.Not e at x o s m r j h =
    let one = bind-gives (value x m) (prefix_of unary.Not at) o r h in
    let v = value-here false e x one.0 s m one.1 j one.2 in
    then (tree.Prefix unary.Not at e) o s.seen.scopes s one.1 r v.value.goes (prefix-judged unary.Not e at one.0 o s.seen.scopes one.1 r refl v.value.goes.known v.value.taken one.3)

update-any : (operator : Assignment) (a : tree.Expr) (at : Place) (b : tree.Expr) (o : Operand) (s r : State) → is_compound operator ≡ true → Judged false a s
    → ((m : State) → IsKnown m → Judged false b m)
    → next (judge false a s) (λ x. λ m. next (next (judge false b m) value) (λ y. Assignments.update_by operator x at y)) ≡ Gives o r
    → IsJudged (tree.Assign operator a at b) o s.seen.scopes s r
update-any operator a at b o s r compound ja jb h =
    let one = bind-gives (judge false a s) (λ x. λ m. next (next (judge false b m) value) (λ y. Assignments.update_by operator x at y)) o r h in
    let x = ja one.0 one.1 one.2 in
    let two = bind-gives (next (judge false b one.1) value) (λ y. Assignments.update_by operator one.0 at y) o r one.3 in
    let y = taken b two.0 one.1 two.1 (jb one.1 x.judged.goes.known) two.2 in
    then (tree.Assign operator a at b) o s.seen.scopes s two.1 r (goes-on s one.1 two.1 x.judged.goes y.value.goes)
    (update-judged operator a b one.0 at two.0 o s.seen.scopes one.1.seen.scopes two.1 r compound y.value.goes.known
    (part-later a one.0 s one.1 two.1 x.judged y.value.goes) y.value.taken x.judged.place two.3)

-- What begins goes on, and a list that is `(void)` is

pub begun_goes : (which : AggregateKind) (name : Option Identifier) (o : Option TypeId) (s m : State) → IsBegun which name s o m → GoesOn s m
begun_goes which name None s m b = b
begun_goes which name (Some t) s m b = b.2

pub void_self : (all : tree.Parameters) → IsVoidOf (is_void_alone all) all
void_self tree.NoParameter = tt
void_self (tree.AndParameter all specifiers d) = λ e. e

mutual
  unfolding judge judge_arguments judge_type_name judge_list judge_specifier judge_members judge_member_declarators judge_enumerators judge_form judge_core judge_parts judge_parameters judge_declared

  pub expr-judged : (e : tree.Expr) (called : Bool) (o : Operand) (s r : State) → IsKnown s → judge called e s ≡ Gives o r → IsJudgedFree called e o s r
  expr-judged (tree.Name word) called o s r k h =
      record { judged = name-judged called word o s r k h; free = λ c. name-free word o s r (subst (λ (b : Bool). Assignments.name b word s ≡ Gives o r) c h) }
  expr-judged (tree.Integer of n at) called o s r k h = unnamed called (tree.Integer of n at) o s r refl (integer-judged of n at o s r k h)
  expr-judged (tree.Character n at) called o s r k h = unnamed called (tree.Character n at) o s r refl (character-judged n at o s r k h)
  expr-judged (tree.String pieces) called o s r k h = unnamed called (tree.String pieces) o s r refl (literal-judged pieces o s r k h)
  expr-judged (tree.Paren at e) called o s r k h =
      let one = bind-gives (judge called e s) (Operations.paren at) o r h in
      let j = expr-judged e called one.0 s one.1 k one.2 in
      record {
        judged = then (tree.Paren at e) o s.seen.scopes s one.1 r j.judged.goes (paren-judged e at one.0 o s.seen.scopes one.1 r j.judged.goes.known j.judged.part one.3);
        free = λ c. paren-free at one.0 o one.1 r one.3 (j.free c);
      }
  expr-judged (tree.Index a at b) called o s r k h =
      let one = bind-gives (next (judge false a s) value) (λ x. λ m. next (next (judge false b m) value) (λ y. Operations.index x at y)) o r h in
      let x = taken a one.0 s one.1 (λ p q t. expr-judged a false p s q k t) one.2 in
      let two = bind-gives (next (judge false b one.1) value) (λ y. Operations.index one.0 at y) o r one.3 in
      let y = taken b two.0 one.1 two.1 (λ p q t. expr-judged b false p one.1 q x.value.goes.known t) two.2 in
      unnamed called (tree.Index a at b) o s r refl (then (tree.Index a at b) o s.seen.scopes s two.1 r (goes-on s one.1 two.1 x.value.goes y.value.goes)
      (index-judged a b one.0 at two.0 o s.seen.scopes one.1.seen.scopes two.1 r y.value.goes.known (later false a one.0 s one.1 two.1 x y.value.goes) y.value.taken x.value.place two.3))
  expr-judged (tree.Call f at all) called o s r k h =
      let one = bind-gives (judge true f s) (λ x. λ m. next (value x m) (λ g. λ n. next (judge_arguments all n) (λ values. Assignments.call g at values))) o r h in
      let j = expr-judged f true one.0 s one.1 k one.2 in
      let two = bind-gives (value one.0 one.1) (λ g. λ n. next (judge_arguments all n) (λ values. Assignments.call g at values)) o r one.3 in
      let g = value-here true f one.0 two.0 s one.1 two.1 j two.2 in
      let three = bind-gives (judge_arguments all two.1) (λ values. Assignments.call two.0 at values) o r two.3 in
      let args = arguments-judged all three.0 two.1 three.1 g.value.goes.known three.2 in
      unnamed called (tree.Call f at all) o s r refl (then (tree.Call f at all) o s.seen.scopes s three.1 r (goes-on s two.1 three.1 g.value.goes args.1)
      (call-judged f all two.0 at three.0 o s.seen.scopes two.1.seen.scopes three.1 r args.1.known (later true f two.0 s two.1 three.1 g args.1) args.0 g.value.place three.3))
  expr-judged (tree.Member e member.Dot at name) called o s r k h =
      let one = bind-gives (judge false e s) (λ x. Operations.member x at name) o r h in
      let j = expr-judged e false one.0 s one.1 k one.2 in
      unnamed called (tree.Member e member.Dot at name) o s r refl (then (tree.Member e member.Dot at name) o s.seen.scopes s one.1 r j.judged.goes
      (member-judged e at name one.0 o s.seen.scopes one.1 r j.judged.goes.known j.judged.part j.judged.place one.3))
  expr-judged (tree.Member e member.Arrow at name) called o s r k h =
      let one = bind-gives (next (judge false e s) value) (λ x. Operations.pointed_member x at name) o r h in
      let x = taken e one.0 s one.1 (λ p q t. expr-judged e false p s q k t) one.2 in
      unnamed called (tree.Member e member.Arrow at name) o s r refl (then (tree.Member e member.Arrow at name) o s.seen.scopes s one.1 r x.value.goes
      (pointed_member-judged e one.0 at name o s.seen.scopes one.1 r x.value.goes.known x.value.taken x.value.place one.3))
  expr-judged (tree.Postfix e step at) called o s r k h =
      let one = bind-gives (judge false e s) (Operations.step_after step at) o r h in
      let j = expr-judged e false one.0 s one.1 k one.2 in
      unnamed called (tree.Postfix e step at) o s r refl (then (tree.Postfix e step at) o s.seen.scopes s one.1 r j.judged.goes
      (after-judged step e at one.0 o s.seen.scopes one.1 r j.judged.goes.known j.judged.part j.judged.place one.3))
  expr-judged (tree.Prefix operator at e) called o s r k h =
      let one = bind-gives (judge false e s) (prefix operator at) o r h in
      let j = expr-judged e false one.0 s one.1 k one.2 in
      unnamed called (tree.Prefix operator at e) o s r refl (prefix-any operator e at one.0 o s one.1 r j one.3)
  expr-judged (tree.SizeOfType at paren name) called o s r k h =
      let one = bind-gives (judge_type_name name s) (Assignments.size_of_type at paren) o r h in
      let t = type_name-judged name one.0 s one.1 k one.2 in
      unnamed called (tree.SizeOfType at paren name) o s r refl (then (tree.SizeOfType at paren name) o s.seen.scopes s one.1 r t.goes
      (size_of_type-judged name at paren one.0 o s.seen.scopes one.1 r t.goes.known t.typed t.erases one.3))
  expr-judged (tree.Cast at name e) called o s r k h =
      let one = bind-gives (judge_type_name name s) (λ to. λ m. next (judge false e m) (λ x. Assignments.cast at to x)) o r h in
      let t = type_name-judged name one.0 s one.1 k one.2 in
      let two = bind-gives (judge false e one.1) (λ x. Assignments.cast at one.0 x) o r one.3 in
      let j = expr-judged e false two.0 one.1 two.1 t.goes.known two.2 in
      let grows = j.judged.goes.extends in
      unnamed called (tree.Cast at name e) o s r refl (then (tree.Cast at name e) o s.seen.scopes s two.1 r (goes-on s one.1 two.1 t.goes j.judged.goes)
      (cast-judged name e at one.0 two.0 o s.seen.scopes one.1.seen.scopes two.1 r j.judged.goes.known
      (type_name-kept one.1.table two.1.table grows t.goes.known.basic one.0 s.seen.scopes one.1.seen.scopes t.typed) t.erases (still_in one.1.table two.1.table grows (named_type one.0) t.there)
      j.judged.part
      (λ w q alike. given-dropped e (named_type one.0) two.0.place two.0.part w one.1.seen.scopes two.1 q j.judged.goes.known j.judged.part (j.free refl) alike) two.3))
  expr-judged (tree.Infix operator a at b) called o s r k h =
      let one = bind-gives (next (judge false a s) value) (λ x. λ m. next (next (judge false b m) value) (λ y. Operations.infix_of operator x at y)) o r h in
      let x = taken a one.0 s one.1 (λ p q t. expr-judged a false p s q k t) one.2 in
      let two = bind-gives (next (judge false b one.1) value) (λ y. Operations.infix_of operator one.0 at y) o r one.3 in
      let y = taken b two.0 one.1 two.1 (λ p q t. expr-judged b false p one.1 q x.value.goes.known t) two.2 in
      unnamed called (tree.Infix operator a at b) o s r refl (then (tree.Infix operator a at b) o s.seen.scopes s two.1 r (goes-on s one.1 two.1 x.value.goes y.value.goes)
      (infix-judged operator a b one.0 at two.0 o s.seen.scopes one.1.seen.scopes two.1 r y.value.goes.known (later false a one.0 s one.1 two.1 x y.value.goes) y.value.taken x.value.place two.3))
  expr-judged (tree.Conditional c at a b) called o s r k h =
      let one = bind-gives (next (judge false c s) value)
      (λ z. λ m. next (next (judge false a m) value) (λ x. λ n. next (next (judge false b n) value) (λ y. Assignments.choice z at x y))) o r h in
      let z = taken c one.0 s one.1 (λ p q t. expr-judged c false p s q k t) one.2 in
      let two = bind-gives (next (judge false a one.1) value) (λ x. λ n. next (next (judge false b n) value) (λ y. Assignments.choice one.0 at x y)) o r one.3 in
      let x = taken a two.0 one.1 two.1 (λ p q t. expr-judged a false p one.1 q z.value.goes.known t) two.2 in
      let three = bind-gives (next (judge false b two.1) value) (λ y. Assignments.choice one.0 at two.0 y) o r two.3 in
      let y = taken b three.0 two.1 three.1 (λ p q t. expr-judged b false p two.1 q x.value.goes.known t) three.2 in
      let last = goes-on one.1 two.1 three.1 x.value.goes y.value.goes in
      unnamed called (tree.Conditional c at a b) o s r refl (then (tree.Conditional c at a b) o s.seen.scopes s three.1 r (goes-on s one.1 three.1 z.value.goes last)
      (choice-judged c a b one.0 at two.0 three.0 o s.seen.scopes one.1.seen.scopes two.1.seen.scopes three.1 r y.value.goes.known
      (later false c one.0 s one.1 three.1 z last) (later false a two.0 one.1 two.1 three.1 x y.value.goes) y.value.taken (x.free refl) (y.free refl) z.value.place three.3))
  expr-judged (tree.Assign assignment.Assign a at b) called o s r k h =
      let one = bind-gives (judge false a s) (λ x. λ m. next (judge false b m) (λ y. Assignments.assign x at y)) o r h in
      let x = expr-judged a false one.0 s one.1 k one.2 in
      let two = bind-gives (judge false b one.1) (λ y. Assignments.assign one.0 at y) o r one.3 in
      let y = expr-judged b false two.0 one.1 two.1 x.judged.goes.known two.2 in
      unnamed called (tree.Assign assignment.Assign a at b) o s r refl (then (tree.Assign assignment.Assign a at b) o s.seen.scopes s two.1 r (goes-on s one.1 two.1 x.judged.goes y.judged.goes)
      (assign-judged a b one.0 at two.0 o s.seen.scopes one.1.seen.scopes two.1 r y.judged.goes.known (part-later a one.0 s one.1 two.1 x.judged y.judged.goes) y.judged.part x.judged.place two.3))
  expr-judged (tree.Assign operator a at b) called o s r k h =
      unnamed called (tree.Assign operator a at b) o s r refl
      (update-any operator a at b o s r refl (λ p q t. expr-judged a false p s q k t) (λ m known p q t. expr-judged b false p m q known t) h)
  expr-judged (tree.Comma a b) called o s r k h =
      let one = bind-gives (next (judge false a s) value) (λ x. λ m. next (next (judge false b m) value) (λ y. Assignments.comma x y)) o r h in
      let x = taken a one.0 s one.1 (λ p q t. expr-judged a false p s q k t) one.2 in
      let two = bind-gives (next (judge false b one.1) value) (λ y. Assignments.comma one.0 y) o r one.3 in
      let y = taken b two.0 one.1 two.1 (λ p q t. expr-judged b false p one.1 q x.value.goes.known t) two.2 in
      unnamed called (tree.Comma a b) o s r refl (then (tree.Comma a b) o s.seen.scopes s two.1 r (goes-on s one.1 two.1 x.value.goes y.value.goes)
      (comma-judged a b one.0 two.0 o s.seen.scopes one.1.seen.scopes two.1 r y.value.goes.known (later false a one.0 s one.1 two.1 x y.value.goes) y.value.taken
      (x.free refl) (y.free refl) x.value.place two.3))
  expr-judged (tree.Compound at name brace) called o s r k h = never-gives o (TooLarge nowhere Types) s r h
  expr-judged (tree.SizeOfCompound at paren name brace) called o s r k h = never-gives o (TooLarge nowhere Types) s r h

  pub arguments-judged : (all : tree.Arguments) (values : List Value) (s r : State) → IsKnown s → judge_arguments all s ≡ Gives values r
      → AreValuesOf r.table all values s.seen.scopes r.seen.scopes × GoesOn s r
  arguments-judged tree.NoArgument values s r k h =
      let same = gives-state [] values s r h in
      ((sym (gives-value [] values s r h), ap (λ (q : State). q.seen.scopes) (sym same)), subst (GoesOn s) same (stays s k).goes)
  arguments-judged (tree.AndArgument all e) values s r k h =
      let one = bind-gives (judge_arguments all s) (λ before. λ m. next (next (judge false e m) value) (λ v. pure (before ++ v ∷ []))) values r h in
      let before = arguments-judged all one.0 s one.1 k one.2 in
      let two = bind-gives (next (judge false e one.1) value) (λ v. pure (one.0 ++ v ∷ [])) values r one.3 in
      let v = taken e two.0 one.1 two.1 (λ p q t. expr-judged e false p one.1 q before.1.known t) two.2 in
      given-same (λ (vs : List Value) (q : State). AreValuesOf q.table (tree.AndArgument all e) vs s.seen.scopes q.seen.scopes × GoesOn s q) (one.0 ++ two.0 ∷ []) values two.1 r two.3 (
        (
          one.0,
          one.1.seen.scopes,
          two.0,
          values-kept one.1.table two.1.table v.value.goes.extends before.1.known.basic all one.0 s.seen.scopes one.1.seen.scopes before.0,
          v.value.taken,
          v.value.place,
          v.free refl,
          refl,
        ),
        goes-on s one.1 two.1 before.1 v.value.goes,
      )

  pub type_name-judged : (name : tree.TypeName) (made : TypedTypeName) (s r : State) → IsKnown s → judge_type_name name s ≡ Gives made r → IsTypeNameJudged name made s r
  type_name-judged (tree.Named specifiers d) made s r k h =
      let at = declared_place specifiers d in
      let one = bind-gives (judge_list specifiers s) (λ list. λ m. next (judge_declared naming.None at d m)
      (λ v. λ n. next (declared_makes at Written v (listed list) n) (λ t. pure (typed.Named (specified list) v t)))) made r h in
      let l = specifiers-judged specifiers one.0 s one.1 k one.2 in
      let two = bind-gives (judge_declared naming.None at d one.1)
      (λ v. λ n. next (declared_makes at Written v (listed one.0) n) (λ t. pure (typed.Named (specified one.0) v t))) made r one.3 in
      let j = declared-judged d naming.None at two.0 one.1 two.1 l.goes.known two.2 in
      type_name-step specifiers d at one.0 two.0 made s one.1 two.1 r l j two.3

  pub specifiers-judged : (all : tree.Specifiers) (list : TypedSpecifierList) (s r : State) → IsKnown s → judge_list all s ≡ Gives list r → IsListJudged all list s r
  specifiers-judged tree.NoSpecifier list s r k h =
      given-same (λ (v : TypedSpecifierList) (q : State). IsListJudged tree.NoSpecifier v s q) typed.NoSpecifier list s r h (no_specifier-judged s k)
  specifiers-judged (tree.AndSpecifier all specifier) list s r k h =
      let one = bind-gives (judge_list all s) (λ l. λ m. next (judge_specifier (counted l) specifier m) (λ v. pure (typed.AndSpecifier l v))) list r h in
      let before = specifiers-judged all one.0 s one.1 k one.2 in
      let two = bind-gives (judge_specifier (counted one.0) specifier one.1) (λ v. pure (typed.AndSpecifier one.0 v)) list r one.3 in
      let j = specifier-judged specifier (counted one.0) two.0 one.1 two.1 before.goes.known two.2 in
      given-same (λ (v : TypedSpecifierList) (q : State). IsListJudged (tree.AndSpecifier all specifier) v s q) (typed.AndSpecifier one.0 two.0) list two.1 r two.3
      (list-judged all specifier one.0 two.0 s one.1 two.1 before j)

  pub specifier-judged : (specifier : tree.Specifier) (counts : Counted) (one : TypedSpecifier) (s r : State) → IsKnown s → judge_specifier counts specifier s ≡ Gives one r
      → IsSpecifierJudged counts specifier one s.seen.scopes s r
  specifier-judged (tree.Keyword word) counts one s r k h = word-judged counts word one s r k h
  specifier-judged (tree.Typedef name) counts one s r k h = typedef-judged counts name one s r k h
  specifier-judged (tree.Tagged which at name) counts one s r k h = tagged-judged counts which at name one s r k h
  specifier-judged (tree.Aggregate which at name brace members) counts one s r k h =
      let start = bind-gives (begun which at name s) (λ t. λ m. next (judge_members members m) (λ rows. ended counts which at name brace t rows)) one r h in
      let b = begun-judged which at name start.0 s start.1 k start.2 in
      let rows = bind-gives (judge_members members start.1) (λ v. ended counts which at name brace start.0 v) one r start.3 in
      let m = members-judged members rows.0 start.1 rows.1 (begun_goes which name start.0 s start.1 b).known rows.2 in
      ended_by counts which at name brace members rows.0 one s start.1 rows.1 r m.goes.known m.goes m.typed m.distinct m.erases start.0 b rows.3
  specifier-judged (tree.Enum at name) counts one s r k h = enum-judged counts at name one s r k h
  specifier-judged (tree.Enumeration at name brace all comma) counts one s r k h =
      let start = bind-gives (enumeration_begun name s) (λ f. λ m. next (judge_enumerators all m) (λ list. enumeration counts at name brace list comma)) one r h in
      let b = enumeration_begun-judged name start.0 s start.1 k start.2 in
      let two = bind-gives (judge_enumerators all start.1) (λ list. enumeration counts at name brace list comma) one r start.3 in
      let e = enumerators-judged all two.0 start.1 two.1 b.1.known two.2 in
      enumeration-judged counts at name brace all two.0 comma one s two.1 r e.goes.known (record {
        typed = subst (λ (c : Scopes). AreEnumerators two.1.table two.0 c two.1.seen.scopes) b.0 e.typed;
        erases = e.erases;
        goes = goes-on s start.1 two.1 b.1 e.goes;
      }) two.3

  pub members-judged : (all : tree.Members) (rows : TypedMembers) (s r : State) → IsKnown s → judge_members all s ≡ Gives rows r → AreMembersJudged all rows s r
  members-judged tree.NoMember rows s r k h =
      given-same (λ (v : TypedMembers) (q : State). AreMembersJudged tree.NoMember v s q) typed.NoMember rows s r h
      (record { typed = refl; erases = refl; distinct = tt; goes = (stays s k).goes })
  members-judged (tree.AndMember all specifiers declarators) rows s r k h =
      let one = bind-gives (judge_members all s) (λ a. λ m. next (judge_list specifiers m)
      (λ l. λ n. next (judge_member_declarators (listed l) (member_names a) declarators n) (λ row. pure (typed.AndMember a (specified l) row)))) rows r h in
      let before = members-judged all one.0 s one.1 k one.2 in
      let two = bind-gives (judge_list specifiers one.1)
      (λ l. λ n. next (judge_member_declarators (listed l) (member_names one.0) declarators n) (λ row. pure (typed.AndMember one.0 (specified l) row))) rows r one.3 in
      let l = specifiers-judged specifiers two.0 one.1 two.1 before.goes.known two.2 in
      let named = list-typed specifiers two.0 one.1 two.1 l in
      let three = bind-gives (judge_member_declarators (listed two.0) (member_names one.0) declarators two.1) (λ row. pure (typed.AndMember one.0 (specified two.0) row)) rows r two.3 in
      let row = row-judged declarators (listed two.0) (member_names one.0) three.0 two.1 three.1 l.goes.known named.1 three.2 in
      given-same (λ (v : TypedMembers) (q : State). AreMembersJudged (tree.AndMember all specifiers declarators) v s q)
      (typed.AndMember one.0 (specified two.0) three.0) rows three.1 r three.3
      (members-step all specifiers declarators one.0 two.0 three.0 s one.1 two.1 three.1 before l row)

  pub row-judged : (all : tree.MemberDeclarators) (base : TypeId) (names : List Name) (row : TypedMemberDeclarators) (s r : State) → IsKnown s → IsType s.table base
      → judge_member_declarators base names all s ≡ Gives row r → IsRowJudged base names all row s r
  row-judged tree.NoDeclarator base names row s r k b h =
      given-same (λ (v : TypedMemberDeclarators) (q : State). IsRowJudged base names tree.NoDeclarator v s q) typed.NoDeclarator row s r h
      (record { typed = refl; erases = refl; distinct = λ d. subst AreDistinct (sym (append-nil names)) d; goes = (stays s k).goes })
  row-judged (tree.AndDeclarator all d) base names row s r k b h =
      let at = name_place (declarator_name d) nowhere in
      let one = bind-gives (judge_member_declarators base names all s)
      (λ v. λ m. next (judge_form naming.None at d m) (λ form. member_named (names ++ declarator_names v) v form base (declarator_name d))) row r h in
      let before = row-judged all base names one.0 s one.1 k b one.2 in
      let two = bind-gives (judge_form naming.None at d one.1) (λ form. member_named (names ++ declarator_names one.0) one.0 form base (declarator_name d)) row r one.3 in
      let j = form-judged d naming.None at two.0 one.1 two.1 before.goes.known two.2 in
      let there = still_in s.table two.1.table (goes-on s one.1 two.1 before.goes j.goes).extends base b in
      member-step base names all d one.0 row two.0 s one.1 two.1 r before j there two.3
  row-judged (tree.AndBitField all d) base names row s r k b h = never-gives row (TooLarge nowhere Types) s r h
  row-judged (tree.AndUnnamedBitField all) base names row s r k b h = never-gives row (TooLarge nowhere Types) s r h

  pub enumerators-judged : (all : tree.Enumerators) (list : TypedEnumerators) (s r : State) → IsKnown s → judge_enumerators all s ≡ Gives list r
      → AreEnumeratorsJudged all list s.seen.scopes s r
  enumerators-judged tree.NoEnumerator list s r k h =
      given-same (λ (v : TypedEnumerators) (q : State). AreEnumeratorsJudged tree.NoEnumerator v s.seen.scopes s q) typed.NoEnumerator list s r h
      (record { typed = refl; erases = refl; goes = (stays s k).goes })
  enumerators-judged (tree.AndEnumerator all name) list s r k h =
      let one = bind-gives (judge_enumerators all s) (λ l. enumerator l name) list r h in
      let before = enumerators-judged all one.0 s one.1 k one.2 in
      enumerator-judged all one.0 list name s.seen.scopes s one.1 r before.goes.known before one.3
  enumerators-judged (tree.AndValued all name at e) list s r k h =
      let one = bind-gives (judge_enumerators all s) (λ l. λ m. next (next (judge false e m) value) (λ v. valued_enumerator l name at v)) list r h in
      let before = enumerators-judged all one.0 s one.1 k one.2 in
      let two = bind-gives (next (judge false e one.1) value) (λ v. valued_enumerator one.0 name at v) list r one.3 in
      let v = taken e two.0 one.1 two.1 (λ p q t. expr-judged e false p one.1 q before.goes.known t) two.2 in
      valued-judged all one.0 list name at e two.0 s.seen.scopes s one.1 two.1 r v.value.goes.known before v.value.goes v.value.taken (v.free refl) two.3

  pub form-judged : (d : tree.Declarator) (which : Naming) (at : Place) (form : TypedForm) (s r : State) → IsKnown s → judge_form which at d s ≡ Gives form r
      → IsFormJudged which d form s r
  form-judged (tree.Declares stars core parts) which at form s r k h =
      let one = bind-gives (stars_with_nodes at stars s) (λ l. λ m. next (judge_core which at core m) (λ c. λ n. next (judge_parts at parts n) (λ a. pure (typed.Form l c a)))) form r h in
      let first = stars-judged at stars one.0 s one.1 k one.2 in
      let two = bind-gives (judge_core which at core one.1) (λ c. λ n. next (judge_parts at parts n) (λ a. pure (typed.Form one.0 c a))) form r one.3 in
      let c = core-judged core which at two.0 one.1 two.1 first.1.goes.known two.2 in
      let three = bind-gives (judge_parts at parts two.1) (λ a. pure (typed.Form one.0 two.0 a)) form r two.3 in
      let a = parts-judged parts at three.0 two.1 three.1 c.goes.known three.2 in
      given-same (λ (v : TypedForm) (q : State). IsFormJudged which (tree.Declares stars core parts) v s q) (typed.Form one.0 two.0 three.0) form three.1 r three.3
      (form-step which stars core parts one.0 two.0 three.0 s one.1 two.1 three.1 first c a)

  pub core-judged : (d : tree.Core) (which : Naming) (at : Place) (core : TypedCore) (s r : State) → IsKnown s → judge_core which at d s ≡ Gives core r
      → IsCoreJudged which d core s r
  core-judged (tree.Names name) which at core s r k h = name-step at which name core s r k h
  core-judged tree.Unnamed which at core s r k h =
      given-same (λ (v : TypedCore) (q : State). IsCoreJudged which tree.Unnamed v s q) typed.Unnamed core s r h
      (record { typed = refl; erases = refl; home = refl; goes = (stays s k).goes })
  core-judged (tree.Nested paren d) which at core s r k h =
      let one = bind-gives (judge_form which at d s) (λ form. pure (typed.Nested paren form)) core r h in
      let j = form-judged d which at one.0 s one.1 k one.2 in
      given-same (λ (v : TypedCore) (q : State). IsCoreJudged which (tree.Nested paren d) v s q) (typed.Nested paren one.0) core one.1 r one.3
      (record { typed = j.typed; erases = ap (tree.Nested paren) j.erases; home = j.home; goes = j.goes })

  pub parts-judged : (all : tree.Parts) (at : Place) (parts : TypedParts) (s r : State) → IsKnown s → judge_parts at all s ≡ Gives parts r → ArePartsJudged all parts s r
  parts-judged tree.NoPart at parts s r k h =
      given-same (λ (v : TypedParts) (q : State). ArePartsJudged tree.NoPart v s q) typed.NoPart parts s r h (record { typed = refl; erases = refl; goes = (stays s k).goes })
  parts-judged (tree.AndArray all bracket words) at parts s r k h =
      let one = bind-gives (judge_parts at all s) (λ p. pure (typed.AndArray p bracket words)) parts r h in
      let j = parts-judged all at one.0 s one.1 k one.2 in
      given-same (λ (v : TypedParts) (q : State). ArePartsJudged (tree.AndArray all bracket words) v s q) (typed.AndArray one.0 bracket words) parts one.1 r one.3
      (record { typed = j.typed; erases = ap (λ (p : tree.Parts). tree.AndArray p bracket words) j.erases; goes = j.goes })
  parts-judged (tree.AndSizedArray all bracket words e) at parts s r k h =
      let one = bind-gives (judge_parts at all s) (λ p. λ m. next (next (judge false e m) value) (λ v. sized p bracket words v)) parts r h in
      let j = parts-judged all at one.0 s one.1 k one.2 in
      let two = bind-gives (next (judge false e one.1) value) (λ v. sized one.0 bracket words v) parts r one.3 in
      let v = taken e two.0 one.1 two.1 (λ p q t. expr-judged e false p one.1 q j.goes.known t) two.2 in
      sized-step all one.0 parts bracket words e two.0 s one.1 two.1 r j v.value.goes v.value.taken (v.free refl) two.3
  parts-judged (tree.AndFunction all paren parameters) at parts s r k h =
      let void = is_void_alone parameters in
      let one = bind-gives (judge_parts at all s) (λ p. λ m. next (entered m)
      (λ b. λ i. next (stopped_outside (judge_parameters void parameters i)) (λ list. λ n. next (left at list n) (λ whole. pure (typed.AndFunction p paren whole))))) parts r h in
      let j = parts-judged all at one.0 s one.1 k one.2 in
      let two = bind-gives (entered one.1)
      (λ b. λ i. next (stopped_outside (judge_parameters void parameters i)) (λ list. λ n. next (left at list n) (λ whole. pure (typed.AndFunction one.0 paren whole)))) parts r one.3 in
      let inside = entered-judged two.0 one.1 two.1 j.goes.known two.2 in
      let three = bind-gives (stopped_outside (judge_parameters void parameters two.1)) (λ list. λ n. next (left at list n) (λ whole. pure (typed.AndFunction one.0 paren whole))) parts r two.3 in
      let p = parameters-judged parameters void three.0 two.1 three.1 (void_self parameters) inside.1.known (outside-gives (judge_parameters void parameters two.1) three.0 three.1 three.2) in
      function-step all one.0 parts at paren parameters two.0 three.0 s one.1 two.1 three.1 r j two.2 p three.3

  pub parameters-judged : (all : tree.Parameters) (void : Bool) (list : TypedParameters) (s r : State) → IsVoidOf void all → IsKnown s
      → judge_parameters void all s ≡ Gives list r → AreParametersJudged void all list s r
  parameters-judged tree.NoParameter void list s r fits k h =
      given-same (λ (v : TypedParameters) (q : State). AreParametersJudged void tree.NoParameter v s q) typed.NoParameter list s r h
      (record { typed = refl; erases = refl; goes = (stays s k).goes })
  parameters-judged (tree.AndParameter all specifiers d) void list s r fits k h =
      let at = declared_place specifiers d in
      let adjusting : TypeShape → Option Place = λ base. adjusted_at (derived_by_declared d) base (typedef_place specifiers) in
      let one = bind-gives (judge_parameters void all s) (λ a. λ m. next (judge_list specifiers m)
      (λ own. λ n. next (judge_declared naming.Parameter at d n) (λ v. parameter void at adjusting a (specified own) v))) list r h in
      let before = parameters-judged all void one.0 s one.1 (first_alone void all specifiers d fits) k one.2 in
      let two = bind-gives (judge_list specifiers one.1)
      (λ own. λ n. next (judge_declared naming.Parameter at d n) (λ v. parameter void at adjusting one.0 (specified own) v)) list r one.3 in
      let l = specifiers-judged specifiers two.0 one.1 two.1 before.goes.known two.2 in
      let three = bind-gives (judge_declared naming.Parameter at d two.1) (λ v. parameter void at adjusting one.0 (specified two.0) v) list r two.3 in
      let j = declared-judged d naming.Parameter at three.0 two.1 three.1 l.goes.known three.2 in
      parameter-step void all specifiers d naming.Parameter at one.0 list two.0 three.0 s one.1 two.1 three.1 r fits before l j three.3

  pub declared-judged : (d : tree.Declared) (which : Naming) (at : Place) (one : TypedDeclared) (s r : State) → IsKnown s → judge_declared which at d s ≡ Gives one r
      → IsDeclaredJudged which d one s r
  declared-judged tree.NotDeclared which at one s r k h =
      given-same (λ (v : TypedDeclared) (q : State). IsDeclaredJudged which tree.NotDeclared v s q) typed.NotDeclared one s r h
      (record { typed = refl; erases = refl; homeless = λ e. tt; goes = (stays s k).goes })
  declared-judged (tree.DeclaredBy d) which at one s r k h =
      let two = bind-gives (judge_form which at d s) (λ form. pure (typed.DeclaredBy form)) one r h in
      let j = form-judged d which at two.0 s two.1 k two.2 in
      given-same (λ (v : TypedDeclared) (q : State). IsDeclaredJudged which (tree.DeclaredBy d) v s q) (typed.DeclaredBy two.0) one two.1 r two.3
      (record { typed = j.typed; erases = ap tree.DeclaredBy j.erases; homeless = λ e. no_home (name_of_form two.0) (home_of_form two.0) (subst (λ (w : Naming). IsHomeOf w (name_of_form two.0) (home_of_form two.0)) e j.home); goes = j.goes })

-- an expression, as the law has it
pub expr-law : (called : Bool) (e : tree.Expr) (o : Operand) (s r : State) → IsKnown s → judge called e s ≡ Gives o r → IsJudged e o s.seen.scopes s r
expr-law called e o s r k h = (expr-judged e called o s r k h).judged
