-- What a table that goes on keeps: each rule of a construct.
use Rattle.std.proofs.Common.{◌≡◌, ℕ, ◌++◌, Bool, true, false, List, [], ◌∷◌, length, Some, refl, ap, sym, subst, ◌∙◌, inl, inr, ◌⊎◌, IsTrue, slice_index_or}
use Rattle.std.specs.List.{AllZip}
use Rattle.std.proofs.lemmas.Option.{none-some}
use Rattle.cc_base.specs.declared.place.Place.{Place}
use Rattle.cc_base.specs.declared.number.NodeId.{NodeId}
use Rattle.cc_base.specs.declared.number.TypeId.{TypeId}
use Rattle.c_types.specs.declared.layout.Layout.{Layout}
use Rattle.c_types.specs.declared.shape.TypeShape.{TypeShape}
use Rattle.c_types.specs.declared.shape.TypeShape.TheVariants.{Void, Integer, Pointer, Array, Function, Struct, Union}
use Rattle.c_types.specs.Table.{Table, Entry, IsType, IsAggregate, HasShape, shape_at, is_complete, is_aggregate_shape, descend}
use Rattle.c_types.specs.Sameness.{is_same_type, same_shape, same_step}
use Rattle.c_tree.specs.declared.leaf.Identifier.{Identifier}
use Rattle.c_tree.specs.declared.leaf.StringPiece.{StringPiece}
use Rattle.c_tree.specs.declared.operator.Assignment.{Assignment}
use Rattle.c_tree.specs.declared.operator.Binary.{Binary}
use Rattle.c_tree.specs.declared.operator.Unary.{Unary}
use Rattle.c_tree.specs.declared.operator.Unary.TheVariants as unary
use Rattle.c_tree.specs.declared.typed_word.Conversion.{Conversion}
use Rattle.c_tree.specs.declared.typed_word.Runtime.{Runtime}
use Rattle.c_tree.specs.declared.typed_word.Side.{Side}
use Rattle.c_tree.specs.TypedTree as typed
use Rattle.c_tree.specs.TypedTree.{TypedExpr, TypedPlace, TypedArguments}
use Rattle.c_tree.specs.TypedParts.{type_of, place_type, first_place}
use Rattle.runtime_calls.specs.declared.function.RuntimeType.{RuntimeType}
use Rattle.runtime_calls.specs.declared.function.RuntimeType.TheVariants as prototype
use Rattle.runtime_calls.specs.Prototypes.{prototype_of}
use Rattle.integers.specs.Arithmetic.{IntegerType}
use Rattle.c_typing.specs.Constants.{is_null_constant}
use Rattle.c_typing.specs.Conversions.{bare, IsPlain, IsOperand, takes_over}
use Rattle.c_typing.specs.Extensions.{IsExtended}
use Rattle.c_typing.specs.Rules.{IsCondition, IsInteger, IsPointer, IsEnumerator, IsFunctionName, IsRuntimeName, IsStringType, IsTarget, IsElement, HasMember, IsMemberAt, number_of_shape, AreOneStruct, IsDecay, IsAddress, IsFunctionAt, IsPromoted, IsPrefix, IsSize, is_steppable_shape, IsStep, IsArithmetic, IsMoved, IsDifference, AreOrdered, Meeting, RightIsNull, LeftIsNull, BothPoint, NeverMeet, meeting, AreEquated, AreCompared, IsCompared, IsLogical, IsIntegerChoice, IsVoidChoice, IsChoice, meeting_type, side_conversion, into_choice, IsPointerChoice, IsAssignment, IsStructAssignment, IsIntegerUpdate, IsPointerUpdate, IsUpdate, IsScalarCast, IsCast, listed_arguments, IsArgument, IsCall, IsRuntimeArgument, IsRuntimeResult, IsRuntimeCallOf, IsRuntimeCall, IsAllocation, IsAllocationFor}
use Rattle.c_typing.specs.Scopes.{Scopes}
use Rattle.c_typing.specs.Settled.{IsBasic}
use Rattle.c_typing.specs.Shapes.{IsScalar, IsPointerTo, is_scalar_shape, is_void_shape, integer_at, integer_of_shape, is_data}
use Rattle.c_typing.specs.Typing.{IsTyped, AreTyped}
use Rattle.c_typing_laws.proofs.ExtensionLaws.{no_true, is_in, not_void, still_in, test_kept, complete_kept, integer_kept, pointer_in}
use Rattle.c_typing_laws.proofs.KeptTypes.{same_exact, data_exact}
use Rattle.c_typing_laws.proofs.KeptConstants.{Own, own-plain, own-in, operand-in, scalar_in, cast-in, cast-own, constant-kept, null-kept}
use Rattle.c_typing_laws.proofs.KeptConversions.{Meets, bare-typed, converted-kept, cast-kept, takes_over-kept, assigned-kept, meeting-kept}

-- Lists of arguments

abbrev Each : (TypedExpr → Type 0) → List TypedExpr → Type 0
Each P [] = Unit {0}
Each P (e ∷ es) = P e × Each P es

each_last : (P : TypedExpr → Type 0) (es : List TypedExpr) (e : TypedExpr) → Each P es → P e → Each P (es ++ e ∷ [])
each_last P [] e h p = (p, tt)
each_last P (x ∷ es) e h p = (h.0, each_last P es e h.1 p)

zip_kept : {A : Type 0} (P : TypedExpr → Type 0) (R S : A → TypedExpr → Type 0) → ((a : A) (e : TypedExpr) → P e → R a e → S a e) → (ks : List A) (es : List TypedExpr)
    → Each P es → AllZip R ks es → AllZip S ks es
zip_kept P R S more [] [] h z = tt
zip_kept P R S more [] (e ∷ es) h z = absurd z
zip_kept P R S more (a ∷ ks) [] h z = absurd z
zip_kept P R S more (a ∷ ks) (e ∷ es) h z = (more a e h.0 z.0, zip_kept P R S more ks es h.1 z.1)

-- well typed between some scopes
abbrev Somewhere : Table → TypedExpr → Type 0
Somewhere T e = (s s' : Scopes) × IsTyped T e s s'

each_typed : (T : Table) (all : TypedArguments) (s s' : Scopes) → AreTyped T all s s' → Each (Somewhere T) (listed_arguments all)
each_typed T typed.NoArgument s s' h = tt
each_typed T (typed.AndArgument all e) s s' h = each_last (Somewhere T) (listed_arguments all) e (each_typed T all s h.0 h.1) (h.0, s', h.2)

-- Types that are the same are both there

same_no_void : (f : TypeId → TypeId → Bool) (y z : TypeShape) → same_shape f y z ≡ true → is_void_shape y ≡ false → is_void_shape z ≡ false
same_no_void f Void Void h v = v
same_no_void f (Integer a s) (Integer b r) h v = refl
same_no_void f (Pointer n t) (Pointer m u) h v = refl
same_no_void f (Array t a) (Array u b) h v = refl
same_no_void f (Function ps r) (Function qs q) h v = refl
same_no_void f (Struct a) (Struct b) h v = refl
same_no_void f (Union a) (Union b) h v = refl
same_no_void f y z h v = no_true h

same_in : (T : Table) (t u : TypeId) → is_same_type T t u ≡ true → is_void_shape (shape_at T t) ≡ false → IsType T u
unfolding is_same_type
same_in T t u h v = is_in T u (same_no_void (descend (same_step T) (λ w. false) (length T)) (shape_at T t) (shape_at T u) h v)

equated_meets : (m : Meeting) (at : Place) (a b : TypedExpr) → AreEquated m at a b → Meets m
equated_meets (RightIsNull t) at a b h = tt
equated_meets (LeftIsNull t) at a b h = tt
equated_meets (BothPoint t) at a b h = tt
equated_meets NeverMeet at a b h = h

type_meets : (m : Meeting) (t : TypeId) → meeting_type m ≡ Some t → Meets m
type_meets (RightIsNull t) u h = tt
type_meets (LeftIsNull t) u h = tt
type_meets (BothPoint t) u h = tt
type_meets NeverMeet u h = absurd (none-some u h)

module _ (T U : Table) (x : IsExtended T U) (basic : IsBasic T) where
  pub has-kept : (t : TypeId) (y : TypeShape) → HasShape T t y → HasShape U t y
  has-kept t y h = (still_in T U x t h.0, x.shapes t h.0 ∙ h.1)

  pub scalar-kept : (t : TypeId) → IsScalar T t → IsScalar U t
  scalar-kept t h = test_kept T U x is_scalar_shape t refl h

  pub aggregate-kept : (t : TypeId) → IsAggregate T t → IsAggregate U t
  aggregate-kept t h = test_kept T U x is_aggregate_shape t refl h

  pub to-kept : (u t : TypeId) → IsPointerTo T u t → IsPointerTo U u t
  to-kept u t h = (h.0, has-kept t (Pointer h.0 u) h.1)

  to_in : (u t : TypeId) → IsPointerTo T u t → IsType T u
  to_in u t h = pointer_in T h.0 t u basic.formed h.1.1

  pointer-kept : (t : TypeId) (e : TypedExpr) → IsPointer T t e → IsPointer U t e
  pointer-kept t e h = record { plain = h.plain; type = to-kept t (type_of e) h.type }

  pointee_in : (t : TypeId) (e : TypedExpr) → IsPointer T t e → IsType T t
  pointee_in t e h = to_in t (type_of e) h.type

  integer-kept : (k : IntegerType) (e : TypedExpr) → IsInteger T k e → IsInteger U k e
  integer-kept k e h = record { plain = h.plain; type = integer_kept T U x (type_of e) k h.type }

  operand-kept : (at : Place) (k : IntegerType) (e : TypedExpr) → IsOperand T at k e → IsOperand U at k e
  operand-kept at k e o = record { type = o.type; shape = has-kept o.type (Integer k.bytes k.signed) o.shape; plain = o.plain; made = o.made }

  pub condition-kept : (e : TypedExpr) → IsCondition T e → IsCondition U e
  condition-kept e h = record { plain = h.plain; scalar = scalar-kept (type_of e) h.scalar }

  pub enumerator-kept : (s : Scopes) (name : Identifier) (value : _) (t : TypeId) → IsEnumerator T s name value t → IsEnumerator U s name value t
  enumerator-kept s name value t h = record { known = h.known; type = has-kept t (Integer 4 true) h.type }

  pub function_name-kept : (s : Scopes) (name : Identifier) (number : ℕ) (n : NodeId) (t : TypeId) → IsFunctionName T s name number n t → IsFunctionName U s name number n t
  function_name-kept s name number n t h =
      record { function = h.function; known = h.known; defined = h.defined; not_main = h.not_main; type = has-kept t (Pointer n h.function) h.type }

  pub runtime_name-kept : (s : Scopes) (name : Identifier) (function : Runtime) (t : TypeId) → IsRuntimeName T s name function t → IsRuntimeName U s name function t
  runtime_name-kept s name function t h = record { seen = h.seen; named = h.named; type = has-kept t Void h.type }

  pub string-kept : (pieces : List StringPiece) (t : TypeId) → IsStringType T pieces t → IsStringType U pieces t
  string-kept pieces t h = record { element = h.element; char = has-kept h.element (Integer 1 true) h.char; shape = has-kept t (_) h.shape }

  pub target-kept : (s : Scopes) (e : TypedExpr) (t : TypeId) → IsTarget T s e t → IsTarget U s e t
  target-kept s e t h = record { pointer = pointer-kept t e h.pointer; complete = complete_kept T U x s t h.complete }

  pub element-kept : (s : Scopes) (which : Side) (a b : TypedExpr) (t : TypeId) → IsElement T s which a b t → IsElement U s which a b t
  element-kept s which a b t h =
      record { pointer = pointer-kept t (_) h.pointer; complete = complete_kept T U x s t h.complete; kind = h.kind; integer = integer-kept h.kind (_) h.integer }

  pub member-kept : (s : Scopes) (whole : TypeId) (name : Identifier) (i : ℕ) (t : TypeId) → HasMember T s whole name i t → HasMember U s whole name i t
  member-kept s whole name i t h =
      let same = x.complete whole h.known in
      record {
        number = h.number;
        declared = ap (λ (d : Entry). number_of_shape d.shape) same ∙ h.declared;
        known = ap is_complete same ∙ h.known;
        named = h.named;
        type = h.type ∙ sym (ap (λ (d : Entry). slice_index_or d.members i whole) same);
      }

  pub member_at-kept : (s : Scopes) (e : TypedExpr) (name : Identifier) (i : ℕ) (t : TypeId) → IsMemberAt T s e name i t → IsMemberAt U s e name i t
  member_at-kept s e name i t h = record { whole = h.whole; pointer = pointer-kept h.whole e h.pointer; member = member-kept s h.whole name i t h.member }

  pub one_struct-kept : (p q : TypedPlace) → AreOneStruct T p q → AreOneStruct U p q
  one_struct-kept p q h =
      let some = not_void is_aggregate_shape (shape_at T (place_type p)) refl h.aggregate in
      record {
        aggregate = aggregate-kept (place_type p) h.aggregate;
        same = same_exact T U x basic (place_type p) (place_type q) (is_in T (place_type p) some) (same_in T (place_type p) (place_type q) h.same some) ∙ h.same;
      }

  pub decay-kept : (p : TypedPlace) (n : NodeId) (t : TypeId) → IsDecay T p n t → IsDecay U p n t
  decay-kept p n t h = record {
    element = h.element;
    count = h.count;
    array = has-kept (place_type p) (Array h.element h.count) h.array;
    type = has-kept t (Pointer n h.element) h.type;
  }

  pub address-kept : (p : TypedPlace) (n : NodeId) (t : TypeId) → IsAddress T p n t → IsAddress U p n t
  address-kept p n t h = record { lvalue = h.lvalue; own = h.own; type = has-kept t (Pointer n (place_type p)) h.type }

  pub function_at-kept : (e : TypedExpr) → IsFunctionAt T e → IsFunctionAt U e
  function_at-kept e h = record {
    parameters = h.parameters;
    result = h.result;
    function = h.function;
    pointer = pointer-kept h.function e h.pointer;
    shape = has-kept h.function (Function h.parameters h.result) h.shape;
  }

  promoted-kept : (at : Place) (e : TypedExpr) (t : TypeId) → IsPromoted T at e t → IsPromoted U at e t
  promoted-kept at e t h = record {
    kind = h.kind;
    integer = integer_kept T U x (type_of (bare e)) h.kind h.integer;
    operand = operand-kept at (_) e h.operand;
    type = has-kept t (_) h.type;
  }

  pub prefix-kept : (operator : Unary) (at : Place) (e : TypedExpr) (t : TypeId) → IsPrefix operator T at e t → IsPrefix operator U at e t
  prefix-kept unary.Not at e t h = (condition-kept e h.0, has-kept t (Integer 4 true) h.1)
  prefix-kept unary.Plus at e t h = promoted-kept at e t h
  prefix-kept unary.Minus at e t h = promoted-kept at e t h
  prefix-kept unary.Complement at e t h = promoted-kept at e t h
  prefix-kept unary.SizeOf at e t h = h
  prefix-kept unary.AddressOf at e t h = h
  prefix-kept unary.Dereference at e t h = h
  prefix-kept unary.Increment at e t h = h
  prefix-kept unary.Decrement at e t h = h

  pub size-kept : (s : Scopes) (of : TypeId) (size : ℕ) (t : TypeId) → IsSize T s of size t → IsSize U s of size t
  size-kept s of size t h = record {
    complete = complete_kept T U x s of h.complete;
    known = ap is_complete (x.complete of h.known) ∙ h.known;
    given = h.given ∙ sym (ap (λ (l : Layout). l.size) (x.layouts of h.known));
    type = has-kept t (Integer 8 false) h.type;
  }

  step_by : (s : Scopes) (y z : TypeShape) → (is_void_shape y ≡ false → z ≡ y) → is_steppable_shape T s y ≡ true → is_steppable_shape U s z ≡ true
  step_by s (Integer bytes signed) z same h = ap (is_steppable_shape U s) (same refl)
  step_by s (Pointer n t) z same h = ap (is_steppable_shape U s) (same refl) ∙ complete_kept T U x s t h
  step_by s y z same h = no_true h

  pub step-kept : (s : Scopes) (p : TypedPlace) → IsStep T s p → IsStep U s p
  step-kept s p h = record {
    steps = step_by s (shape_at T (place_type p)) (shape_at U (place_type p)) (λ v. x.shapes (place_type p) (is_in T (place_type p) v)) h.steps;
    lvalue = h.lvalue;
  }

  pub arithmetic-kept : (operator : Binary) (a : TypedExpr) (at : Place) (b : TypedExpr) (t : TypeId) → Somewhere T a → Somewhere T b
      → IsArithmetic T operator a at b t → IsArithmetic U operator a at b t
  arithmetic-kept operator a at b t ta tb h =
      let here_a = operand-in T at (_) a h.first_converted in
      let here_b = operand-in T at (_) b h.second_converted in
      let p : integer_at U (type_of a) ≡ integer_at T (type_of a) = ap (λ (y : TypeShape). integer_of_shape y) (x.shapes (type_of a) here_a) in
      let q = constant-kept T U x basic a ta.0 ta.1 ta.2 (own-in T a here_a) in
      let r = constant-kept T U x basic b tb.0 tb.1 tb.2 (own-in T b here_b) in
      record {
        left = h.left;
        right = h.right;
        first = integer_kept T U x (type_of (bare a)) h.left h.first;
        second = integer_kept T U x (type_of (bare b)) h.right h.second;
        allowed = h.allowed;
        first_converted = operand-kept at (_) a h.first_converted;
        second_converted = operand-kept at (_) b h.second_converted;
        type = has-kept t (_) h.type;
        divides = rw (p, q, r) h.divides;
      }

  pub moved-kept : (s : Scopes) (operator : Binary) (which : Side) (a b : TypedExpr) (t : TypeId) → IsMoved T s operator which a b t → IsMoved U s operator which a b t
  moved-kept s operator which a b t h = record {
    to = h.to;
    kind = h.kind;
    allowed = h.allowed;
    pointer = pointer-kept h.to (_) h.pointer;
    integer = integer-kept h.kind (_) h.integer;
    complete = complete_kept T U x s h.to h.complete;
    type = h.type;
  }

  same_pointees : (t u : TypeId) (a b : TypedExpr) → IsPointer T t a → IsPointer T u b → is_same_type T t u ≡ true → is_same_type U t u ≡ true
  same_pointees t u a b p q h = same_exact T U x basic t u (pointee_in t a p) (pointee_in u b q) ∙ h

  pub difference-kept : (s : Scopes) (a b : TypedExpr) (t : TypeId) → IsDifference T s a b t → IsDifference U s a b t
  difference-kept s a b t h = record {
    left = h.left;
    right = h.right;
    first = pointer-kept h.left a h.first;
    second = pointer-kept h.right b h.second;
    same = same_pointees h.left h.right a b h.first h.second h.same;
    complete = complete_kept T U x s h.left h.complete;
    type = has-kept t (Integer 8 true) h.type;
  }

  ordered-kept : (a b : TypedExpr) → AreOrdered T a b → AreOrdered U a b
  ordered-kept a b h = record {
    left = h.left;
    right = h.right;
    first = pointer-kept h.left a h.first;
    second = pointer-kept h.right b h.second;
    same = same_pointees h.left h.right a b h.first h.second h.same;
    no_function = data_exact T U x basic h.left (pointee_in h.left a h.first) ∙ h.no_function;
  }

  bare_meeting : (a b : TypedExpr) → Somewhere T a → Somewhere T b → IsPlain (bare a) → IsPlain (bare b) → Meets (meeting T (bare a) (bare b))
      → meeting U (bare a) (bare b) ≡ meeting T (bare a) (bare b)
  bare_meeting a b ta tb pa pb h =
      meeting-kept T U x basic (bare a) (bare b) ta.0 ta.1 tb.0 tb.1 (bare-typed T a ta.0 ta.1 ta.2) (bare-typed T b tb.0 tb.1 tb.2)
      (own-plain T (bare a) pa) (own-plain T (bare b) pb) h

  compared_by : (operator : Binary) (a : TypedExpr) (at : Place) (b : TypedExpr) → Somewhere T a → Somewhere T b → IsPlain (bare a) → IsPlain (bare b)
      → AreCompared T operator a at b → AreCompared U operator a at b
  compared_by operator a at b ta tb pa pb (inl h) = inl (h.0, ordered-kept a b h.1)
  compared_by operator a at b ta tb pa pb (inr h) =
      inr (
        h.0,
        subst (λ (m : Meeting). AreEquated m at a b)
            (sym (bare_meeting a b ta tb pa pb (equated_meets (meeting T (bare a) (bare b)) at a b h.1))) h.1,
      )

  pub compared-kept : (operator : Binary) (a : TypedExpr) (at : Place) (b : TypedExpr) (t : TypeId) → Somewhere T a → Somewhere T b
      → IsCompared T operator a at b t → IsCompared U operator a at b t
  compared-kept operator a at b t ta tb h =
      record { plain = h.plain; compared = compared_by operator a at b ta tb h.plain.0 h.plain.1 h.compared; type = has-kept t (Integer 4 true) h.type }

  pub logical-kept : (operator : Binary) (a b : TypedExpr) (t : TypeId) → IsLogical T operator a b t → IsLogical U operator a b t
  logical-kept operator a b t h =
      record { allowed = h.allowed; first = condition-kept a h.first; second = condition-kept b h.second; type = has-kept t (Integer 4 true) h.type }

  choice_by : (at : Place) (a b : TypedExpr) (t : TypeId) → (IsIntegerChoice T at a b t ⊎ IsVoidChoice T a b t) → (IsIntegerChoice U at a b t ⊎ IsVoidChoice U a b t)
  choice_by at a b t (inl h) = inl (record {
    left = h.left;
    right = h.right;
    first = integer_kept T U x (type_of (bare a)) h.left h.first;
    second = integer_kept T U x (type_of (bare b)) h.right h.second;
    first_converted = operand-kept at (_) a h.first_converted;
    second_converted = operand-kept at (_) b h.second_converted;
    type = has-kept t (_) h.type;
  })
  choice_by at a b t (inr h) = inr (record {
    first = (h.first.0, has-kept (type_of a) Void h.first.1);
    second = (h.second.0, has-kept (type_of b) Void h.second.1);
    type = has-kept t Void h.type;
  })

  pub choice-kept : (c : TypedExpr) (at : Place) (a b : TypedExpr) (t : TypeId) → IsChoice T c at a b t → IsChoice U c at a b t
  choice-kept c at a b t h = (condition-kept c h.0, choice_by at a b t h.1)

  into-kept : (at : Place) (t : TypeId) (e : TypedExpr) → Somewhere T e → IsPlain (bare e) → into_choice U at t (bare e) ≡ into_choice T at t (bare e)
  into-kept at t e te p =
      ap (λ (n : Bool). typed.Convert (side_conversion n) at t (bare e)) (null-kept T U x basic (bare e) te.0 te.1 (bare-typed T e te.0 te.1 te.2) (own-plain T (bare e) p))

  pub pointer_choice-kept : (c : TypedExpr) (at : Place) (a b : TypedExpr) (n : NodeId) (t : TypeId) → Somewhere T a → Somewhere T b
      → IsPointerChoice T c at a b n t → IsPointerChoice U c at a b n t
  pointer_choice-kept c at a b n t ta tb h = record {
    to = h.to;
    condition = condition-kept c h.condition;
    plain = h.plain;
    meets = ap meeting_type (bare_meeting a b ta tb h.plain.0 h.plain.1 (type_meets (meeting T (bare a) (bare b)) h.to h.meets)) ∙ h.meets;
    type = has-kept t (Pointer n h.to) h.type;
    first = h.first ∙ sym (into-kept at t a ta h.plain.0);
    second = h.second ∙ sym (into-kept at t b tb h.plain.1);
  }

  pub assignment-kept : (s : Scopes) (p : TypedPlace) (at : Place) (e : TypedExpr) → Somewhere T e → IsAssignment T s p at e → IsAssignment U s p at e
  assignment-kept s p at e te h = record {
    scalar = scalar-kept (place_type p) h.scalar;
    assigned = assigned-kept T U x basic s at (place_type p) e te.0 te.1 te.2 (scalar_in T (place_type p) h.scalar) h.assigned;
    lvalue = h.lvalue;
  }

  pub struct_assignment-kept : (p q : TypedPlace) → IsStructAssignment T p q → IsStructAssignment U p q
  struct_assignment-kept p q h = record { types = one_struct-kept p q h.types; lvalue = h.lvalue }

  update_by : (s : Scopes) (operator : Binary) (p : TypedPlace) (at : Place) (e : TypedExpr) (t : TypeId)
      → (IsIntegerUpdate T operator p at e t ⊎ IsPointerUpdate T s operator p e t) → (IsIntegerUpdate U operator p at e t ⊎ IsPointerUpdate U s operator p e t)
  update_by s operator p at e t (inl h) = inl (record {
    left = h.left;
    right = h.right;
    first = integer_kept T U x (place_type p) h.left h.first;
    second = integer_kept T U x (type_of (bare e)) h.right h.second;
    converted = operand-kept at (_) e h.converted;
    type = has-kept t (_) h.type;
  })
  update_by s operator p at e t (inr h) = inr (record {
    to = h.to;
    kind = h.kind;
    allowed = h.allowed;
    pointer = to-kept h.to (place_type p) h.pointer;
    integer = integer-kept h.kind e h.integer;
    complete = complete_kept T U x s h.to h.complete;
    type = h.type;
  })

  pub update-kept : (s : Scopes) (operator : Assignment) (p : TypedPlace) (at : Place) (e : TypedExpr) (t : TypeId)
      → IsUpdate T s operator p at e t → IsUpdate U s operator p at e t
  update-kept s operator p at e t h = record { compound = h.compound; updated = update_by s (_) p at e t h.updated; lvalue = h.lvalue }

  scalar_cast_by : (b : Bool) (which : Conversion) (t : TypeId) (e : TypedExpr) → Somewhere T e → Own T e → IsScalarCast b T which t e → IsScalarCast b U which t e
  scalar_cast_by true which t e te o h = h
  scalar_cast_by false which t e te o h = (h.0, cast-kept T U x basic e te.0 te.1 t which te.2 o h.1)

  pub cast_rule-kept : (s : Scopes) (which : Conversion) (t : TypeId) (e : TypedExpr) → Somewhere T e → IsCast T s which t e → IsCast U s which t e
  cast_rule-kept s which t e te (inl h) = inl (has-kept t Void h.0, h.1, h.2)
  cast_rule-kept s which t e te (inr h) =
      inr (subst (λ (b : Bool). IsScalarCast b U which t e) (sym (takes_over-kept T U x basic s t e (cast-in T s which t e (inr h))))
      (scalar_cast_by (takes_over T s t e) which t e te (cast-own T s which t e (inr h)) h))

  argument-kept : (t : TypeId) (e : TypedExpr) → Somewhere T e → IsArgument T t e → IsArgument U t e
  argument-kept t e te h = converted-kept T U x basic (first_place e) t e te.0 te.1 te.2 h

  pub call-kept : (f : TypedExpr) (all : TypedArguments) (t : TypeId) (s s' : Scopes) → AreTyped T all s s' → IsCall T f all t → IsCall U f all t
  call-kept f all t s s' h c = record {
    parameters = c.parameters;
    function = c.function;
    pointer = pointer-kept c.function f c.pointer;
    shape = has-kept c.function (Function c.parameters t) c.shape;
    each = zip_kept (Somewhere T) (IsArgument T) (IsArgument U) argument-kept c.parameters (listed_arguments all) (each_typed T all s s' h) c.each;
  }

  freed_by : (e : TypedExpr) → Somewhere T e → IsPlain e → (((t : TypeId) × IsPointerTo T t (type_of e) × IsTrue (is_data T t)) ⊎ IsTrue (is_null_constant T e))
      → (((t : TypeId) × IsPointerTo U t (type_of e) × IsTrue (is_data U t)) ⊎ IsTrue (is_null_constant U e))
  freed_by e te p (inl h) = inl (h.0, to-kept h.0 (type_of e) h.1, data_exact T U x basic h.0 (to_in h.0 (type_of e) h.1) ∙ h.2)
  freed_by e te p (inr h) = inr (null-kept T U x basic e te.0 te.1 te.2 (own-plain T e p) ∙ h)

  runtime_argument-kept : (r : RuntimeType) (e : TypedExpr) → Somewhere T e → IsRuntimeArgument T r e → IsRuntimeArgument U r e
  runtime_argument-kept prototype.Void e te h = h
  runtime_argument-kept prototype.Int e te h = (h.0, has-kept h.0 (Integer 4 true) h.1, argument-kept h.0 e te h.2)
  runtime_argument-kept prototype.UnsignedLong e te h = (h.0, has-kept h.0 (Integer 8 false) h.1, argument-kept h.0 e te h.2)
  runtime_argument-kept prototype.VoidPointer e te h = record { plain = h.plain; type = freed_by e te h.plain h.type }

  runtime_result-kept : (r : RuntimeType) (t : TypeId) → IsRuntimeResult T r t → IsRuntimeResult U r t
  runtime_result-kept prototype.Void t h = has-kept t Void h
  runtime_result-kept prototype.Int t h = has-kept t (Integer 4 true) h
  runtime_result-kept prototype.UnsignedLong t h = h
  runtime_result-kept prototype.VoidPointer t h = h

  call_of-kept : (function : Runtime) (f : TypedExpr) (all : TypedArguments) (s s' : Scopes) → AreTyped T all s s' → IsRuntimeCallOf T function f all
      → IsRuntimeCallOf U function f all
  call_of-kept function f all s s' h c = record {
    named = c.named;
    each = zip_kept (Somewhere T) (IsRuntimeArgument T) (IsRuntimeArgument U) runtime_argument-kept (prototype_of function).parameters (listed_arguments all)
        (each_typed T all s s' h) c.each;
  }

  pub runtime_call-kept : (function : Runtime) (f : TypedExpr) (all : TypedArguments) (t : TypeId) (s s' : Scopes) → AreTyped T all s s'
      → IsRuntimeCall T function f all t → IsRuntimeCall U function f all t
  runtime_call-kept function f all t s s' h c =
      record { call = call_of-kept function f all s s' h c.call; result = runtime_result-kept (prototype_of function).result t c.result }

  pub allocation-kept : (function : Runtime) (f : TypedExpr) (all : TypedArguments) (n : NodeId) (t : TypeId) (s s' : Scopes) → AreTyped T all s s'
      → IsAllocation T function f all n t → IsAllocation U function f all n t
  allocation-kept function f all n t s s' h c = record {
    void = c.void;
    call = call_of-kept function f all s s' h c.call;
    gives = c.gives;
    nothing = has-kept c.void Void c.nothing;
    type = has-kept t (Pointer n c.void) c.type;
  }

  pub allocation_for-kept : (function : Runtime) (f : TypedExpr) (all : TypedArguments) (s s' : Scopes) → AreTyped T all s s'
      → IsAllocationFor T function f all → IsAllocationFor U function f all
  allocation_for-kept function f all s s' h c = record { call = call_of-kept function f all s s' h c.call; gives = c.gives }
