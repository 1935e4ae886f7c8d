-- Where no rule of an operator on two operands is broken, what is made of them is well typed.
use Rattle.std.proofs.Common.{◌≡◌, ℕ, nat_lt, eqb, ℤ, Bool, true, false, not, ◌&&◌, ◌||◌, Option, Some, None, refl, ap, sym, subst, ◌∙◌, inl, inr, ◌⊎◌, if◌then◌else◌}
use Rattle.std.proofs.lemmas.Bool.Decides.{Decides-eqb}
use Rattle.cc_base.specs.declared.place.Place.{Place}
use Rattle.cc_base.specs.declared.number.NodeId.{NodeId}
use Rattle.cc_base.specs.declared.number.TypeId.{TypeId}
use Rattle.cc_base.specs.declared.fault.Fault.TheVariants.{Refused}
use Rattle.cc_base.specs.declared.fault.Rule.TheVariants as rule
use Rattle.c_types.specs.declared.shape.TypeShape.{TypeShape}
use Rattle.c_types.specs.declared.shape.TypeShape.TheVariants.{Void, Integer, Pointer, Array, Function, Struct, Union}
use Rattle.c_types.specs.Table.{Table, HasShape, shape_at}
use Rattle.c_types.specs.Sound.{IsIntegerSize}
use Rattle.c_types.specs.Equality.{same_bool}
use Rattle.c_types.specs.Sameness.{is_same_type}
use Rattle.c_tree.specs.declared.operator.Binary.{Binary}
use Rattle.c_tree.specs.declared.operator.Binary.TheVariants as binary
use Rattle.c_tree.specs.declared.typed_word.Conversion.TheVariants as conversion
use Rattle.c_tree.specs.TypedTree as typed
use Rattle.c_tree.specs.TypedTree.{TypedExpr, TypedPlace}
use Rattle.c_tree.specs.TypedParts.{type_of}
use Rattle.integers.specs.Arithmetic.{IntegerType, int, long, converted}
use Rattle.c_typing.specs.Constants.{constant_value, is_null_constant, divides_badly}
use Rattle.c_typing.specs.Conversions.{bare, IsPlain, to_integer, are_data, points_to_void}
use Rattle.c_typing.specs.Integers.{promoted, wider, common, left_type, right_type, result_type, is_shift, is_logical, is_order, is_equality}
use Rattle.c_typing.specs.Judging.{integer_type}
use Rattle.c_typing.specs.Operations.{int_type, arithmetic, equated, compared, pointers, by_kinds, operation}
use Rattle.c_typing.specs.Rules.{AreEquated, Meeting, RightIsNull, LeftIsNull, BothPoint, NeverMeet, meeting_of, meeting, null_of, is_made_of_place}
use Rattle.c_typing.specs.Scopes.{Scopes, is_complete_at}
use Rattle.c_typing.specs.Settled.{IsBasic, IsSettled, is_converted}
use Rattle.c_typing.specs.Shapes.{integer_at, integer_of_shape, is_pointer_shape, is_integer_shape, is_scalar_shape, is_data}
use Rattle.c_typing.specs.Tests.{first_broken, AsValue, infix_tests, accepts, is_moving, is_index_pair, are_integers, point_alike, point_to_data, points_to_incomplete, meet, taken_as, divides_part, divides_as, constant_as, same_kind}
use Rattle.c_typing.specs.Typing.{IsTyped}
use Rattle.c_typing_laws.proofs.ExtensionLaws.{no_true, and_left, and_right}
use Rattle.c_typing_laws.proofs.ConstructLaws.{three_unbroken, not_false, or_left, either_false, has_shape, pointer_value, integer_value, to_integer-typed, to_integer-bare, integer_size, promoted_size, operand}

or_true : (a b : Bool) → (a || b) ≡ true → (a ≡ true) ⊎ ((a ≡ false) × (b ≡ true))
or_true true b h = inl refl
or_true false b h = inr (refl, h)

-- Integers

four_bytes : IsIntegerSize 4
four_bytes = inr (inr (inl refl))

eight_bytes : IsIntegerSize 8
eight_bytes = inr (inr (inr refl))

wider_size : (j k : IntegerType) → IsIntegerSize j.bytes → IsIntegerSize k.bytes → IsIntegerSize (wider j k).bytes
wider_size j k p q = by (nat_lt j.bytes k.bytes) (nat_lt k.bytes j.bytes)
  where
    by : (b c : Bool) → IsIntegerSize (if b then k else (if c then j else record { bytes = j.bytes; signed = j.signed && k.signed })).bytes
    by true c = q
    by false true = p
    by false false = p

common_size : (j k : IntegerType) → IsIntegerSize j.bytes → IsIntegerSize k.bytes → IsIntegerSize (common j k).bytes
common_size j k p q = wider_size (promoted j) (promoted k) (promoted_size j p) (promoted_size k q)

pub left_size : (operator : Binary) (j k : IntegerType) → IsIntegerSize j.bytes → IsIntegerSize k.bytes → IsIntegerSize (left_type operator j k).bytes
left_size operator j k p q = by (is_shift operator)
  where
    by : (b : Bool) → IsIntegerSize (if b then promoted j else common j k).bytes
    by true = promoted_size j p
    by false = common_size j k p q

pub right_size : (operator : Binary) (j k : IntegerType) → IsIntegerSize j.bytes → IsIntegerSize k.bytes → IsIntegerSize (right_type operator j k).bytes
right_size operator j k p q = by (is_shift operator)
  where
    by : (b : Bool) → IsIntegerSize (if b then promoted k else common j k).bytes
    by true = promoted_size k q
    by false = common_size j k p q

result_size : (operator : Binary) (j k : IntegerType) → IsIntegerSize j.bytes → IsIntegerSize k.bytes → IsIntegerSize (result_type operator j k).bytes
result_size binary.Less j k p q = four_bytes
result_size binary.Greater j k p q = four_bytes
result_size binary.LessEqual j k p q = four_bytes
result_size binary.GreaterEqual j k p q = four_bytes
result_size binary.Equal j k p q = four_bytes
result_size binary.NotEqual j k p q = four_bytes
result_size operator j k p q = left_size operator j k p q

-- Constants of converted operands

same_id : (t u : TypeId) → t.0 ≡ u.0 → t ≡ u
same_id t u h = ap (λ (n : ℕ). record { 0 = n }) h

some_kind : (j k : IntegerType) → Some j ≡ Some k → j ≡ k
some_kind j k h = cc

same_bool_true : (a b : Bool) → same_bool a b ≡ true → a ≡ b
same_bool_true true true h = refl
same_bool_true false false h = refl
same_bool_true true false h = no_true h
same_bool_true false true h = no_true h

same_bool_own : (a : Bool) → same_bool a a ≡ true
same_bool_own true = refl
same_bool_own false = refl

kinds_true : (j k : IntegerType) → same_kind j k ≡ true → j ≡ k
kinds_true j k h =
    let m = (Decides-eqb j.bytes k.bytes).0 (and_left (eqb j.bytes k.bytes) (same_bool j.signed k.signed) h) in
    let r = same_bool_true j.signed k.signed (and_right (eqb j.bytes k.bytes) (same_bool j.signed k.signed) h) in
    λ i. record { bytes = m i; signed = r i }

kinds_own : (k : IntegerType) → same_kind k k ≡ true
kinds_own k = ap (λ (b : Bool). b && same_bool k.signed k.signed) ((Decides-eqb k.bytes k.bytes).1 refl) ∙ same_bool_own k.signed

module _ (T : Table) (at : Place) (k : IntegerType) (e : TypedExpr) (basic : IsBasic T) (size : IsIntegerSize k.bytes) where
  here : integer_at T (integer_type k) ≡ Some k
  here = ap integer_of_shape (basic.integers k size).1

  type_by : (b : Bool) → eqb (type_of e).0 (integer_type k).0 ≡ b
      → integer_at T (type_of (if b then e else typed.Convert conversion.IntegerToInteger at (integer_type k) e)) ≡ Some k
  type_by true h = ap (integer_at T) (same_id (type_of e) (integer_type k) ((Decides-eqb (type_of e).0 (integer_type k).0).0 h)) ∙ here
  type_by false h = here

  -- it has the type that it is converted to
  pub to_integer-type : integer_at T (type_of (to_integer at (integer_type k) e)) ≡ Some k
  to_integer-type = type_by (eqb (type_of e).0 (integer_type k).0) refl

  module _ (j : IntegerType) (own : integer_at T (type_of e) ≡ Some j) where
    -- another kind where the type is another
    other_kind : eqb (type_of e).0 (integer_type k).0 ≡ false → (b : Bool) → same_kind j k ≡ b → b ≡ false
    other_kind h false s = refl
    other_kind h true s =
        let there : shape_at T (type_of e) ≡ Integer j.bytes j.signed = shape_of (shape_at T (type_of e)) own in
        let same : j ≡ k = kinds_true j k s in
        let has : HasShape T (integer_type k) (shape_at T (type_of e)) =
        ((basic.integers k size).0, (basic.integers k size).1 ∙ sym (ap (λ (q : IntegerType). Integer q.bytes q.signed) same) ∙ sym there) in
        let equal : type_of e ≡ integer_type k = basic.formed.distinct (type_of e) (integer_type k) (has_shape T (type_of e) (Integer j.bytes j.signed) there refl).0 has in
        no_true (sym h ∙ (Decides-eqb (type_of e).0 (integer_type k).0).1 (ap (λ (t : TypeId). t.0) equal))
      where
        shape_of : (x : TypeShape) → integer_of_shape x ≡ Some j → x ≡ Integer j.bytes j.signed
        shape_of (Integer m r) p = let q = some_kind (record { bytes = m; signed = r }) j p in λ i. Integer (q i).bytes (q i).signed
        shape_of Void p = cc
        shape_of (Pointer n t) p = cc
        shape_of (Array t n) p = cc
        shape_of (Function ps r) p = cc
        shape_of (Struct n) p = cc
        shape_of (Union n) p = cc

    value_by : (z : ℤ) → constant_value T e ≡ Some z → (b : Bool) → eqb (type_of e).0 (integer_type k).0 ≡ b
        → constant_value T (if b then e else typed.Convert conversion.IntegerToInteger at (integer_type k) e) ≡ Some (constant_as j k z)
    value_by z v true h =
        let same : j ≡ k = some_kind j k (sym own ∙ type_by true h) in
        v ∙ ap Some (sym (ap (λ (b : Bool). if b then z else converted k z) (subst (λ (q : IntegerType). same_kind q k ≡ true) (sym same) (kinds_own k))))
    value_by z v false h =
        rw (here, v) (ap Some (sym (ap (λ (b : Bool). if b then z else converted k z) (other_kind h (same_kind j k) refl))))

    pub to_integer-value : (z : ℤ) → constant_value T e ≡ Some z → constant_value T (to_integer at (integer_type k) e) ≡ Some (constant_as j k z)
    to_integer-value z v = value_by z v (eqb (type_of e).0 (integer_type k).0) refl

  none_by : constant_value T e ≡ None → (b : Bool) → constant_value T (if b then e else typed.Convert conversion.IntegerToInteger at (integer_type k) e) ≡ None
  none_by v true = v
  none_by v false = rw (here, v) refl

  pub to_integer-none : constant_value T e ≡ None → constant_value T (to_integer at (integer_type k) e) ≡ None
  to_integer-none v = none_by v (eqb (type_of e).0 (integer_type k).0)

divides_by : (T : Table) (at : Place) (operator : Binary) (a b : TypedExpr) (j k : IntegerType) → IsBasic T → IsIntegerSize j.bytes → IsIntegerSize k.bytes
    → integer_at T (type_of a) ≡ Some j → integer_at T (type_of b) ≡ Some k
    → (x y : Option ℤ) → constant_value T a ≡ x → constant_value T b ≡ y → divides_as operator (Some j) (Some k) x y ≡ false
    → divides_badly T operator (to_integer at (integer_type (left_type operator j k)) a) (to_integer at (integer_type (right_type operator j k)) b) ≡ false
divides_by T at operator a b j k basic p q ha hb (Some x) (Some y) va vb h =
    let l = left_size operator j k p q in
    let r = right_size operator j k p q in
    rw (
      to_integer-type T at (left_type operator j k) a basic l,
      to_integer-value T at (left_type operator j k) a basic l j ha x va,
      to_integer-value T at (right_type operator j k) b basic r k hb y vb,
    ) h
divides_by T at operator a b j k basic p q ha hb None y va vb h =
    let l = left_size operator j k p q in
    rw (to_integer-type T at (left_type operator j k) a basic l, to_integer-none T at (left_type operator j k) a basic l va) refl
divides_by T at operator a b j k basic p q ha hb (Some x) None va vb h =
    let l = left_size operator j k p q in
    let r = right_size operator j k p q in
    rw (
      to_integer-type T at (left_type operator j k) a basic l,
      to_integer-value T at (left_type operator j k) a basic l j ha x va,
      to_integer-none T at (right_type operator j k) b basic r vb,
    ) refl

-- Null constants are plain

converted_place : (e : TypedExpr) → is_made_of_place e ≡ false → is_converted e ≡ false
converted_place (typed.Convert which at t e) h = h
converted_place e h = refl

pub null_plain : (T : Table) (s0 s : Scopes) (e : TypedExpr) → is_converted e ≡ false → IsTyped T e s0 s → is_null_constant T e ≡ true → IsPlain e
null_plain T s0 s (typed.Paren at e) c t h = null_plain T s0 s e (converted_place e t.1) t.0 h
null_plain T s0 s (typed.Convert which at t e) c typed_e h = no_true (sym c)
null_plain T s0 s (typed.Unread p) c t h = no_true h
null_plain T s0 s (typed.RuntimeName name function t) c typed_e h = no_true h
null_plain T s0 s (typed.AllocateFor function f at arguments t) c typed_e h = no_true h
null_plain T s0 s e c t h = refl

-- Two values

module _ (T : Table) (s0 m s : Scopes) (operator : Binary) (at : Place) (a b : TypedExpr) (basic : IsBasic T) (ka : IsSettled T a) (kb : IsSettled T b)
    (ta : IsTyped T a s0 m) (tb : IsTyped T b m s) where
  logical_typed : is_logical operator ≡ true → (is_scalar_shape (shape_at T (type_of a)) && is_scalar_shape (shape_at T (type_of b))) ≡ true
      → IsTyped T (typed.Logical operator a at b int_type) s0 s
  logical_typed l h =
      let x = and_left (is_scalar_shape (shape_at T (type_of a))) (is_scalar_shape (shape_at T (type_of b))) h in
      let y = and_right (is_scalar_shape (shape_at T (type_of a))) (is_scalar_shape (shape_at T (type_of b))) h in (
        m,
        ta,
        tb,
        record {
          allowed = l;
          first = record { plain = ka.plain x; scalar = x };
          second = record { plain = kb.plain y; scalar = y };
          type = basic.integers int four_bytes;
        },
      )

  arithmetic_typed : (j k : IntegerType) → shape_at T (type_of a) ≡ Integer j.bytes j.signed → shape_at T (type_of b) ≡ Integer k.bytes k.signed
      → is_logical operator ≡ false → divides_as operator (Some j) (Some k) (constant_value T a) (constant_value T b) ≡ false
      → IsTyped T (arithmetic operator a at b j k) s0 s
  arithmetic_typed j k ha hb l d =
      let p = integer_size T (type_of a) j.bytes j.signed basic.formed ha in
      let q = integer_size T (type_of b) k.bytes k.signed basic.formed hb in
      let pa : IsPlain a = ka.plain (ap is_scalar_shape ha) in
      let pb : IsPlain b = kb.plain (ap is_scalar_shape hb) in (
        m,
        to_integer-typed T s0 m at (integer_type (left_type operator j k)) a pa ta,
        to_integer-typed T m s at (integer_type (right_type operator j k)) b pb tb,
        record {
          left = j;
          right = k;
          first = ap (λ (v : TypedExpr). integer_at T (type_of v)) (to_integer-bare at (integer_type (left_type operator j k)) a ka.bare) ∙ ap integer_of_shape ha;
          second = ap (λ (v : TypedExpr). integer_at T (type_of v)) (to_integer-bare at (integer_type (right_type operator j k)) b kb.bare) ∙ ap integer_of_shape hb;
          allowed = l;
          first_converted = operand T at (left_type operator j k) a basic (left_size operator j k p q) pa ka.bare;
          second_converted = operand T at (right_type operator j k) b basic (right_size operator j k p q) pb kb.bare;
          type = basic.integers (result_type operator j k) (result_size operator j k p q);
          divides = divides_by T at operator a b j k basic p q (ap integer_of_shape ha) (ap integer_of_shape hb) (constant_value T a) (constant_value T b) refl refl d;
        },
      )

  -- comparisons of pointers
  plain_a : IsPlain a → IsPlain (bare a)
  plain_a p = subst IsPlain (sym ka.bare) p

  plain_b : IsPlain b → IsPlain (bare b)
  plain_b p = subst IsPlain (sym kb.bare) p

  ordered_typed : (n : NodeId) (t : TypeId) (w : NodeId) (u : TypeId) → shape_at T (type_of a) ≡ Pointer n t → shape_at T (type_of b) ≡ Pointer w u
      → is_order operator ≡ true → is_same_type T t u ≡ true → is_data T t ≡ true → IsTyped T (typed.Compared operator a at b int_type) s0 s
  ordered_typed n t w u ha hb l same is_object = (
    m,
    ta,
    tb,
    record {
      plain = (plain_a (ka.plain (ap is_scalar_shape ha)), plain_b (kb.plain (ap is_scalar_shape hb)));
      compared = inl (
        l,
        record {
          left = t;
          right = u;
          first = pointer_value T a n t ha ka;
          second = pointer_value T b w u hb kb;
          same = same;
          no_function = is_object;
        },
      );
      type = basic.integers int four_bytes;
    },
  )

  abbrev is_met : Meeting → Bool
  is_met NeverMeet = false
  is_met other = true

  equated_typed : (z : Meeting) → meeting T a b ≡ z → is_met z ≡ true → is_equality operator ≡ true → IsPlain a → IsPlain b → IsTyped T (equated z operator a at b) s0 s
  equated_typed (RightIsNull t) e h l pa pb =
      let same : meeting T (bare a) b ≡ RightIsNull t = ap (λ (v : TypedExpr). meeting T v b) ka.bare ∙ e in (
        m,
        ta,
        (tb, pb),
        record {
          plain = (plain_a pa, pb);
          compared = inr (l, subst (λ (y : Meeting). AreEquated y at a (null_of at (type_of a) b)) (sym same) (pa, refl));
          type = basic.integers int four_bytes;
        },
      )
  equated_typed (LeftIsNull t) e h l pa pb =
      let same : meeting T a (bare b) ≡ LeftIsNull t = ap (λ (v : TypedExpr). meeting T a v) kb.bare ∙ e in (
        m,
        (ta, pa),
        tb,
        record {
          plain = (pa, plain_b pb);
          compared = inr (l, subst (λ (y : Meeting). AreEquated y at (null_of at (type_of b) a) b) (sym same) (refl, pb));
          type = basic.integers int four_bytes;
        },
      )
  equated_typed (BothPoint t) e h l pa pb =
      let same : meeting T (bare a) (bare b) ≡ BothPoint t = ap (λ (v : TypedExpr). meeting T v (bare b)) ka.bare ∙ ap (λ (v : TypedExpr). meeting T a v) kb.bare ∙ e in (
        m,
        ta,
        tb,
        record {
          plain = (plain_a pa, plain_b pb);
          compared = inr (l, subst (λ (y : Meeting). AreEquated y at a b) (sym same) (pa, pb));
          type = basic.integers int four_bytes;
        },
      )
  equated_typed NeverMeet e h l pa pb = no_true h

  -- which pointers and null constants meet
  met_pointee : (same objects mine yours : Bool) (t u : TypeId) → (same || (objects && (mine || yours))) ≡ true
      → is_met (if same then BothPoint t else (if objects && mine then BothPoint t else (if objects && yours then BothPoint u else NeverMeet))) ≡ true
  met_pointee true objects mine yours t u h = refl
  met_pointee false true true yours t u h = refl
  met_pointee false true false true t u h = refl
  met_pointee false true false false t u h = h
  met_pointee false false mine yours t u h = no_true h

  -- what `meet` says of two shapes, by which of the two are null constants
  abbrev takes : TypeShape → TypeShape → Bool
  takes = taken_as T

  abbrev meets : Bool → Bool → TypeShape → TypeShape → Bool
  meets one other x y = (other && is_pointer_shape x) || ((one && is_pointer_shape y) || takes x y)

  takes_none : (x y : TypeShape) → is_pointer_shape y ≡ false → takes x y ≡ false
  takes_none (Pointer n t) (Pointer w u) p = no_true (sym p)
  takes_none x y p = refl

  met_by : (one other : Bool) (x y : TypeShape) → meets one other x y ≡ true → is_met (meeting_of T one other x y) ≡ true
  met_by true true (Pointer n t) y h = refl
  met_by false true (Pointer n t) y h = refl
  met_by true true x (Pointer w u) h = refl
  met_by true false x (Pointer w u) h = refl
  met_by false false (Pointer n t) (Pointer w u) h =
      met_pointee (is_same_type T t u) (are_data T t u) (points_to_void T t) (points_to_void T u) t u h
  met_by true false x y h = no_true (sym (takes_none x y refl) ∙ h)
  met_by one other x y h = no_true h

  -- each side is a scalar or a null constant
  first_meets : (one other : Bool) (x y : TypeShape) → meets one other x y ≡ true → (is_scalar_shape x ≡ true) ⊎ (one ≡ true)
  first_meets true other x y h = inr refl
  first_meets false true (Pointer n t) y h = inl refl
  first_meets false false (Pointer n t) (Pointer w u) h = inl refl
  first_meets false other x y h = no_true h

  second_meets : (one other : Bool) (x y : TypeShape) → meets one other x y ≡ true → (is_scalar_shape y ≡ true) ⊎ (other ≡ true)
  second_meets one true x y h = inr refl
  second_meets true false x (Pointer w u) h = inl refl
  second_meets false false (Pointer n t) (Pointer w u) h = inl refl
  second_meets true false x y h = no_true (sym (takes_none x y refl) ∙ h)
  second_meets false false x y h = no_true h

  met_typed : is_equality operator ≡ true → meet T (AsValue a) (AsValue b) ≡ true → IsTyped T (equated (meeting T a b) operator a at b) s0 s
  met_typed l h =
      let x : TypeShape = shape_at T (type_of a) in
      let y : TypeShape = shape_at T (type_of b) in
      let one : Bool = is_null_constant T a in
      let other : Bool = is_null_constant T b in
      let pa : IsPlain a = elim (first_meets one other x y h) [ inl scalar ↦ ka.plain scalar | inr null ↦ null_plain T s0 m a ka.unconverted ta null ] in
      let pb : IsPlain b = elim (second_meets one other x y h) [ inl scalar ↦ kb.plain scalar | inr null ↦ null_plain T m s b kb.unconverted tb null ] in
      equated_typed (meeting T a b) refl (met_by one other x y h) l pa pb

  -- comparisons come to `compared`
  pointers_compared : (o : Binary) (p q : Bool) → (is_order o || is_equality o) ≡ true → pointers T o a at b p q ≡ compared T o a at b
  pointers_compared binary.Add p q h = no_true h
  pointers_compared binary.Subtract p q h = no_true h
  pointers_compared o p q h = refl

  no_order : (o : Binary) → is_equality o ≡ true → is_order o ≡ false
  no_order binary.Equal h = refl
  no_order binary.NotEqual h = refl
  no_order o h = no_true h

  ordered_pair : (x y : TypeShape) → shape_at T (type_of a) ≡ x → shape_at T (type_of b) ≡ y → (is_order operator && (point_alike T x y && point_to_data T x)) ≡ true
      → IsTyped T (compared T operator a at b) s0 s
  ordered_pair (Pointer n t) (Pointer w u) ha hb h =
      let l = and_left (is_order operator) (is_same_type T t u && is_data T t) h in
      let r = and_right (is_order operator) (is_same_type T t u && is_data T t) h in
      let e = ap (λ (c : Bool). if c then typed.Compared operator a at b int_type else equated (meeting T a b) operator a at b) l in
      subst (λ (v : TypedExpr). IsTyped T v s0 s) (sym e)
      (ordered_typed n t w u ha hb l (and_left (is_same_type T t u) (is_data T t) r) (and_right (is_same_type T t u) (is_data T t) r))
  ordered_pair x y ha hb h = no_true (sym (none (is_order operator)) ∙ h)
    where
      none : (c : Bool) → (c && false) ≡ false
      none true = refl
      none false = refl

  equal_pair : is_equality operator ≡ true → meet T (AsValue a) (AsValue b) ≡ true → IsTyped T (compared T operator a at b) s0 s
  equal_pair l h =
      let e = ap (λ (c : Bool). if c then typed.Compared operator a at b int_type else equated (meeting T a b) operator a at b) (no_order operator l) in
      subst (λ (v : TypedExpr). IsTyped T v s0 s) (sym e) (met_typed l h)

-- A pointer that is moved, and the difference of two

module _ (T : Table) (s0 m s : Scopes) (at : Place) (a b : TypedExpr) (basic : IsBasic T) (ka : IsSettled T a) (kb : IsSettled T b)
    (ta : IsTyped T a s0 m) (tb : IsTyped T b m s) where
  or_none : (c : Bool) → (c || false) ≡ false → c ≡ false
  or_none true h = h
  or_none false h = refl

  added_typed : (x y : TypeShape) → shape_at T (type_of a) ≡ x → shape_at T (type_of b) ≡ y
      → is_index_pair x y ≡ true → (points_to_incomplete T s x || points_to_incomplete T s y) ≡ false
      → IsTyped T (pointers T binary.Add a at b (is_pointer_shape x) (is_pointer_shape y)) s0 s
  added_typed (Pointer n t) (Integer w r) ha hb p whole = (
    m,
    ta,
    tb,
    record {
      to = t;
      kind = record { bytes = w; signed = r };
      allowed = refl;
      pointer = pointer_value T a n t ha ka;
      integer = integer_value T b w r hb kb;
      complete = not_false (is_complete_at T s t) (or_none (not (is_complete_at T s t)) whole);
      type = refl;
    },
  )
  added_typed (Integer w r) (Pointer n t) ha hb p whole = (
    m,
    ta,
    tb,
    record {
      to = t;
      kind = record { bytes = w; signed = r };
      allowed = refl;
      pointer = pointer_value T b n t hb kb;
      integer = integer_value T a w r ha ka;
      complete = not_false (is_complete_at T s t) whole;
      type = refl;
    },
  )
  added_typed x y ha hb p whole = no_true p

  subtracted_typed : (x y : TypeShape) → shape_at T (type_of a) ≡ x → shape_at T (type_of b) ≡ y
      → ((is_pointer_shape x && is_integer_shape y) || point_alike T x y) ≡ true → (points_to_incomplete T s x || points_to_incomplete T s y) ≡ false
      → IsTyped T (pointers T binary.Subtract a at b (is_pointer_shape x) (is_pointer_shape y)) s0 s
  subtracted_typed (Pointer n t) (Integer w r) ha hb p whole = (
    m,
    ta,
    tb,
    record {
      to = t;
      kind = record { bytes = w; signed = r };
      allowed = refl;
      pointer = pointer_value T a n t ha ka;
      integer = integer_value T b w r hb kb;
      complete = not_false (is_complete_at T s t) (or_none (not (is_complete_at T s t)) whole);
      type = refl;
    },
  )
  subtracted_typed (Pointer n t) (Pointer w u) ha hb p whole = (
    m,
    ta,
    tb,
    record {
      left = t;
      right = u;
      first = pointer_value T a n t ha ka;
      second = pointer_value T b w u hb kb;
      same = p;
      complete = not_false (is_complete_at T s t) (or_left (not (is_complete_at T s t)) (not (is_complete_at T s u)) whole);
      type = basic.integers long eight_bytes;
    },
  )
  subtracted_typed x y ha hb p whole = no_true p

or_second : (c d : Bool) → d ≡ true → (c || d) ≡ true
or_second true d h = refl
or_second false d h = h

module _ (T : Table) (s0 m s : Scopes) (operator : Binary) (at : Place) (a b : TypedExpr) (basic : IsBasic T) (ka : IsSettled T a) (kb : IsSettled T b)
    (ta : IsTyped T a s0 m) (tb : IsTyped T b m s) where
  moving_typed : (o : Binary) (x y : TypeShape) → shape_at T (type_of a) ≡ x → shape_at T (type_of b) ≡ y
      → is_moving T o x y ≡ true → (points_to_incomplete T s x || points_to_incomplete T s y) ≡ false
      → IsTyped T (pointers T o a at b (is_pointer_shape x) (is_pointer_shape y)) s0 s
  moving_typed binary.Add x y ha hb p whole = added_typed T s0 m s at a b basic ka kb ta tb x y ha hb p whole
  moving_typed binary.Subtract x y ha hb p whole = subtracted_typed T s0 m s at a b basic ka kb ta tb x y ha hb p whole
  moving_typed o x y ha hb p whole = no_true p

  compared_typed : (x y : TypeShape) → shape_at T (type_of a) ≡ x → shape_at T (type_of b) ≡ y
      → ((is_order operator && (point_alike T x y && point_to_data T x)) || (is_equality operator && meet T (AsValue a) (AsValue b))) ≡ true
      → IsTyped T (pointers T operator a at b (is_pointer_shape x) (is_pointer_shape y)) s0 s
  compared_typed x y ha hb h =
      elim (or_true (is_order operator && (point_alike T x y && point_to_data T x)) (is_equality operator && meet T (AsValue a) (AsValue b)) h) [
        | inl o ↦
            let l = and_left (is_order operator) (point_alike T x y && point_to_data T x) o in
            let e = pointers_compared T s0 m s operator at a b basic ka kb ta tb operator (is_pointer_shape x) (is_pointer_shape y) (ap (λ (c : Bool). c || is_equality operator) l) in
            subst (λ (v : TypedExpr). IsTyped T v s0 s) (sym e) (ordered_pair T s0 m s operator at a b basic ka kb ta tb x y ha hb o)
        | inr q ↦
            let l = and_left (is_equality operator) (meet T (AsValue a) (AsValue b)) q.1 in
            let e = pointers_compared T s0 m s operator at a b basic ka kb ta tb operator (is_pointer_shape x) (is_pointer_shape y) (or_second (is_order operator) (is_equality operator) l) in
            subst (λ (v : TypedExpr). IsTyped T v s0 s) (sym e)
            (equal_pair T s0 m s operator at a b basic ka kb ta tb l (and_right (is_equality operator) (meet T (AsValue a) (AsValue b)) q.1))
      ]

  integers_typed : (x y : TypeShape) → shape_at T (type_of a) ≡ x → shape_at T (type_of b) ≡ y → is_logical operator ≡ false → are_integers x y ≡ true
      → divides_as operator (integer_of_shape x) (integer_of_shape y) (constant_value T a) (constant_value T b) ≡ false
      → IsTyped T (by_kinds T operator a at b (integer_of_shape x) (integer_of_shape y) (is_pointer_shape x) (is_pointer_shape y)) s0 s
  integers_typed (Integer n r) (Integer w q) ha hb l p d =
      arithmetic_typed T s0 m s operator at a b basic ka kb ta tb (record { bytes = n; signed = r }) (record { bytes = w; signed = q }) ha hb l d
  integers_typed x y ha hb l p d = no_true p

  not_both : (x y : TypeShape) (p q : Bool) → are_integers x y ≡ false
      → by_kinds T operator a at b (integer_of_shape x) (integer_of_shape y) p q ≡ pointers T operator a at b p q
  not_both (Integer n r) (Integer w z) p q h = no_true (sym h)
  not_both x y p q h = refl

  pair_typed : (x y : TypeShape) → shape_at T (type_of a) ≡ x → shape_at T (type_of b) ≡ y → is_logical operator ≡ false
      → (is_moving T operator x y && (points_to_incomplete T s x || points_to_incomplete T s y)) ≡ false
      → (are_integers x y || (is_moving T operator x y
      || ((is_order operator && (point_alike T x y && point_to_data T x)) || (is_equality operator && meet T (AsValue a) (AsValue b))))) ≡ true
      → divides_as operator (integer_of_shape x) (integer_of_shape y) (constant_value T a) (constant_value T b) ≡ false
      → IsTyped T (by_kinds T operator a at b (integer_of_shape x) (integer_of_shape y) (is_pointer_shape x) (is_pointer_shape y)) s0 s
  pair_typed x y ha hb l whole h d =
      let others : Bool = (is_order operator && (point_alike T x y && point_to_data T x)) || (is_equality operator && meet T (AsValue a) (AsValue b)) in
      elim (or_true (are_integers x y) (is_moving T operator x y || others) h) [
        | inl both ↦ integers_typed x y ha hb l both d
        | inr rest ↦ subst (λ (v : TypedExpr). IsTyped T v s0 s) (sym (not_both x y (is_pointer_shape x) (is_pointer_shape y) rest.0))
            (elim (or_true (is_moving T operator x y) others rest.1) [
              | inl moving ↦ moving_typed operator x y ha hb moving
                  (either_false (is_moving T operator x y) (points_to_incomplete T s x || points_to_incomplete T s y) whole moving)
              | inr more ↦ compared_typed x y ha hb more.1
            ])
      ]

  logical_or_not : (c : Bool) → is_logical operator ≡ c
      → (is_moving T operator (shape_at T (type_of a)) (shape_at T (type_of b))
      && (points_to_incomplete T s (shape_at T (type_of a)) || points_to_incomplete T s (shape_at T (type_of b)))) ≡ false
      → (if c then is_scalar_shape (shape_at T (type_of a)) && is_scalar_shape (shape_at T (type_of b))
      else (are_integers (shape_at T (type_of a)) (shape_at T (type_of b)) || (is_moving T operator (shape_at T (type_of a)) (shape_at T (type_of b))
      || ((is_order operator && (point_alike T (shape_at T (type_of a)) (shape_at T (type_of b)) && point_to_data T (shape_at T (type_of a))))
      || (is_equality operator && meet T (AsValue a) (AsValue b)))))) ≡ true
      → divides_as operator (integer_at T (type_of a)) (integer_at T (type_of b)) (constant_value T a) (constant_value T b) ≡ false
      → IsTyped T (if c then typed.Logical operator a at b int_type
      else by_kinds T operator a at b (integer_at T (type_of a)) (integer_at T (type_of b)) (is_pointer_shape (shape_at T (type_of a))) (is_pointer_shape (shape_at T (type_of b)))) s0 s
  logical_or_not true l whole h d = logical_typed T s0 m s operator at a b basic ka kb ta tb l h
  logical_or_not false l whole h d = pair_typed (shape_at T (type_of a)) (shape_at T (type_of b)) refl refl l whole h d

  pub infix_typed : (begin : Place) → first_broken (infix_tests T s operator at begin (AsValue a) (AsValue b)) ≡ None → IsTyped T (operation T operator a at b) s0 s
  infix_typed begin h =
      let x : TypeShape = shape_at T (type_of a) in
      let y : TypeShape = shape_at T (type_of b) in
      let three = three_unbroken (is_moving T operator x y && (points_to_incomplete T s x || points_to_incomplete T s y))
      (not (accepts T operator (AsValue a) (AsValue b))) (divides_part T operator (AsValue a) (AsValue b))
      (Refused at rule.Incomplete) (Refused at rule.Mismatch) (Refused begin rule.NotConstant) h in
      logical_or_not (is_logical operator) refl three.0 (not_false (accepts T operator (AsValue a) (AsValue b)) three.1) three.2
