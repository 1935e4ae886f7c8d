-- A well typed operation on two operands breaks no rule of its operator.
use Rattle.std.proofs.Common.{◌≡◌, ℤ, Bool, true, false, not, ◌&&◌, ◌||◌, List, [], ◌∷◌, Option, Some, None, refl, ap, sym, ◌∙◌, inl, inr, if◌then◌else◌}
use Rattle.cc_base.specs.declared.place.Place.{Place}
use Rattle.cc_base.specs.declared.number.NodeId.{NodeId}
use Rattle.cc_base.specs.declared.number.TypeId.{TypeId}
use Rattle.cc_base.specs.declared.fault.Rule.TheVariants as rule
use Rattle.c_types.specs.declared.shape.TypeShape.{TypeShape}
use Rattle.c_types.specs.declared.shape.TypeShape.TheVariants.{Void, Integer, Pointer, Array, Function, Struct, Union}
use Rattle.c_types.specs.Sound.{IsIntegerSize}
use Rattle.c_types.specs.Table.{Table, shape_at}
use Rattle.c_types.specs.Sameness.{is_same_type}
use Rattle.c_tree.specs.Arithmetic.{operator_of}
use Rattle.c_tree.specs.declared.operator.Binary.{Binary}
use Rattle.c_tree.specs.declared.operator.Binary.TheVariants as binary
use Rattle.c_tree.specs.declared.typed_word.Side.{Side}
use Rattle.c_tree.specs.declared.typed_word.Side.TheVariants as side
use Rattle.c_tree.specs.TypedTree.{TypedExpr}
use Rattle.c_tree.specs.TypedParts.{type_of}
use Rattle.integers.specs.Arithmetic.{IntegerType, divides, can_divide}
use Rattle.c_typing.specs.Constants.{constant_value, is_null_constant, divides_badly, cannot_divide}
use Rattle.c_typing.specs.Conversions.{bare, IsPlain, IsOperand, to_integer, are_data, points_to_void}
use Rattle.c_typing.specs.Integers.{is_logical, is_order, is_equality, left_type, right_type}
use Rattle.c_typing.specs.Judging.{integer_type}
use Rattle.c_typing.specs.Rules.{IsArithmetic, IsMoved, IsDifference, IsCompared, IsLogical, AreCompared, AreEquated, Meeting, RightIsNull, LeftIsNull, BothPoint, NeverMeet, meeting, meeting_of, is_move}
use Rattle.c_typing.specs.Scopes.{Scopes, is_complete_at}
use Rattle.c_typing.specs.Settled.{IsBasic, IsAlike}
use Rattle.c_typing.specs.Shapes.{integer_at, integer_of_shape, is_pointer_shape, is_scalar_shape, is_data, shape_of_integer}
use Rattle.c_typing.specs.Tests.{Elaborated, AsValue, Test, broken_at, first_broken, infix_tests, points_to_incomplete, is_moving, are_integers, point_alike, point_to_data, taken_as, divides_as, divides_part, constant_as}
use Rattle.c_typing_laws.proofs.ConstructLaws.{integer_size}
use Rattle.c_typing_laws.proofs.InfixAlike.{infix-alike}
use Rattle.c_typing_laws.proofs.InfixLaws.{left_size, right_size, to_integer-type, to_integer-value}
use Rattle.c_typing_unique.proofs.Reading.{plain-bare}
use Rattle.c_typing_unique.proofs.Shapes.{no_true}
use Rattle.c_typing_exact.specs.Passing.{Passes}
use Rattle.c_typing_exact.proofs.Unbroken.{passes_and, or_on, off, same-complete}

-- the rules, by what they read of the operands: their shapes, whether they are null constants, whether they divide badly
abbrev infix_on : Table → Scopes → Binary → Place → Place → TypeShape → TypeShape → Bool → Bool → Bool → List Test
infix_on T s operator at begin x y m n badly =
    broken_at rule.Incomplete at (is_moving T operator x y && (points_to_incomplete T s x || points_to_incomplete T s y))
    ∷ broken_at rule.Mismatch at (not (if is_logical operator then is_scalar_shape x && is_scalar_shape y
    else (are_integers x y || (is_moving T operator x y
    || ((is_order operator && (point_alike T x y && point_to_data T x))
    || (is_equality operator && ((n && is_pointer_shape x) || ((m && is_pointer_shape y) || taken_as T x y))))))))
    ∷ broken_at rule.NotConstant begin badly
    ∷ []

by-shapes : (T : Table) (s : Scopes) (operator : Binary) (at begin : Place) (a b : TypedExpr) (x y : TypeShape)
    → shape_at T (type_of a) ≡ x → shape_at T (type_of b) ≡ y → divides_part T operator (AsValue a) (AsValue b) ≡ false
    → Passes (infix_on T s operator at begin x y (is_null_constant T a) (is_null_constant T b) false)
    → Passes (infix_tests T s operator at begin (AsValue a) (AsValue b))
by-shapes T s operator at begin a b x y p q d h =
    ap first_broken (λ i. infix_on T s operator at begin (p i) (q i) (is_null_constant T a) (is_null_constant T b) (d i)) ∙ h

-- operators that do not divide
no-division : (operator : Binary) (j k : Option IntegerType) (x y : Option ℤ) → divides (operator_of operator) ≡ false → divides_as operator j k x y ≡ false
no-division operator (Some j) (Some k) (Some x) (Some y) h =
    ap (λ (b : Bool). b && not (can_divide (left_type operator j k) (constant_as j (left_type operator j k) x) (constant_as k (right_type operator j k) y))) h
no-division operator (Some j) (Some k) (Some x) None h = refl
no-division operator (Some j) (Some k) None y h = refl
no-division operator (Some j) None x y h = refl
no-division operator None k x y h = refl

undivided : (T : Table) (operator : Binary) (a b : TypedExpr) → divides (operator_of operator) ≡ false → divides_part T operator (AsValue a) (AsValue b) ≡ false
undivided T operator a b h = no-division operator (integer_at T (type_of a)) (integer_at T (type_of b)) (constant_value T a) (constant_value T b) h

-- Two integers

arithmetic_on : (T : Table) (s : Scopes) (operator : Binary) (at begin : Place) (j k : IntegerType) (m n : Bool) → is_logical operator ≡ false
    → Passes (infix_on T s operator at begin (shape_of_integer j) (shape_of_integer k) m n false)
arithmetic_on T s binary.Add at begin j k m n h = refl
arithmetic_on T s binary.Subtract at begin j k m n h = refl
arithmetic_on T s binary.LogicalAnd at begin j k m n h = no_true (sym h)
arithmetic_on T s binary.LogicalOr at begin j k m n h = no_true (sym h)
arithmetic_on T s operator at begin j k m n h = refl

pub integer_shape : (x : TypeShape) (k : IntegerType) → integer_of_shape x ≡ Some k → x ≡ shape_of_integer k
integer_shape (Integer b r) k h = (let e : Some (record { bytes = b; signed = r }) ≡ Some k = h in let same = some_same (record { bytes = b; signed = r }) k e in (λ i. shape_of_integer (same i)))
  where
    some_same : (j k : IntegerType) → Some j ≡ Some k → j ≡ k
    some_same j k h = cc
integer_shape Void k h = cc
integer_shape (Pointer n t) k h = cc
integer_shape (Array t n) k h = cc
integer_shape (Function ps r) k h = cc
integer_shape (Struct n) k h = cc
integer_shape (Union n) k h = cc

-- an operand has the integer type with the number that every table gives it
operand_made : (T : Table) (at : Place) (k : IntegerType) (e : TypedExpr) → IsBasic T → IsIntegerSize k.bytes → IsOperand T at k e → e ≡ to_integer at (integer_type k) (bare e)
operand_made T at k e basic size h =
    let there = basic.integers k size in
    let type : h.type ≡ integer_type k = basic.formed.distinct h.type (integer_type k) h.shape.0 (there.0, there.1 ∙ sym h.shape.1) in
    h.made ∙ ap (λ (t : TypeId). to_integer at t (bare e)) type

module _ (T : Table) (at : Place) (operator : Binary) (a b : TypedExpr) (basic : IsBasic T) (j k : IntegerType)
    (ja : integer_at T (type_of (bare a)) ≡ Some j) (kb : integer_at T (type_of (bare b)) ≡ Some k)
    (first : IsOperand T at (left_type operator j k) a) (second : IsOperand T at (right_type operator j k) b) where
  kind_size : (t : TypeId) (i : IntegerType) → integer_at T t ≡ Some i → IsIntegerSize i.bytes
  kind_size t i h = integer_size T t i.bytes i.signed basic.formed (integer_shape (shape_at T t) i h)

  left : IsIntegerSize (left_type operator j k).bytes
  left = left_size operator j k (kind_size (type_of (bare a)) j ja) (kind_size (type_of (bare b)) k kb)

  right : IsIntegerSize (right_type operator j k).bytes
  right = right_size operator j k (kind_size (type_of (bare a)) j ja) (kind_size (type_of (bare b)) k kb)

  made-first : a ≡ to_integer at (integer_type (left_type operator j k)) (bare a)
  made-first = operand_made T at (left_type operator j k) a basic left first

  made-second : b ≡ to_integer at (integer_type (right_type operator j k)) (bare b)
  made-second = operand_made T at (right_type operator j k) b basic right second

  divided : (x y : Option ℤ) → constant_value T (bare a) ≡ x → constant_value T (bare b) ≡ y → divides_badly T operator a b ≡ false
      → divides_as operator (Some j) (Some k) x y ≡ false
  divided None y p q h = refl
  divided (Some x) None p q h = refl
  divided (Some x) (Some y) p q h =
      let kind : integer_at T (type_of a) ≡ Some (left_type operator j k) =
      ap (λ (e : TypedExpr). integer_at T (type_of e)) made-first ∙ to_integer-type T at (left_type operator j k) (bare a) basic left in
      let va : constant_value T a ≡ Some (constant_as j (left_type operator j k) x) =
      ap (constant_value T) made-first ∙ to_integer-value T at (left_type operator j k) (bare a) basic left j ja x p in
      let vb : constant_value T b ≡ Some (constant_as k (right_type operator j k) y) =
      ap (constant_value T) made-second ∙ to_integer-value T at (right_type operator j k) (bare b) basic right k kb y q in
      let same : divides_badly T operator a b
      ≡ cannot_divide (operator_of operator) (left_type operator j k) (constant_as j (left_type operator j k) x) (constant_as k (right_type operator j k) y) = rw (kind, va, vb) refl in
      sym same ∙ h

  division : divides_badly T operator a b ≡ false → divides_part T operator (AsValue (bare a)) (AsValue (bare b)) ≡ false
  division h =
      (λ i. divides_as operator (ja i) (kb i) (constant_value T (bare a)) (constant_value T (bare b)))
      ∙ divided (constant_value T (bare a)) (constant_value T (bare b)) refl refl h

pub arithmetic-passes : (T : Table) (s : Scopes) (operator : Binary) (at begin : Place) (a b : TypedExpr) (t : TypeId) → IsBasic T → IsArithmetic T operator a at b t
    → Passes (infix_tests T s operator at begin (AsValue (bare a)) (AsValue (bare b)))
arithmetic-passes T s operator at begin a b t basic h =
    by-shapes T s operator at begin (bare a) (bare b) (shape_of_integer h.left) (shape_of_integer h.right)
    (integer_shape (shape_at T (type_of (bare a))) h.left h.first) (integer_shape (shape_at T (type_of (bare b))) h.right h.second)
    (division T at operator a b basic h.left h.right h.first h.second h.first_converted h.second_converted h.divides)
    (arithmetic_on T s operator at begin h.left h.right (is_null_constant T (bare a)) (is_null_constant T (bare b)) h.allowed)

-- A pointer that moves

moved_left : (T : Table) (s : Scopes) (operator : Binary) (at begin : Place) (w : NodeId) (t : TypeId) (k : IntegerType) (m n : Bool) → is_move operator side.Left ≡ true
    → is_complete_at T s t ≡ true → Passes (infix_on T s operator at begin (Pointer w t) (shape_of_integer k) m n false)
moved_left T s binary.Add at begin w t k m n h c =
    passes_and rule.Incomplete at (not (is_complete_at T s t) || false) (broken_at rule.Mismatch at false ∷ broken_at rule.NotConstant begin false ∷ []) (ap (λ (b : Bool). not b || false) c) refl
moved_left T s binary.Subtract at begin w t k m n h c =
    passes_and rule.Incomplete at (not (is_complete_at T s t) || false) (broken_at rule.Mismatch at false ∷ broken_at rule.NotConstant begin false ∷ []) (ap (λ (b : Bool). not b || false) c) refl
moved_left T s operator at begin w t k m n h c = no_true h

moved_right : (T : Table) (s : Scopes) (operator : Binary) (at begin : Place) (w : NodeId) (t : TypeId) (k : IntegerType) (m n : Bool) → is_move operator side.Right ≡ true
    → is_complete_at T s t ≡ true → Passes (infix_on T s operator at begin (shape_of_integer k) (Pointer w t) m n false)
moved_right T s binary.Add at begin w t k m n h c =
    passes_and rule.Incomplete at (not (is_complete_at T s t)) (broken_at rule.Mismatch at false ∷ broken_at rule.NotConstant begin false ∷ []) (ap not c) refl
moved_right T s operator at begin w t k m n h c = no_true h

move_no_division : (operator : Binary) (which : Side) → is_move operator which ≡ true → divides (operator_of operator) ≡ false
move_no_division binary.Add which h = refl
move_no_division binary.Subtract which h = refl
move_no_division operator which h = no_true h

pub plain_shape : (T : Table) (a : TypedExpr) (x : TypeShape) → IsPlain a → shape_at T (type_of a) ≡ x → shape_at T (type_of (bare a)) ≡ x
plain_shape T a x p h = ap (λ (e : TypedExpr). shape_at T (type_of e)) (plain-bare a p) ∙ h

pub moved-passes : (T : Table) (s : Scopes) (operator : Binary) (which : Side) (at begin : Place) (a b : TypedExpr) (t : TypeId) → IsMoved T s operator which a b t
    → Passes (infix_tests T s operator at begin (AsValue (bare a)) (AsValue (bare b)))
moved-passes T s operator side.Left at begin a b t h =
    by-shapes T s operator at begin (bare a) (bare b) (Pointer h.pointer.type.0 h.to) (shape_of_integer h.kind)
    (plain_shape T a (Pointer h.pointer.type.0 h.to) h.pointer.plain h.pointer.type.1.1)
    (plain_shape T b (shape_of_integer h.kind) h.integer.plain (integer_shape (shape_at T (type_of b)) h.kind h.integer.type))
    (undivided T operator (bare a) (bare b) (move_no_division operator side.Left h.allowed))
    (moved_left T s operator at begin h.pointer.type.0 h.to h.kind (is_null_constant T (bare a)) (is_null_constant T (bare b)) h.allowed h.complete)
moved-passes T s operator side.Right at begin a b t h =
    by-shapes T s operator at begin (bare a) (bare b) (shape_of_integer h.kind) (Pointer h.pointer.type.0 h.to)
    (plain_shape T a (shape_of_integer h.kind) h.integer.plain (integer_shape (shape_at T (type_of a)) h.kind h.integer.type))
    (plain_shape T b (Pointer h.pointer.type.0 h.to) h.pointer.plain h.pointer.type.1.1)
    (undivided T operator (bare a) (bare b) (move_no_division operator side.Right h.allowed))
    (moved_right T s operator at begin h.pointer.type.0 h.to h.kind (is_null_constant T (bare a)) (is_null_constant T (bare b)) h.allowed h.complete)

-- Two pointers

difference_on : (T : Table) (s : Scopes) (at begin : Place) (v w : NodeId) (t u : TypeId) (m n : Bool) → is_same_type T t u ≡ true → is_complete_at T s t ≡ true
    → Passes (infix_on T s binary.Subtract at begin (Pointer v t) (Pointer w u) m n false)
difference_on T s at begin v w t u m n h c =
    passes_and rule.Incomplete at (is_same_type T t u && (not (is_complete_at T s t) || not (is_complete_at T s u)))
    (broken_at rule.Mismatch at (not (is_same_type T t u || false)) ∷ broken_at rule.NotConstant begin false ∷ [])
    (λ i. h i && (not (c i) || not (other i)))
    (passes_and rule.Mismatch at (not (is_same_type T t u || false)) (broken_at rule.NotConstant begin false ∷ []) (ap (λ (b : Bool). not (b || false)) h) refl)
  where
    other : is_complete_at T s u ≡ true
    other = sym (same-complete T s t u h) ∙ c

pub difference-passes : (T : Table) (s : Scopes) (at begin : Place) (a b : TypedExpr) (t : TypeId) → IsDifference T s a b t
    → Passes (infix_tests T s binary.Subtract at begin (AsValue (bare a)) (AsValue (bare b)))
difference-passes T s at begin a b t h =
    by-shapes T s binary.Subtract at begin (bare a) (bare b) (Pointer h.first.type.0 h.left) (Pointer h.second.type.0 h.right)
    (plain_shape T a (Pointer h.first.type.0 h.left) h.first.plain h.first.type.1.1)
    (plain_shape T b (Pointer h.second.type.0 h.right) h.second.plain h.second.type.1.1)
    (undivided T binary.Subtract (bare a) (bare b) refl)
    (difference_on T s at begin h.first.type.0 h.second.type.0 h.left h.right (is_null_constant T (bare a)) (is_null_constant T (bare b)) h.same h.complete)

-- Comparisons

order_on : (T : Table) (s : Scopes) (operator : Binary) (at begin : Place) (v w : NodeId) (t u : TypeId) (m n : Bool) → is_order operator ≡ true
    → is_same_type T t u ≡ true → is_data T t ≡ true → Passes (infix_on T s operator at begin (Pointer v t) (Pointer w u) m n false)
order_on T s operator at begin v w t u m n o h d = by operator o
  where
    rest : Passes (broken_at rule.Mismatch at (not ((is_same_type T t u && is_data T t) || false)) ∷ broken_at rule.NotConstant begin false ∷ [])
    rest = passes_and rule.Mismatch at (not ((is_same_type T t u && is_data T t) || false)) (broken_at rule.NotConstant begin false ∷ []) (λ i. not ((h i && d i) || false)) refl

    by : (operator : Binary) → is_order operator ≡ true → Passes (infix_on T s operator at begin (Pointer v t) (Pointer w u) m n false)
    by binary.Less q = rest
    by binary.Greater q = rest
    by binary.LessEqual q = rest
    by binary.GreaterEqual q = rest
    by operator q = no_true q

abbrev pub is_met : Meeting → Bool
is_met NeverMeet = false
is_met m = true

equated_met : (m : Meeting) (at : Place) (a b : TypedExpr) → AreEquated m at a b → is_met m ≡ true
equated_met (RightIsNull t) at a b h = refl
equated_met (LeftIsNull t) at a b h = refl
equated_met (BothPoint t) at a b h = refl
equated_met NeverMeet at a b h = absurd h

pointees_meet : (a b c d : Bool) (t u : TypeId) → is_met (if a then BothPoint t else (if b && c then BothPoint t else (if b && d then BothPoint u else NeverMeet))) ≡ true
    → (a || (b && (c || d))) ≡ true
pointees_meet true b c d t u h = refl
pointees_meet false true true d t u h = refl
pointees_meet false true false true t u h = refl
pointees_meet false true false false t u h = no_true h
pointees_meet false false c d t u h = no_true h

-- what meets at all is accepted
pub meets : (T : Table) (m n : Bool) (x y : TypeShape) → is_met (meeting_of T m n x y) ≡ true
    → ((n && is_pointer_shape x) || ((m && is_pointer_shape y) || taken_as T x y)) ≡ true
meets T m true (Pointer v t) y h = refl
meets T true false x (Pointer w u) h = refl
meets T false false (Pointer v t) (Pointer w u) h =
    pointees_meet (is_same_type T t u) (are_data T t u) (points_to_void T t) (points_to_void T u) t u h
meets T true true Void (Pointer w u) h = refl
meets T true true (Integer b r) (Pointer w u) h = refl
meets T true true (Array v c) (Pointer w u) h = refl
meets T true true (Function ps r) (Pointer w u) h = refl
meets T true true (Struct c) (Pointer w u) h = refl
meets T true true (Union c) (Pointer w u) h = refl
meets T m n x y h = no_true h

equality_on : (T : Table) (s : Scopes) (operator : Binary) (at begin : Place) (x y : TypeShape) (m n : Bool) → is_equality operator ≡ true
    → is_met (meeting_of T m n x y) ≡ true → Passes (infix_on T s operator at begin x y m n false)
equality_on T s operator at begin x y m n o h = by operator o
  where
    whole : Bool
    whole = are_integers x y || ((n && is_pointer_shape x) || ((m && is_pointer_shape y) || taken_as T x y))

    rest : Passes (broken_at rule.Mismatch at (not (are_integers x y || ((n && is_pointer_shape x) || ((m && is_pointer_shape y) || taken_as T x y)))) ∷ broken_at rule.NotConstant begin false ∷ [])
    rest =
        passes_and rule.Mismatch at (not (are_integers x y || ((n && is_pointer_shape x) || ((m && is_pointer_shape y) || taken_as T x y)))) (broken_at rule.NotConstant begin false ∷ [])
        (off (are_integers x y || ((n && is_pointer_shape x) || ((m && is_pointer_shape y) || taken_as T x y)))
        (or_on (are_integers x y) ((n && is_pointer_shape x) || ((m && is_pointer_shape y) || taken_as T x y)) (meets T m n x y h))) refl

    by : (operator : Binary) → is_equality operator ≡ true → Passes (infix_on T s operator at begin x y m n false)
    by binary.Equal q = rest
    by binary.NotEqual q = rest
    by operator q = no_true q

comparison_no_division : (operator : Binary) → (is_order operator || is_equality operator) ≡ true → divides (operator_of operator) ≡ false
comparison_no_division binary.Less h = refl
comparison_no_division binary.Greater h = refl
comparison_no_division binary.LessEqual h = refl
comparison_no_division binary.GreaterEqual h = refl
comparison_no_division binary.Equal h = refl
comparison_no_division binary.NotEqual h = refl
comparison_no_division operator h = no_true h

pub compared-passes : (T : Table) (s : Scopes) (operator : Binary) (at begin : Place) (a b : TypedExpr) (t : TypeId) → IsCompared T operator a at b t
    → Passes (infix_tests T s operator at begin (AsValue (bare a)) (AsValue (bare b)))
compared-passes T s operator at begin a b t h = by h.compared
  where
    by : AreCompared T operator a at b → Passes (infix_tests T s operator at begin (AsValue (bare a)) (AsValue (bare b)))
    by (inl k) =
        let o = k.1 in
        by-shapes T s operator at begin (bare a) (bare b) (Pointer o.first.type.0 o.left) (Pointer o.second.type.0 o.right)
        (plain_shape T a (Pointer o.first.type.0 o.left) o.first.plain o.first.type.1.1)
        (plain_shape T b (Pointer o.second.type.0 o.right) o.second.plain o.second.type.1.1)
        (undivided T operator (bare a) (bare b) (comparison_no_division operator (ap (λ (c : Bool). c || is_equality operator) k.0)))
        (order_on T s operator at begin o.first.type.0 o.second.type.0 o.left o.right (is_null_constant T (bare a)) (is_null_constant T (bare b)) k.0 o.same o.no_function)
    by (inr k) =
        by-shapes T s operator at begin (bare a) (bare b) (shape_at T (type_of (bare a))) (shape_at T (type_of (bare b))) refl refl
        (undivided T operator (bare a) (bare b) (comparison_no_division operator (or_on (is_order operator) (is_equality operator) k.0)))
        (equality_on T s operator at begin (shape_at T (type_of (bare a))) (shape_at T (type_of (bare b))) (is_null_constant T (bare a)) (is_null_constant T (bare b)) k.0
        (equated_met (meeting T (bare a) (bare b)) at a b k.1))

-- `&&` and `||`

logic_on : (T : Table) (s : Scopes) (operator : Binary) (at begin : Place) (x y : TypeShape) (m n : Bool) → is_logical operator ≡ true → is_scalar_shape x ≡ true
    → is_scalar_shape y ≡ true → Passes (infix_on T s operator at begin x y m n false)
logic_on T s operator at begin x y m n o h k = by operator o
  where
    rest : Passes (broken_at rule.Mismatch at (not (is_scalar_shape x && is_scalar_shape y)) ∷ broken_at rule.NotConstant begin false ∷ [])
    rest = passes_and rule.Mismatch at (not (is_scalar_shape x && is_scalar_shape y)) (broken_at rule.NotConstant begin false ∷ []) (λ i. not (h i && k i)) refl

    by : (operator : Binary) → is_logical operator ≡ true → Passes (infix_on T s operator at begin x y m n false)
    by binary.LogicalAnd q = rest
    by binary.LogicalOr q = rest
    by operator q = no_true q

logic_no_division : (operator : Binary) → is_logical operator ≡ true → divides (operator_of operator) ≡ false
logic_no_division binary.LogicalAnd h = refl
logic_no_division binary.LogicalOr h = refl
logic_no_division operator h = no_true h

pub plain_scalar : (T : Table) (a : TypedExpr) → IsPlain a → is_scalar_shape (shape_at T (type_of a)) ≡ true → is_scalar_shape (shape_at T (type_of (bare a))) ≡ true
plain_scalar T a p h = ap (λ (e : TypedExpr). is_scalar_shape (shape_at T (type_of e))) (plain-bare a p) ∙ h

pub logical-passes : (T : Table) (s : Scopes) (operator : Binary) (at begin : Place) (a b : TypedExpr) (t : TypeId) → IsLogical T operator a b t
    → Passes (infix_tests T s operator at begin (AsValue (bare a)) (AsValue (bare b)))
logical-passes T s operator at begin a b t h =
    by-shapes T s operator at begin (bare a) (bare b) (shape_at T (type_of (bare a))) (shape_at T (type_of (bare b))) refl refl
    (undivided T operator (bare a) (bare b) (logic_no_division operator h.allowed))
    (logic_on T s operator at begin (shape_at T (type_of (bare a))) (shape_at T (type_of (bare b))) (is_null_constant T (bare a)) (is_null_constant T (bare b)) h.allowed
    (plain_scalar T a h.first.plain h.first.scalar) (plain_scalar T b h.second.plain h.second.scalar))

-- so it is with operands whose values these are
pub infix-by : (T : Table) (s : Scopes) (operator : Binary) (at begin : Place) (a b : TypedExpr) (x y : Elaborated) → IsAlike T x a → IsAlike T y b
    → Passes (infix_tests T s operator at begin (AsValue a) (AsValue b)) → Passes (infix_tests T s operator at begin x y)
infix-by T s operator at begin a b x y p q h = ap first_broken (infix-alike T operator x y a b p q s at begin) ∙ h
