-- What an operator asks of its operands fixes the conversions that are made of them, and the type of the whole.
use Rattle.std.proofs.Common.{◌≡◌, Bool, true, false, ◌&&◌, ◌||◌, if◌then◌else◌, Some, refl, ap, sym, subst, ◌∙◌, inl, inr}
use Rattle.cc_base.specs.declared.place.Place.{Place}
use Rattle.cc_base.specs.declared.number.TypeId.{TypeId}
use Rattle.c_types.specs.declared.shape.TypeShape.{TypeShape}
use Rattle.c_types.specs.declared.shape.TypeShape.TheVariants.{Void, Integer, Pointer, Array, Function, Struct, Union}
use Rattle.c_types.specs.Table.{Table, shape_at}
use Rattle.integers.specs.Arithmetic.{IntegerType, int, long}
use Rattle.c_tree.specs.declared.operator.Binary.{Binary}
use Rattle.c_tree.specs.declared.operator.Binary.TheVariants as binary
use Rattle.c_tree.specs.declared.operator.Unary.{Unary}
use Rattle.c_tree.specs.declared.operator.Unary.TheVariants as unary
use Rattle.c_tree.specs.declared.typed_word.Side.{Side}
use Rattle.c_tree.specs.declared.typed_word.Side.TheVariants as side
use Rattle.c_tree.specs.TypedTree as typed
use Rattle.c_tree.specs.TypedTree.{TypedExpr, TypedPlace}
use Rattle.c_tree.specs.TypedParts.{type_of, pointer_side}
use Rattle.c_typing.specs.Constants.{is_null_constant}
use Rattle.c_typing.specs.Conversions.{bare, IsPlain, IsOperand, to_integer}
use Rattle.c_typing.specs.Integers.{promoted, is_logical, is_order, is_equality, left_type, right_type, result_type}
use Rattle.c_typing.specs.Rules.{IsPromoted, IsPrefix, IsArithmetic, IsMoved, IsDifference, IsCompared, IsLogical, AreEquated, AreCompared, Meeting, RightIsNull, LeftIsNull, BothPoint, NeverMeet, meeting, meeting_of, null_of, is_move}
use Rattle.c_typing.specs.Scopes.{Scopes}
use Rattle.c_typing.specs.Shapes.{integer_at, is_integer_shape, is_pointer_shape}
use Rattle.c_typing_unique.proofs.Reading.{Part, OfValue, ArePartsAlike, plain-bare, both-values}
use Rattle.c_typing_unique.proofs.Shapes.{IsDistinct, no_true, two-sorts, integer-no-pointer, is-integer, is-pointer, integer-same, integer-type-one}

pub plain-same : (e f : TypedExpr) → IsPlain e → IsPlain f → bare e ≡ bare f → e ≡ f
plain-same e f h k same = sym (plain-bare e h) ∙ same ∙ plain-bare f k

-- a plain value is plain without its conversion, since it has none
pub bare-plain : (e : TypedExpr) → IsPlain e → IsPlain (bare e)
bare-plain e h = subst IsPlain (sym (plain-bare e h)) h

-- an operand that is converted to an integer type
pub operand-one : (T : Table) → IsDistinct T → (at : Place) (j k : IntegerType) (e f : TypedExpr) → j ≡ k → bare e ≡ bare f → IsOperand T at j e → IsOperand T at k f → e ≡ f
operand-one T D at j k e f q same h g =
    let type = integer-type-one T D j k h.type g.type q h.shape g.shape in
    h.made ∙ (λ i. to_integer at (type i) (same i)) ∙ sym g.made

pub kind-same : (T : Table) (e f : TypedExpr) (j k : IntegerType) → e ≡ f → integer_at T (type_of e) ≡ Some j → integer_at T (type_of f) ≡ Some k → j ≡ k
kind-same T e f j k same h g = integer-same T (type_of e) (type_of f) j k (ap type_of same) h g

-- `+`, `-`, `~` and `!`

promoted-one : (T : Table) → IsDistinct T → (at : Place) (e f : TypedExpr) (t u : TypeId) → bare e ≡ bare f → IsPromoted T at e t → IsPromoted T at f u → (e ≡ f) × (t ≡ u)
promoted-one T D at e f t u same h k =
    let kind = ap promoted (kind-same T (bare e) (bare f) h.kind k.kind same h.integer k.integer) in
    (operand-one T D at (promoted h.kind) (promoted k.kind) e f kind same h.operand k.operand, integer-type-one T D (promoted h.kind) (promoted k.kind) t u kind h.type k.type)

pub prefix-one : (operator : Unary) (T : Table) → IsDistinct T → (at : Place) (e f : TypedExpr) (t u : TypeId) → bare e ≡ bare f
    → IsPrefix operator T at e t → IsPrefix operator T at f u → (e ≡ f) × (t ≡ u)
prefix-one unary.Not T D at e f t u same h k = (plain-same e f h.0.plain k.0.plain same, integer-type-one T D int int t u refl h.1 k.1)
prefix-one unary.Plus T D at e f t u same h k = promoted-one T D at e f t u same h k
prefix-one unary.Minus T D at e f t u same h k = promoted-one T D at e f t u same h k
prefix-one unary.Complement T D at e f t u same h k = promoted-one T D at e f t u same h k
prefix-one unary.AddressOf T D at e f t u same h k = absurd h
prefix-one unary.Dereference T D at e f t u same h k = absurd h
prefix-one unary.SizeOf T D at e f t u same h k = absurd h
prefix-one unary.Increment T D at e f t u same h k = absurd h
prefix-one unary.Decrement T D at e f t u same h k = absurd h

pub prefix-plain : (operator : Unary) (T : Table) (at : Place) (e : TypedExpr) (t : TypeId) → IsPrefix operator T at e t → IsPlain (bare e)
prefix-plain unary.Not T at e t h = bare-plain e h.0.plain
prefix-plain unary.Plus T at e t h = h.operand.plain
prefix-plain unary.Minus T at e t h = h.operand.plain
prefix-plain unary.Complement T at e t h = h.operand.plain
prefix-plain unary.AddressOf T at e t h = absurd h
prefix-plain unary.Dereference T at e t h = absurd h
prefix-plain unary.SizeOf T at e t h = absurd h
prefix-plain unary.Increment T at e t h = absurd h
prefix-plain unary.Decrement T at e t h = absurd h

-- Operators of two operands: which of the five sorts an operation is, is fixed by the operator and the shapes of its operands

pub data Sort : Type 0 where
  ByArithmetic : Sort
  ByMove : Sort
  ByDifference : Sort
  ByComparison : Sort
  ByLogic : Sort

abbrev pub sort_of : Binary → TypeShape → TypeShape → Sort
sort_of operator x y =
    if is_logical operator then ByLogic
    else (if is_integer_shape x && is_integer_shape y then ByArithmetic
    else (if is_order operator || is_equality operator then ByComparison
    else (if is_pointer_shape x && is_pointer_shape y then ByDifference else ByMove)))

-- y is an operation of this sort
abbrev pub IsInfix : Table → Scopes → Binary → TypedExpr → Place → TypedExpr → Part → Sort → Type 0
IsInfix T s operator a at b y ByArithmetic = (t : TypeId) × IsArithmetic T operator a at b t × (y ≡ OfValue (typed.Arithmetic operator a at b t))
IsInfix T s operator a at b y ByMove = (which : Side) × (t : TypeId) × IsMoved T s operator which a b t × (y ≡ OfValue (typed.Moved operator which a at b t))
IsInfix T s operator a at b y ByDifference = (t : TypeId) × IsDifference T s a b t × (y ≡ OfValue (typed.Difference a at b t))
IsInfix T s operator a at b y ByComparison = (t : TypeId) × IsCompared T operator a at b t × (y ≡ OfValue (typed.Compared operator a at b t))
IsInfix T s operator a at b y ByLogic = (t : TypeId) × IsLogical T operator a b t × (y ≡ OfValue (typed.Logical operator a at b t))

abbrev pub shape_of : Table → TypedExpr → TypeShape
shape_of T e = shape_at T (type_of e)

pub arithmetic-sort : (operator : Binary) (x y : TypeShape) → is_logical operator ≡ false → is_integer_shape x ≡ true → is_integer_shape y ≡ true → sort_of operator x y ≡ ByArithmetic
arithmetic-sort operator x y p q r = rw (p, q, r) refl

pub logic-sort : (operator : Binary) (x y : TypeShape) → is_logical operator ≡ true → sort_of operator x y ≡ ByLogic
logic-sort operator x y p = rw p refl

move_tests : (operator : Binary) (which : Side) → is_move operator which ≡ true → (is_logical operator ≡ false) × ((is_order operator || is_equality operator) ≡ false)
move_tests binary.Add which h = (refl, refl)
move_tests binary.Subtract which h = (refl, refl)
move_tests binary.Multiply which h = no_true h
move_tests binary.Divide which h = no_true h
move_tests binary.Remainder which h = no_true h
move_tests binary.ShiftLeft which h = no_true h
move_tests binary.ShiftRight which h = no_true h
move_tests binary.Less which h = no_true h
move_tests binary.Greater which h = no_true h
move_tests binary.LessEqual which h = no_true h
move_tests binary.GreaterEqual which h = no_true h
move_tests binary.Equal which h = no_true h
move_tests binary.NotEqual which h = no_true h
move_tests binary.BitAnd which h = no_true h
move_tests binary.BitXor which h = no_true h
move_tests binary.BitOr which h = no_true h
move_tests binary.LogicalAnd which h = no_true h
move_tests binary.LogicalOr which h = no_true h

-- of a pointer and an integer not both are integers, nor both pointers
pointer_first : (x y : TypeShape) → is_pointer_shape x ≡ true → is_integer_shape y ≡ true
    → ((is_integer_shape x && is_integer_shape y) ≡ false) × ((is_pointer_shape x && is_pointer_shape y) ≡ false)
pointer_first (Pointer n t) (Integer b s) p q = (refl, refl)
pointer_first (Pointer n t) Void p q = no_true q
pointer_first (Pointer n t) (Pointer m u) p q = no_true q
pointer_first (Pointer n t) (Array u m) p q = no_true q
pointer_first (Pointer n t) (Function ps r) p q = no_true q
pointer_first (Pointer n t) (Struct m) p q = no_true q
pointer_first (Pointer n t) (Union m) p q = no_true q
pointer_first Void y p q = no_true p
pointer_first (Integer b s) y p q = no_true p
pointer_first (Array u m) y p q = no_true p
pointer_first (Function ps r) y p q = no_true p
pointer_first (Struct m) y p q = no_true p
pointer_first (Union m) y p q = no_true p

pointer_second : (x y : TypeShape) → is_integer_shape x ≡ true → is_pointer_shape y ≡ true
    → ((is_integer_shape x && is_integer_shape y) ≡ false) × ((is_pointer_shape x && is_pointer_shape y) ≡ false)
pointer_second (Integer b s) (Pointer n t) p q = (refl, refl)
pointer_second (Integer b s) Void p q = no_true q
pointer_second (Integer b s) (Integer c r) p q = no_true q
pointer_second (Integer b s) (Array u m) p q = no_true q
pointer_second (Integer b s) (Function ps r) p q = no_true q
pointer_second (Integer b s) (Struct m) p q = no_true q
pointer_second (Integer b s) (Union m) p q = no_true q
pointer_second Void y p q = no_true p
pointer_second (Pointer n t) y p q = no_true p
pointer_second (Array u m) y p q = no_true p
pointer_second (Function ps r) y p q = no_true p
pointer_second (Struct m) y p q = no_true p
pointer_second (Union m) y p q = no_true p

pub move-sort : (T : Table) (s : Scopes) (operator : Binary) (which : Side) (e f : TypedExpr) (t : TypeId) → IsMoved T s operator which e f t
    → sort_of operator (shape_of T e) (shape_of T f) ≡ ByMove
move-sort T s operator side.Left e f t h =
    let tests = move_tests operator side.Left h.allowed in
    let apart = pointer_first (shape_of T e) (shape_of T f) (is-pointer T (type_of e) h.to h.pointer.type) (is-integer T (type_of f) h.kind h.integer.type) in
    rw (tests.0, apart.0, tests.1, apart.1) refl
move-sort T s operator side.Right e f t h =
    let tests = move_tests operator side.Right h.allowed in
    let apart = pointer_second (shape_of T e) (shape_of T f) (is-integer T (type_of e) h.kind h.integer.type) (is-pointer T (type_of f) h.to h.pointer.type) in
    rw (tests.0, apart.0, tests.1, apart.1) refl

both_pointers : (x y : TypeShape) → is_pointer_shape x ≡ true → is_pointer_shape y ≡ true → (is_integer_shape x && is_integer_shape y) ≡ false
both_pointers (Pointer n t) y p q = refl
both_pointers Void y p q = no_true p
both_pointers (Integer b s) y p q = no_true p
both_pointers (Array u m) y p q = no_true p
both_pointers (Function ps r) y p q = no_true p
both_pointers (Struct m) y p q = no_true p
both_pointers (Union m) y p q = no_true p

pub difference-sort : (T : Table) (s : Scopes) (e f : TypedExpr) (t : TypeId) → IsDifference T s e f t → sort_of binary.Subtract (shape_of T e) (shape_of T f) ≡ ByDifference
difference-sort T s e f t h =
    let first = is-pointer T (type_of e) h.left h.first.type in
    let second = is-pointer T (type_of f) h.right h.second.type in
    rw (both_pointers (shape_of T e) (shape_of T f) first second, first, second) refl

order_tests : (operator : Binary) → is_order operator ≡ true → (is_logical operator ≡ false) × ((is_order operator || is_equality operator) ≡ true)
order_tests binary.Less h = (refl, refl)
order_tests binary.Greater h = (refl, refl)
order_tests binary.LessEqual h = (refl, refl)
order_tests binary.GreaterEqual h = (refl, refl)
order_tests operator h = no_true h

equality_tests : (operator : Binary) → is_equality operator ≡ true → (is_logical operator ≡ false) × ((is_order operator || is_equality operator) ≡ true)
equality_tests binary.Equal h = (refl, refl)
equality_tests binary.NotEqual h = (refl, refl)
equality_tests operator h = no_true h

-- two integers never meet as pointers
never_meet : (T : Table) (m n : Bool) (x y : TypeShape) → (is_integer_shape x && is_integer_shape y) ≡ true → meeting_of T m n x y ≡ NeverMeet
never_meet T true true (Integer b s) (Integer c r) h = refl
never_meet T true false (Integer b s) (Integer c r) h = refl
never_meet T false true (Integer b s) (Integer c r) h = refl
never_meet T false false (Integer b s) (Integer c r) h = refl
never_meet T m n (Integer b s) Void h = no_true h
never_meet T m n (Integer b s) (Pointer c t) h = no_true h
never_meet T m n (Integer b s) (Array u c) h = no_true h
never_meet T m n (Integer b s) (Function ps r) h = no_true h
never_meet T m n (Integer b s) (Struct c) h = no_true h
never_meet T m n (Integer b s) (Union c) h = no_true h
never_meet T m n Void y h = no_true h
never_meet T m n (Pointer c t) y h = no_true h
never_meet T m n (Array u c) y h = no_true h
never_meet T m n (Function ps r) y h = no_true h
never_meet T m n (Struct c) y h = no_true h
never_meet T m n (Union c) y h = no_true h

pub comparison-sort : (T : Table) (operator : Binary) (e f : TypedExpr) (at : Place) (t : TypeId) → IsCompared T operator e at f t
    → sort_of operator (shape_of T (bare e)) (shape_of T (bare f)) ≡ ByComparison
comparison-sort T operator e f at t h = by h.compared
  where
    by : AreCompared T operator e at f → sort_of operator (shape_of T (bare e)) (shape_of T (bare f)) ≡ ByComparison
    by (inl k) =
        let tests = order_tests operator k.0 in
        let first = subst (λ (d : TypedExpr). is_pointer_shape (shape_of T d) ≡ true) (sym (plain-bare e k.1.first.plain)) (is-pointer T (type_of e) k.1.left k.1.first.type) in
        let second = subst (λ (d : TypedExpr). is_pointer_shape (shape_of T d) ≡ true) (sym (plain-bare f k.1.second.plain)) (is-pointer T (type_of f) k.1.right k.1.second.type) in
        rw (tests.0, both_pointers (shape_of T (bare e)) (shape_of T (bare f)) first second, tests.1) refl
    by (inr k) =
        let tests = equality_tests operator k.0 in
        rw (tests.0, no_integers (is_integer_shape (shape_of T (bare e)) && is_integer_shape (shape_of T (bare f))) refl, tests.1) refl
      where
        no_integers : (b : Bool) → (is_integer_shape (shape_of T (bare e)) && is_integer_shape (shape_of T (bare f))) ≡ b
            → (is_integer_shape (shape_of T (bare e)) && is_integer_shape (shape_of T (bare f))) ≡ false
        no_integers false p = p
        no_integers true p =
            absurd (subst (λ (m : Meeting). AreEquated m at e f)
            (never_meet T (is_null_constant T (bare e)) (is_null_constant T (bare f)) (shape_of T (bare e)) (shape_of T (bare f)) p) k.1)

-- Two operations of one sort on the same operands are one

arithmetic_one : (T : Table) → IsDistinct T → (operator : Binary) (at : Place) (e f g k : TypedExpr) (t u : TypeId) → bare e ≡ bare g → bare f ≡ bare k
    → IsArithmetic T operator e at f t → IsArithmetic T operator g at k u → (e ≡ g) × (f ≡ k) × (t ≡ u)
arithmetic_one T D operator at e f g k t u p q x y =
    let left = kind-same T (bare e) (bare g) x.left y.left p x.first y.first in
    let right = kind-same T (bare f) (bare k) x.right y.right q x.second y.second in (
      operand-one T D at (left_type operator x.left x.right) (left_type operator y.left y.right) e g (λ i. left_type operator (left i) (right i)) p x.first_converted y.first_converted,
      operand-one T D at (right_type operator x.left x.right) (right_type operator y.left y.right) f k (λ i. right_type operator (left i) (right i)) q x.second_converted y.second_converted,
      integer-type-one T D (result_type operator x.left x.right) (result_type operator y.left y.right) t u (λ i. result_type operator (left i) (right i)) x.type y.type,
    )

side_same : (T : Table) (s r : Scopes) (operator : Binary) (at : Place) (e f g k : TypedExpr) (which other : Side) (t u : TypeId) → e ≡ g → f ≡ k
    → IsMoved T s operator which e f t → IsMoved T r operator other g k u → which ≡ other
side_same T s r operator at e f g k side.Left side.Left t u p q x y = refl
side_same T s r operator at e f g k side.Right side.Right t u p q x y = refl
side_same T s r operator at e f g k side.Left side.Right t u p q x y =
    two-sorts is_integer_shape is_pointer_shape integer-no-pointer (shape_of T g) (shape_of T e) (ap (shape_of T) (sym p)) (is-integer T (type_of g) y.kind y.integer.type) (is-pointer T (type_of e) x.to x.pointer.type)
side_same T s r operator at e f g k side.Right side.Left t u p q x y =
    two-sorts is_integer_shape is_pointer_shape integer-no-pointer (shape_of T e) (shape_of T g) (ap (shape_of T) p) (is-integer T (type_of e) x.kind x.integer.type) (is-pointer T (type_of g) y.to y.pointer.type)

-- both operands of a pointer and an integer are plain
pub moved-plain : (T : Table) (s : Scopes) (operator : Binary) (which : Side) (e f : TypedExpr) (t : TypeId) → IsMoved T s operator which e f t → IsPlain e × IsPlain f
moved-plain T s operator side.Left e f t h = (h.pointer.plain, h.integer.plain)
moved-plain T s operator side.Right e f t h = (h.integer.plain, h.pointer.plain)

moved_one : (T : Table) (s r : Scopes) (operator : Binary) (at : Place) (e f g k : TypedExpr) (which other : Side) (t u : TypeId) → bare e ≡ bare g → bare f ≡ bare k
    → IsMoved T s operator which e f t → IsMoved T r operator other g k u → (e ≡ g) × (f ≡ k) × (which ≡ other) × (t ≡ u)
moved_one T s r operator at e f g k which other t u p q x y =
    let plain = moved-plain T s operator which e f t x in
    let plain' = moved-plain T r operator other g k u y in
    let first = plain-same e g plain.0 plain'.0 p in
    let second = plain-same f k plain.1 plain'.1 q in
    let which_side = side_same T s r operator at e f g k which other t u first second x y in
    (first, second, which_side, x.type ∙ (λ i. type_of (pointer_side (which_side i) (first i) (second i))) ∙ sym y.type)

-- the two sides of an equality, by how they meet
equated_one : (m : Meeting) (at : Place) (e f g k : TypedExpr) → bare e ≡ bare g → bare f ≡ bare k → AreEquated m at e f → AreEquated m at g k → (e ≡ g) × (f ≡ k)
equated_one (RightIsNull t) at e f g k p q x y =
    let first = plain-same e g x.0 y.0 p in
    (first, x.1 ∙ (λ i. null_of at (type_of (first i)) (q i)) ∙ sym y.1)
equated_one (LeftIsNull t) at e f g k p q x y =
    let second = plain-same f k x.1 y.1 q in
    (x.0 ∙ (λ i. null_of at (type_of (second i)) (p i)) ∙ sym y.0, second)
equated_one (BothPoint t) at e f g k p q x y = (plain-same e g x.0 y.0 p, plain-same f k x.1 y.1 q)
equated_one NeverMeet at e f g k p q x y = absurd x

order_no_equality : {P : Type 0} (operator : Binary) → is_order operator ≡ true → is_equality operator ≡ true → P
order_no_equality binary.Equal h k = no_true h
order_no_equality binary.NotEqual h k = no_true h
order_no_equality operator h k = no_true k

compared_by : (T : Table) (operator : Binary) (at : Place) (e f g k : TypedExpr) → bare e ≡ bare g → bare f ≡ bare k
    → AreCompared T operator e at f → AreCompared T operator g at k → (e ≡ g) × (f ≡ k)
compared_by T operator at e f g k p q (inl x) (inl y) =
    (plain-same e g x.1.first.plain y.1.first.plain p, plain-same f k x.1.second.plain y.1.second.plain q)
compared_by T operator at e f g k p q (inr x) (inr y) =
    equated_one (meeting T (bare e) (bare f)) at e f g k p q x.1 (subst (λ (m : Meeting). AreEquated m at g k) (λ i. meeting T (sym p i) (sym q i)) y.1)
compared_by T operator at e f g k p q (inl x) (inr y) = order_no_equality operator x.0 y.0
compared_by T operator at e f g k p q (inr x) (inl y) = order_no_equality operator y.0 x.0

pub infix-one : (T : Table) → IsDistinct T → (s r : Scopes) (operator : Binary) (at : Place) (e f g k : TypedExpr) (y z : Part) (sort : Sort) → bare e ≡ bare g → bare f ≡ bare k
    → IsInfix T s operator e at f y sort → IsInfix T r operator g at k z sort → ArePartsAlike y z
infix-one T D s r operator at e f g k y z ByArithmetic p q h j =
    let one = arithmetic_one T D operator at e f g k h.0 j.0 p q h.1 j.1 in
    both-values (typed.Arithmetic operator e at f h.0) (typed.Arithmetic operator g at k j.0) y z h.2 j.2 (λ i. typed.Arithmetic operator (one.0 i) at (one.1 i) (one.2 i))
infix-one T D s r operator at e f g k y z ByMove p q h j =
    let one = moved_one T s r operator at e f g k h.0 j.0 h.1 j.1 p q h.2 j.2 in
    both-values (typed.Moved operator h.0 e at f h.1) (typed.Moved operator j.0 g at k j.1) y z h.3 j.3 (λ i. typed.Moved operator (one.2 i) (one.0 i) at (one.1 i) (one.3 i))
infix-one T D s r operator at e f g k y z ByDifference p q h j =
    let first = plain-same e g h.1.first.plain j.1.first.plain p in
    let second = plain-same f k h.1.second.plain j.1.second.plain q in
    let type = integer-type-one T D long long h.0 j.0 refl h.1.type j.1.type in
    both-values (typed.Difference e at f h.0) (typed.Difference g at k j.0) y z h.2 j.2 (λ i. typed.Difference (first i) at (second i) (type i))
infix-one T D s r operator at e f g k y z ByComparison p q h j =
    let one = compared_by T operator at e f g k p q h.1.compared j.1.compared in
    let type = integer-type-one T D int int h.0 j.0 refl h.1.type j.1.type in
    both-values (typed.Compared operator e at f h.0) (typed.Compared operator g at k j.0) y z h.2 j.2 (λ i. typed.Compared operator (one.0 i) at (one.1 i) (type i))
infix-one T D s r operator at e f g k y z ByLogic p q h j =
    let first = plain-same e g h.1.first.plain j.1.first.plain p in
    let second = plain-same f k h.1.second.plain j.1.second.plain q in
    let type = integer-type-one T D int int h.0 j.0 refl h.1.type j.1.type in
    both-values (typed.Logical operator e at f h.0) (typed.Logical operator g at k j.0) y z h.2 j.2 (λ i. typed.Logical operator (first i) at (second i) (type i))
