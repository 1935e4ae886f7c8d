-- What assignments, casts, choices and calls fix of the values that they take, and of the type of the whole.
use Rattle.std.proofs.Common.{◌≡◌, ℕ, Bool, true, false, ◌&&◌, Option, Some, None, refl, ap, sym, subst, ◌∙◌, inl, inr, ◌⊎◌}
use Rattle.cc_base.specs.declared.place.Place.{Place}
use Rattle.cc_base.specs.declared.number.NodeId.{NodeId}
use Rattle.cc_base.specs.declared.number.TypeId.{TypeId}
use Rattle.c_types.specs.declared.shape.TypeShape.{TypeShape}
use Rattle.c_types.specs.declared.shape.TypeShape.TheVariants.{Void, Integer, Pointer, Array, Function, Struct, Union}
use Rattle.c_types.specs.Table.{Table, shape_at}
use Rattle.c_tree.specs.declared.operator.Assignment.{Assignment}
use Rattle.c_tree.specs.declared.typed_word.Conversion.{Conversion}
use Rattle.c_tree.specs.TypedTree as typed
use Rattle.c_tree.specs.TypedTree.{TypedExpr, TypedPlace}
use Rattle.c_tree.specs.TypedParts.{type_of, place_type}
use Rattle.c_typing.specs.Constants.{is_null_constant}
use Rattle.c_typing.specs.Conversions.{bare, IsPlain, is_allocation, is_taken_over, IsTakenOver, IsConverted, IsAssigned, IsAssignedBy, takes_over, is_pointer_to_complete, is_pointer_to_complete_shape, converting_by, implicit, cast_between, cast_conversion}
use Rattle.c_typing.specs.Integers.{common, left_type, right_type, assigning}
use Rattle.c_typing.specs.Rules.{IsCast, IsScalarCast, IsDroppable, IsUpdate, IsIntegerUpdate, IsPointerUpdate, IsChoice, IsIntegerChoice, IsVoidChoice, IsPointerChoice, meeting, meeting_of, meeting_type, NeverMeet, into_choice, is_made_of_place}
use Rattle.c_typing.specs.Scopes.{Scopes}
use Rattle.c_typing.specs.Shapes.{IsVoid, is_integer_shape, is_pointer_shape, is_scalar_shape, is_void_shape}
use Rattle.c_typing_unique.proofs.Numbering.{node-same}
use Rattle.c_typing_unique.proofs.OperatorLaws.{plain-same, bare-plain, operand-one, kind-same, shape_of}
use Rattle.c_typing_unique.proofs.Reading.{AreAlike, plain-bare, plain-over}
use Rattle.c_typing_unique.proofs.Shapes.{IsDistinct, no_true, two-sorts, shape-one, some-same, is-integer, is-pointer, integer-same, integer-no-pointer, integer-no-void, scalar-no-void, integer-type-one}

-- Values that nothing takes over, and values that are taken over

pub alike-plain : (e f : TypedExpr) → AreAlike e f → is_taken_over e ≡ false → is_taken_over f ≡ false → e ≡ f
alike-plain e f h p q = h.same (p ∙ sym q) (λ over. no_true (sym p ∙ over))

over_bare : (e : TypedExpr) → is_taken_over e ≡ true → bare e ≡ e
over_bare (typed.Convert which at t e) h = no_true h
over_bare e h = refl

taken_one : (e f : TypedExpr) (t u : TypeId) → AreAlike (bare e) (bare f) → t ≡ u → IsTakenOver t e → IsTakenOver u f → e ≡ f
taken_one e f t u h q x y =
    let first = over_bare e x.over in
    let second = over_bare f y.over in
    let over = ap is_taken_over first ∙ x.over ∙ sym y.over ∙ ap is_taken_over (sym second) in
    let type = ap type_of first ∙ x.type ∙ q ∙ sym y.type ∙ ap type_of (sym second) in
    sym first ∙ h.same over (λ taken. type) ∙ second

-- Conversions that are made without being told

pub converted-one : (T : Table) (at to : Place) (t u : TypeId) (e f : TypedExpr) → at ≡ to → t ≡ u → bare e ≡ bare f → IsConverted T at t e → IsConverted T to u f → e ≡ f
converted-one T at to t u e f p q same h k =
    some-same e f (sym h.made ∙ (λ i. converting_by (implicit T (same i) (q i)) (p i) (q i) (same i)) ∙ k.made)

over_same : (T : Table) (s r : Scopes) (t u : TypeId) (e f : TypedExpr) → s ≡ r → t ≡ u → AreAlike (bare e) (bare f) → takes_over T s t e ≡ takes_over T r u f
over_same T s r t u e f p q alike = (λ i. alike.allocation i && is_pointer_to_complete T (p i) (q i))

pub assigned-one : (T : Table) (s r : Scopes) (at : Place) (t u : TypeId) (e f : TypedExpr) → s ≡ r → t ≡ u → AreAlike (bare e) (bare f)
    → IsAssigned T s at t e → IsAssigned T r at u f → e ≡ f
assigned-one T s r at t u e f p q alike h k =
    by (takes_over T s t e) h (subst (λ (b : Bool). IsAssignedBy b T at u f) (sym (over_same T s r t u e f p q alike)) k)
  where
    by : (b : Bool) → IsAssignedBy b T at t e → IsAssignedBy b T at u f → e ≡ f
    by true x y = taken_one e f t u alike q x y
    by false x y = converted-one T at at t u e f refl q (alike-plain (bare e) (bare f) alike (plain-over (bare e) x.plain) (plain-over (bare f) y.plain)) x y

-- Casts

pub droppable-bare : (e : TypedExpr) → IsDroppable e → bare e ≡ e
droppable-bare (typed.Convert which at t e) h = no_true h
droppable-bare e h = refl

pub droppable-over : (e : TypedExpr) → IsDroppable e → is_taken_over e ≡ false
droppable-over (typed.Unread p) h = refl
droppable-over e h = plain-over e h

pub droppable-same : (e f : TypedExpr) → AreAlike (bare e) (bare f) → IsDroppable e → IsDroppable f → e ≡ f
droppable-same e f alike h k =
    sym (droppable-bare e h)
    ∙ alike-plain (bare e) (bare f) alike (ap is_taken_over (droppable-bare e h) ∙ droppable-over e h) (ap is_taken_over (droppable-bare f k) ∙ droppable-over f k)
    ∙ droppable-bare f k

pub plain-alike : (e f : TypedExpr) → AreAlike (bare e) (bare f) → IsPlain e → IsPlain f → e ≡ f
plain-alike e f alike h k =
    plain-same e f h k (alike-plain (bare e) (bare f) alike (plain-over (bare e) (bare-plain e h)) (plain-over (bare f) (bare-plain f k)))

cast_scalar : (n : Bool) (x y : TypeShape) (w : Conversion) → cast_between n x y ≡ Some w → is_scalar_shape y ≡ true
cast_scalar n x (Integer c r) w h = refl
cast_scalar n x (Pointer c u) w h = refl
cast_scalar true Void y w h = cc
cast_scalar true (Integer b s) y w h = cc
cast_scalar true (Pointer m t) y w h = cc
cast_scalar true (Array u k) y w h = cc
cast_scalar true (Function ps r) y w h = cc
cast_scalar true (Struct k) y w h = cc
cast_scalar true (Union k) y w h = cc
cast_scalar false Void y w h = cc
cast_scalar false (Integer b s) y w h = cc
cast_scalar false (Pointer m t) y w h = cc
cast_scalar false (Array u k) y w h = cc
cast_scalar false (Function ps r) y w h = cc
cast_scalar false (Struct k) y w h = cc
cast_scalar false (Union k) y w h = cc

pointer_to_complete : (T : Table) (s : Scopes) (z : TypeShape) → is_pointer_to_complete_shape T s z ≡ true → is_scalar_shape z ≡ true
pointer_to_complete T s (Pointer n t) h = refl
pointer_to_complete T s (Integer b r) h = refl
pointer_to_complete T s z h = h

and_second : (a b : Bool) → (a && b) ≡ true → b ≡ true
and_second true b h = h
and_second false b h = no_true h

scalar_cast : (T : Table) (s : Scopes) (which : Conversion) (t : TypeId) (e : TypedExpr) (b : Bool) → takes_over T s t e ≡ b → IsScalarCast b T which t e → is_scalar_shape (shape_at T t) ≡ true
scalar_cast T s which t e true p h = pointer_to_complete T s (shape_at T t) (and_second (is_allocation (bare e)) (is_pointer_to_complete T s t) p)
scalar_cast T s which t e false p h = cast_scalar (is_null_constant T e) (shape_of T e) (shape_at T t) which h.1

void_no_scalar : {P : Type 0} (T : Table) (s : Scopes) (which : Conversion) (t u : TypeId) (e : TypedExpr) → t ≡ u → IsVoid T t → IsScalarCast (takes_over T s u e) T which u e → P
void_no_scalar T s which t u e q h k =
    two-sorts is_scalar_shape is_void_shape scalar-no-void (shape_at T u) (shape_at T t) (ap (shape_at T) (sym q)) (scalar_cast T s which u e (takes_over T s u e) refl k) (ap is_void_shape h.1)

pub cast-one : (T : Table) (s r : Scopes) (which other : Conversion) (t u : TypeId) (e f : TypedExpr) → s ≡ r → t ≡ u → AreAlike (bare e) (bare f)
    → IsCast T s which t e → IsCast T r other u f → (which ≡ other) × (e ≡ f)
cast-one T s r which other t u e f p q alike (inl x) (inl y) = (x.1 ∙ sym y.1, droppable-same e f alike x.2 y.2)
cast-one T s r which other t u e f p q alike (inl x) (inr y) = void_no_scalar T r other t u f q x.0 y
cast-one T s r which other t u e f p q alike (inr x) (inl y) = void_no_scalar T s which u t e (sym q) y.0 x
cast-one T s r which other t u e f p q alike (inr x) (inr y) =
    by (takes_over T s t e) x (subst (λ (b : Bool). IsScalarCast b T other u f) (sym (over_same T s r t u e f p q alike)) y)
  where
    by : (b : Bool) → IsScalarCast b T which t e → IsScalarCast b T other u f → (which ≡ other) × (e ≡ f)
    by true g h = (g.0 ∙ sym h.0, taken_one e f t u alike q g.1 h.1)
    by false g h =
        let same = plain-alike e f alike g.0 h.0 in
        (some-same which other (sym g.1 ∙ (λ i. cast_conversion T (same i) (q i)) ∙ h.1), same)

-- Compound assignments

pub update-one : (T : Table) → IsDistinct T → (s r : Scopes) (operator : Assignment) (at : Place) (p q : TypedPlace) (e f : TypedExpr) (t u : TypeId) → p ≡ q → bare e ≡ bare f
    → IsUpdate T s operator p at e t → IsUpdate T r operator q at f u → (e ≡ f) × (t ≡ u)
update-one T D s r operator at p q e f t u same h x y = by x.updated y.updated
  where
    types : place_type p ≡ place_type q
    types = ap place_type same

    by : IsIntegerUpdate T (assigning operator) p at e t ⊎ IsPointerUpdate T s (assigning operator) p e t
        → IsIntegerUpdate T (assigning operator) q at f u ⊎ IsPointerUpdate T r (assigning operator) q f u → (e ≡ f) × (t ≡ u)
    by (inl g) (inl k) =
        let left = integer-same T (place_type p) (place_type q) g.left k.left types g.first k.first in
        let right = kind-same T (bare e) (bare f) g.right k.right h g.second k.second in (
          operand-one T D at (right_type (assigning operator) g.left g.right) (right_type (assigning operator) k.left k.right) e f (λ i. right_type (assigning operator) (left i) (right i)) h g.converted k.converted,
          integer-type-one T D (left_type (assigning operator) g.left g.right) (left_type (assigning operator) k.left k.right) t u (λ i. left_type (assigning operator) (left i) (right i)) g.type k.type,
        )
    by (inr g) (inr k) = (plain-same e f g.integer.plain k.integer.plain h, g.type ∙ types ∙ sym k.type)
    by (inl g) (inr k) =
        two-sorts is_integer_shape is_pointer_shape integer-no-pointer (shape_at T (place_type p)) (shape_at T (place_type q)) (ap (shape_at T) types) (is-integer T (place_type p) g.left g.first) (is-pointer T (place_type q) k.to k.pointer)
    by (inr g) (inl k) =
        two-sorts is_integer_shape is_pointer_shape integer-no-pointer (shape_at T (place_type q)) (shape_at T (place_type p)) (ap (shape_at T) (sym types)) (is-integer T (place_type q) k.left k.first) (is-pointer T (place_type p) g.to g.pointer)

-- the value of a compound assignment is plain, apart from its conversion
pub update-plain : (T : Table) (s : Scopes) (operator : Assignment) (at : Place) (p : TypedPlace) (e : TypedExpr) (t : TypeId) → IsUpdate T s operator p at e t → IsPlain (bare e)
update-plain T s operator at p e t x = by x.updated
  where
    by : IsIntegerUpdate T (assigning operator) p at e t ⊎ IsPointerUpdate T s (assigning operator) p e t → IsPlain (bare e)
    by (inl g) = g.converted.plain
    by (inr g) = bare-plain e g.integer.plain

-- Choices

-- where neither side is a pointer they do not meet
apart_meet : (T : Table) (m n : Bool) (x y : TypeShape) → is_pointer_shape x ≡ false → is_pointer_shape y ≡ false → meeting_of T m n x y ≡ NeverMeet
apart_meet T m n (Pointer c t) y p q = no_true (sym p)
apart_meet T m n x (Pointer c t) p q = no_true (sym q)
apart_meet T true true Void Void p q = refl
apart_meet T true true Void y p q = refl
apart_meet T true true (Integer b s) Void p q = refl
apart_meet T true true (Integer b s) y p q = refl
apart_meet T true true (Array u k) Void p q = refl
apart_meet T true true (Array u k) y p q = refl
apart_meet T true true (Function ps r) Void p q = refl
apart_meet T true true (Function ps r) y p q = refl
apart_meet T true true (Struct k) Void p q = refl
apart_meet T true true (Struct k) y p q = refl
apart_meet T true true (Union k) Void p q = refl
apart_meet T true true (Union k) y p q = refl
apart_meet T true false Void Void p q = refl
apart_meet T true false Void y p q = refl
apart_meet T true false (Integer b s) Void p q = refl
apart_meet T true false (Integer b s) y p q = refl
apart_meet T true false (Array u k) Void p q = refl
apart_meet T true false (Array u k) y p q = refl
apart_meet T true false (Function ps r) Void p q = refl
apart_meet T true false (Function ps r) y p q = refl
apart_meet T true false (Struct k) Void p q = refl
apart_meet T true false (Struct k) y p q = refl
apart_meet T true false (Union k) Void p q = refl
apart_meet T true false (Union k) y p q = refl
apart_meet T false true Void Void p q = refl
apart_meet T false true Void y p q = refl
apart_meet T false true (Integer b s) Void p q = refl
apart_meet T false true (Integer b s) y p q = refl
apart_meet T false true (Array u k) Void p q = refl
apart_meet T false true (Array u k) y p q = refl
apart_meet T false true (Function ps r) Void p q = refl
apart_meet T false true (Function ps r) y p q = refl
apart_meet T false true (Struct k) Void p q = refl
apart_meet T false true (Struct k) y p q = refl
apart_meet T false true (Union k) Void p q = refl
apart_meet T false true (Union k) y p q = refl
apart_meet T false false Void Void p q = refl
apart_meet T false false Void y p q = refl
apart_meet T false false (Integer b s) Void p q = refl
apart_meet T false false (Integer b s) y p q = refl
apart_meet T false false (Array u k) Void p q = refl
apart_meet T false false (Array u k) y p q = refl
apart_meet T false false (Function ps r) Void p q = refl
apart_meet T false false (Function ps r) y p q = refl
apart_meet T false false (Struct k) Void p q = refl
apart_meet T false false (Struct k) y p q = refl
apart_meet T false false (Union k) Void p q = refl
apart_meet T false false (Union k) y p q = refl

void_no_pointer : (x : TypeShape) → is_void_shape x ≡ true → is_pointer_shape x ≡ false
void_no_pointer (Pointer n t) h = sym h
void_no_pointer x h = refl

none_some : {P : Type 0} (t : TypeId) → None ≡ Some t → P
none_some t h = absurd (let e : ◌≡◌ {A = Option TypeId} None (Some t) = h in cc)

never_points : {P : Type 0} (T : Table) (e f : TypedExpr) (t : TypeId) → is_pointer_shape (shape_of T e) ≡ false → is_pointer_shape (shape_of T f) ≡ false
    → meeting_type (meeting T e f) ≡ Some t → P
never_points T e f t p q h =
    none_some t (sym (ap meeting_type (apart_meet T (is_null_constant T e) (is_null_constant T f) (shape_of T e) (shape_of T f) p q)) ∙ h)

integer_choice_points : {P : Type 0} (T : Table) (c d : TypedExpr) (at : Place) (e f g k : TypedExpr) (n : NodeId) (t u : TypeId) → bare e ≡ bare g → bare f ≡ bare k
    → IsIntegerChoice T at e f t → IsPointerChoice T d at g k n u → P
integer_choice_points T c d at e f g k n t u p q x y =
    never_points T (bare g) (bare k) y.to
    (integer-no-pointer (shape_of T (bare g)) (subst (λ (z : TypedExpr). is_integer_shape (shape_of T z) ≡ true) p (is-integer T (type_of (bare e)) x.left x.first)))
    (integer-no-pointer (shape_of T (bare k)) (subst (λ (z : TypedExpr). is_integer_shape (shape_of T z) ≡ true) q (is-integer T (type_of (bare f)) x.right x.second)))
    y.meets

void_bare : (T : Table) (e g : TypedExpr) → bare e ≡ bare g → IsPlain e → IsVoid T (type_of e) → is_void_shape (shape_of T (bare g)) ≡ true
void_bare T e g p plain void = subst (λ (z : TypedExpr). is_void_shape (shape_of T z) ≡ true) (sym (plain-bare e plain) ∙ p) (ap is_void_shape void.1)

void_choice_points : {P : Type 0} (T : Table) (c d : TypedExpr) (at : Place) (e f g k : TypedExpr) (n : NodeId) (t u : TypeId) → bare e ≡ bare g → bare f ≡ bare k
    → IsVoidChoice T e f t → IsPointerChoice T d at g k n u → P
void_choice_points T c d at e f g k n t u p q x y =
    never_points T (bare g) (bare k) y.to
    (void_no_pointer (shape_of T (bare g)) (void_bare T e g p x.first.0 x.first.1))
    (void_no_pointer (shape_of T (bare k)) (void_bare T f k q x.second.0 x.second.1))
    y.meets

integer_choice_void : {P : Type 0} (T : Table) (at : Place) (e f g k : TypedExpr) (t u : TypeId) → bare e ≡ bare g → IsIntegerChoice T at e f t → IsVoidChoice T g k u → P
integer_choice_void T at e f g k t u p x y =
    two-sorts is_integer_shape is_void_shape integer-no-void (shape_of T (bare e)) (shape_of T (bare g)) (ap (shape_of T) p)
    (is-integer T (type_of (bare e)) x.left x.first) (void_bare T g g refl y.first.0 y.first.1)

-- what a choice between two values is, by its sides
pub data IsValueChoice (T : Table) (c : TypedExpr) (at : Place) (e f : TypedExpr) (m n : ℕ) : TypedExpr → Type 0 where
  plainly : (t : TypeId) → IsChoice T c at e f t → n ≡ m → IsValueChoice T c at e f m n (typed.Conditional c at e f t)
  by-pointers : (k : NodeId) (t : TypeId) → IsPointerChoice T c at e f k t → k.0 ≡ m → IsValueChoice T c at e f m n (typed.PointerConditional c at e f k t)

pub choice-one : (T : Table) → IsDistinct T → (at : Place) (c d e f g k : TypedExpr) (l m n o : ℕ) (y z : TypedExpr) → c ≡ d → bare e ≡ bare g → bare f ≡ bare k → l ≡ n
    → IsValueChoice T c at e f l m y → IsValueChoice T d at g k n o z → y ≡ z
choice-one T D at c d e f g k l m n o _ _ same p q start (plainly t h x) (plainly u j y) = by h.1 j.1
  where
    by : IsIntegerChoice T at e f t ⊎ IsVoidChoice T e f t → IsIntegerChoice T at g k u ⊎ IsVoidChoice T g k u → typed.Conditional c at e f t ≡ typed.Conditional d at g k u
    by (inl v) (inl w) =
        let left = kind-same T (bare e) (bare g) v.left w.left p v.first w.first in
        let right = kind-same T (bare f) (bare k) v.right w.right q v.second w.second in
        let meet : common v.left v.right ≡ common w.left w.right = (λ i. common (left i) (right i)) in
        let first = operand-one T D at (common v.left v.right) (common w.left w.right) e g meet p v.first_converted w.first_converted in
        let second = operand-one T D at (common v.left v.right) (common w.left w.right) f k meet q v.second_converted w.second_converted in
        let type = integer-type-one T D (common v.left v.right) (common w.left w.right) t u meet v.type w.type in
        (λ i. typed.Conditional (same i) at (first i) (second i) (type i))
    by (inr v) (inr w) =
        let first = plain-same e g v.first.0 w.first.0 p in
        let second = plain-same f k v.second.0 w.second.0 q in
        let type = shape-one T D t u Void Void refl v.type w.type in
        (λ i. typed.Conditional (same i) at (first i) (second i) (type i))
    by (inl v) (inr w) = integer_choice_void T at e f g k t u p v w
    by (inr v) (inl w) = integer_choice_void T at g k e f u t (sym p) w v
choice-one T D at c d e f g k l m n o _ _ same p q start (by-pointers a t h x) (by-pointers b u j y) =
    let to = some-same h.to j.to (sym h.meets ∙ (λ i. meeting_type (meeting T (p i) (q i))) ∙ j.meets) in
    let node = node-same a b l n start x y in
    let type = shape-one T D t u (Pointer a h.to) (Pointer b j.to) (λ i. Pointer (node i) (to i)) h.type j.type in
    let first = h.first ∙ (λ i. into_choice T at (type i) (p i)) ∙ sym j.first in
    let second = h.second ∙ (λ i. into_choice T at (type i) (q i)) ∙ sym j.second in
    (λ i. typed.PointerConditional (same i) at (first i) (second i) (node i) (type i))
choice-one T D at c d e f g k l m n o _ _ same p q start (plainly t h x) (by-pointers b u j y) = by h.1
  where
    by : IsIntegerChoice T at e f t ⊎ IsVoidChoice T e f t → typed.Conditional c at e f t ≡ typed.PointerConditional d at g k b u
    by (inl v) = integer_choice_points T c d at e f g k b t u p q v j
    by (inr v) = void_choice_points T c d at e f g k b t u p q v j
choice-one T D at c d e f g k l m n o _ _ same p q start (by-pointers b u j y) (plainly t h x) = by h.1
  where
    by : IsIntegerChoice T at g k t ⊎ IsVoidChoice T g k t → typed.PointerConditional c at e f b u ≡ typed.Conditional d at g k t
    by (inl v) = integer_choice_points T d c at g k e f b t u (sym p) (sym q) v j
    by (inr v) = void_choice_points T d c at g k e f b t u (sym p) (sym q) v j

-- both sides of a choice between values are plain, apart from their conversions
pub choice-plain : (T : Table) (c : TypedExpr) (at : Place) (e f : TypedExpr) (m n : ℕ) (y : TypedExpr) → IsValueChoice T c at e f m n y → IsPlain c × IsPlain (bare e) × IsPlain (bare f)
choice-plain T c at e f m n _ (plainly t h x) = by h.1
  where
    by : IsIntegerChoice T at e f t ⊎ IsVoidChoice T e f t → IsPlain c × IsPlain (bare e) × IsPlain (bare f)
    by (inl v) = (h.0.plain, v.first_converted.plain, v.second_converted.plain)
    by (inr v) = (h.0.plain, bare-plain e v.first.0, bare-plain f v.second.0)
choice-plain T c at e f m n _ (by-pointers k t h x) = (h.condition.plain, h.plain.0, h.plain.1)

pub choice-end : (T : Table) (c : TypedExpr) (at : Place) (e f : TypedExpr) (m n : ℕ) (y : TypedExpr) → IsValueChoice T c at e f m n y → is_made_of_place y ≡ false
choice-end T c at e f m n _ (plainly t h x) = refl
choice-end T c at e f m n _ (by-pointers k t h x) = refl
