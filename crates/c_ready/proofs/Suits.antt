-- A conversion fits what it converts, by the rule of what it stands in.
use Rattle.std.specs.List.{All, AllZip}
use Rattle.std.proofs.Common.{◌≡◌, ◌⊎◌, ℕ, Bool, true, false, ◌&&◌, ◌==◌, List, [], ◌∷◌, length, Option, Some, None, refl, ap, sym, subst, ◌∙◌, true≢false, if◌then◌else◌, inl, inr, arith}
use Rattle.std.proofs.lemmas.List.Elements.{All-nil, All-cons}
use Rattle.std.proofs.lemmas.List.{get_or_past}
use Rattle.std.proofs.lemmas.Bool.Decides.{leb_tells, nat_tests}
use Rattle.std.proofs.lemmas.Option.{none-some}
use Rattle.cc_base.specs.declared.place.Place.{Place}
use Rattle.cc_base.specs.declared.number.NodeId.{NodeId}
use Rattle.cc_base.specs.declared.number.TypeId.{TypeId}
use Rattle.integers.specs.Arithmetic.{IntegerType}
use Rattle.c_types.specs.declared.shape.TypeShape.{TypeShape}
use Rattle.c_types.specs.declared.shape.TypeShape.TheVariants.{Void, Integer, Pointer, Array, Function, Struct, Union}
use Rattle.c_types.specs.Table as types
use Rattle.c_types.specs.Table.{Table, Entry, HasShape, IsType, IsComplete, shape_at, is_complete, is_function, void_entry}
use Rattle.c_types.specs.Sameness.{is_same_type}
use Rattle.c_tree.specs.declared.operator.Unary.{Unary}
use Rattle.c_tree.specs.declared.operator.Unary.TheVariants as unary
use Rattle.c_tree.specs.declared.operator.Binary.{Binary}
use Rattle.c_tree.specs.declared.typed_word.Conversion.{Conversion}
use Rattle.c_tree.specs.declared.typed_word.Conversion.TheVariants as conversion
use Rattle.c_tree.specs.TypedTree as typed
use Rattle.c_tree.specs.TypedTree.{TypedExpr}
use Rattle.c_tree.specs.TypedParts.{type_of, first_place}
use Rattle.runtime_calls.specs.declared.function.RuntimeType.{RuntimeType}
use Rattle.runtime_calls.specs.declared.function.RuntimeType.TheVariants as prototype
use Rattle.c_typing.specs.Shapes.{IsIntegerType, IsScalar, is_scalar_shape, integer_at, integer_of_shape, is_void_shape}
use Rattle.c_typing.specs.Scopes.{Scopes, is_complete_at}
use Rattle.c_typing.specs.Constants.{is_null_constant}
use Rattle.c_typing.specs.Conversions.{bare, IsPlain, is_droppable, IsOperand, is_taken_as, implicit_between, implicit, converting, converting_by, IsConverted, is_taken_over, IsTakenOver, is_allocation, is_pointer_to_complete, is_pointer_to_complete_shape, takes_over, IsAssignedBy, IsAssigned, cast_between, are_data, points_to_void}
use Rattle.c_typing.specs.Rules.{IsPrefix, is_designator, Meeting, RightIsNull, LeftIsNull, BothPoint, NeverMeet, meeting_of, meeting, meeting_pointee, meeting_type, AreEquated, AreCompared, IsCompared, IsChoice, IsIntegerChoice, IsVoidChoice, IsPointerChoice, side_conversion, IsScalarCast, IsCast, IsArgument, IsRuntimeArgument}
use Rattle.c_ready.proofs.Contexts.{Context, IsWhole, IsPointerToWhole, Fits, IsStored}
use Rattle.c_ready.proofs.Basics.{some-same, no_true}

-- what the tree around an expression has to say of it
abbrev pub Suits : Context → TypedExpr → Type 0
Suits k (typed.Paren at e) = Suits k e
Suits k (typed.Convert which at t e) = Fits k which (type_of e) t
Suits k (typed.RuntimeName name function t) = ⊥
Suits k (typed.AllocateFor function f at arguments t) = IsPointerToWhole k t
Suits k e = Unit {0}

-- Types in the table

pub is_in : (T : Table) (t : TypeId) → is_void_shape (shape_at T t) ≡ false → IsType T t
is_in T t h = elim (leb_tells (length T) t.0) [
  | inl past ↦ absurd (true≢false (sym (ap (λ (e : Entry). is_void_shape e.shape) (get_or_past T t.0 void_entry past.1)) ∙ h))
  | inr below ↦ below.1
]

pub whole-in : (T : Table) (t : TypeId) → IsComplete T t → IsType T t
whole-in T t h = elim (leb_tells (length T) t.0) [
  | inl past ↦ absurd (true≢false (sym h ∙ ap (λ (e : Entry). is_complete e) (get_or_past T t.0 void_entry past.1)))
  | inr below ↦ below.1
]

integer-shape : (x : TypeShape) (i : IntegerType) → integer_of_shape x ≡ Some i → (x ≡ Integer i.bytes i.signed) × (is_void_shape x ≡ false)
integer-shape (Integer bytes signed) i h =
    (ap (λ (j : IntegerType). Integer j.bytes j.signed) (some-same (record { bytes = bytes; signed = signed }) i h), refl)
integer-shape Void i h = absurd (none-some i h)
integer-shape (Pointer n t) i h = absurd (none-some i h)
integer-shape (Array t n) i h = absurd (none-some i h)
integer-shape (Function ps r) i h = absurd (none-some i h)
integer-shape (Struct n) i h = absurd (none-some i h)
integer-shape (Union n) i h = absurd (none-some i h)

pub integer-from : (T : Table) (t : TypeId) (i : IntegerType) → integer_at T t ≡ Some i → IsIntegerType T i t
integer-from T t i h = let s = integer-shape (shape_at T t) i h in (is_in T t s.1, s.0)

pub shaped-pointer : (T : Table) (t : TypeId) (n : NodeId) (u : TypeId) → shape_at T t ≡ Pointer n u → HasShape T t (Pointer n u)
shaped-pointer T t n u h = (is_in T t (ap is_void_shape h), h)

pub shaped-integer : (T : Table) (t : TypeId) (bytes : ℕ) (signed : Bool) → shape_at T t ≡ Integer bytes signed → HasShape T t (Integer bytes signed)
shaped-integer T t bytes signed h = (is_in T t (ap is_void_shape h), h)

scalar-no_void : (x : TypeShape) → is_scalar_shape x ≡ true → is_void_shape x ≡ false
scalar-no_void (Integer bytes signed) h = refl
scalar-no_void (Pointer n t) h = refl
scalar-no_void (Array t n) h = refl
scalar-no_void (Function ps r) h = refl
scalar-no_void (Struct n) h = refl
scalar-no_void (Union n) h = refl
scalar-no_void Void h = no_true h

pub scalar-in : (T : Table) (t : TypeId) → IsScalar T t → IsType T t
scalar-in T t h = is_in T t (scalar-no_void (shape_at T t) h)

function-no_void : (x : TypeShape) → types.is_function_shape x ≡ true → is_void_shape x ≡ false
function-no_void (Function ps r) h = refl
function-no_void Void h = no_true h
function-no_void (Integer bytes signed) h = no_true h
function-no_void (Pointer n t) h = no_true h
function-no_void (Array t n) h = no_true h
function-no_void (Struct n) h = no_true h
function-no_void (Union n) h = no_true h

pub function-in : (T : Table) (t : TypeId) → is_function T t ≡ true → IsType T t
function-in T t h = is_in T t (function-no_void (shape_at T t) h)

-- Plain values

module _ (k : Context) where
  pub plain-suits : (e : TypedExpr) → IsPlain e → Suits k e
  plain-suits (typed.Paren at e) h = plain-suits e h
  plain-suits (typed.Convert which at t e) h = no_true h
  plain-suits (typed.RuntimeName name function t) h = no_true h
  plain-suits (typed.AllocateFor function f at arguments t) h = no_true h
  plain-suits e h = tt

  pub droppable-suits : (e : TypedExpr) → is_droppable e ≡ true → Suits k e
  droppable-suits (typed.Unread p) h = tt
  droppable-suits (typed.Paren at e) h = plain-suits e h
  droppable-suits (typed.Convert which at t e) h = no_true h
  droppable-suits (typed.RuntimeName name function t) h = no_true h
  droppable-suits (typed.AllocateFor function f at arguments t) h = no_true h
  droppable-suits e h = tt

  pub designator-suits : (e : TypedExpr) → is_designator e ≡ true → Suits k e
  designator-suits (typed.Paren at e) h = designator-suits e h
  designator-suits (typed.Convert which at t e) h = no_true h
  designator-suits (typed.RuntimeName name function t) h = no_true h
  designator-suits (typed.AllocateFor function f at arguments t) h = no_true h
  designator-suits e h = tt

pub plain-bare : (e : TypedExpr) → IsPlain e → bare e ≡ e
plain-bare (typed.Convert which at t e) h = no_true h
plain-bare e h = refl

-- Integers

module _ (k : Context) where
  to_suits : (b : Bool) (at : Place) (i : IntegerType) (t : TypeId) (x : TypedExpr) → IsPlain x → (j : IntegerType)
      → IsIntegerType k.table j (type_of x) → IsIntegerType k.table i t
      → Suits k (if b then x else typed.Convert conversion.IntegerToInteger at t x)
  to_suits true at i t x p j g h = plain-suits k x p
  to_suits false at i t x p j g h = ((j, g), (i, h))

  pub operand-suits : (at : Place) (i j : IntegerType) (e : TypedExpr) → IsOperand k.table at i e → integer_at k.table (type_of (bare e)) ≡ Some j
      → Suits k e
  operand-suits at i j e h g =
      subst (λ (x : TypedExpr). Suits k x) (sym h.made)
      (to_suits ((type_of (bare e)).0 == h.type.0) at i h.type (bare e) h.plain j (integer-from k.table (type_of (bare e)) j g) h.shape)

number-same : (a b : TypeId) → (a.0 == b.0) ≡ true → a ≡ b
number-same a b h = ap (λ (n : ℕ). record { 0 = n }) (eq a.0 b.0 h)
  where
    eq : (m n : ℕ) → (m == n) ≡ true → m ≡ n
    eq m n h = grind (arith, nat_tests)

to_type : (b : Bool) (at : Place) (t : TypeId) (x : TypedExpr) → (b ≡ true → type_of x ≡ t)
    → type_of (if b then x else typed.Convert conversion.IntegerToInteger at t x) ≡ t
to_type true at t x h = h refl
to_type false at t x h = refl

pub operand-type : (T : Table) (at : Place) (i : IntegerType) (e : TypedExpr) (h : IsOperand T at i e) → type_of e ≡ h.type
operand-type T at i e h = ap type_of h.made ∙ to_type ((type_of (bare e)).0 == h.type.0) at h.type (bare e) (number-same (type_of (bare e)) h.type)

converting-type : (which : Conversion) (at : Place) (t : TypeId) (x : TypedExpr) → type_of (converting which at t x) ≡ t
converting-type conversion.IntegerToInteger at t x = to_type ((type_of x).0 == t.0) at t x (number-same (type_of x) t)
converting-type conversion.IntegerToPointer at t x = refl
converting-type conversion.PointerToPointer at t x = refl
converting-type conversion.NullToPointer at t x = refl
converting-type conversion.AllocationToPointer at t x = refl
converting-type conversion.ToVoid at t x = refl
converting-type conversion.PointerToInteger at t x = refl

-- Conversions that nobody writes

-- what fits by shapes
abbrev FitsShapes : Conversion → TypeShape → TypeShape → Type 0
FitsShapes conversion.IntegerToInteger x y =
    ((i : IntegerType) × (x ≡ Integer i.bytes i.signed)) × ((j : IntegerType) × (y ≡ Integer j.bytes j.signed))
FitsShapes conversion.IntegerToPointer x y = ((i : IntegerType) × (x ≡ Integer i.bytes i.signed)) × ((n : NodeId) × (u : TypeId) × (y ≡ Pointer n u))
FitsShapes conversion.PointerToPointer x y = ((m : NodeId) × (t : TypeId) × (x ≡ Pointer m t)) × ((n : NodeId) × (u : TypeId) × (y ≡ Pointer n u))
FitsShapes conversion.NullToPointer x y = (n : NodeId) × (u : TypeId) × (y ≡ Pointer n u)
FitsShapes conversion.AllocationToPointer x y = ⊥
FitsShapes conversion.ToVoid x y = ⊥
FitsShapes conversion.PointerToInteger x y = ⊥

module _ (k : Context) (from to : TypeId) where
  shapes-fit : (which : Conversion) → FitsShapes which (shape_at k.table from) (shape_at k.table to) → Fits k which from to
  shapes-fit conversion.IntegerToInteger h =
      ((h.0.0, shaped-integer k.table from (h.0.0.bytes) (h.0.0.signed) h.0.1), (h.1.0, shaped-integer k.table to (h.1.0.bytes) (h.1.0.signed) h.1.1))
  shapes-fit conversion.IntegerToPointer h =
      ((h.0.0, shaped-integer k.table from (h.0.0.bytes) (h.0.0.signed) h.0.1), (h.1.0, h.1.1, shaped-pointer k.table to h.1.0 h.1.1 h.1.2))
  shapes-fit conversion.PointerToPointer h =
      ((h.0.0, h.0.1, shaped-pointer k.table from h.0.0 h.0.1 h.0.2), (h.1.0, h.1.1, shaped-pointer k.table to h.1.0 h.1.1 h.1.2))
  shapes-fit conversion.NullToPointer h = (h.0, h.1, shaped-pointer k.table to h.0 h.1 h.2)
  shapes-fit conversion.AllocationToPointer h = absurd h
  shapes-fit conversion.ToVoid h = absurd h
  shapes-fit conversion.PointerToInteger h = absurd h

chosen : (x y : TypeShape) (a which : Conversion) → FitsShapes a x y → Some a ≡ Some which → FitsShapes which x y
chosen x y a which f h = subst (λ (c : Conversion). FitsShapes c x y) (some-same a which h) f

chosen_if : (x y : TypeShape) (b : Bool) (a which : Conversion) → FitsShapes a x y → (if b then Some a else None) ≡ Some which → FitsShapes which x y
chosen_if x y true a which f h = chosen x y a which f h
chosen_if x y false a which f h = absurd (none-some which h)

implicit-fits : (T : Table) (null : Bool) (x y : TypeShape) (which : Conversion) → implicit_between T null x y ≡ Some which → FitsShapes which x y
implicit-fits T true (Integer a s) (Integer b r) which h =
    chosen (Integer a s) (Integer b r) conversion.IntegerToInteger which
    ((record { bytes = a; signed = s }, refl), (record { bytes = b; signed = r }, refl)) h
implicit-fits T false (Integer a s) (Integer b r) which h =
    chosen (Integer a s) (Integer b r) conversion.IntegerToInteger which
    ((record { bytes = a; signed = s }, refl), (record { bytes = b; signed = r }, refl)) h
implicit-fits T true from (Pointer n u) which h = chosen (from) (Pointer n u) conversion.NullToPointer which (n, u, refl) h
implicit-fits T false (Pointer m t) (Pointer n u) which h =
    chosen_if (Pointer m t) (Pointer n u) (is_taken_as T t u) conversion.PointerToPointer which ((m, t, refl), (n, u, refl)) h
implicit-fits T null x y which h = absurd (none-some which h)

cast-fits : (null : Bool) (x y : TypeShape) (which : Conversion) → cast_between null x y ≡ Some which → FitsShapes which x y
cast-fits true (Integer a s) (Integer b r) which h =
    chosen (Integer a s) (Integer b r) conversion.IntegerToInteger which
    ((record { bytes = a; signed = s }, refl), (record { bytes = b; signed = r }, refl)) h
cast-fits false (Integer a s) (Integer b r) which h =
    chosen (Integer a s) (Integer b r) conversion.IntegerToInteger which
    ((record { bytes = a; signed = s }, refl), (record { bytes = b; signed = r }, refl)) h
cast-fits true from (Pointer n u) which h = chosen (from) (Pointer n u) conversion.NullToPointer which (n, u, refl) h
cast-fits false (Integer a s) (Pointer n u) which h =
    chosen (Integer a s) (Pointer n u) conversion.IntegerToPointer which ((record { bytes = a; signed = s }, refl), (n, u, refl)) h
cast-fits false (Pointer m t) (Pointer n u) which h =
    chosen (Pointer m t) (Pointer n u) conversion.PointerToPointer which ((m, t, refl), (n, u, refl)) h
cast-fits null x y which h = absurd (none-some which h)

module _ (k : Context) where
  converting-suits : (which : Conversion) (at : Place) (t : TypeId) (x : TypedExpr) → IsPlain x → Fits k which (type_of x) t
      → Suits k (converting which at t x)
  converting-suits conversion.IntegerToInteger at t x p f = to_suits k ((type_of x).0 == t.0) at f.1.0 t x p f.0.0 f.0.1 f.1.1
  converting-suits conversion.IntegerToPointer at t x p f = f
  converting-suits conversion.PointerToPointer at t x p f = f
  converting-suits conversion.NullToPointer at t x p f = f
  converting-suits conversion.AllocationToPointer at t x p f = f
  converting-suits conversion.ToVoid at t x p f = f
  converting-suits conversion.PointerToInteger at t x p f = f

  fits-scalar : (which : Conversion) (x y : TypeShape) → FitsShapes which x y → is_scalar_shape y ≡ true
  fits-scalar conversion.IntegerToInteger x y f = ap is_scalar_shape f.1.1
  fits-scalar conversion.IntegerToPointer x y f = ap is_scalar_shape f.1.2
  fits-scalar conversion.PointerToPointer x y f = ap is_scalar_shape f.1.2
  fits-scalar conversion.NullToPointer x y f = ap is_scalar_shape f.2
  fits-scalar conversion.AllocationToPointer x y f = absurd f
  fits-scalar conversion.ToVoid x y f = absurd f
  fits-scalar conversion.PointerToInteger x y f = absurd f

  converted_by : (o : Option Conversion) (at : Place) (t : TypeId) (x e : TypedExpr) → IsPlain x
      → ((which : Conversion) → o ≡ Some which → FitsShapes which (shape_at k.table (type_of x)) (shape_at k.table t))
      → converting_by o at t x ≡ Some e → Suits k e × IsStored k t e
  converted_by None at t x e p f h = absurd (none-some e h)
  converted_by (Some which) at t x e p f h =
      let is = some-same (converting which at t x) e h in
      let scalar = fits-scalar which (shape_at k.table (type_of x)) (shape_at k.table t) (f which refl) in (
        subst (λ (y : TypedExpr). Suits k y) is (converting-suits which at t x p (shapes-fit k (type_of x) t which (f which refl))),
        (ap type_of (sym is) ∙ converting-type which at t x, scalar-in k.table t scalar, scalar),
      )

  pub converted-suits : (at : Place) (t : TypeId) (e : TypedExpr) → IsConverted k.table at t e → Suits k e × IsStored k t e
  converted-suits at t e h =
      converted_by (implicit k.table (bare e) t) at t (bare e) e h.plain
      (λ which g. implicit-fits k.table (is_null_constant k.table (bare e)) (shape_at k.table (type_of (bare e))) (shape_at k.table t) which g) h.made

-- Allocations that are taken over

module _ (k : Context) (s : Scopes) (followed : (t : TypeId) → is_complete_at k.table s t ≡ true → IsComplete k.table t) where
  pub whole-at : (t : TypeId) → is_complete_at k.table s t ≡ true → IsWhole k t
  whole-at t h = (whole-in k.table t (followed t h), followed t h)

  pointer_whole : (t : TypeId) (x : TypeShape) → shape_at k.table t ≡ x → is_pointer_to_complete_shape k.table s x ≡ true → IsPointerToWhole k t
  pointer_whole t (Pointer n u) e h = (n, u, shaped-pointer k.table t n u e, whole-at u h)
  pointer_whole t Void e h = no_true h
  pointer_whole t (Integer bytes signed) e h = no_true h
  pointer_whole t (Array u n) e h = no_true h
  pointer_whole t (Function ps r) e h = no_true h
  pointer_whole t (Struct n) e h = no_true h
  pointer_whole t (Union n) e h = no_true h

  taken : (e : TypedExpr) → is_taken_over e ≡ true → IsPointerToWhole k (type_of e) → Suits k e
  taken (typed.Paren at e) h w = taken e h w
  taken (typed.AllocateFor function f at arguments t) h w = w
  taken (typed.Convert which at t e) h w = no_true h
  taken (typed.RuntimeName name function t) h w = no_true h
  taken e h w = tt

  and_right : (a b : Bool) → (a && b) ≡ true → b ≡ true
  and_right true b h = h
  and_right false b h = no_true h

  pub taken-suits : (t : TypeId) (e : TypedExpr) → takes_over k.table s t e ≡ true → IsTakenOver t e → Suits k e × IsPointerToWhole k t
  taken-suits t e b h =
      let w = pointer_whole t (shape_at k.table t) refl (and_right (is_allocation (bare e)) (is_pointer_to_complete k.table s t) b) in
      (taken e h.over (subst (IsPointerToWhole k) (sym h.type) w), w)

  pub assigned-suits : (at : Place) (t : TypeId) (e : TypedExpr) → IsScalar k.table t → IsAssigned k.table s at t e → Suits k e × IsStored k t e
  assigned-suits at t e scalar h = by (takes_over k.table s t e) refl h
    where
      by : (b : Bool) → takes_over k.table s t e ≡ b → IsAssignedBy b k.table at t e → Suits k e × IsStored k t e
      by true q g = ((taken-suits t e q g).0, (g.type, scalar-in k.table t scalar, scalar))
      by false q g = converted-suits k at t e g

  pub cast-suits : (which : Conversion) (t : TypeId) (e : TypedExpr) → IsCast k.table s which t e → Suits k e × Fits k which (type_of e) t
  cast-suits which t e (inl h) = (droppable-suits k e h.2, subst (λ (c : Conversion). Fits k c (type_of e) t) (sym h.1) h.0)
  cast-suits which t e (inr h) = by (takes_over k.table s t e) refl h
    where
      by : (b : Bool) → takes_over k.table s t e ≡ b → IsScalarCast b k.table which t e → Suits k e × Fits k which (type_of e) t
      by true q g = let w = taken-suits t e q g.1 in (w.0, subst (λ (c : Conversion). Fits k c (type_of e) t) (sym g.0) (g.1.type, w.1))
      by false q g = (
        plain-suits k e g.0,
        shapes-fit k (type_of e) t which (cast-fits (is_null_constant k.table e) (shape_at k.table (type_of e)) (shape_at k.table t) which g.1),
      )

-- Operands of `+`, `-`, `~`, `!`, of comparisons and choices

module _ (k : Context) where
  pub prefix-suits : (operator : Unary) (at : Place) (e : TypedExpr) (t : TypeId) → IsPrefix operator k.table at e t → Suits k e
  prefix-suits unary.Not at e t h = plain-suits k e h.0.plain
  prefix-suits unary.Plus at e t h = operand-suits k at _ h.kind e h.operand h.integer
  prefix-suits unary.Minus at e t h = operand-suits k at _ h.kind e h.operand h.integer
  prefix-suits unary.Complement at e t h = operand-suits k at _ h.kind e h.operand h.integer
  prefix-suits operator at e t h = absurd h

-- what meets: the sides that aren't null are pointers
abbrev MeetAs : Meeting → Bool → Bool → TypeShape → TypeShape → Type 0
MeetAs (RightIsNull t) null other x y = (n : NodeId) × (x ≡ Pointer n t) × (other ≡ true)
MeetAs (LeftIsNull t) null other x y = (n : NodeId) × (y ≡ Pointer n t) × (null ≡ true)
MeetAs (BothPoint t) null other x y = ((n : NodeId) × (u : TypeId) × (x ≡ Pointer n u)) × ((n : NodeId) × (u : TypeId) × (y ≡ Pointer n u))
MeetAs NeverMeet null other x y = Unit {0}

both-meet : (T : Table) (n m : NodeId) (t u : TypeId) → MeetAs (meeting_pointee T t u) false false (Pointer n t) (Pointer m u)
both-meet T n m t u = by (is_same_type T t u) (are_data T t u && points_to_void T t) (are_data T t u && points_to_void T u)
  where
    by : (a b c : Bool)
        → MeetAs (if a then BothPoint t else (if b then BothPoint t else (if c then BothPoint u else NeverMeet))) false false (Pointer n t)
        (Pointer m u)
    by true b c = ((n, t, refl), (m, u, refl))
    by false true c = ((n, t, refl), (m, u, refl))
    by false false true = ((n, t, refl), (m, u, refl))
    by false false false = tt

meet : (T : Table) (null other : Bool) (x y : TypeShape) → MeetAs (meeting_of T null other x y) null other x y
meet T true true (Pointer n t) y = (n, refl, refl)
meet T false true (Pointer n t) y = (n, refl, refl)
meet T true true x (Pointer n u) = (n, refl, refl)
meet T true false x (Pointer n u) = (n, refl, refl)
meet T false false (Pointer n t) (Pointer m u) = both-meet T n m t u
meet T null other x y = tt

module _ (k : Context) where
  pub equated-suits : (m : Meeting) (at : Place) (a b : TypedExpr) (null other : Bool) → IsPlain (bare a) → IsPlain (bare b)
      → MeetAs m null other (shape_at k.table (type_of (bare a))) (shape_at k.table (type_of (bare b))) → AreEquated m at a b → Suits k a × Suits k b
  equated-suits (RightIsNull t) at a b null other p q m h = (
    plain-suits k a h.0,
    subst (λ (x : TypedExpr). Suits k x) (sym h.1)
        (m.0, t, shaped-pointer k.table (type_of a) m.0 t (ap (λ (x : TypedExpr). shape_at k.table (type_of x)) (sym (plain-bare a h.0)) ∙ m.1)),
  )
  equated-suits (LeftIsNull t) at a b null other p q m h = (
    subst (λ (x : TypedExpr). Suits k x) (sym h.0)
        (m.0, t, shaped-pointer k.table (type_of b) m.0 t (ap (λ (x : TypedExpr). shape_at k.table (type_of x)) (sym (plain-bare b h.1)) ∙ m.1)),
    plain-suits k b h.1,
  )
  equated-suits (BothPoint t) at a b null other p q m h = (plain-suits k a h.0, plain-suits k b h.1)
  equated-suits NeverMeet at a b null other p q m h = absurd h

  pub compared-suits : (operator : Binary) (a : TypedExpr) (at : Place) (b : TypedExpr) (t : TypeId) → IsCompared k.table operator a at b t
      → Suits k a × Suits k b
  compared-suits operator a at b t h = by h.compared
    where
      by : AreCompared k.table operator a at b → Suits k a × Suits k b
      by (inl g) = (plain-suits k a g.1.first.plain, plain-suits k b g.1.second.plain)
      by (inr g) =
          equated-suits (meeting k.table (bare a) (bare b)) at a b (is_null_constant k.table (bare a)) (is_null_constant k.table (bare b)) h.plain.0
          h.plain.1
          (meet k.table (is_null_constant k.table (bare a)) (is_null_constant k.table (bare b)) (shape_at k.table (type_of (bare a)))
          (shape_at k.table (type_of (bare b)))) g.1

  side_suits : (null : Bool) (from t : TypeId) (n : NodeId) (to : TypeId) → HasShape k.table t (Pointer n to)
      → (null ≡ false → (m : NodeId) × (u : TypeId) × (shape_at k.table from ≡ Pointer m u)) → Fits k (side_conversion null) from t
  side_suits true from t n to h g = (n, to, h)
  side_suits false from t n to h g = let p = g refl in ((p.0, p.1, shaped-pointer k.table from p.0 p.1 p.2), (n, to, h))

  sides : (m : Meeting) (null other : Bool) (x y : TypeShape) (to : TypeId) → MeetAs m null other x y → meeting_type m ≡ Some to
      → (null ≡ false → (n : NodeId) × (u : TypeId) × (x ≡ Pointer n u)) × (other ≡ false → (n : NodeId) × (u : TypeId) × (y ≡ Pointer n u))
  sides (RightIsNull t) null other x y to m h = ((λ q. (m.0, t, m.1)), (λ q. absurd (true≢false (sym m.2 ∙ q))))
  sides (LeftIsNull t) null other x y to m h = ((λ q. absurd (true≢false (sym m.2 ∙ q))), (λ q. (m.0, t, m.1)))
  sides (BothPoint t) null other x y to m h = ((λ q. m.0), (λ q. m.1))
  sides NeverMeet null other x y to m h = absurd (none-some to h)

  pub pointer_choice-suits : (c : TypedExpr) (at : Place) (a b : TypedExpr) (n : NodeId) (t : TypeId) → IsPointerChoice k.table c at a b n t
      → Suits k c × Suits k a × Suits k b
  pointer_choice-suits c at a b n t h =
      let x = is_null_constant k.table (bare a) in
      let y = is_null_constant k.table (bare b) in
      let p = shape_at k.table (type_of (bare a)) in
      let q = shape_at k.table (type_of (bare b)) in
      let s = sides (meeting k.table (bare a) (bare b)) x y p q h.to (meet k.table x y p q) h.meets in (
        plain-suits k c h.condition.plain,
        subst (λ (e : TypedExpr). Suits k e) (sym h.first) (side_suits x (type_of (bare a)) t n h.to h.type s.0),
        subst (λ (e : TypedExpr). Suits k e) (sym h.second) (side_suits y (type_of (bare b)) t n h.to h.type s.1),
      )

  pub choice-suits : (c : TypedExpr) (at : Place) (a b : TypedExpr) (t : TypeId) → IsChoice k.table c at a b t → Suits k c × Suits k a × Suits k b
  choice-suits c at a b t h = by h.1
    where
      by : IsIntegerChoice k.table at a b t ⊎ IsVoidChoice k.table a b t → Suits k c × Suits k a × Suits k b
      by (inl g) = (
        plain-suits k c h.0.plain,
        operand-suits k at _ g.left a g.first_converted g.first,
        operand-suits k at _ g.right b g.second_converted g.second,
      )
      by (inr g) = (plain-suits k c h.0.plain, plain-suits k a g.first.0, plain-suits k b g.second.0)

  -- Arguments

  pub argument-suits : (t : TypeId) (e : TypedExpr) → IsArgument k.table t e → Suits k e
  argument-suits t e h = (converted-suits k (first_place e) t e h).0

  pub runtime-suits : (t : RuntimeType) (e : TypedExpr) → IsRuntimeArgument k.table t e → Suits k e
  runtime-suits prototype.Void e h = absurd h
  runtime-suits prototype.Int e h = argument-suits h.0 e h.2
  runtime-suits prototype.UnsignedLong e h = argument-suits h.0 e h.2
  runtime-suits prototype.VoidPointer e h = plain-suits k e h.plain

pub zip-all : {A : Type 0} (R : A → TypedExpr → Type 0) (P : TypedExpr → Type 0) → ((a : A) (e : TypedExpr) → R a e → P e)
    → (xs : List A) (es : List TypedExpr) → AllZip R xs es → All P es
zip-all R P f [] [] h = All-nil P
zip-all R P f [] (e ∷ es) h = absurd h
zip-all R P f (x ∷ xs) [] h = absurd h
zip-all R P f (x ∷ xs) (e ∷ es) h = All-cons P e es (f x e h.0) (zip-all R P f xs es h.1)
