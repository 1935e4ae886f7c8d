-- Where no rule of a construct is broken, what is made of its operands is well typed.
use Rattle.std.proofs.Common.{◌≡◌, ℕ, ◌==◌, nat_lt, Bool, true, false, not, ◌&&◌, ◌||◌, List, Some, None, refl, ap, sym, subst, ◌∙◌, inl, inr, if◌then◌else◌}
use Rattle.cc_base.specs.declared.place.Place.{Place}
use Rattle.cc_base.specs.declared.number.NodeId.{NodeId}
use Rattle.cc_base.specs.declared.number.TypeId.{TypeId}
use Rattle.cc_base.specs.declared.fault.Fault.{Fault}
use Rattle.cc_base.specs.declared.fault.Fault.TheVariants.{Refused}
use Rattle.cc_base.specs.declared.fault.Rule.TheVariants as rule
use Rattle.std.proofs.lemmas.Option.{none-some}
use Rattle.c_types.specs.declared.shape.TypeShape.{TypeShape}
use Rattle.c_types.specs.declared.shape.TypeShape.TheVariants.{Void, Integer, Pointer, Array, Function, Struct, Union}
use Rattle.c_types.specs.Table.{Table, HasShape, shape_at}
use Rattle.c_types.specs.Sound.{IsWellFormed, IsIntegerSize, IsProper}
use Rattle.c_tree.specs.declared.operator.Unary.{Unary}
use Rattle.c_tree.specs.declared.operator.Unary.TheVariants as unary
use Rattle.c_tree.specs.declared.typed_word.Conversion.TheVariants as conversion
use Rattle.c_tree.specs.TypedTree as typed
use Rattle.c_tree.specs.TypedTree.{TypedExpr, TypedPlace}
use Rattle.c_tree.specs.TypedParts.{type_of}
use Rattle.integers.specs.Arithmetic.{IntegerType, int}
use Rattle.c_typing.specs.Conversions.{bare, IsPlain, to_integer, IsOperand}
use Rattle.c_typing.specs.Integers.{promoted}
use Rattle.c_typing.specs.Judging.{integer_type}
use Rattle.c_typing.specs.Operations.{pointed, pointed_place, element, is_arithmetic_prefix, promoted_operand, operator_on}
use Rattle.c_typing.specs.Rules.{IsPointer, IsInteger, IsPromoted, IsPrefix}
use Rattle.c_typing.specs.Scopes.{Scopes, is_complete_at}
use Rattle.c_typing.specs.Settled.{IsBasic, IsSettled, IsPartTyped}
use Rattle.c_typing.specs.Shapes.{integer_at, integer_of_shape, pointee_at, pointee_of_shape, is_pointer_shape, is_integer_shape, is_scalar_shape, is_void_shape, is_function_shape}
use Rattle.c_typing.specs.Tests.{first_broken, AsValue, target_tests, index_tests, prefix_tests, points_to_open, points_to_incomplete, is_index_pair}
use Rattle.c_typing.specs.Typing.{IsTyped}
use Rattle.c_typing_laws.proofs.ExtensionLaws.{no_true, is_in}

-- no rule of a list of one, two or three is broken
pub one_unbroken : (b : Bool) (f : Fault) → (if b then Some f else None) ≡ None → b ≡ false
one_unbroken true f h = absurd (none-some f (sym h))
one_unbroken false f h = refl

pub two_unbroken : (b c : Bool) (f g : Fault) → (if b then Some f else (if c then Some g else None)) ≡ None → (b ≡ false) × (c ≡ false)
two_unbroken true c f g h = absurd (none-some f (sym h))
two_unbroken false c f g h = (refl, one_unbroken c g h)

pub three_unbroken : (b c d : Bool) (f g k : Fault) → (if b then Some f else (if c then Some g else (if d then Some k else None))) ≡ None
    → (b ≡ false) × (c ≡ false) × (d ≡ false)
three_unbroken true c d f g k h = absurd (none-some f (sym h))
three_unbroken false c d f g k h = let r = two_unbroken c d g k h in (refl, r.0, r.1)

pub not_false : (b : Bool) → not b ≡ false → b ≡ true
not_false true h = refl
not_false false h = no_true (sym h)

pub or_left : (a b : Bool) → (a || b) ≡ false → a ≡ false
or_left true b h = h
or_left false b h = refl

pub or_right : (a b : Bool) → (a || b) ≡ false → b ≡ false
or_right true b h = no_true (sym h)
or_right false b h = h

-- the first of two fails, or the second does
pub either_false : (a b : Bool) → (a && b) ≡ false → a ≡ true → b ≡ false
either_false true b h p = h
either_false false b h p = no_true p

pub function_of : (x : TypeShape) → is_function_shape x ≡ true → (ps : List TypeId) × (r : TypeId) × (x ≡ Function ps r)
function_of (Function ps r) h = (ps, r, refl)
function_of Void h = no_true h
function_of (Integer bytes signed) h = no_true h
function_of (Pointer n t) h = no_true h
function_of (Array t n) h = no_true h
function_of (Struct n) h = no_true h
function_of (Union n) h = no_true h

pub has_shape : (T : Table) (t : TypeId) (x : TypeShape) → shape_at T t ≡ x → is_void_shape x ≡ false → HasShape T t x
has_shape T t x h v = (is_in T t (ap is_void_shape h ∙ v), h)

-- a pointer and an integer among settled values
pub pointer_value : (T : Table) (e : TypedExpr) (n : NodeId) (t : TypeId) → shape_at T (type_of e) ≡ Pointer n t → IsSettled T e → IsPointer T t e
pointer_value T e n t h k = record { plain = k.plain (ap is_scalar_shape h); type = (n, has_shape T (type_of e) (Pointer n t) h refl) }

pub integer_value : (T : Table) (e : TypedExpr) (m : ℕ) (r : Bool) → shape_at T (type_of e) ≡ Integer m r → IsSettled T e
    → IsInteger T (record { bytes = m; signed = r }) e
integer_value T e m r h k = record { plain = k.plain (ap is_scalar_shape h); type = ap integer_of_shape h }

-- `*`

target_place : (T : Table) (s s0 : Scopes) (at : Place) (e : TypedExpr) (n : NodeId) (t : TypeId) (function : Bool) → is_function_shape (shape_at T t) ≡ function
    → shape_at T (type_of e) ≡ Pointer n t → IsSettled T e → IsTyped T e s0 s → (not (is_complete_at T s t) && not function) ≡ false
    → IsPartTyped T (pointed_place at e t function) s0 s
target_place T s s0 at e n t true f h k te whole =
    let g = function_of (shape_at T t) f in (
      te,
      record {
        parameters = g.0;
        result = g.1;
        function = t;
        pointer = pointer_value T e n t h k;
        shape = has_shape T t (Function g.0 g.1) g.2 refl;
      },
    )
target_place T s s0 at e n t false f h k te whole =
    (te, record { pointer = pointer_value T e n t h k; complete = not_false (is_complete_at T s t) (and_true_false (not (is_complete_at T s t)) whole) })
  where
    and_true_false : (b : Bool) → (b && true) ≡ false → b ≡ false
    and_true_false true q = q
    and_true_false false q = refl

target_by : (T : Table) (s s0 : Scopes) (at : Place) (e : TypedExpr) (x : TypeShape) → shape_at T (type_of e) ≡ x → IsSettled T e → IsTyped T e s0 s
    → points_to_open T s x ≡ false → is_pointer_shape x ≡ true → IsPartTyped T (pointed T at e (pointee_of_shape x)) s0 s
target_by T s s0 at e (Pointer n t) h k te whole p = target_place T s s0 at e n t (is_function_shape (shape_at T t)) refl h k te whole
target_by T s s0 at e Void h k te whole p = no_true p
target_by T s s0 at e (Integer bytes signed) h k te whole p = no_true p
target_by T s s0 at e (Array t n) h k te whole p = no_true p
target_by T s s0 at e (Function ps r) h k te whole p = no_true p
target_by T s s0 at e (Struct n) h k te whole p = no_true p
target_by T s s0 at e (Union n) h k te whole p = no_true p

pub target_typed : (T : Table) (s0 s : Scopes) (at : Place) (e : TypedExpr) → IsSettled T e → IsTyped T e s0 s
    → first_broken (target_tests T s at (AsValue e)) ≡ None → IsPartTyped T (pointed T at e (pointee_at T (type_of e))) s0 s
target_typed T s0 s at e k te h =
    let x : TypeShape = shape_at T (type_of e) in
    let two = two_unbroken (points_to_open T s x) (not (is_pointer_shape x)) (Refused at rule.Incomplete) (Refused at rule.Mismatch) h in
    target_by T s s0 at e x refl k te two.0 (not_false (is_pointer_shape x) two.1)

-- `a[b]`

or_none : (b : Bool) → (b || false) ≡ false → b ≡ false
or_none true h = h
or_none false h = refl

index_by : (T : Table) (s0 m s : Scopes) (at : Place) (a b : TypedExpr) (x y : TypeShape) → shape_at T (type_of a) ≡ x → shape_at T (type_of b) ≡ y
    → IsSettled T a → IsSettled T b → IsTyped T a s0 m → IsTyped T b m s
    → (points_to_incomplete T s x || points_to_incomplete T s y) ≡ false → is_index_pair x y ≡ true
    → IsPartTyped T (element a at b (pointee_of_shape x) (pointee_of_shape y)) s0 s
index_by T s0 m s at a b (Pointer n t) (Integer w r) ha hb ka kb ta tb whole p = (
  m,
  ta,
  tb,
  record {
    pointer = pointer_value T a n t ha ka;
    complete = not_false (is_complete_at T s t) (or_none (not (is_complete_at T s t)) whole);
    kind = record { bytes = w; signed = r };
    integer = integer_value T b w r hb kb;
  },
)
index_by T s0 m s at a b (Integer w r) (Pointer n t) ha hb ka kb ta tb whole p = (
  m,
  ta,
  tb,
  record {
    pointer = pointer_value T b n t hb kb;
    complete = not_false (is_complete_at T s t) whole;
    kind = record { bytes = w; signed = r };
    integer = integer_value T a w r ha ka;
  },
)
index_by T s0 m s at a b x y ha hb ka kb ta tb whole p = no_true p

pub index_typed : (T : Table) (s0 m s : Scopes) (at : Place) (a b : TypedExpr) → IsSettled T a → IsSettled T b → IsTyped T a s0 m → IsTyped T b m s
    → first_broken (index_tests T s at (AsValue a) (AsValue b)) ≡ None
    → IsPartTyped T (element a at b (pointee_at T (type_of a)) (pointee_at T (type_of b))) s0 s
index_typed T s0 m s at a b ka kb ta tb h =
    let x : TypeShape = shape_at T (type_of a) in
    let y : TypeShape = shape_at T (type_of b) in
    let two = two_unbroken (is_index_pair x y && (points_to_incomplete T s x || points_to_incomplete T s y)) (not (is_index_pair x y))
    (Refused at rule.Incomplete) (Refused at rule.Mismatch) h in
    let pair = not_false (is_index_pair x y) two.1 in
    index_by T s0 m s at a b x y refl refl ka kb ta tb
    (either_false (is_index_pair x y) (points_to_incomplete T s x || points_to_incomplete T s y) two.0 pair) pair

-- Conversions to an integer type

pub to_integer-typed : (T : Table) (s0 s : Scopes) (at : Place) (t : TypeId) (e : TypedExpr) → IsPlain e → IsTyped T e s0 s → IsTyped T (to_integer at t e) s0 s
to_integer-typed T s0 s at t e plain te = by ((type_of e).0 == t.0)
  where
    by : (b : Bool) → IsTyped T (if b then e else typed.Convert conversion.IntegerToInteger at t e) s0 s
    by true = te
    by false = (te, plain)

pub to_integer-bare : (at : Place) (t : TypeId) (e : TypedExpr) → bare e ≡ e → bare (to_integer at t e) ≡ e
to_integer-bare at t e h = by ((type_of e).0 == t.0)
  where
    by : (b : Bool) → bare (if b then e else typed.Convert conversion.IntegerToInteger at t e) ≡ e
    by true = h
    by false = refl

-- the sizes of integer types stay among those of C
pub integer_size : (T : Table) (t : TypeId) (m : ℕ) (r : Bool) → IsWellFormed T → shape_at T t ≡ Integer m r → IsIntegerSize m
integer_size T t m r w h = subst (λ x. IsProper x) h (w.each t).proper

pub promoted_size : (k : IntegerType) → IsIntegerSize k.bytes → IsIntegerSize (promoted k).bytes
promoted_size k h = by (nat_lt k.bytes 4)
  where
    by : (b : Bool) → IsIntegerSize (if b then int else k).bytes
    by true = inr (inr (inl refl))
    by false = h

-- an operand that is converted
pub operand : (T : Table) (at : Place) (k : IntegerType) (e : TypedExpr) → IsBasic T → IsIntegerSize k.bytes → IsPlain e → bare e ≡ e
    → IsOperand T at k (to_integer at (integer_type k) e)
operand T at k e basic size plain own =
    let same = to_integer-bare at (integer_type k) e own in
    record {
      type = integer_type k;
      shape = basic.integers k size;
      plain = subst IsPlain (sym same) plain;
      made = ap (to_integer at (integer_type k)) (sym same);
    }

-- `+`, `-` and `~`

abbrev is_sign : Unary → Bool
is_sign unary.Plus = true
is_sign unary.Minus = true
is_sign unary.Complement = true
is_sign operator = false

sign_rule : (operator : Unary) (T : Table) (at : Place) (e : TypedExpr) (t : TypeId) → is_sign operator ≡ true → IsPromoted T at e t → IsPrefix operator T at e t
sign_rule unary.Plus T at e t p h = h
sign_rule unary.Minus T at e t p h = h
sign_rule unary.Complement T at e t p h = h
sign_rule unary.Not T at e t p h = no_true p
sign_rule unary.SizeOf T at e t p h = no_true p
sign_rule unary.AddressOf T at e t p h = no_true p
sign_rule unary.Dereference T at e t p h = no_true p
sign_rule unary.Increment T at e t p h = no_true p
sign_rule unary.Decrement T at e t p h = no_true p

sign_by : (operator : Unary) (T : Table) (s0 s : Scopes) (at : Place) (e : TypedExpr) (x : TypeShape) → is_sign operator ≡ true → shape_at T (type_of e) ≡ x
    → IsBasic T → IsSettled T e → IsTyped T e s0 s → is_integer_shape x ≡ true → IsTyped T (promoted_operand operator at e (integer_of_shape x)) s0 s
sign_by operator T s0 s at e (Integer m r) sign h basic k te p =
    let kind : IntegerType = record { bytes = m; signed = r } in
    let plain : IsPlain e = k.plain (ap is_scalar_shape h) in
    let size = promoted_size kind (integer_size T (type_of e) m r basic.formed h) in (
      to_integer-typed T s0 s at (integer_type (promoted kind)) e plain te,
      sign_rule operator T at (to_integer at (integer_type (promoted kind)) e) (integer_type (promoted kind)) sign (record {
        kind = kind;
        integer = ap (λ v. integer_at T (type_of v)) (to_integer-bare at (integer_type (promoted kind)) e k.bare) ∙ ap integer_of_shape h;
        operand = operand T at (promoted kind) e basic size plain k.bare;
        type = basic.integers (promoted kind) size;
      }),
    )
sign_by operator T s0 s at e Void sign h basic k te p = no_true p
sign_by operator T s0 s at e (Pointer n t) sign h basic k te p = no_true p
sign_by operator T s0 s at e (Array t n) sign h basic k te p = no_true p
sign_by operator T s0 s at e (Function ps q) sign h basic k te p = no_true p
sign_by operator T s0 s at e (Struct n) sign h basic k te p = no_true p
sign_by operator T s0 s at e (Union n) sign h basic k te p = no_true p

sign_typed : (operator : Unary) (T : Table) (s0 s : Scopes) (at : Place) (e : TypedExpr) → is_sign operator ≡ true → IsBasic T → IsSettled T e → IsTyped T e s0 s
    → not (is_integer_shape (shape_at T (type_of e))) ≡ false → IsTyped T (promoted_operand operator at e (integer_at T (type_of e))) s0 s
sign_typed operator T s0 s at e sign basic k te h =
    sign_by operator T s0 s at e (shape_at T (type_of e)) sign refl basic k te (not_false (is_integer_shape (shape_at T (type_of e))) h)

-- `+`, `-`, `~` and `!`
pub prefix_typed : (operator : Unary) (T : Table) (s0 s : Scopes) (at : Place) (e : TypedExpr) → is_arithmetic_prefix operator ≡ true → IsBasic T → IsSettled T e
    → IsTyped T e s0 s → first_broken (prefix_tests T s operator at (AsValue e)) ≡ None → IsTyped T (operator_on T operator at e) s0 s
prefix_typed unary.Plus T s0 s at e p basic k te h = sign_typed unary.Plus T s0 s at e refl basic k te
    (one_unbroken (not (is_integer_shape (shape_at T (type_of e)))) (Refused at rule.Mismatch) h)
prefix_typed unary.Minus T s0 s at e p basic k te h = sign_typed unary.Minus T s0 s at e refl basic k te
    (one_unbroken (not (is_integer_shape (shape_at T (type_of e)))) (Refused at rule.Mismatch) h)
prefix_typed unary.Complement T s0 s at e p basic k te h = sign_typed unary.Complement T s0 s at e refl basic k te
    (one_unbroken (not (is_integer_shape (shape_at T (type_of e)))) (Refused at rule.Mismatch) h)
prefix_typed unary.Not T s0 s at e p basic k te h =
    let x : TypeShape = shape_at T (type_of e) in
    let scalar = not_false (is_scalar_shape x) (one_unbroken (not (is_scalar_shape x)) (Refused at rule.Mismatch) h) in
    (te, (record { plain = k.plain scalar; scalar = scalar }, basic.integers int (inr (inr (inl refl)))))
prefix_typed unary.SizeOf T s0 s at e p basic k te h = no_true p
prefix_typed unary.AddressOf T s0 s at e p basic k te h = no_true p
prefix_typed unary.Dereference T s0 s at e p basic k te h = no_true p
prefix_typed unary.Increment T s0 s at e p basic k te h = no_true p
prefix_typed unary.Decrement T s0 s at e p basic k te h = no_true p
