-- A well typed operation on one operand, a well typed index and a well typed member break no rule.
use Rattle.std.proofs.Common.{◌≡◌, ℕ, Bool, true, false, not, ◌&&◌, ◌||◌, List, [], ◌∷◌, Option, Some, None, refl, ap, sym, ◌∙◌}
use Rattle.cc_base.specs.declared.place.Place.{Place}
use Rattle.cc_base.specs.declared.number.TypeId.{TypeId}
use Rattle.cc_base.specs.declared.fault.Rule.TheVariants as rule
use Rattle.c_types.specs.declared.shape.TypeShape.{TypeShape}
use Rattle.c_types.specs.declared.shape.TypeShape.TheVariants.{Void, Integer, Pointer, Array, Function, Struct, Union}
use Rattle.c_types.specs.Table.{Table, shape_at, is_aggregate_shape}
use Rattle.c_tree.specs.declared.leaf.Identifier.{Identifier}
use Rattle.c_tree.specs.declared.operator.Unary.{Unary}
use Rattle.c_tree.specs.declared.operator.Unary.TheVariants as unary
use Rattle.c_tree.specs.declared.typed_word.Side.{Side}
use Rattle.c_tree.specs.declared.typed_word.Side.TheVariants as side
use Rattle.c_tree.specs.TypedTree as typed
use Rattle.c_tree.specs.TypedTree.{TypedExpr, TypedPlace}
use Rattle.c_tree.specs.TypedParts.{type_of, place_type}
use Rattle.c_typing.specs.Conversions.{bare}
use Rattle.c_typing.specs.Operations.{is_arithmetic_prefix}
use Rattle.c_typing.specs.Refusals.{type_size_tests}
use Rattle.c_typing.specs.Rules.{IsElement, IsPrefix, IsPromoted, IsTarget, IsFunctionAt, IsStep, IsSize, HasMember, IsMemberAt, is_lvalue, is_steppable_shape, is_designator, pointer_behind, number_of_shape}
use Rattle.c_typing.specs.Scopes.{Scopes, is_complete_at}
use Rattle.c_typing.specs.Settled.{IsAlike}
use Rattle.c_typing.specs.Shapes.{is_integer_shape, is_pointer_shape, is_scalar_shape, is_array_shape, is_function_shape, shape_of_integer}
use Rattle.c_typing.specs.Tests.{Elaborated, AsPlace, AsValue, Test, broken_at, first_broken, decayed, has_some, index_tests, target_tests, prefix_tests, address_tests, size_tests, step_tests, is_array_part, shape_of, member_tests, pointed_shape, points_to_incomplete, points_to_open, is_index_pair, names_member}
use Rattle.c_typing_laws.proofs.TestsAlike.{index-alike, target-alike, prefix-alike}
use Rattle.c_typing_laws.proofs.InfixAlike.{pointed_flat}
use Rattle.c_typing_unique.proofs.Shapes.{no_true, is-integer}
use Rattle.c_typing_exact.specs.Passing.{Passes}
use Rattle.c_typing_exact.proofs.Unbroken.{passes_one, passes_and, and_off, off}
use Rattle.c_typing_exact.proofs.InfixPasses.{integer_shape, plain_shape, plain_scalar}

-- `a[b]`

index_on : Table → Scopes → Place → TypeShape → TypeShape → List Test
index_on T s at x y =
    broken_at rule.Incomplete at (is_index_pair x y && (points_to_incomplete T s x || points_to_incomplete T s y))
    ∷ broken_at rule.Mismatch at (not (is_index_pair x y))
    ∷ []

pub index-passes : (T : Table) (s : Scopes) (which : Side) (at : Place) (a b : TypedExpr) (t : TypeId) (x y : Elaborated) → IsElement T s which a b t
    → IsAlike T x (bare a) → IsAlike T y (bare b) → Passes (index_tests T s at x y)
unfolding index_on
index-passes T s side.Left at a b t x y h p q =
    ap first_broken (index-alike T s at x y (bare a) (bare b) p q)
    ∙ (λ i. first_broken (index_on T s at (plain_shape T a (Pointer h.pointer.type.0 t) h.pointer.plain h.pointer.type.1.1 i)
    (plain_shape T b (shape_of_integer h.kind) h.integer.plain (integer_shape (shape_at T (type_of b)) h.kind h.integer.type) i)))
    ∙ passes_and rule.Incomplete at (not (is_complete_at T s t) || false) (broken_at rule.Mismatch at false ∷ []) (ap (λ (c : Bool). not c || false) h.complete) refl
index-passes T s side.Right at a b t x y h p q =
    ap first_broken (index-alike T s at x y (bare a) (bare b) p q)
    ∙ (λ i. first_broken (index_on T s at
    (plain_shape T a (shape_of_integer h.kind) h.integer.plain (integer_shape (shape_at T (type_of a)) h.kind h.integer.type) i)
    (plain_shape T b (Pointer h.pointer.type.0 t) h.pointer.plain h.pointer.type.1.1 i)))
    ∙ passes_and rule.Incomplete at (not (is_complete_at T s t)) (broken_at rule.Mismatch at false ∷ []) (ap not h.complete) refl

-- `*`

target_on : Table → Scopes → Place → TypeShape → List Test
target_on T s at x = broken_at rule.Incomplete at (points_to_open T s x) ∷ broken_at rule.Mismatch at (not (is_pointer_shape x)) ∷ []

pub target-passes : (T : Table) (s : Scopes) (at : Place) (e : TypedExpr) (t : TypeId) (x : Elaborated) → IsTarget T s e t → IsAlike T x (bare e) → Passes (target_tests T s at x)
unfolding target_on
target-passes T s at e t x h p =
    ap first_broken (target-alike T s at x (bare e) p)
    ∙ (λ i. first_broken (target_on T s at (plain_shape T e (Pointer h.pointer.type.0 t) h.pointer.plain h.pointer.type.1.1 i)))
    ∙ passes_and rule.Incomplete at (not (is_complete_at T s t) && not (is_function_shape (shape_at T t))) (broken_at rule.Mismatch at false ∷ [])
    (ap (λ (c : Bool). not c && not (is_function_shape (shape_at T t))) h.complete) refl

pub function-passes : (T : Table) (s : Scopes) (at : Place) (e : TypedExpr) (x : Elaborated) → IsFunctionAt T e → IsAlike T x (bare e) → Passes (target_tests T s at x)
unfolding target_on
function-passes T s at e x h p =
    ap first_broken (target-alike T s at x (bare e) p)
    ∙ (λ i. first_broken (target_on T s at (plain_shape T e (Pointer h.pointer.type.0 h.function) h.pointer.plain h.pointer.type.1.1 i)))
    ∙ passes_and rule.Incomplete at (not (is_complete_at T s h.function) && not (is_function_shape (shape_at T h.function))) (broken_at rule.Mismatch at false ∷ [])
    (and_off (not (is_complete_at T s h.function)) (not (is_function_shape (shape_at T h.function))) (ap (λ (z : TypeShape). not (is_function_shape z)) h.shape.1)) refl

-- `+`, `-`, `~` and `!`

promoted_on : (T : Table) (at : Place) (e : TypedExpr) (t : TypeId) → IsPromoted T at e t → is_integer_shape (shape_at T (type_of (bare e))) ≡ true
promoted_on T at e t h = is-integer T (type_of (bare e)) h.kind h.integer

value-passes : (operator : Unary) (T : Table) (s : Scopes) (at : Place) (e : TypedExpr) (t : TypeId) → IsPrefix operator T at e t
    → (is_arithmetic_prefix operator ≡ true) × Passes (prefix_tests T s operator at (AsValue (bare e)))
value-passes unary.Not T s at e t h =
    (refl, passes_one rule.Mismatch at (not (is_scalar_shape (shape_at T (type_of (bare e))))) (off (is_scalar_shape (shape_at T (type_of (bare e)))) (plain_scalar T e h.0.plain h.0.scalar)))
value-passes unary.Plus T s at e t h =
    (refl, passes_one rule.Mismatch at (not (is_integer_shape (shape_at T (type_of (bare e))))) (off (is_integer_shape (shape_at T (type_of (bare e)))) (promoted_on T at e t h)))
value-passes unary.Minus T s at e t h =
    (refl, passes_one rule.Mismatch at (not (is_integer_shape (shape_at T (type_of (bare e))))) (off (is_integer_shape (shape_at T (type_of (bare e)))) (promoted_on T at e t h)))
value-passes unary.Complement T s at e t h =
    (refl, passes_one rule.Mismatch at (not (is_integer_shape (shape_at T (type_of (bare e))))) (off (is_integer_shape (shape_at T (type_of (bare e)))) (promoted_on T at e t h)))
value-passes unary.AddressOf T s at e t h = absurd h
value-passes unary.Dereference T s at e t h = absurd h
value-passes unary.SizeOf T s at e t h = absurd h
value-passes unary.Increment T s at e t h = absurd h
value-passes unary.Decrement T s at e t h = absurd h

pub prefix-passes : (operator : Unary) (T : Table) (s : Scopes) (at : Place) (e : TypedExpr) (t : TypeId) (x : Elaborated) → IsPrefix operator T at e t → IsAlike T x (bare e)
    → Passes (prefix_tests T s operator at x)
prefix-passes operator T s at e t x h p =
    let one = value-passes operator T s at e t h in
    ap first_broken (prefix-alike operator T s at x (bare e) one.0 p) ∙ one.1

-- `&`

pub behind_lvalue : (p : TypedPlace) (e : TypedExpr) → pointer_behind p ≡ Some e → is_lvalue p ≡ true
behind_lvalue (typed.Target at e t) f h = refl
behind_lvalue (typed.Element which a at b t) f h = refl
behind_lvalue (typed.ParenPlace at p) f h = behind_lvalue p f h
behind_lvalue (typed.Variable name home t) f h = refl
behind_lvalue (typed.String pieces home t) f h = refl
behind_lvalue (typed.MemberAt e at name i n t) f h = refl
behind_lvalue (typed.Member p at name i n t) f h = none_some h
  where
    none_some : {P : Type 0} → None ≡ Some f → P
    none_some q = absurd (let w : None ≡ Some f = q in cc)
behind_lvalue (typed.StructAssign p at q) f h = absurd (let w : None ≡ Some f = h in cc)
behind_lvalue (typed.StructConditional c at p q) f h = absurd (let w : None ≡ Some f = h in cc)
behind_lvalue (typed.StructComma e p) f h = absurd (let w : None ≡ Some f = h in cc)

pub address-passes : (at : Place) (p : TypedPlace) → is_lvalue p ≡ true → Passes (address_tests at (AsPlace p))
address-passes at p h = passes_one rule.NotPlace at (not (is_lvalue p || false)) (ap (λ (b : Bool). not (b || false)) h)

pub designator-passes : (at : Place) (e : TypedExpr) → is_designator e ≡ true → Passes (address_tests at (AsValue e))
designator-passes at e h = passes_one rule.NotPlace at (not (false || is_designator e)) (ap (λ (b : Bool). not (false || b)) h)

-- `sizeof`

pub place-size-passes : (T : Table) (s : Scopes) (at : Place) (p : TypedPlace) (size : ℕ) (t : TypeId) → IsSize T s (place_type p) size t → Passes (size_tests T s at (AsPlace p))
place-size-passes T s at p size t h = passes_one rule.Incomplete at (not (is_complete_at T s (place_type p))) (ap not h.complete)

pub value-size-passes : (T : Table) (s : Scopes) (at : Place) (e : TypedExpr) (size : ℕ) (t : TypeId) → is_designator e ≡ false → IsSize T s (type_of e) size t
    → Passes (size_tests T s at (AsValue e))
value-size-passes T s at e size t d h = passes_one rule.Incomplete at (not (is_complete_at T s (type_of e) && not (is_designator e))) (λ i. not (h.complete i && not (d i)))

pub type-size-passes : (T : Table) (s : Scopes) (at : Place) (of : TypeId) (size : ℕ) (t : TypeId) → IsSize T s of size t → Passes (type_size_tests T s at of)
type-size-passes T s at of size t h = passes_one rule.Incomplete at (not (is_complete_at T s of)) (ap not h.complete)

-- `++` and `--`

array_by : (T : Table) (p : TypedPlace) (x : TypeShape) → shape_at T (place_type p) ≡ x → is_array_shape x ≡ false → is_array_part T (AsPlace p) ≡ false
array_by T p (Array t n) q h = no_true (sym h)
array_by T p Void q h = rw q refl
array_by T p (Integer b r) q h = rw q refl
array_by T p (Pointer n t) q h = rw q refl
array_by T p (Function ps r) q h = rw q refl
array_by T p (Struct n) q h = rw q refl
array_by T p (Union n) q h = rw q refl

pub no_array : (T : Table) (p : TypedPlace) → is_array_shape (shape_at T (place_type p)) ≡ false → is_array_part T (AsPlace p) ≡ false
no_array T p h = array_by T p (shape_at T (place_type p)) refl h

steppable : (T : Table) (s : Scopes) (x : TypeShape) → is_steppable_shape T s x ≡ true
    → (points_to_incomplete T s (decayed x) ≡ false) × (is_scalar_shape (decayed x) ≡ true) × (is_array_shape x ≡ false)
steppable T s (Integer b r) h = (refl, refl, refl)
steppable T s (Pointer n t) h = (ap not h, refl, refl)
steppable T s x h = no_true h

pub step-passes : (T : Table) (s : Scopes) (at : Place) (p : TypedPlace) → IsStep T s p → Passes (step_tests T s at (AsPlace p))
step-passes T s at p h =
    let x : TypeShape = shape_at T (place_type p) in
    let one = steppable T s (shape_at T (place_type p)) h.steps in
    let array = no_array T p one.2 in
    let place = h.lvalue in
    passes_and rule.Incomplete at (points_to_incomplete T s (decayed x))
    (broken_at rule.Mismatch at (not (is_scalar_shape (decayed x))) ∷ broken_at rule.NotPlace at (not (is_lvalue p) || is_array_part T (AsPlace p)) ∷ []) one.0
    (passes_and rule.Mismatch at (not (is_scalar_shape (decayed x))) (broken_at rule.NotPlace at (not (is_lvalue p) || is_array_part T (AsPlace p)) ∷ [])
    (off (is_scalar_shape (decayed x)) one.1)
    (passes_one rule.NotPlace at (not (is_lvalue p) || is_array_part T (AsPlace p)) (λ i. not (place i) || array i)))

-- Members

numbered_shape : (x : TypeShape) (n : ℕ) → number_of_shape x ≡ Some n → (is_aggregate_shape x ≡ true) × (decayed x ≡ x)
numbered_shape (Struct m) n h = (refl, refl)
numbered_shape (Union m) n h = (refl, refl)
numbered_shape Void n h = cc
numbered_shape (Integer b r) n h = cc
numbered_shape (Pointer m t) n h = cc
numbered_shape (Array t m) n h = cc
numbered_shape (Function ps r) n h = cc

member_shape : (T : Table) (s : Scopes) (at : Place) (whole : TypeId) (name : Identifier) (i : ℕ) (t : TypeId) (x : TypeShape) → shape_at T whole ≡ x → HasMember T s whole name i t
    → Passes (member_tests s x at name.bytes name.place)
member_shape T s at whole name i t x q h =
    let number = ap number_of_shape (sym q) ∙ h.declared in
    let aggregate = (numbered_shape x h.number number).0 in
    let named : names_member s (number_of_shape x) name.bytes ≡ true =
    ap (λ (o : Option ℕ). names_member s o name.bytes) number ∙ ap has_some h.named in
    passes_and rule.UnknownName name.place (is_aggregate_shape x && not (names_member s (number_of_shape x) name.bytes)) (broken_at rule.Mismatch at (not (is_aggregate_shape x)) ∷ [])
    (and_off (is_aggregate_shape x) (not (names_member s (number_of_shape x) name.bytes)) (ap not named))
    (passes_one rule.Mismatch at (not (is_aggregate_shape x)) (off (is_aggregate_shape x) aggregate))

pub dot-passes : (T : Table) (s : Scopes) (at : Place) (p : TypedPlace) (name : Identifier) (i : ℕ) (t : TypeId) → HasMember T s (place_type p) name i t
    → Passes (member_tests s (shape_of T (AsPlace p)) at name.bytes name.place)
dot-passes T s at p name i t h =
    member_shape T s at (place_type p) name i t (decayed (shape_at T (place_type p))) (sym (numbered_shape (shape_at T (place_type p)) h.number h.declared).1) h

pub arrow-passes : (T : Table) (s : Scopes) (at : Place) (e : TypedExpr) (name : Identifier) (i : ℕ) (t : TypeId) (x : Elaborated) → IsMemberAt T s e name i t → IsAlike T x (bare e)
    → Passes (member_tests s (pointed_shape T (shape_of T x)) at name.bytes name.place)
arrow-passes T s at e name i t x h p =
    let pointed : pointed_shape T (shape_of T x) ≡ shape_at T h.whole =
    pointed_flat T (shape_of T x) ∙ ap (pointed_shape T) p.shape ∙ sym (pointed_flat T (shape_at T (type_of (bare e))))
    ∙ ap (pointed_shape T) (plain_shape T e (Pointer h.pointer.type.0 h.whole) h.pointer.plain h.pointer.type.1.1) in
    member_shape T s at h.whole name i t (pointed_shape T (shape_of T x)) (sym pointed) h.member
