-- The rules of an operator are broken by the values of its operands exactly where they are broken by the operands as they stand: the node
-- of an array's address plays no part.
use Rattle.std.proofs.Common.{◌≡◌, ℕ, Bool, true, false, not, ◌&&◌, ◌||◌, List, [], ◌∷◌, None, refl, ap, sym, subst, ◌∙◌, inl, inr}
use Rattle.cc_base.specs.declared.place.Place.{Place}
use Rattle.cc_base.specs.declared.number.NodeId.{NodeId}
use Rattle.cc_base.specs.declared.number.TypeId.{TypeId}
use Rattle.cc_base.specs.declared.fault.Fault.TheVariants.{Refused, TooLarge}
use Rattle.cc_base.specs.declared.fault.Limit.TheVariants.{Types}
use Rattle.cc_base.specs.declared.fault.Rule.{Rule}
use Rattle.cc_base.specs.declared.fault.Rule.TheVariants as rule
use Rattle.c_types.specs.declared.shape.TypeShape.{TypeShape}
use Rattle.c_types.specs.declared.shape.TypeShape.TheVariants.{Void, Integer, Pointer, Array, Function, Struct, Union}
use Rattle.c_types.specs.Table.{Table, shape_at, is_aggregate_shape}
use Rattle.c_tree.specs.declared.operator.Unary.{Unary}
use Rattle.c_tree.specs.declared.operator.Unary.TheVariants as unary
use Rattle.c_tree.specs.Tree as tree
use Rattle.c_tree.specs.TypedTree as typed
use Rattle.c_tree.specs.TypedTree.{TypedExpr, TypedPlace}
use Rattle.c_tree.specs.TypedParts.{type_of, place_type}
use Rattle.c_typing.specs.Constants.{constant_value, is_cast_zero, is_zero_value}
use Rattle.c_typing.specs.Conversions.{is_taken_over}
use Rattle.c_typing.specs.Judging.{State, Gives, Stops, next, pure, new_pointer}
use Rattle.c_typing.specs.Operands.{Value, made_raw, reading_of, place_value, value_of}
use Rattle.c_typing.specs.Operations.{is_arithmetic_prefix, target_of, prefix_of, index}
use Rattle.c_typing.specs.Refusals.{Fails, IsElaborated}
use Rattle.c_typing.specs.Scopes.{Scopes}
use Rattle.c_typing.specs.Settled.{IsKnown, flat, IsAlike}
use Rattle.c_typing.specs.Shapes.{is_scalar_shape, is_integer_shape, is_pointer_shape}
use Rattle.c_typing.specs.Tests.{Elaborated, AsPlace, AsValue, AsAllocation, Test, broken_at, first_broken, decayed, shape_of, points_to_open, points_to_incomplete, is_index_pair, target_tests, prefix_tests, index_tests}
use Rattle.c_typing_laws.proofs.ExtensionLaws.{no_true}
use Rattle.c_typing_laws.proofs.ConstructLaws.{has_shape}
use Rattle.c_typing_laws.proofs.Outcomes.{gives-value, gives-state, never-gives, bind-gives}
use Rattle.c_typing_laws.proofs.KnownStates.{new_pointer-gives}
use Rattle.c_typing_laws.proofs.KeptRules.{has-kept}
use Rattle.c_typing_laws.proofs.RefusedConstructs.{target-refused, prefix-refused, index-refused}
use Rattle.c_typing_laws.proofs.JudgedMembers.{raw_made}

scalar_flat : (x : TypeShape) → is_scalar_shape x ≡ true → flat (decayed x) ≡ flat x
scalar_flat (Integer bytes signed) h = refl
scalar_flat (Pointer n t) h = refl
scalar_flat Void h = refl
scalar_flat (Array t n) h = no_true h
scalar_flat (Function ps r) h = refl
scalar_flat (Struct n) h = refl
scalar_flat (Union n) h = refl

aggregate_flat : (x : TypeShape) → is_aggregate_shape x ≡ true → flat (decayed x) ≡ flat x
aggregate_flat (Integer bytes signed) h = refl
aggregate_flat (Pointer n t) h = refl
aggregate_flat Void h = refl
aggregate_flat (Array t n) h = no_true h
aggregate_flat (Function ps r) h = refl
aggregate_flat (Struct n) h = refl
aggregate_flat (Union n) h = refl

raw_type : (n : NodeId) (t : TypeId) (e : TypedExpr) → is_taken_over e ≡ true → type_of (made_raw n t e) ≡ t
raw_type n t (typed.Paren at e) h = raw_type n t e h
raw_type n t (typed.AllocateFor runtime f at arguments u) h = refl
raw_type n t e h = no_true h

raw_constant : (T : Table) (n : NodeId) (t : TypeId) (e : TypedExpr) → is_taken_over e ≡ true → (constant_value T (made_raw n t e) ≡ None) × (is_cast_zero T (made_raw n t e) ≡ false)
raw_constant T n t (typed.Paren at e) h = raw_constant T n t e h
raw_constant T n t (typed.AllocateFor runtime f at arguments u) h = (refl, refl)
raw_constant T n t e h = no_true h

module _ (at : Place) (p : TypedPlace) (v : TypedExpr) (s r : State) (k : IsKnown s) where
  unread-alike : flat (decayed (shape_at s.table (place_type p))) ≡ flat (shape_at s.table (place_type p)) → Gives (typed.Unread p) s ≡ Gives v r → IsAlike r.table (AsPlace p) v
  unread-alike f q =
      subst (λ (m : State). IsAlike m.table (AsPlace p) v) (gives-state (typed.Unread p) v s r q)
      (subst (IsAlike s.table (AsPlace p)) (gives-value (typed.Unread p) v s r q) (record { shape = f; null = refl; value = inr (refl, refl) }))

  read-alike : flat (decayed (shape_at s.table (place_type p))) ≡ flat (shape_at s.table (place_type p)) → Gives (typed.Read p) s ≡ Gives v r → IsAlike r.table (AsPlace p) v
  read-alike f q =
      subst (λ (m : State). IsAlike m.table (AsPlace p) v) (gives-state (typed.Read p) v s r q)
      (subst (IsAlike s.table (AsPlace p)) (gives-value (typed.Read p) v s r q) (record { shape = f; null = refl; value = inr (refl, refl) }))

  decayed-alike : (element : TypeId) (count : ℕ) → shape_at s.table (place_type p) ≡ Array element count
      → next (new_pointer at element s) (λ made. pure (typed.Decay p made.node made.type)) ≡ Gives v r → IsAlike r.table (AsPlace p) v
  decayed-alike element count a q =
      let one = bind-gives (new_pointer at element s) (λ made. pure (typed.Decay p made.node made.type)) v r q in
      let found = new_pointer-gives at element one.0 s one.1 k one.2 in
      let array = has-kept s.table one.1.table found.1.goes.extends k.basic (place_type p) (Array element count) (has_shape s.table (place_type p) (Array element count) a refl) in
      subst (λ (m : State). IsAlike m.table (AsPlace p) v) (gives-state (typed.Decay p one.0.node one.0.type) v one.1 r one.3)
      (subst (IsAlike one.1.table (AsPlace p)) (gives-value (typed.Decay p one.0.node one.0.type) v one.1 r one.3) (record {
        shape = ap (λ (x : TypeShape). flat (decayed x)) array.1 ∙ sym (ap flat found.0.1);
        null = refl;
        value = inr (refl, refl);
      }))

  place-alike : (x : TypeShape) → shape_at s.table (place_type p) ≡ x → place_value at p (reading_of x) s ≡ Gives v r → IsAlike r.table (AsPlace p) v
  unfolding place_value
  place-alike (Integer bytes signed) a q = read-alike (scalar_flat (shape_at s.table (place_type p)) (ap is_scalar_shape a)) q
  place-alike (Pointer n t) a q = read-alike (scalar_flat (shape_at s.table (place_type p)) (ap is_scalar_shape a)) q
  place-alike (Struct n) a q = unread-alike (aggregate_flat (shape_at s.table (place_type p)) (ap is_aggregate_shape a)) q
  place-alike (Union n) a q = unread-alike (aggregate_flat (shape_at s.table (place_type p)) (ap is_aggregate_shape a)) q
  place-alike (Array element count) a q = decayed-alike element count a q
  place-alike Void a q = never-gives v (TooLarge at Types) s r q
  place-alike (Function ps result) a q = never-gives v (TooLarge at Types) s r q

-- the value of a part is alike to it
pub value-alike : (e : tree.Expr) (at : Place) (x : Elaborated) (v : TypedExpr) (s0 : Scopes) (s r : State) → IsKnown s → IsElaborated s.table e x s0 s.seen.scopes
    → value_of at x s ≡ Gives v r → IsAlike r.table x v
unfolding value_of
value-alike e at (AsPlace p) v s0 s r k el h = place-alike at p v s r k (shape_at s.table (place_type p)) refl h
value-alike e at (AsValue w) v s0 s r k el h =
    subst (IsAlike r.table (AsValue w)) (gives-value w v s r h) (record { shape = refl; null = refl; value = inl refl })
value-alike e at (AsAllocation w) v s0 s r k el h =
    let made = raw_made at w v s r k h in
    let n : NodeId = made.0 in
    let t : TypeId = made.1 in
    let constant = raw_constant r.table made.0 made.1 w el.2 in
    subst (IsAlike r.table (AsAllocation w)) (sym made.2) (record {
      shape = sym (ap (λ (u : TypeId). flat (shape_at r.table u)) (raw_type made.0 made.1 w el.2) ∙ ap flat made.3.1);
      null = sym ((λ i. is_zero_value (constant.0 i) || constant.1 i));
      value = inr (refl, constant.0);
    })

-- tests that read shapes alone

target_at : Table → Scopes → Place → TypeShape → List Test
target_at T s at x = broken_at rule.Incomplete at (points_to_open T s x) ∷ broken_at rule.Mismatch at (not (is_pointer_shape x)) ∷ []

target_flat : (T : Table) (s : Scopes) (at : Place) (x : TypeShape) → target_at T s at x ≡ target_at T s at (flat x)
unfolding target_at
target_flat T s at (Pointer n t) = refl
target_flat T s at x = refl

pub target-alike : (T : Table) (s : Scopes) (at : Place) (x : Elaborated) (v : TypedExpr) → IsAlike T x v → target_tests T s at x ≡ target_tests T s at (AsValue v)
unfolding target_at
target-alike T s at x v a =
    target_flat T s at (shape_of T x) ∙ ap (target_at T s at) a.shape ∙ sym (target_flat T s at (shape_at T (type_of v)))

integer_flat : (x : TypeShape) → is_integer_shape x ≡ is_integer_shape (flat x)
integer_flat (Pointer n t) = refl
integer_flat x = refl

scalar_same : (x : TypeShape) → is_scalar_shape x ≡ is_scalar_shape (flat x)
scalar_same (Pointer n t) = refl
scalar_same x = refl

mismatch_at : Place → Bool → List Test
mismatch_at at b = broken_at rule.Mismatch at (not b) ∷ []

pub prefix-alike : (operator : Unary) (T : Table) (s : Scopes) (at : Place) (x : Elaborated) (v : TypedExpr) → is_arithmetic_prefix operator ≡ true → IsAlike T x v
    → prefix_tests T s operator at x ≡ prefix_tests T s operator at (AsValue v)
unfolding mismatch_at
prefix-alike unary.Plus T s at x v p a =
    ap (mismatch_at at) (integer_flat (shape_of T x) ∙ ap is_integer_shape a.shape ∙ sym (integer_flat (shape_at T (type_of v))))
prefix-alike unary.Minus T s at x v p a =
    ap (mismatch_at at) (integer_flat (shape_of T x) ∙ ap is_integer_shape a.shape ∙ sym (integer_flat (shape_at T (type_of v))))
prefix-alike unary.Complement T s at x v p a =
    ap (mismatch_at at) (integer_flat (shape_of T x) ∙ ap is_integer_shape a.shape ∙ sym (integer_flat (shape_at T (type_of v))))
prefix-alike unary.Not T s at x v p a =
    ap (mismatch_at at) (scalar_same (shape_of T x) ∙ ap is_scalar_shape a.shape ∙ sym (scalar_same (shape_at T (type_of v))))
prefix-alike unary.SizeOf T s at x v p a = no_true p
prefix-alike unary.AddressOf T s at x v p a = no_true p
prefix-alike unary.Dereference T s at x v p a = no_true p
prefix-alike unary.Increment T s at x v p a = no_true p
prefix-alike unary.Decrement T s at x v p a = no_true p

index_at : Table → Scopes → Place → TypeShape → TypeShape → List Test
index_at T s at x y =
    broken_at rule.Incomplete at (is_index_pair x y && (points_to_incomplete T s x || points_to_incomplete T s y))
    ∷ broken_at rule.Mismatch at (not (is_index_pair x y))
    ∷ []

index_first : (T : Table) (s : Scopes) (at : Place) (x y : TypeShape) → index_at T s at x y ≡ index_at T s at (flat x) y
unfolding index_at
index_first T s at (Pointer n t) y = refl
index_first T s at x y = refl

index_second : (T : Table) (s : Scopes) (at : Place) (x y : TypeShape) → index_at T s at x y ≡ index_at T s at x (flat y)
unfolding index_at
index_second T s at x (Pointer n t) = refl
index_second T s at x y = refl

pub index-alike : (T : Table) (s : Scopes) (at : Place) (x y : Elaborated) (a b : TypedExpr) → IsAlike T x a → IsAlike T y b
    → index_tests T s at x y ≡ index_tests T s at (AsValue a) (AsValue b)
unfolding index_at
index-alike T s at x y a b p q =
    index_first T s at (shape_of T x) (shape_of T y) ∙ index_second T s at (flat (shape_of T x)) (shape_of T y)
    ∙ (λ i. index_at T s at (p.shape i) (q.shape i))
    ∙ sym (index_second T s at (flat (shape_at T (type_of a))) (shape_at T (type_of b))) ∙ sym (index_first T s at (shape_at T (type_of a)) (shape_at T (type_of b)))

-- Refusals in the words of the parts

pub target-refuses : (at : Place) (x : Elaborated) (v : Value) (s : State) (p : Place) (t : Rule) (r : State) → IsAlike s.table x v.expr → target_of at v s ≡ Stops (Refused p t) r
    → Fails (target_tests s.table s.seen.scopes at x) (Refused p t)
target-refuses at x v s p t r a h = ap first_broken (target-alike s.table s.seen.scopes at x v.expr a) ∙ (target-refused at v s p t r h).0

pub prefix-refuses : (operator : Unary) (at : Place) (x : Elaborated) (v : Value) (s : State) (p : Place) (t : Rule) (r : State) → is_arithmetic_prefix operator ≡ true
    → IsAlike s.table x v.expr → prefix_of operator at v s ≡ Stops (Refused p t) r → Fails (prefix_tests s.table s.seen.scopes operator at x) (Refused p t)
prefix-refuses operator at x v s p t r arithmetic a h =
    ap first_broken (prefix-alike operator s.table s.seen.scopes at x v.expr arithmetic a) ∙ (prefix-refused operator at v s p t r h).0

pub index-refuses : (x : Elaborated) (a : Value) (at : Place) (y : Elaborated) (b : Value) (s : State) (p : Place) (t : Rule) (r : State) → IsAlike s.table x a.expr
    → IsAlike s.table y b.expr → index a at b s ≡ Stops (Refused p t) r → Fails (index_tests s.table s.seen.scopes at x y) (Refused p t)
index-refuses x a at y b s p t r ax ay h = ap first_broken (index-alike s.table s.seen.scopes at x y a.expr b.expr ax ay) ∙ (index-refused a at b s p t r h).0
