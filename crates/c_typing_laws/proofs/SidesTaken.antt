-- What is given of an operand is a side of it: its rules are the operand's.
use Rattle.std.proofs.Common.{◌≡◌, ℕ, Bool, true, false, ◌&&◌, refl, ap, sym, subst, ◌∙◌, length}
use Rattle.cc_base.specs.declared.place.Place.{Place}
use Rattle.cc_base.specs.declared.number.NodeId.{NodeId}
use Rattle.cc_base.specs.declared.number.TypeId.{TypeId}
use Rattle.cc_base.specs.declared.fault.Fault.TheVariants.{TooLarge}
use Rattle.cc_base.specs.declared.fault.Limit.TheVariants.{Types}
use Rattle.c_types.specs.declared.shape.TypeShape.{TypeShape}
use Rattle.c_types.specs.declared.shape.TypeShape.TheVariants.{Void, Integer, Pointer, Array, Function, Struct, Union}
use Rattle.c_types.specs.Table.{Table, shape_at, is_aggregate_shape, descend}
use Rattle.c_types.specs.Sameness.{same_shape, same_step, is_same_type}
use Rattle.c_tree.specs.Tree as tree
use Rattle.c_tree.specs.TypedTree as typed
use Rattle.c_tree.specs.TypedTree.{TypedExpr, TypedPlace}
use Rattle.c_tree.specs.TypedParts.{place_type}
use Rattle.c_typing.specs.Conversions.{is_taken_over, is_pointer_to_complete}
use Rattle.c_typing.specs.Judging.{State, Gives, next, pure, new_pointer}
use Rattle.c_typing.specs.Operands.{made_raw, made_for, raw_value, reading_of, place_value, value_of, side_of, given_allocation, given}
use Rattle.c_typing.specs.Refusals.{IsElaborated}
use Rattle.c_typing.specs.Rules.{is_made_of_place}
use Rattle.c_typing.specs.Scopes.{Scopes}
use Rattle.c_typing.specs.Settled.{IsKnown, flat, IsSideOf}
use Rattle.c_typing.specs.Shapes.{is_scalar_shape}
use Rattle.c_typing.specs.Tests.{Elaborated, AsPlace, AsValue, AsAllocation, decayed, are_one_struct}
use Rattle.c_typing_laws.proofs.ExtensionLaws.{no_true}
use Rattle.c_typing_laws.proofs.ConstructLaws.{has_shape}
use Rattle.c_typing_laws.proofs.KeptRules.{has-kept}
use Rattle.c_typing_laws.proofs.Outcomes.{never-gives, bind-gives}
use Rattle.c_typing_laws.proofs.KnownStates.{new_pointer-gives}
use Rattle.c_typing_laws.proofs.ValuesTaken.{given-same, natural-no_place}
use Rattle.c_typing_laws.proofs.JudgedMembers.{raw_made}
use Rattle.c_typing_laws.proofs.TestsAlike.{value-alike}

pub side-same : (T : Table) (x : Elaborated) → IsSideOf T x x
side-same T x = record { shape = refl; null = refl; structs = λ z. (refl, refl) }

same_aggregate : (f : TypeId → TypeId → Bool) (y z : TypeShape) → same_shape f y z ≡ true → is_aggregate_shape y ≡ true → is_aggregate_shape z ≡ true
same_aggregate f (Struct a) (Struct b) h v = refl
same_aggregate f (Union a) (Union b) h v = refl
same_aggregate f Void Void h v = v
same_aggregate f (Integer a s) (Integer b r) h v = v
same_aggregate f (Pointer n t) (Pointer m u) h v = v
same_aggregate f (Array t a) (Array u b) h v = v
same_aggregate f (Function ps r) (Function qs q) h v = v
same_aggregate f y z h v = no_true h

aggregate_too : (T : Table) (t u : TypeId) → is_same_type T t u ≡ true → is_aggregate_shape (shape_at T t) ≡ true → is_aggregate_shape (shape_at T u) ≡ true
unfolding is_same_type
aggregate_too T t u h v = same_aggregate (descend (same_step T) (λ w. false) (length T)) (shape_at T t) (shape_at T u) h v

module _ (T : Table) (p : TypedPlace) (v : TypedExpr) (h : is_aggregate_shape (shape_at T (place_type p)) ≡ false) where
  pub struct_left : (z : Elaborated) → are_one_struct T (AsPlace p) z ≡ are_one_struct T (AsValue v) z
  struct_left (AsPlace q) = ap (λ (b : Bool). b && is_same_type T (place_type p) (place_type q)) h
  struct_left (AsValue w) = refl
  struct_left (AsAllocation w) = refl

  struct_by : (q : TypedPlace) (a b : Bool) → is_aggregate_shape (shape_at T (place_type q)) ≡ a → is_same_type T (place_type q) (place_type p) ≡ b → (a && b) ≡ false
  struct_by q true true x y = no_true (sym h ∙ aggregate_too T (place_type q) (place_type p) y x)
  struct_by q true false x y = refl
  struct_by q false b x y = refl

  pub struct_right : (z : Elaborated) → are_one_struct T z (AsPlace p) ≡ are_one_struct T z (AsValue v)
  struct_right (AsPlace q) = struct_by q (is_aggregate_shape (shape_at T (place_type q))) (is_same_type T (place_type q) (place_type p)) refl refl
  struct_right (AsValue w) = refl
  struct_right (AsAllocation w) = refl

pub scalar_flat : (x : TypeShape) → is_scalar_shape x ≡ true → (flat (decayed x) ≡ flat x) × (is_aggregate_shape x ≡ false)
scalar_flat (Integer bytes signed) h = (refl, refl)
scalar_flat (Pointer n t) h = (refl, refl)
scalar_flat Void h = no_true h
scalar_flat (Array t n) h = no_true h
scalar_flat (Function ps r) h = no_true h
scalar_flat (Struct n) h = no_true h
scalar_flat (Union n) h = no_true h

module _ (at : Place) (p : TypedPlace) (v : TypedExpr) (s r : State) (k : IsKnown s) where
  read-side : is_scalar_shape (shape_at s.table (place_type p)) ≡ true → Gives (typed.Read p) s ≡ Gives v r → IsSideOf r.table (AsPlace p) (side_of v)
  read-side a q =
      let f = scalar_flat (shape_at s.table (place_type p)) a in
      given-same (λ (u : TypedExpr) (m : State). IsSideOf m.table (AsPlace p) (side_of u)) (typed.Read p) v s r q
      (record { shape = f.0; null = refl; structs = λ z. (struct_left s.table p (typed.Read p) f.1 z, struct_right s.table p (typed.Read p) f.1 z) })

  unread-side : Gives (typed.Unread p) s ≡ Gives v r → IsSideOf r.table (AsPlace p) (side_of v)
  unread-side q = given-same (λ (u : TypedExpr) (m : State). IsSideOf m.table (AsPlace p) (side_of u)) (typed.Unread p) v s r q (side-same s.table (AsPlace p))

  decayed-side : (element : TypeId) (count : ℕ) → shape_at s.table (place_type p) ≡ Array element count
      → next (new_pointer at element s) (λ made. pure (typed.Decay p made.node made.type)) ≡ Gives v r → IsSideOf r.table (AsPlace p) (side_of v)
  decayed-side element count a q =
      let one = bind-gives (new_pointer at element s) (λ made. pure (typed.Decay p made.node made.type)) v r q in
      let found = new_pointer-gives at element one.0 s one.1 k one.2 in
      let array = has-kept s.table one.1.table found.1.goes.extends k.basic (place_type p) (Array element count) (has_shape s.table (place_type p) (Array element count) a refl) in
      let none = ap is_aggregate_shape array.1 in
      given-same (λ (u : TypedExpr) (m : State). IsSideOf m.table (AsPlace p) (side_of u)) (typed.Decay p one.0.node one.0.type) v one.1 r one.3 (record {
        shape = ap (λ (x : TypeShape). flat (decayed x)) array.1 ∙ sym (ap flat found.0.1);
        null = refl;
        structs = λ z. (struct_left one.1.table p (typed.Decay p one.0.node one.0.type) none z, struct_right one.1.table p (typed.Decay p one.0.node one.0.type) none z);
      })

  place-side : (x : TypeShape) → shape_at s.table (place_type p) ≡ x → place_value at p (reading_of x) s ≡ Gives v r → IsSideOf r.table (AsPlace p) (side_of v)
  unfolding place_value
  place-side (Integer bytes signed) a q = read-side (ap is_scalar_shape a) q
  place-side (Pointer n t) a q = read-side (ap is_scalar_shape a) q
  place-side (Struct n) a q = unread-side q
  place-side (Union n) a q = unread-side q
  place-side (Array element count) a q = decayed-side element count a q
  place-side Void a q = never-gives v (TooLarge at Types) s r q
  place-side (Function ps result) a q = never-gives v (TooLarge at Types) s r q

pub side-natural : (v : TypedExpr) → is_made_of_place v ≡ false → side_of v ≡ AsValue v
side-natural (typed.Unread p) h = no_true (sym h)
side-natural v h = refl

pub side-raw : (n : NodeId) (t : TypeId) (e : TypedExpr) → is_taken_over e ≡ true → side_of (made_raw n t e) ≡ AsValue (made_raw n t e)
side-raw n t (typed.Paren at e) h = refl
side-raw n t (typed.AllocateFor runtime f at arguments u) h = refl
side-raw n t e h = no_true h

pub no_struct_raw : (T : Table) (w v : TypedExpr) (z : Elaborated) → (are_one_struct T (AsAllocation w) z ≡ are_one_struct T (AsValue v) z) × (are_one_struct T z (AsAllocation w) ≡ are_one_struct T z (AsValue v))
no_struct_raw T w v (AsPlace q) = (refl, refl)
no_struct_raw T w v (AsValue u) = (refl, refl)
no_struct_raw T w v (AsAllocation u) = (refl, refl)

no_struct_for : (T : Table) (w v : TypedExpr) (z : Elaborated) → (are_one_struct T (AsAllocation w) z ≡ are_one_struct T (AsAllocation v) z) × (are_one_struct T z (AsAllocation w) ≡ are_one_struct T z (AsAllocation v))
no_struct_for T w v (AsPlace q) = (refl, refl)
no_struct_for T w v (AsValue u) = (refl, refl)
no_struct_for T w v (AsAllocation u) = (refl, refl)

raw-side : (e : tree.Expr) (at : Place) (w v : TypedExpr) (s0 : Scopes) (s r : State) → IsKnown s → IsElaborated s.table e (AsAllocation w) s0 s.seen.scopes → raw_value at w s ≡ Gives v r
    → IsSideOf r.table (AsAllocation w) (AsValue v)
unfolding value_of
raw-side e at w v s0 s r k el h =
    let a = value-alike e at (AsAllocation w) v s0 s r k el h in
    record { shape = a.shape; null = a.null; structs = no_struct_raw r.table w v }

-- the value of an operand, where a struct is not read
pub value-side : (e : tree.Expr) (at : Place) (x : Elaborated) (v : TypedExpr) (s0 : Scopes) (s r : State) → IsKnown s → IsElaborated s.table e x s0 s.seen.scopes
    → value_of at x s ≡ Gives v r → IsSideOf r.table x (side_of v)
unfolding value_of
value-side e at (AsPlace p) v s0 s r k el h = place-side at p v s r k (shape_at s.table (place_type p)) refl h
value-side e at (AsValue w) v s0 s r k el h =
    given-same (λ (u : TypedExpr) (m : State). IsSideOf m.table (AsValue w) (side_of u)) w v s r h
    (subst (IsSideOf s.table (AsValue w)) (sym (side-natural w (natural-no_place w el.2))) (side-same s.table (AsValue w)))
value-side e at (AsAllocation w) v s0 s r k el h =
    let made = raw_made at w v s r k h in
    let own : side_of v ≡ AsValue v = ap side_of made.2 ∙ side-raw made.0 made.1 w el.2 ∙ ap AsValue (sym made.2) in
    subst (IsSideOf r.table (AsAllocation w)) (sym own) (raw-side e at w v s0 s r k el h)

-- what is given of an operand to a type
pub given-side : (e : tree.Expr) (t : TypeId) (at : Place) (x v : Elaborated) (s0 : Scopes) (s r : State) → IsKnown s → IsElaborated s.table e x s0 s.seen.scopes
    → given t at x s ≡ Gives v r → IsSideOf r.table x v
unfolding given given_allocation
given-side e t at (AsAllocation w) v s0 s r k el h = by (is_pointer_to_complete s.table s.seen.scopes t) h
  where
    by : (b : Bool) → given_allocation t at w b s ≡ Gives v r → IsSideOf r.table (AsAllocation w) v
    by true q =
        given-same (λ (u : Elaborated) (m : State). IsSideOf m.table (AsAllocation w) u) (AsAllocation (made_for t w)) v s r q
        (record { shape = refl; null = refl; structs = no_struct_for s.table w (made_for t w) })
    by false q =
        let one = bind-gives (raw_value at w s) (λ u. pure (AsValue u)) v r q in
        given-same (λ (u : Elaborated) (m : State). IsSideOf m.table (AsAllocation w) u) (AsValue one.0) v one.1 r one.3 (raw-side e at w one.0 s0 s one.1 k el one.2)
given-side e t at (AsValue w) v s0 s r k el h =
    let one = bind-gives (value_of at (AsValue w) s) (λ u. pure (side_of u)) v r h in
    given-same (λ (u : Elaborated) (m : State). IsSideOf m.table (AsValue w) u) (side_of one.0) v one.1 r one.3 (value-side e at (AsValue w) one.0 s0 s one.1 k el one.2)
given-side e t at (AsPlace p) v s0 s r k el h =
    let one = bind-gives (value_of at (AsPlace p) s) (λ u. pure (side_of u)) v r h in
    given-same (λ (u : Elaborated) (m : State). IsSideOf m.table (AsPlace p) u) (side_of one.0) v one.1 r one.3 (value-side e at (AsPlace p) one.0 s0 s one.1 k el one.2)
