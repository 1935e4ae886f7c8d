-- The value of a part is well typed, and erases to what the part erases to.
use Rattle.std.proofs.Common.{◌≡◌, ℕ, Bool, true, false, not, ◌&&◌, ◌||◌, refl, ap, sym, subst, ◌∙◌}
use Rattle.cc_base.specs.declared.place.Place.{Place}
use Rattle.cc_base.specs.declared.number.NodeId.{NodeId}
use Rattle.cc_base.specs.declared.number.TypeId.{TypeId}
use Rattle.cc_base.specs.declared.fault.Fault.TheVariants.{TooLarge}
use Rattle.cc_base.specs.declared.fault.Limit.TheVariants.{Types}
use Rattle.c_types.specs.declared.shape.TypeShape.{TypeShape}
use Rattle.c_types.specs.declared.shape.TypeShape.TheVariants.{Void, Integer, Pointer, Array, Function, Struct, Union}
use Rattle.c_types.specs.Table.{Table, HasShape, shape_at, is_aggregate_shape}
use Rattle.c_tree.specs.Erasure.{erased, erased_place}
use Rattle.c_tree.specs.Tree as tree
use Rattle.c_tree.specs.TypedTree as typed
use Rattle.c_tree.specs.TypedTree.{TypedExpr, TypedPlace}
use Rattle.c_tree.specs.TypedParts.{type_of, place_type}
use Rattle.c_typing.specs.declared.typing.Reading.{Reading}
use Rattle.c_typing.specs.declared.typing.Reading.TheVariants as reading
use Rattle.c_typing.specs.Conversions.{bare, is_plain, is_allocation, is_taken_over}
use Rattle.c_typing.specs.Extensions.{IsExtended}
use Rattle.c_typing.specs.Judging.{State, Gives, next, pure, new_pointer, void_type}
use Rattle.c_typing.specs.Operands.{Operand, Value, made_raw, reading_of, place_value, raw_value, value_of, value}
use Rattle.c_typing.specs.Refusals.{is_natural, IsElaborated}
use Rattle.c_typing.specs.Rules.{is_made_of_place, runtime_named}
use Rattle.c_typing.specs.Scopes.{Scopes}
use Rattle.c_typing.specs.Settled.{IsBasic, IsSettled, is_converted, IsValueOf, IsKnown, GoesOnThere}
use Rattle.c_typing.specs.Shapes.{is_scalar_shape, is_void_shape}
use Rattle.c_typing.specs.Tests.{Elaborated, AsPlace, AsValue, AsAllocation, has_some}
use Rattle.c_typing.specs.Typing.{IsTyped, IsPlace}
use Rattle.c_typing_laws.proofs.ExtensionLaws.{no_true, and_left, and_right}
use Rattle.c_typing_laws.proofs.ConstructLaws.{has_shape}
use Rattle.c_typing_laws.proofs.KeptRules.{has-kept}
use Rattle.c_typing_laws.proofs.KeptTrees.{value-kept, place-kept}
use Rattle.c_typing_laws.proofs.Outcomes.{gives-value, gives-state, never-gives, bind-gives, NeverRefuses, gives-never, large-never, next-never}
use Rattle.c_typing_laws.proofs.KnownStates.{stays, new_pointer-gives, new_pointer-never}

pub not_true : (b : Bool) → not b ≡ true → b ≡ false
not_true false h = refl
not_true true h = no_true h

-- what is given has what was made
pub given-same : {A : Type 0} (P : A → State → Type 0) (a b : A) (s r : State) → Gives a s ≡ Gives b r → P a s → P b r
given-same P a b s r h p = subst (λ (w : State). P b w) (gives-state a b s r h) (subst (λ (v : _). P v s) (gives-value a b s r h) p)

-- Values as their own rules leave them

pub bare-same : (e : TypedExpr) → is_made_of_place e ≡ false → bare e ≡ e
bare-same (typed.Convert which at t e) h = no_true (sym h)
bare-same e h = refl

pub unconverted-same : (e : TypedExpr) → is_made_of_place e ≡ false → is_converted e ≡ false
unconverted-same (typed.Convert which at t e) h = no_true (sym h)
unconverted-same e h = refl

-- a runtime function is no scalar
pub runtime-void : (T : Table) (e : TypedExpr) (s s' : Scopes) → IsTyped T e s s' → has_some (runtime_named e) ≡ true → is_void_shape (shape_at T (type_of e)) ≡ true
runtime-void T (typed.RuntimeName name function t) s s' h r = ap is_void_shape h.1.type.1
runtime-void T (typed.Paren at e) s s' h r = runtime-void T e s s' h.0 r
runtime-void T e s s' h r = no_true r

void_no_scalar : (x : TypeShape) → is_void_shape x ≡ true → is_scalar_shape x ≡ false
void_no_scalar Void h = refl
void_no_scalar (Integer bytes signed) h = no_true h
void_no_scalar (Pointer n t) h = no_true h
void_no_scalar (Array t n) h = refl
void_no_scalar (Function ps r) h = refl
void_no_scalar (Struct n) h = refl
void_no_scalar (Union n) h = refl

pub natural-no_place : (e : TypedExpr) → is_natural e ≡ true → is_made_of_place e ≡ false
natural-no_place e h = not_true (is_made_of_place e) (and_left (not (is_made_of_place e)) (not (is_allocation e) && (is_plain e || has_some (runtime_named e))) h)

pub natural-no_allocation : (e : TypedExpr) → is_natural e ≡ true → is_allocation e ≡ false
natural-no_allocation e h =
    not_true (is_allocation e) (and_left (not (is_allocation e)) (is_plain e || has_some (runtime_named e))
    (and_right (not (is_made_of_place e)) (not (is_allocation e) && (is_plain e || has_some (runtime_named e))) h))

pub natural-plain : (e : TypedExpr) → is_natural e ≡ true → (is_plain e || has_some (runtime_named e)) ≡ true
natural-plain e h =
    and_right (not (is_allocation e)) (is_plain e || has_some (runtime_named e))
    (and_right (not (is_made_of_place e)) (not (is_allocation e) && (is_plain e || has_some (runtime_named e))) h)

pub natural-settled : (T : Table) (e : TypedExpr) (s s' : Scopes) → IsTyped T e s s' → is_natural e ≡ true → IsSettled T e
natural-settled T e s s' h n = record {
  bare = bare-same e (natural-no_place e n);
  unconverted = unconverted-same e (natural-no_place e n);
  plain = λ scalar. by (is_plain e) refl (natural-plain e n) scalar;
}
  where
    by : (b : Bool) → is_plain e ≡ b → (b || has_some (runtime_named e)) ≡ true → is_scalar_shape (shape_at T (type_of e)) ≡ true → is_plain e ≡ true
    by true p q scalar = p
    by false p q scalar = no_true (sym (void_no_scalar (shape_at T (type_of e)) (runtime-void T e s s' h q)) ∙ scalar)

-- Allocations

pub raw-typed : (T : Table) (n : NodeId) (t : TypeId) (e : TypedExpr) (s s' : Scopes) → is_taken_over e ≡ true → HasShape T void_type Void
    → HasShape T t (Pointer n void_type) → IsTyped T e s s' → IsTyped T (made_raw n t e) s s'
raw-typed T n t (typed.Paren at e) s s' o void p h = (raw-typed T n t e s s' o void p h.0, no_place e o)
  where
    no_place : (v : TypedExpr) → is_taken_over v ≡ true → is_made_of_place (made_raw n t v) ≡ false
    no_place (typed.Paren q v) k = refl
    no_place (typed.AllocateFor runtime f q arguments u) k = refl
    no_place v k = no_true k
raw-typed T n t (typed.AllocateFor runtime f at arguments u) s s' o void p h =
    (h.0, h.1, h.2, record { void = void_type; call = h.3.call; gives = h.3.gives; nothing = void; type = p })
raw-typed T n t e s s' o void p h = no_true o

pub raw-erased : (n : NodeId) (t : TypeId) (e : TypedExpr) → erased (made_raw n t e) ≡ erased e
raw-erased n t (typed.Paren at e) = ap (tree.Paren at) (raw-erased n t e)
raw-erased n t e = refl

raw_plain : (n : NodeId) (t : TypeId) (e : TypedExpr) → is_taken_over e ≡ true → is_plain (made_raw n t e) ≡ true
raw_plain n t (typed.Paren at e) h = raw_plain n t e h
raw_plain n t (typed.AllocateFor runtime f at arguments u) h = refl
raw_plain n t e h = no_true h

raw_no_place : (n : NodeId) (t : TypeId) (e : TypedExpr) → is_taken_over e ≡ true → is_made_of_place (made_raw n t e) ≡ false
raw_no_place n t (typed.Paren at e) h = refl
raw_no_place n t (typed.AllocateFor runtime f at arguments u) h = refl
raw_no_place n t e h = no_true h

pub raw-settled : (T : Table) (n : NodeId) (t : TypeId) (e : TypedExpr) → is_taken_over e ≡ true → IsSettled T (made_raw n t e)
raw-settled T n t e h = record {
  bare = bare-same (made_raw n t e) (raw_no_place n t e h);
  unconverted = unconverted-same (made_raw n t e) (raw_no_place n t e h);
  plain = λ scalar. raw_plain n t e h;
}

-- Parts over a later table

pub part-kept : (T U : Table) (x : IsExtended T U) (b : IsBasic T) (e : tree.Expr) (p : Elaborated) (s s' : Scopes) → IsElaborated T e p s s' → IsElaborated U e p s s'
part-kept T U x b e (AsPlace p) s s' h = (place-kept T U x b p s s' h.0, h.1)
part-kept T U x b e (AsValue v) s s' h = (value-kept T U x b v s s' h.0, h.1, h.2)
part-kept T U x b e (AsAllocation v) s s' h = (value-kept T U x b v s s' h.0, h.1, h.2)

-- The value of a place

-- what is given is the value of the expression, which begins among the scopes
abbrev pub IsTaken : tree.Expr → Scopes → State → TypedExpr → State → Type 0
IsTaken e s0 s v r = IsValueOf r.table e v s0 r.seen.scopes × GoesOnThere s r

module _ (at : Place) (p : TypedPlace) (v : TypedExpr) (s0 : Scopes) (s r : State) (k : IsKnown s) (h : IsPlace s.table p s0 s.seen.scopes) where
  unread : is_aggregate_shape (shape_at s.table (place_type p)) ≡ true → is_scalar_shape (shape_at s.table (place_type p)) ≡ false
      → Gives (typed.Unread p) s ≡ Gives v r → IsTaken (erased_place p) s0 s v r
  unread a n q = given-same (IsTaken (erased_place p) s0 s) (typed.Unread p) v s r q (
    record {
      typed = (h, a);
      erases = refl;
      settled = record { bare = refl; unconverted = refl; plain = λ scalar. no_true (sym n ∙ scalar) };
    },
    stays s k,
  )

  read : is_scalar_shape (shape_at s.table (place_type p)) ≡ true → Gives (typed.Read p) s ≡ Gives v r → IsTaken (erased_place p) s0 s v r
  read a q = given-same (IsTaken (erased_place p) s0 s) (typed.Read p) v s r q (
    record { typed = (h, a); erases = refl; settled = record { bare = refl; unconverted = refl; plain = λ scalar. refl } },
    stays s k,
  )

  decayed_value : (element : TypeId) (count : ℕ) → shape_at s.table (place_type p) ≡ Array element count
      → next (new_pointer at element s) (λ made. pure (typed.Decay p made.node made.type)) ≡ Gives v r → IsTaken (erased_place p) s0 s v r
  decayed_value element count a q =
      let one = bind-gives (new_pointer at element s) (λ made. pure (typed.Decay p made.node made.type)) v r q in
      let found = new_pointer-gives at element one.0 s one.1 k one.2 in
      let grows = found.1.goes.extends in
      let here : IsTyped one.1.table (typed.Decay p one.0.node one.0.type) s0 one.1.seen.scopes = (
        subst (IsPlace one.1.table p s0) (sym found.1.scopes) (place-kept s.table one.1.table grows k.basic p s0 s.seen.scopes h),
        record {
          element = element;
          count = count;
          array = has-kept s.table one.1.table grows k.basic (place_type p) (Array element count) (has_shape s.table (place_type p) (Array element count) a refl);
          type = found.0;
        },
      ) in
      given-same (IsTaken (erased_place p) s0 s) (typed.Decay p one.0.node one.0.type) v one.1 r one.3 (
        record { typed = here; erases = refl; settled = record { bare = refl; unconverted = refl; plain = λ scalar. refl } },
        found.1,
      )

  place_value-gives : (x : TypeShape) → shape_at s.table (place_type p) ≡ x → place_value at p (reading_of x) s ≡ Gives v r → IsTaken (erased_place p) s0 s v r
  unfolding place_value
  place_value-gives (Integer bytes signed) a q = read (ap is_scalar_shape a) q
  place_value-gives (Pointer n t) a q = read (ap is_scalar_shape a) q
  place_value-gives (Struct n) a q = unread (ap is_aggregate_shape a) (ap is_scalar_shape a) q
  place_value-gives (Union n) a q = unread (ap is_aggregate_shape a) (ap is_scalar_shape a) q
  place_value-gives (Array element count) a q = decayed_value element count a q
  place_value-gives Void a q = never-gives v (TooLarge at Types) s r q
  place_value-gives (Function ps result) a q = never-gives v (TooLarge at Types) s r q

pub raw_value-gives : (e : tree.Expr) (at : Place) (w v : TypedExpr) (s0 : Scopes) (s r : State) → IsKnown s → IsElaborated s.table e (AsAllocation w) s0 s.seen.scopes
    → raw_value at w s ≡ Gives v r → IsTaken e s0 s v r
unfolding raw_value
raw_value-gives e at w v s0 s r k h q =
    let one = bind-gives (new_pointer at void_type s) (λ made. pure (made_raw made.node made.type w)) v r q in
    let found = new_pointer-gives at void_type one.0 s one.1 k one.2 in
    let grows = found.1.goes.extends in
    let here : IsTyped one.1.table w s0 one.1.seen.scopes =
    subst (IsTyped one.1.table w s0) (sym found.1.scopes) (value-kept s.table one.1.table grows k.basic w s0 s.seen.scopes h.0) in
    given-same (IsTaken e s0 s) (made_raw one.0.node one.0.type w) v one.1 r one.3 (
      record {
        typed = raw-typed one.1.table one.0.node one.0.type w s0 one.1.seen.scopes h.2 found.1.goes.known.basic.void found.0 here;
        erases = raw-erased one.0.node one.0.type w ∙ h.1;
        settled = raw-settled one.1.table one.0.node one.0.type w h.2;
      },
      found.1,
    )

pub value_of-gives : (e : tree.Expr) (at : Place) (x : Elaborated) (v : TypedExpr) (s0 : Scopes) (s r : State) → IsKnown s → IsElaborated s.table e x s0 s.seen.scopes
    → value_of at x s ≡ Gives v r → IsTaken e s0 s v r
unfolding value_of
value_of-gives e at (AsPlace p) v s0 s r k h q =
    subst (λ (t : tree.Expr). IsTaken t s0 s v r) h.1 (place_value-gives at p v s0 s r k h.0 (shape_at s.table (place_type p)) refl q)
value_of-gives e at (AsValue w) v s0 s r k h q =
    given-same (IsTaken e s0 s) w v s r q
    (record { typed = h.0; erases = h.1; settled = natural-settled s.table w s0 s.seen.scopes h.0 h.2 }, stays s k)
value_of-gives e at (AsAllocation w) v s0 s r k h q = raw_value-gives e at w v s0 s r k h q

-- taking a value refuses nothing

place_value-never : (at : Place) (p : TypedPlace) (s : State) (how : Reading) → NeverRefuses (place_value at p how s)
unfolding place_value
place_value-never at p s (reading.Decays element) =
    next-never (new_pointer at element s) (λ made. pure (typed.Decay p made.node made.type)) (new_pointer-never at element s) (λ made r. gives-never (typed.Decay p made.node made.type) r)
place_value-never at p s reading.Reads = gives-never (typed.Read p) s
place_value-never at p s reading.Stays = gives-never (typed.Unread p) s
place_value-never at p s reading.Nothing = large-never TypedExpr at Types s

pub raw_value-never : (at : Place) (e : TypedExpr) (s : State) → NeverRefuses (raw_value at e s)
unfolding raw_value
raw_value-never at e s =
    next-never (new_pointer at void_type s) (λ made. pure (made_raw made.node made.type e)) (new_pointer-never at void_type s) (λ made r. gives-never (made_raw made.node made.type e) r)

pub value_of-never : (at : Place) (x : Elaborated) (s : State) → NeverRefuses (value_of at x s)
unfolding value_of
value_of-never at (AsPlace p) s = place_value-never at p s (reading_of (shape_at s.table (place_type p)))
value_of-never at (AsValue e) s = gives-never e s
value_of-never at (AsAllocation e) s = raw_value-never at e s

-- an operand's value
abbrev value_with : Operand → TypedExpr → Value
value_with x e = record { expr = e; place = x.place; held = x.held }

pub record IsValue (e : tree.Expr) (x : Operand) (s0 : Scopes) (s : State) (v : Value) (r : State) : Type 0 where
  pub taken : IsValueOf r.table e v.expr s0 r.seen.scopes
  pub goes : GoesOnThere s r
  pub place : v.place ≡ x.place
  pub held : v.held ≡ x.held

pub value-gives : (e : tree.Expr) (x : Operand) (v : Value) (s0 : Scopes) (s r : State) → IsKnown s → IsElaborated s.table e x.part s0 s.seen.scopes
    → value x s ≡ Gives v r → IsValue e x s0 s v r
unfolding value
value-gives e x v s0 s r k h q =
    let one = bind-gives (value_of x.place x.part s) (λ w. pure (value_with x w)) v r q in
    let taken = value_of-gives e x.place x.part one.0 s0 s one.1 k h one.2 in
    given-same (λ (w : Value) (t : State). IsValue e x s0 s w t) (value_with x one.0) v one.1 r one.3
    (record { taken = taken.0; goes = taken.1; place = refl; held = refl })

pub value-never : (x : Operand) (s : State) → NeverRefuses (value x s)
unfolding value
value-never x s = next-never (value_of x.place x.part s) (λ w. pure (value_with x w)) (value_of-never x.place x.part s) (λ w r. gives-never (value_with x w) r)
