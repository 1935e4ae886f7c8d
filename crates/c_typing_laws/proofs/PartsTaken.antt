-- A part whose value was taken, over any later table: it stands as it is in the rules that what follows breaks.
use Rattle.std.proofs.Common.{◌≡◌, suc, ◌==◌, Bool, true, false, not, ◌||◌, List, [], ◌∷◌, ◌++◌, length, map, Option, Some, None, refl, ap, sym, subst, ◌∙◌, inl, inr, ◌⊎◌}
use Rattle.cc_base.specs.declared.place.Place.{Place}
use Rattle.cc_base.specs.declared.number.NodeId.{NodeId}
use Rattle.cc_base.specs.declared.number.TypeId.{TypeId}
use Rattle.cc_base.specs.declared.fault.Fault.TheVariants.{TooLarge}
use Rattle.cc_base.specs.declared.fault.Limit.TheVariants.{Types}
use Rattle.cc_base.specs.declared.fault.Rule.TheVariants as rule
use Rattle.c_types.specs.declared.shape.TypeShape.{TypeShape}
use Rattle.c_types.specs.declared.shape.TypeShape.TheVariants.{Integer, Pointer, Function}
use Rattle.c_types.specs.Table.{Table, shape_at, is_aggregate_shape}
use Rattle.c_tree.specs.declared.typed_word.Runtime.{Runtime}
use Rattle.c_tree.specs.Places.{expr_place}
use Rattle.c_tree.specs.Tree as tree
use Rattle.c_tree.specs.TypedTree as typed
use Rattle.c_tree.specs.TypedTree.{TypedExpr, TypedPlace}
use Rattle.c_tree.specs.TypedParts.{type_of, place_type}
use Rattle.runtime_calls.specs.Prototypes.{prototype_of}
use Rattle.runtime_calls.specs.declared.function.RuntimeType.{RuntimeType}
use Rattle.runtime_calls.specs.declared.function.RuntimeType.TheVariants as prototype
use Rattle.c_typing.specs.declared.typing.Reading.{Reading}
use Rattle.c_typing.specs.declared.typing.Reading.TheVariants as reading
use Rattle.c_typing.specs.Constants.{is_null_constant}
use Rattle.c_typing.specs.Conversions.{is_taken_over, implicit_between}
use Rattle.c_typing.specs.Extensions.{IsExtended}
use Rattle.c_typing.specs.Judging.{State, Gives, pure, new_pointer}
use Rattle.c_typing.specs.Operands.{Operand, Value, value, value_of, place_value, reading_of, side_of, made_raw, argument_of}
use Rattle.c_typing.specs.Refusals.{IsElaborated}
use Rattle.c_typing.specs.Rules.{runtime_named}
use Rattle.c_typing.specs.Scopes.{Scopes}
use Rattle.c_typing.specs.Settled
use Rattle.c_typing.specs.Settled.{IsBasic, IsValueOf, IsKnown, GoesOn, flat, IsAlike, IsSideOf}
use Rattle.c_typing.specs.Tests.{Elaborated, AsPlace, AsValue, AsAllocation, broken_at, Argument, shape_of, is_null_part, has_some, fits, runtime_part, call_tests, call_tests_of, call_tests_by, argument_tests, runtime_argument_tests, is_taken_by, pointed_shape, point_to_data, has_constant, has_size, is_size}
use Rattle.c_typing.specs.Typing.{IsTyped}
use Rattle.c_typing_laws.proofs.ExtensionLaws.{no_true, extended_refl}
use Rattle.c_typing_laws.proofs.InfixAlike.{alike-kept, pointed_flat}
use Rattle.c_typing_laws.proofs.JudgedMembers.{raw_made}
use Rattle.c_typing_laws.proofs.JudgedTrees.{IsJudgedFree, value-here, value_done}
use Rattle.c_typing_laws.proofs.KeptTrees.{value-kept}
use Rattle.c_typing_laws.proofs.Outcomes.{bind-gives, gives-value, gives-state, never-gives}
use Rattle.c_typing_laws.proofs.SidesAlike.{fits_flat}
use Rattle.c_typing_laws.proofs.SidesTaken.{side-same, side-natural, side-raw, no_struct_raw, struct_left, struct_right, scalar_flat}
use Rattle.c_typing_laws.proofs.TestsAlike.{value-alike}
use Rattle.c_typing_laws.proofs.ValuesTaken.{natural-no_place, part-kept, value-gives}

-- How the value of a part is made

abbrev IsMadeOf : Elaborated → TypedExpr → Type 0
IsMadeOf (AsPlace p) v = (v ≡ typed.Read p) ⊎ ((v ≡ typed.Unread p) ⊎ ((n : NodeId) × (t : TypeId) × (v ≡ typed.Decay p n t)))
IsMadeOf (AsValue w) v = w ≡ v
IsMadeOf (AsAllocation w) v = (n : NodeId) × (t : TypeId) × (v ≡ made_raw n t w)

place-made : (at : Place) (p : TypedPlace) (how : Reading) (v : TypedExpr) (s r : State) → place_value at p how s ≡ Gives v r → IsMadeOf (AsPlace p) v
unfolding place_value
place-made at p (reading.Decays element) v s r h =
    let one = bind-gives (new_pointer at element s) (λ made. pure (typed.Decay p made.node made.type)) v r h in
    inr (inr (one.0.node, one.0.type, sym (gives-value (typed.Decay p one.0.node one.0.type) v one.1 r one.3)))
place-made at p reading.Reads v s r h = inl (sym (gives-value (typed.Read p) v s r h))
place-made at p reading.Stays v s r h = inr (inl (sym (gives-value (typed.Unread p) v s r h)))
place-made at p reading.Nothing v s r h = never-gives v (TooLarge at Types) s r h

value-made : (at : Place) (x : Elaborated) (v : TypedExpr) (s r : State) → IsKnown s → value_of at x s ≡ Gives v r → IsMadeOf x v
unfolding value_of
value-made at (AsPlace p) v s r k h = place-made at p (reading_of (shape_at s.table (place_type p))) v s r h
value-made at (AsValue w) v s r k h = gives-value w v s r h
value-made at (AsAllocation w) v s r k h = let made = raw_made at w v s r k h in (made.0, made.1, made.2)

raw_unnamed : (n : NodeId) (t : TypeId) (w : TypedExpr) → is_taken_over w ≡ true → runtime_named (made_raw n t w) ≡ None
raw_unnamed n t (typed.Paren at w) h = raw_unnamed n t w h
raw_unnamed n t (typed.AllocateFor runtime f at arguments u) h = refl
raw_unnamed n t w h = no_true h

runtime_same : (T : Table) (e : tree.Expr) (x : Elaborated) (v : TypedExpr) (s s' : Scopes) → IsElaborated T e x s s' → IsMadeOf x v → runtime_part x ≡ runtime_named v
runtime_same T e (AsPlace p) v s s' el m = elim m [
  | inl q ↦ sym (ap runtime_named q)
  | inr w ↦ elim w [ inl q ↦ sym (ap runtime_named q) | inr q ↦ sym (ap runtime_named q.2) ]
]
runtime_same T e (AsValue w) v s s' el m = ap runtime_named m
runtime_same T e (AsAllocation w) v s s' el m = sym (ap runtime_named m.2 ∙ raw_unnamed m.0 m.1 w el.2)

module _ (T : Table) (e : tree.Expr) (v : TypedExpr) (s s' : Scopes) where
  value_side : (p : TypedPlace) → is_aggregate_shape (shape_at T (place_type p)) ≡ false → IsAlike T (AsPlace p) v → IsSideOf T (AsPlace p) (AsValue v)
  value_side p none a = record { shape = a.shape; null = a.null; structs = λ z. (struct_left T p v none z, struct_right T p v none z) }

  side_at : (x : Elaborated) → IsElaborated T e x s s' → IsTyped T v s s' → IsMadeOf x v → IsAlike T x v → IsSideOf T x (side_of v)
  side_at (AsPlace p) el h m a = elim m [
    | inl q ↦
        let read = subst (λ (w : TypedExpr). IsTyped T w s s') q h in
        subst (IsSideOf T (AsPlace p)) (sym (ap side_of q))
        (subst (λ (w : TypedExpr). IsSideOf T (AsPlace p) (AsValue w)) q (value_side p (scalar_flat (shape_at T (place_type p)) read.1).1 a))
    | inr w ↦ elim w [
      | inl q ↦ subst (IsSideOf T (AsPlace p)) (sym (ap side_of q)) (side-same T (AsPlace p))
      | inr q ↦
          let decay = subst (λ (u : TypedExpr). IsTyped T u s s') q.2 h in
          subst (IsSideOf T (AsPlace p)) (sym (ap side_of q.2))
          (subst (λ (u : TypedExpr). IsSideOf T (AsPlace p) (AsValue u)) q.2 (value_side p (ap is_aggregate_shape decay.1.array.1) a))
    ]
  ]
  side_at (AsValue w) el h m a =
      subst (λ (u : TypedExpr). IsSideOf T (AsValue w) (side_of u)) m (subst (IsSideOf T (AsValue w)) (sym (side-natural w (natural-no_place w el.2))) (side-same T (AsValue w)))
  side_at (AsAllocation w) el h m a =
      let own : side_of v ≡ AsValue v = ap side_of m.2 ∙ side-raw m.0 m.1 w el.2 ∙ ap AsValue (sym m.2) in
      subst (IsSideOf T (AsAllocation w)) (sym own) (record { shape = a.shape; null = a.null; structs = no_struct_raw T w v })

-- a part whose value v was taken, from the state s to the state m
pub record IsPartTaken (e : tree.Expr) (v : Value) (s m : State) : Type 0 where
  pub x : Elaborated
  pub part : (U : Table) → IsExtended m.table U → IsElaborated U e x s.seen.scopes m.seen.scopes
  pub alike : (U : Table) → IsExtended m.table U → IsAlike U x v.expr
  pub side : (U : Table) → IsExtended m.table U → IsSideOf U x (side_of v.expr)
  pub runtime : runtime_part x ≡ runtime_named v.expr
  pub goes : GoesOn s m
  pub place : v.place ≡ expr_place e

module _ (e : tree.Expr) (at : Place) (v : TypedExpr) (s0 : Scopes) (s m : State) (k : IsKnown s) (basic : IsBasic m.table) (val : IsValueOf m.table e v s0 m.seen.scopes)
    (from : IsExtended s.table m.table) (U : Table) (ext : IsExtended m.table U) (same : m.seen.scopes ≡ s.seen.scopes) where
  later_part : (x : Elaborated) → IsElaborated s.table e x s0 s.seen.scopes → IsElaborated m.table e x s0 m.seen.scopes
  later_part x el = subst (IsElaborated m.table e x s0) (sym same) (part-kept s.table m.table from k.basic e x s0 s.seen.scopes el)

  alike_at : (x : Elaborated) → IsElaborated s.table e x s0 s.seen.scopes → value_of at x s ≡ Gives v m → IsAlike U x v
  alike_at (AsValue w) el h =
      subst (IsAlike U (AsValue w)) (value-made at (AsValue w) v s m k h) (record { shape = refl; null = refl; value = inl refl })
  alike_at (AsPlace p) el h =
      alike-kept m.table U ext basic e v s0 m.seen.scopes s0 m.seen.scopes val ((value_done e at (AsPlace p) v s0 s m k el h).1 refl) (AsPlace p) (later_part (AsPlace p) el)
      (value-alike e at (AsPlace p) v s0 s m k el h)
  alike_at (AsAllocation w) el h =
      alike-kept m.table U ext basic e v s0 m.seen.scopes s0 m.seen.scopes val ((value_done e at (AsAllocation w) v s0 s m k el h).1 refl) (AsAllocation w) (later_part (AsAllocation w) el)
      (value-alike e at (AsAllocation w) v s0 s m k el h)

pub taken-part : (called : Bool) (e : tree.Expr) (o : Operand) (v : Value) (s q m : State) → IsJudgedFree called e o s q → value o q ≡ Gives v m → IsPartTaken e v s m
unfolding value
taken-part called e o v s q m j h =
    let k = j.judged.goes.known in
    let free = value-here called e o v s q m j h in
    let there = (value-gives e o v s.seen.scopes q m k j.judged.part h).goes in
    let one = bind-gives (value_of o.place o.part q) (λ w. pure (record { expr = w; place = o.place; held = o.held })) v m h in
    let expr : one.0 ≡ v.expr = ap (λ (w : Value). w.expr) (gives-value (record { expr = one.0; place = o.place; held = o.held }) v one.1 m one.3) in
    let state : one.1 ≡ m = gives-state (record { expr = one.0; place = o.place; held = o.held }) v one.1 m one.3 in
    let given : value_of o.place o.part q ≡ Gives v.expr m = one.2 ∙ (λ i. Gives (expr i) (state i)) in
    let made = value-made o.place o.part v.expr q m k given in
    let basic = free.value.goes.known.basic in
    let part : (U : Table) → IsExtended m.table U → IsElaborated U e o.part s.seen.scopes m.seen.scopes = λ U ext.
    part-kept m.table U ext basic e o.part s.seen.scopes m.seen.scopes
    (subst (IsElaborated m.table e o.part s.seen.scopes) (sym there.scopes) (part-kept q.table m.table there.goes.extends k.basic e o.part s.seen.scopes q.seen.scopes j.judged.part)) in
    let alike : (U : Table) → IsExtended m.table U → IsAlike U o.part v.expr = λ U ext.
    alike_at e o.place v.expr s.seen.scopes q m k basic free.value.taken there.goes.extends U ext there.scopes o.part j.judged.part given in
    record {
      x = o.part;
      part = part;
      alike = alike;
      side = λ U ext. side_at U e v.expr s.seen.scopes m.seen.scopes o.part (part U ext) (value-kept m.table U ext basic v.expr s.seen.scopes m.seen.scopes free.value.taken.typed) made (alike U ext);
      runtime = runtime_same m.table e o.part v.expr s.seen.scopes m.seen.scopes (part m.table (extended_refl m.table)) made;
      goes = free.value.goes;
      place = free.value.place;
    }

-- What rules read of constants

pub constant-alike : (T : Table) (x : Elaborated) (v : TypedExpr) → IsAlike T x v → has_constant T x ≡ has_constant T (AsValue v)
constant-alike T x v a = elim a.value [ inl q ↦ ap (has_constant T) q | inr q ↦ by x q.0 ∙ sym (ap has_some q.1) ]
  where
    by : (y : Elaborated) → Settled.is_value_part y ≡ false → has_constant T y ≡ false
    by (AsPlace p) h = refl
    by (AsValue w) h = no_true (sym h)
    by (AsAllocation w) h = refl

pub size-alike : (T : Table) (x : Elaborated) (v : TypedExpr) → IsAlike T x v → has_size T x ≡ has_size T (AsValue v)
size-alike T x v a = elim a.value [ inl q ↦ ap (has_size T) q | inr q ↦ by x q.0 ∙ sym (ap is_size q.1) ]
  where
    by : (y : Elaborated) → Settled.is_value_part y ≡ false → has_size T y ≡ false
    by (AsPlace p) h = refl
    by (AsValue w) h = no_true (sym h)
    by (AsAllocation w) h = refl

-- Calls

abbrev pub AreAlike : Table → List Argument → List Value → Type 0
AreAlike T [] [] = Unit {0}
AreAlike T [] (v ∷ vs) = ⊥
AreAlike T (a ∷ list) [] = ⊥
AreAlike T (a ∷ list) (v ∷ vs) = IsAlike T a.part v.expr × (a.place ≡ v.place) × AreAlike T list vs

pub alike_last : (T : Table) (list : List Argument) (vs : List Value) (a : Argument) (v : Value) → AreAlike T list vs → IsAlike T a.part v.expr → a.place ≡ v.place
    → AreAlike T (list ++ a ∷ []) (vs ++ v ∷ [])
alike_last T [] [] a v h p q = (p, q, tt)
alike_last T [] (w ∷ vs) a v h p q = absurd h
alike_last T (b ∷ list) [] a v h p q = absurd h
alike_last T (b ∷ list) (w ∷ vs) a v h p q = (h.0, h.1, alike_last T list vs a v h.2 p q)

fits_alike : (T : Table) (x : Elaborated) (v : TypedExpr) (to : TypeShape) → IsAlike T x v → fits T x to ≡ fits T (AsValue v) to
fits_alike T x v to a =
    fits_flat T (is_null_part T x) (shape_of T x) to
    ∙ (λ i. has_some (implicit_between T (a.null i) (a.shape i) to))
    ∙ sym (fits_flat T (is_null_constant T v) (shape_at T (type_of v)) to)

data_flat : (T : Table) (x : TypeShape) → point_to_data T x ≡ point_to_data T (flat x)
data_flat T (Pointer n t) = refl
data_flat T x = refl

taken_alike : (T : Table) (t : RuntimeType) (x : Elaborated) (v : TypedExpr) → IsAlike T x v → is_taken_by T t x ≡ is_taken_by T t (AsValue v)
taken_alike T prototype.Void x v a = refl
taken_alike T prototype.Int x v a = fits_alike T x v (Integer 4 true) a
taken_alike T prototype.UnsignedLong x v a = fits_alike T x v (Integer 8 false) a
taken_alike T prototype.VoidPointer x v a =
    let pointer = data_flat T (shape_of T x) ∙ ap (point_to_data T) a.shape ∙ sym (data_flat T (shape_at T (type_of v))) in
    λ i. pointer i || a.null i

lengths_alike : (T : Table) (list : List Argument) (vs : List Value) → AreAlike T list vs → length list ≡ length (map argument_of vs)
lengths_alike T [] [] h = refl
lengths_alike T [] (v ∷ vs) h = absurd h
lengths_alike T (a ∷ list) [] h = absurd h
lengths_alike T (a ∷ list) (v ∷ vs) h = ap suc (lengths_alike T list vs h.2)

arguments_alike : (T : Table) (ts : List TypeId) (list : List Argument) (vs : List Value) → AreAlike T list vs
    → argument_tests T ts list ≡ argument_tests T ts (map argument_of vs)
arguments_alike T [] list vs h = refl
arguments_alike T (t ∷ ts) [] [] h = refl
arguments_alike T (t ∷ ts) [] (v ∷ vs) h = absurd h
arguments_alike T (t ∷ ts) (a ∷ list) [] h = absurd h
arguments_alike T (t ∷ ts) (a ∷ list) (v ∷ vs) h =
    let one = fits_alike T a.part v.expr (shape_at T t) h.0 in
    let place = h.1 in
    let rest = arguments_alike T ts list vs h.2 in
    λ i. broken_at rule.Mismatch (place i) (not (one i)) ∷ rest i

runtimes_alike : (T : Table) (ts : List RuntimeType) (list : List Argument) (vs : List Value) → AreAlike T list vs
    → runtime_argument_tests T ts list ≡ runtime_argument_tests T ts (map argument_of vs)
runtimes_alike T [] list vs h = refl
runtimes_alike T (t ∷ ts) [] [] h = refl
runtimes_alike T (t ∷ ts) [] (v ∷ vs) h = absurd h
runtimes_alike T (t ∷ ts) (a ∷ list) [] h = absurd h
runtimes_alike T (t ∷ ts) (a ∷ list) (v ∷ vs) h =
    let one = taken_alike T t a.part v.expr h.0 in
    let place = h.1 in
    let rest = runtimes_alike T ts list vs h.2 in
    λ i. broken_at rule.Mismatch (place i) (not (one i)) ∷ rest i

call_of-alike : (T : Table) (y : TypeShape) (at : Place) (list : List Argument) (vs : List Value) → AreAlike T list vs
    → call_tests_of T y at list ≡ call_tests_of T y at (map argument_of vs)
call_of-alike T (Function ps r) at list vs h =
    let each = arguments_alike T ps list vs h in
    let count = lengths_alike T list vs h in
    λ i. each i ++ broken_at rule.BadCall at (not (length ps == count i)) ∷ []
call_of-alike T y at list vs h = refl

call_by-alike : (T : Table) (o : Option Runtime) (at : Place) (y z : TypeShape) (list : List Argument) (vs : List Value) → flat y ≡ flat z → AreAlike T list vs
    → call_tests_by o T at y list ≡ call_tests_by o T at z (map argument_of vs)
call_by-alike T None at y z list vs e h =
    ap (λ (w : TypeShape). call_tests_of T w at list) (pointed_flat T y ∙ ap (pointed_shape T) e ∙ sym (pointed_flat T z)) ∙ call_of-alike T (pointed_shape T z) at list vs h
call_by-alike T (Some function) at y z list vs e h =
    let ps : List RuntimeType = (prototype_of function).parameters in
    let each = runtimes_alike T (prototype_of function).parameters list vs h in
    let count = lengths_alike T list vs h in
    λ i. each i ++ broken_at rule.BadCall at (not (length (prototype_of function).parameters == count i)) ∷ []

pub call-alike : (T : Table) (at : Place) (x : Elaborated) (f : TypedExpr) (list : List Argument) (vs : List Value) → IsAlike T x f → runtime_part x ≡ runtime_named f → AreAlike T list vs
    → call_tests T at x list ≡ call_tests T at (AsValue f) (map argument_of vs)
call-alike T at x f list vs a e h =
    call_by-alike T (runtime_part x) at (shape_of T x) (shape_at T (type_of f)) list vs a.shape h
    ∙ ap (λ (o : Option Runtime). call_tests_by o T at (shape_at T (type_of f)) (map argument_of vs)) e
