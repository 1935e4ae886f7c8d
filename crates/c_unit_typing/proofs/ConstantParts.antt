-- A part that is constant once it is read has a constant value, whatever it is converted to.
use Rattle.std.proofs.Common.{◌≡◌, ◌==◌, Bool, true, false, not, ◌||◌, List, [], Option, Some, None, refl, ap, sym, subst, ◌∙◌, true≢false, if◌then◌else◌}
use Rattle.cc_base.specs.declared.place.Place.{Place}
use Rattle.cc_base.specs.declared.number.NodeId.{NodeId}
use Rattle.cc_base.specs.declared.number.TypeId.{TypeId}
use Rattle.cc_base.specs.declared.fault.Fault.TheVariants.{Refused}
use Rattle.cc_base.specs.declared.fault.Rule.TheVariants as rule
use Rattle.c_types.specs.declared.shape.TypeShape.{TypeShape}
use Rattle.c_types.specs.declared.shape.TypeShape.TheVariants.{Void, Integer, Pointer, Array, Function, Struct, Union}
use Rattle.c_types.specs.Table.{Table, IsType, shape_at}
use Rattle.c_tree.specs.declared.typed_word.Conversion.{Conversion}
use Rattle.c_tree.specs.declared.typed_word.Conversion.TheVariants as conversion
use Rattle.c_tree.specs.Tree as tree
use Rattle.c_tree.specs.TypedTree as typed
use Rattle.c_tree.specs.TypedTree.{TypedExpr, TypedPlace}
use Rattle.c_tree.specs.TypedParts.{place_type, type_of}
use Rattle.c_typing.specs.Assignments.{converted_by}
use Rattle.c_typing.specs.Checking.{becomes, value_tests, taken, converted_part, converted_value, checked_value}
use Rattle.c_typing.specs.Conversions.{implicit, converting, to_integer}
use Rattle.c_typing.specs.Extensions.{IsExtended}
use Rattle.c_typing.specs.Judging.{State, Gives, next, pure, new_pointer}
use Rattle.c_typing.specs.Operands.{reading_of, place_value, value_of, side_of, given}
use Rattle.c_typing.specs.Refusals.{IsElaborated}
use Rattle.c_typing.specs.Scopes.{Scopes}
use Rattle.c_typing.specs.Settled.{IsKnown, IsSideOf, GoesOn}
use Rattle.c_typing.specs.Tests.{Elaborated, AsPlace, AsValue, AsAllocation, first_broken, fits, are_one_struct, is_array_part}
use Rattle.c_typing.specs.Walks.{judge}
use Rattle.c_typing_laws.proofs.ConstructLaws.{one_unbroken, not_false}
use Rattle.c_typing_laws.proofs.ExtensionLaws.{no_true, and_left, and_right, still_in}
use Rattle.c_typing_laws.proofs.JudgedAssignments.{given-gives}
use Rattle.c_typing_laws.proofs.JudgedTrees.{expr-judged}
use Rattle.c_typing_laws.proofs.KnownStates.{goes-on}
use Rattle.c_typing_laws.proofs.Outcomes.{bind-gives, unless-gives, gives-value, gives-state}
use Rattle.c_typing_laws.proofs.SidesAlike.{fits_same}
use Rattle.c_typing_laws.proofs.SidesTaken.{given-side, side-natural}
use Rattle.c_typing_laws.proofs.TypesThere.{place-there}
use Rattle.c_typing_laws.proofs.ValuesTaken.{part-kept, natural-no_place}
use Rattle.c_unit_typing.specs.Initialisers.{is_constant, is_constant_place}
use Rattle.c_unit_typing.specs.UnitRefusals.{is_constant_part}

-- conversions

integer_constant : (T : Table) (homes : List NodeId) (at : Place) (t : TypeId) (e : TypedExpr) → is_constant T homes (to_integer at t e) ≡ is_constant T homes e
integer_constant T homes at t e = by ((type_of e).0 == t.0)
  where
    by : (b : Bool) → is_constant T homes (if b then e else typed.Convert conversion.IntegerToInteger at t e) ≡ is_constant T homes e
    by true = refl
    by false = refl

converting_constant : (T : Table) (homes : List NodeId) (which : Conversion) (at : Place) (t : TypeId) (e : TypedExpr) → is_constant T homes (converting which at t e) ≡ is_constant T homes e
converting_constant T homes conversion.IntegerToInteger at t e = integer_constant T homes at t e
converting_constant T homes which at t e = refl

converted_constant : (T : Table) (homes : List NodeId) (o : Option Conversion) (at : Place) (t : TypeId) (e : TypedExpr) → is_constant T homes (converted_by o at t e) ≡ is_constant T homes e
converted_constant T homes None at t e = refl
converted_constant T homes (Some which) at t e = converting_constant T homes which at t e

-- what is given of the part

abbrev IsConstantToo : Table → List NodeId → TypeId → Place → Elaborated → Elaborated → Type 0
IsConstantToo T homes t at x y = is_constant_part T homes x ≡ true → is_constant T homes (converted_part T t at y) ≡ true

no_array : {P : Type 0} (T : Table) (homes : List NodeId) (p : TypedPlace) → is_array_part T (AsPlace p) ≡ false → is_constant_part T homes (AsPlace p) ≡ true → P
no_array T homes p n h = absurd (true≢false (sym (and_left (is_array_part T (AsPlace p)) (is_constant_place T homes p) h) ∙ n))

module _ (homes : List NodeId) (t : TypeId) (at seat : Place) (y : Elaborated) (s r : State) where
  read_constant : (p : TypedPlace) (z : TypeShape) → shape_at r.table (place_type p) ≡ z → (v : TypedExpr) (m : State) → place_value at p (reading_of z) s ≡ Gives v m → y ≡ side_of v
      → IsConstantToo r.table homes t seat (AsPlace p) y
  unfolding place_value
  read_constant p (Array element count) q v m h e =
      let one = bind-gives (new_pointer at element s) (λ made. pure (typed.Decay p made.node made.type)) v m h in
      let made = gives-value (typed.Decay p one.0.node one.0.type) v one.1 m one.3 in
      λ c. subst (λ (w : Elaborated). is_constant r.table homes (converted_part r.table t seat w) ≡ true) (sym (e ∙ ap side_of (sym made)))
      (converted_constant r.table homes (implicit r.table (typed.Decay p one.0.node one.0.type) t) seat t (typed.Decay p one.0.node one.0.type)
      ∙ and_right (is_array_part r.table (AsPlace p)) (is_constant_place r.table homes p) c)
  read_constant p Void q v m h e = λ c. no_array r.table homes p (rw q refl) c
  read_constant p (Integer n k) q v m h e = λ c. no_array r.table homes p (rw q refl) c
  read_constant p (Pointer n u) q v m h e = λ c. no_array r.table homes p (rw q refl) c
  read_constant p (Function ps u) q v m h e = λ c. no_array r.table homes p (rw q refl) c
  read_constant p (Struct n) q v m h e = λ c. no_array r.table homes p (rw q refl) c
  read_constant p (Union n) q v m h e = λ c. no_array r.table homes p (rw q refl) c

  given_constant : (e : tree.Expr) (x : Elaborated) (s0 : Scopes) → IsKnown s → IsExtended s.table r.table → IsElaborated s.table e x s0 s.seen.scopes → given t at x s ≡ Gives y r
      → IsConstantToo r.table homes t seat x y
  unfolding given value_of
  given_constant e (AsPlace p) s0 k x el h =
      let one = bind-gives (value_of at (AsPlace p) s) (λ v. pure (side_of v)) y r h in
      let same = x.shapes (place_type p) (place-there s.table k.basic p s0 s.seen.scopes el.0) in
      read_constant p (shape_at s.table (place_type p)) same one.0 one.1 one.2 (sym (gives-value (side_of one.0) y one.1 r one.3))
  given_constant e (AsValue w) s0 k x el h =
      let one = bind-gives (value_of at (AsValue w) s) (λ v. pure (side_of v)) y r h in
      let value = gives-value w one.0 s one.1 one.2 in
      let made : y ≡ AsValue w = sym (gives-value (side_of one.0) y one.1 r one.3) ∙ ap side_of (sym value) ∙ side-natural w (natural-no_place w el.2) in
      λ c. subst (λ (z : Elaborated). is_constant r.table homes (converted_part r.table t seat z) ≡ true) (sym made)
      (converted_constant r.table homes (implicit r.table w t) seat t w ∙ c)
  given_constant e (AsAllocation w) s0 k x el h = λ c. no_true c

-- a part becomes a value of the type, or is a struct of it, where a place of the type is one struct with it
abbrev becomes_by : Table → TypeId → Elaborated → Bool
becomes_by T t x = fits T x (shape_at T t) || are_one_struct T (AsPlace (typed.String [] (record { 0 = 0 }) t)) x

or_no : (b : Bool) → b ≡ (b || false)
or_no true = refl
or_no false = refl

becomes_is : (T : Table) (t : TypeId) (x : Elaborated) → becomes T t x ≡ becomes_by T t x
becomes_is T t (AsPlace p) = refl
becomes_is T t (AsValue e) = or_no (fits T (AsValue e) (shape_at T t))
becomes_is T t (AsAllocation e) = or_no (fits T (AsAllocation e) (shape_at T t))

becomes_alike : (T : Table) (t : TypeId) (x y : Elaborated) → IsSideOf T x y → becomes T t x ≡ becomes T t y
becomes_alike T t x y a =
    let fit = fits_same T x y a (shape_at T t) in
    let struct = (a.structs (AsPlace (typed.String [] (record { 0 = 0 }) t))).1 in
    becomes_is T t x ∙ (λ i. fit i || struct i) ∙ sym (becomes_is T t y)

-- the part whose value became one of the type t
pub record IsInitialPart (e : tree.Expr) (t : TypeId) (v : TypedExpr) (s m : State) : Type 0 where
  pub x : Elaborated
  pub part : IsElaborated m.table e x s.seen.scopes m.seen.scopes
  pub becomes : becomes m.table t x ≡ true
  pub constant : (homes : List NodeId) → is_constant_part m.table homes x ≡ true → is_constant m.table homes v ≡ true
  pub goes : GoesOn s m

pub initial-part : (t : TypeId) (at : Place) (e : tree.Expr) (v : TypedExpr) (s m : State) → IsKnown s → IsType s.table t → checked_value t at true e s ≡ Gives v m → IsInitialPart e t v s m
unfolding checked_value converted_value taken
initial-part t at e v s m k b h =
    let one = bind-gives (judge false e s) (λ x. λ q. next (taken true t x q) (converted_value t at)) v m h in
    let o = one.0 in
    let q = one.1 in
    let j = (expr-judged e false o s q k one.2).judged in
    let two = bind-gives (taken true t o q) (converted_value t at) v m one.3 in
    let y = two.0 in
    let n = two.1 in
    let got = (given-gives e t o.place o.part y s.seen.scopes q n j.goes.known (still_in s.table q.table j.goes.extends t b) j.part two.2).1 in
    let side = given-side e t o.place o.part y s.seen.scopes q n j.goes.known j.part two.2 in
    let go = unless-gives (first_broken (value_tests n.table t at y)) (λ (w : State). pure (converted_part w.table t at y) w) n v m two.3 in
    let value = gives-value (converted_part n.table t at y) v n m go.1 in
    let state = gives-state (converted_part n.table t at y) v n m go.1 in
    let fit = not_false (becomes n.table t y) (one_unbroken (not (becomes n.table t y)) (Refused at rule.Mismatch) go.0) in
    subst (λ (w : State). IsInitialPart e t v s w) state (record {
      x = o.part;
      part = subst (λ (c : Scopes). IsElaborated n.table e o.part s.seen.scopes c) (sym got.scopes)
          (part-kept q.table n.table got.goes.extends j.goes.known.basic e o.part s.seen.scopes q.seen.scopes j.part);
      becomes = becomes_alike n.table t o.part y side ∙ fit;
      constant = λ homes c. ap (is_constant n.table homes) (sym value) ∙ given_constant homes t o.place at y q n e o.part s.seen.scopes j.goes.known got.goes.extends j.part two.2 c;
      goes = goes-on s q n j.goes got.goes;
    })
