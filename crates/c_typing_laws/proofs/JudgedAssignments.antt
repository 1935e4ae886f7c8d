-- What judging gives for assignments, casts and commas, from what it gave for their operands.
use Rattle.std.proofs.Common.{◌≡◌, Bool, true, false, not, ◌&&◌, ◌||◌, ◌==◌, ◌+◌, nat_le, [], ◌∷◌, Option, Some, None, refl, ap, sym, subst, ◌∙◌, if◌then◌else◌}
use Rattle.cc_base.specs.declared.place.Place.{Place}
use Rattle.cc_base.specs.declared.number.TypeId.{TypeId}
use Rattle.cc_base.specs.declared.fault.Fault.TheVariants.{Refused, TooLarge}
use Rattle.cc_base.specs.declared.fault.Limit.TheVariants.{Types, Cells}
use Rattle.cc_base.specs.declared.fault.Rule.TheVariants as rule
use Rattle.c_types.specs.declared.shape.TypeShape.{TypeShape}
use Rattle.c_types.specs.declared.shape.TypeShape.TheVariants.{Void, Integer, Pointer, Array, Function, Struct, Union}
use Rattle.c_types.specs.Table.{Table, IsType, IsAggregate, shape_at, is_aggregate_shape}
use Rattle.c_types.specs.Sameness.{is_same_type}
use Rattle.c_tree.specs.declared.operator.Assignment.TheVariants as assignment
use Rattle.c_tree.specs.declared.typed_word.Conversion.{Conversion}
use Rattle.c_tree.specs.declared.typed_word.Conversion.TheVariants as conversion
use Rattle.c_tree.specs.Erasure.{erased, erased_place}
use Rattle.c_tree.specs.Places.{expr_place}
use Rattle.c_tree.specs.Tree as tree
use Rattle.c_tree.specs.TypedTree as typed
use Rattle.c_tree.specs.TypedTree.{TypedExpr, TypedPlace, TypedTypeName}
use Rattle.c_tree.specs.TypedParts.{type_of, place_type}
use Rattle.c_typing.specs.Assignments.{assign_given, converted_by, converted_to, assigned, moved, assign_part, part_type, assign, comma_part, comma}
use Rattle.c_typing.specs.Cells.{count_cells, pointers_in}
use Rattle.c_typing.specs.Constants.{is_null_constant}
use Rattle.c_typing.specs.Conversions.{bare, is_droppable, is_allocation, is_taken_over, implicit, implicit_between, is_pointer_to_complete, is_pointer_to_complete_shape, takes_over, IsAssignedBy}
use Rattle.c_typing.specs.Judging.{State, Gives, Stops, pure, by_known, new_pointer}
use Rattle.c_typing.specs.declared.typing.Reading.{Reading}
use Rattle.c_typing.specs.declared.typing.Reading.TheVariants as reading
use Rattle.c_typing.specs.Operands.{Operand, Value, reading_of, place_value, made_for, raw_value, value_of, side_of, given_allocation, given}
use Rattle.c_typing.specs.Operations.{construct}
use Rattle.c_typing.specs.Refusals.{IsElaborated}
use Rattle.c_typing.specs.Rules.{is_lvalue, is_made_of_place}
use Rattle.c_typing.specs.Scopes.{Scopes}
use Rattle.c_typing.specs.Settled.{IsValueOf, IsKnown, GoesOn, GoesOnThere, IsJudged}
use Rattle.c_typing.specs.Shapes.{is_scalar_shape, is_array_shape}
use Rattle.c_typing.specs.Tests.{Elaborated, AsPlace, AsValue, AsAllocation, first_broken, assign_tests, is_assignable, fits, are_one_struct, decayed, has_some, is_array_part}
use Rattle.c_typing.specs.Typing.{IsTyped, IsPlace}
use Rattle.c_typing_laws.proofs.ExtensionLaws.{no_true, and_left, and_right, extended_refl}
use Rattle.c_typing_laws.proofs.ConstructLaws.{two_unbroken, not_false, or_left, or_right}
use Rattle.c_typing_laws.proofs.ConversionLaws.{fits-converted, fits-typed}
use Rattle.c_typing_laws.proofs.KeptTypes.{pointed_exact}
use Rattle.c_typing_laws.proofs.KeptTrees.{place-kept}
use Rattle.c_typing_laws.proofs.Outcomes.{construct-gives, gives-value, gives-state, never-gives, bind-gives}
use Rattle.c_typing_laws.proofs.KnownStates.{stays, goes-on}
use Rattle.c_typing_laws.proofs.ValuesTaken.{given-same, natural-settled, natural-no_allocation, value_of-gives, raw_value-gives}
use Rattle.c_typing_laws.proofs.TypesThere.{part-there}
use Rattle.c_typing_laws.proofs.JudgedOperators.{made-here, made-later, to_integer-erased}

-- What is given to a type

-- a struct that is not read, a value that no pointer takes over, or an allocation that the type takes over
pub record IsFreeValue (T : Table) (t : TypeId) (e : tree.Expr) (v : TypedExpr) (s s' : Scopes) : Type 0 where
  pub value : IsValueOf T e v s s'
  pub free : (is_allocation v && is_pointer_to_complete T s' t) ≡ false

pub record IsOver (T : Table) (t : TypeId) (e : tree.Expr) (v : TypedExpr) (s s' : Scopes) : Type 0 where
  pub typed : IsTyped T v s s'
  pub erases : erased v ≡ e
  pub over : is_taken_over v ≡ true
  pub type : type_of v ≡ t
  pub pointer : is_pointer_to_complete T s' t ≡ true

abbrev pub IsGiven : Table → TypeId → tree.Expr → Elaborated → Scopes → Scopes → Type 0
IsGiven T t e (AsPlace p) s s' = IsPlace T p s s' × IsAggregate T (place_type p) × (erased_place p ≡ e)
IsGiven T t e (AsValue v) s s' = IsFreeValue T t e v s s'
IsGiven T t e (AsAllocation v) s s' = IsOver T t e v s s'

side-free : (T : Table) (t : TypeId) (e : tree.Expr) (v : TypedExpr) (s s' : Scopes) → IsValueOf T e v s s' → (is_allocation v && is_pointer_to_complete T s' t) ≡ false
    → IsGiven T t e (side_of v) s s'
side-free T t e (typed.Unread p) s s' h f = (h.typed.0, h.typed.1, h.erases)
side-free T t e v s s' h f = record { value = h; free = f }

and_no : (a b : Bool) → a ≡ false → (a && b) ≡ false
and_no true b h = no_true (sym h)
and_no false b h = refl

and_last : (a b : Bool) → b ≡ false → (a && b) ≡ false
and_last true b h = h
and_last false b h = refl

for-typed : (T : Table) (t : TypeId) (e : TypedExpr) (s s' : Scopes) → is_taken_over e ≡ true → IsTyped T e s s' → IsTyped T (made_for t e) s s'
for-typed T t (typed.Paren at e) s s' o h = (for-typed T t e s s' o h.0, no_place e o)
  where
    no_place : (v : TypedExpr) → is_taken_over v ≡ true → is_made_of_place (made_for t v) ≡ false
    no_place (typed.Paren q v) k = refl
    no_place (typed.AllocateFor runtime f q arguments u) k = refl
    no_place v k = no_true k
for-typed T t (typed.AllocateFor runtime f at arguments u) s s' o h = h
for-typed T t e s s' o h = no_true o

for-erased : (t : TypeId) (e : TypedExpr) → erased (made_for t e) ≡ erased e
for-erased t (typed.Paren at e) = ap (tree.Paren at) (for-erased t e)
for-erased t e = refl

for-type : (t : TypeId) (e : TypedExpr) → is_taken_over e ≡ true → (type_of (made_for t e) ≡ t) × (is_taken_over (made_for t e) ≡ true)
for-type t (typed.Paren at e) h = for-type t e h
for-type t (typed.AllocateFor runtime f at arguments u) h = (refl, refl)
for-type t e h = no_true h

pub place-form : (at : Place) (p : TypedPlace) (how : Reading) (v : TypedExpr) (s r : State) → place_value at p how s ≡ Gives v r → is_made_of_place v ≡ true
unfolding place_value
place-form at p (reading.Decays element) v s r h =
    let one = bind-gives (new_pointer at element s) (λ made. pure (typed.Decay p made.node made.type)) v r h in
    ap is_made_of_place (sym (gives-value (typed.Decay p one.0.node one.0.type) v one.1 r one.3))
place-form at p reading.Reads v s r h = ap is_made_of_place (sym (gives-value (typed.Read p) v s r h))
place-form at p reading.Stays v s r h = ap is_made_of_place (sym (gives-value (typed.Unread p) v s r h))
place-form at p reading.Nothing v s r h = never-gives v (TooLarge at Types) s r h

place-no_block : (e : TypedExpr) → is_made_of_place e ≡ true → is_allocation e ≡ false
place-no_block (typed.Read p) h = refl
place-no_block (typed.Unread p) h = refl
place-no_block (typed.Decay p n t) h = refl
place-no_block (typed.Convert which at t e) h = refl
place-no_block e h = no_true h

pub given-gives : (e : tree.Expr) (t : TypeId) (at : Place) (x v : Elaborated) (s0 : Scopes) (s r : State) → IsKnown s → IsType s.table t
    → IsElaborated s.table e x s0 s.seen.scopes → given t at x s ≡ Gives v r → IsGiven r.table t e v s0 r.seen.scopes × GoesOnThere s r
unfolding given given_allocation value_of
given-gives e t at (AsAllocation w) v s0 s r k there el h = by (is_pointer_to_complete s.table s.seen.scopes t) refl h
  where
    by : (b : Bool) → is_pointer_to_complete s.table s.seen.scopes t ≡ b → given_allocation t at w b s ≡ Gives v r
        → IsGiven r.table t e v s0 r.seen.scopes × GoesOnThere s r
    by true p q = given-same (λ (y : Elaborated) (m : State). IsGiven m.table t e y s0 m.seen.scopes × GoesOnThere s m) (AsAllocation (made_for t w)) v s r q (
      record {
        typed = for-typed s.table t w s0 s.seen.scopes el.2 el.0;
        erases = for-erased t w ∙ el.1;
        over = (for-type t w el.2).1;
        type = (for-type t w el.2).0;
        pointer = p;
      },
      stays s k,
    )
    by false p q =
        let one = bind-gives (raw_value at w s) (λ u. pure (AsValue u)) v r q in
        let taken = raw_value-gives e at w one.0 s0 s one.1 k el one.2 in
        let same : is_pointer_to_complete one.1.table one.1.seen.scopes t ≡ false =
        ap (λ (q : Scopes). is_pointer_to_complete one.1.table q t) taken.1.scopes
        ∙ pointed_exact s.table one.1.table taken.1.goes.extends k.basic s.seen.scopes t there ∙ p in
        given-same (λ (y : Elaborated) (m : State). IsGiven m.table t e y s0 m.seen.scopes × GoesOnThere s m) (AsValue one.0) v one.1 r one.3
        (record { value = taken.0; free = and_last (is_allocation one.0) (is_pointer_to_complete one.1.table one.1.seen.scopes t) same }, taken.1)
given-gives e t at (AsValue w) v s0 s r k there el h =
    given-same (λ (y : Elaborated) (m : State). IsGiven m.table t e y s0 m.seen.scopes × GoesOnThere s m) (side_of w) v s r h (
      side-free s.table t e w s0 s.seen.scopes (record { typed = el.0; erases = el.1; settled = natural-settled s.table w s0 s.seen.scopes el.0 el.2 })
          (and_no (is_allocation w) (is_pointer_to_complete s.table s.seen.scopes t) (natural-no_allocation w el.2)),
      stays s k,
    )
given-gives e t at (AsPlace p) v s0 s r k there el h =
    let one = bind-gives (value_of at (AsPlace p) s) (λ u. pure (side_of u)) v r h in
    let taken = value_of-gives e at (AsPlace p) one.0 s0 s one.1 k el one.2 in
    given-same (λ (y : Elaborated) (m : State). IsGiven m.table t e y s0 m.seen.scopes × GoesOnThere s m) (side_of one.0) v one.1 r one.3
    (side-free one.1.table t e one.0 s0 one.1.seen.scopes taken.0 (and_no (is_allocation one.0) (is_pointer_to_complete one.1.table one.1.seen.scopes t) (no_block one.0 one.1 one.2)), taken.1)
  where
    no_block : (u : TypedExpr) (m : State) → value_of at (AsPlace p) s ≡ Gives u m → is_allocation u ≡ false
    no_block u m q = place-no_block u (place-form at p (reading_of (shape_at s.table (place_type p))) u s m q)

-- Assignments

pub converted-bare : (at : Place) (t : TypeId) (e : TypedExpr) (o : Option Conversion) → bare e ≡ e → bare (converted_by o at t e) ≡ e
converted-bare at t e None h = h
converted-bare at t e (Some conversion.IntegerToInteger) h = by ((type_of e).0 == t.0)
  where
    by : (b : Bool) → bare (if b then e else typed.Convert conversion.IntegerToInteger at t e) ≡ e
    by true = h
    by false = refl
converted-bare at t e (Some which) h = refl

pub converted-erased : (at : Place) (t : TypeId) (e : TypedExpr) (o : Option Conversion) → erased (converted_by o at t e) ≡ erased e
converted-erased at t e None = refl
converted-erased at t e (Some conversion.IntegerToInteger) = to_integer-erased at t e
converted-erased at t e (Some which) = refl

pub decayed-same : (x : TypeShape) → is_array_shape x ≡ false → decayed x ≡ x
decayed-same (Array t n) h = no_true (sym h)
decayed-same x h = refl

pub implicit-scalar : (T : Table) (null : Bool) (x y : TypeShape) → has_some (implicit_between T null x y) ≡ true → is_scalar_shape y ≡ true
implicit-scalar T null (Integer a s) (Integer b r) h = refl
implicit-scalar T true x (Pointer n u) h = refl
implicit-scalar T false (Pointer m t) (Pointer n u) h = refl
implicit-scalar T null x y h = no_true h

pub struct-fits : (T : Table) (x y : TypeShape) → is_aggregate_shape x ≡ true → has_some (implicit_between T false (decayed x) y) ≡ false
struct-fits T (Struct n) y h = refl
struct-fits T (Union n) y h = refl
struct-fits T Void y h = no_true h
struct-fits T (Integer bytes signed) y h = no_true h
struct-fits T (Pointer n t) y h = no_true h
struct-fits T (Array t n) y h = no_true h
struct-fits T (Function ps r) y h = no_true h

pub pointed-scalar : (T : Table) (s : Scopes) (x : TypeShape) → is_pointer_to_complete_shape T s x ≡ true → is_scalar_shape x ≡ true
pointed-scalar T s (Pointer n t) h = refl
pointed-scalar T s Void h = no_true h
pointed-scalar T s (Integer bytes signed) h = no_true h
pointed-scalar T s (Array t n) h = no_true h
pointed-scalar T s (Function ps r) h = no_true h
pointed-scalar T s (Struct n) h = no_true h
pointed-scalar T s (Union n) h = no_true h

pub over-bare : (e : TypedExpr) → is_taken_over e ≡ true → (bare e ≡ e) × (is_allocation e ≡ true)
over-bare (typed.Paren at e) h = (refl, over_allocation e h)
  where
    over_allocation : (v : TypedExpr) → is_taken_over v ≡ true → is_allocation v ≡ true
    over_allocation (typed.Paren at v) k = over_allocation v k
    over_allocation (typed.AllocateFor runtime f at arguments u) k = refl
    over_allocation v k = no_true k
over-bare (typed.AllocateFor runtime f at arguments u) h = (refl, refl)
over-bare e h = no_true h

or_nothing : (b : Bool) → (b || false) ≡ true → b ≡ true
or_nothing true h = refl
or_nothing false h = h

pub or_else : (a b : Bool) → a ≡ false → (a || b) ≡ true → b ≡ true
or_else true b p h = no_true (sym p)
or_else false b p h = h

assign_elaborated : (T : Table) (ea eb : tree.Expr) (p : TypedPlace) (at : Place) (v : Elaborated) (s0 m s : Scopes) → IsPlace T p s0 m → erased_place p ≡ ea
    → IsGiven T (place_type p) eb v m s → first_broken (assign_tests T s assignment.Assign at (AsPlace p) v) ≡ None
    → IsElaborated T (tree.Assign assignment.Assign ea at eb) (assigned T at p v) s0 s
assign_elaborated T ea eb p at v s0 m s place same given_v u = by v given_v (not_false (is_assignable T assignment.Assign (AsPlace p) v) two.0)
  where
    two : (not (is_assignable T assignment.Assign (AsPlace p) v) ≡ false) × ((not (is_lvalue p) || is_array_part T (AsPlace p)) ≡ false)
    two = two_unbroken (not (is_assignable T assignment.Assign (AsPlace p) v)) (not (is_lvalue p) || is_array_part T (AsPlace p)) (Refused at rule.Mismatch) (Refused at rule.NotPlace) u

    lvalue : is_lvalue p ≡ true
    lvalue = not_false (is_lvalue p) (or_left (not (is_lvalue p)) (is_array_part T (AsPlace p)) two.1)

    x : TypeShape
    x = shape_at T (place_type p)

    own : decayed (shape_at T (place_type p)) ≡ shape_at T (place_type p)
    own = decayed-same (shape_at T (place_type p)) (or_right (not (is_lvalue p)) (is_array_part T (AsPlace p)) two.1)

    by : (y : Elaborated) → IsGiven T (place_type p) eb y m s → is_assignable T assignment.Assign (AsPlace p) y ≡ true
        → IsElaborated T (tree.Assign assignment.Assign ea at eb) (assigned T at p y) s0 s
    by (AsPlace q) g h =
        let one = or_else (fits T (AsPlace q) (decayed (shape_at T (place_type p)))) (are_one_struct T (AsPlace p) (AsPlace q))
        (struct-fits T (shape_at T (place_type q)) (decayed (shape_at T (place_type p))) g.1) h in
        let second = g.2 in (
          (
            m,
            place,
            g.0,
            record {
              types = record {
                aggregate = and_left (is_aggregate_shape (shape_at T (place_type p))) (is_same_type T (place_type p) (place_type q)) one;
                same = and_right (is_aggregate_shape (shape_at T (place_type p))) (is_same_type T (place_type p) (place_type q)) one;
              };
              lvalue = lvalue;
            },
          ),
          λ i. tree.Assign assignment.Assign (same i) at (second i),
        )
    by (AsValue w) g h =
        let fit : fits T (AsValue w) (shape_at T (place_type p)) ≡ true =
        subst (λ (z : TypeShape). fits T (AsValue w) z ≡ true) own (or_nothing (fits T (AsValue w) (decayed (shape_at T (place_type p)))) h) in
        let t : TypeId = place_type p in
        let made : TypedExpr = converted_to T at (place_type p) w in
        let free : takes_over T s (place_type p) (converted_to T at (place_type p) w) ≡ false =
        ap (λ (e : TypedExpr). is_allocation e && is_pointer_to_complete T s (place_type p)) (converted-bare at (place_type p) w (implicit T w (place_type p)) g.value.settled.bare) ∙ g.free in
        let second : erased (converted_to T at (place_type p) w) ≡ eb = converted-erased at (place_type p) w (implicit T w (place_type p)) ∙ g.value.erases in (
          (
            m,
            place,
            fits-typed T m s at (place_type p) w g.value.settled g.value.typed fit,
            record {
              scalar = implicit-scalar T (is_null_constant T w) (shape_at T (type_of w)) (shape_at T (place_type p)) fit;
              assigned = subst (λ (c : Bool). IsAssignedBy c T at (place_type p) (converted_to T at (place_type p) w)) (sym free)
                  (fits-converted T m s at (place_type p) w g.value.settled g.value.typed fit);
              lvalue = lvalue;
            },
          ),
          (λ i. tree.Assign assignment.Assign (same i) at (second i)),
          refl,
        )
    by (AsAllocation w) g h =
        let block = over-bare w g.over in
        let over : takes_over T s (place_type p) w ≡ true =
        ap (λ (e : TypedExpr). is_allocation e && is_pointer_to_complete T s (place_type p)) block.0
        ∙ (λ i. block.1 i && g.pointer i) in
        let second = g.erases in (
          (
            m,
            place,
            g.typed,
            record {
              scalar = pointed-scalar T s (shape_at T (place_type p)) g.pointer;
              assigned = subst (λ (c : Bool). IsAssignedBy c T at (place_type p) w) (sym over) (record { over = g.over; type = g.type });
              lvalue = lvalue;
            },
          ),
          (λ i. tree.Assign assignment.Assign (same i) at (second i)),
          refl,
        )

-- counting what is moved leaves all else as it was
pub moved-gives : (at : Place) (t : TypeId) (y : Elaborated) (s : State) (u : TypeId) (r : State) → IsKnown s → moved at t y s ≡ Gives u r
    → GoesOnThere s r × (r.table ≡ s.table)
unfolding count_cells
moved-gives at t (AsPlace q) s u r k h = by (nat_le (s.seen.cells + pointers_in s.table t) 65536) h
  where
    after : State
    after = record s { seen = record s.seen { cells = s.seen.cells + pointers_in s.table t } }

    here : GoesOnThere s after
    here = record {
      goes = record { extends = extended_refl s.table; known = record { basic = k.basic; followed = k.followed; levels = k.levels; numbered = k.numbered } };
      scopes = refl;
    }

    by : (b : Bool) → (if b then Gives t (record s { seen = record s.seen { cells = s.seen.cells + pointers_in s.table t } }) else Stops (TooLarge at Cells) s) ≡ Gives u r
        → GoesOnThere s r × (r.table ≡ s.table)
    by true q = let same = gives-state t u after r q in (subst (GoesOnThere s) same here, ap (λ (x : State). x.table) (sym same))
    by false q = never-gives u (TooLarge at Cells) s r q
moved-gives at t (AsValue e) s u r k h = let same = gives-state t u s r h in (subst (GoesOnThere s) same (stays s k), ap (λ (x : State). x.table) (sym same))
moved-gives at t (AsAllocation e) s u r k h = let same = gives-state t u s r h in (subst (GoesOnThere s) same (stays s k), ap (λ (x : State). x.table) (sym same))

pub assign-judged : (ea eb : tree.Expr) (x : Operand) (at : Place) (y o : Operand) (s0 m : Scopes) (s r : State) → IsKnown s → IsElaborated s.table ea x.part s0 m
    → IsElaborated s.table eb y.part m s.seen.scopes → x.place ≡ expr_place ea → assign x at y s ≡ Gives o r
    → IsJudged (tree.Assign assignment.Assign ea at eb) o s0 s r
unfolding assign assign_given assign_part
assign-judged ea eb x at y o s0 m s r k ex ey here h =
    let one = bind-gives (given (part_type x.part) y.place y.part s)
    (λ v. construct (λ q. assign_tests q.table q.seen.scopes assignment.Assign at x.part v) x.place (x.held ∷ y.held ∷ []) (assign_part at x.part v)) o r h in
    let v : Elaborated = one.0 in
    let got = given-gives eb (part_type x.part) y.place y.part v m s one.1 k (part-there s.table k.basic ea x.part s0 m ex) ey one.2 in
    let c = construct-gives (λ (q : State). assign_tests q.table q.seen.scopes assignment.Assign at x.part v) x.place (x.held ∷ y.held ∷ []) (assign_part at x.part v) one.1 o r one.3 in
    by x.part v one.1 ex got.0 got.1.goes c.unbroken c.part (c.place ∙ here)
  where
    by : (z v : Elaborated) (n : State) → IsElaborated s.table ea z s0 m → IsGiven n.table (part_type z) eb v m n.seen.scopes → GoesOn s n
        → first_broken (assign_tests n.table n.seen.scopes assignment.Assign at z v) ≡ None → assign_part at z v n ≡ Gives o.part r → o.place ≡ expr_place ea
        → IsJudged (tree.Assign assignment.Assign ea at eb) o s0 s r
    by (AsPlace p) v n l g goes u q place =
        let one = bind-gives (moved at (place_type p) v n) (λ t. by_known (λ k. pure (assigned k.table at p v))) o.part r q in
        let counted = moved-gives at (place_type p) v n one.0 one.1 goes.known one.2 in
        made-later (tree.Assign assignment.Assign ea at eb) (assigned one.1.table at p v) o s0 s one.1 r (goes-on s n one.1 goes counted.0.goes) one.3 place
        (subst (IsElaborated one.1.table (tree.Assign assignment.Assign ea at eb) (assigned one.1.table at p v) s0) (sym counted.0.scopes)
        (subst (λ (T : Table). IsElaborated T (tree.Assign assignment.Assign ea at eb) (assigned T at p v) s0 n.seen.scopes) (sym counted.1)
        (assign_elaborated n.table ea eb p at v s0 m n.seen.scopes (place-kept s.table n.table goes.extends k.basic p s0 m l.0) l.1 g u)))
    by (AsValue w) v n l g goes u q place = never-gives o.part (TooLarge at Types) n r q
    by (AsAllocation w) v n l g goes u q place = never-gives o.part (TooLarge at Types) n r q

-- `,`

comma_elaborated : (T : Table) (ea eb : tree.Expr) (a b : TypedExpr) (s0 m s : Scopes) → IsTyped T a s0 m → erased a ≡ ea → is_droppable a ≡ true → IsTyped T b m s → erased b ≡ eb
    → is_droppable b ≡ true → IsElaborated T (tree.Comma ea eb) (comma_part a (side_of b)) s0 s
comma_elaborated T ea eb a (typed.Unread p) s0 m s ta qa da tb qb db = ((m, ta, tb.0, da, tb.1), λ i. tree.Comma (qa i) (qb i))
comma_elaborated T ea eb a b s0 m s ta qa da tb qb db = ((m, ta, tb, da, db), (λ i. tree.Comma (qa i) (qb i)), refl)

pub comma-judged : (ea eb : tree.Expr) (a b : Value) (o : Operand) (s0 m : Scopes) (s r : State) → IsKnown s → IsValueOf s.table ea a.expr s0 m
    → IsValueOf s.table eb b.expr m s.seen.scopes → is_droppable a.expr ≡ true → is_droppable b.expr ≡ true → a.place ≡ expr_place ea → comma a b s ≡ Gives o r
    → IsJudged (tree.Comma ea eb) o s0 s r
unfolding comma
comma-judged ea eb a b o s0 m s r k va vb da db here h =
    let c = construct-gives (λ (q : State). []) a.place (a.held ∷ b.held ∷ []) (pure (comma_part a.expr (side_of b.expr))) s o r h in
    made-here (tree.Comma ea eb) (comma_part a.expr (side_of b.expr)) o s0 s r k c.part (c.place ∙ here)
    (comma_elaborated s.table ea eb a.expr b.expr s0 m s.seen.scopes va.typed va.erases da vb.typed vb.erases db)
