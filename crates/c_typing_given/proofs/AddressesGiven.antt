-- `->`, `&` and `sizeof` of an expression are given.
use Rattle.std.proofs.Common.{◌≡◌, ◌≤◌, ℕ, Bool, false, [], ◌∷◌, length, Option, Some, None, refl, ap, sym, subst, ◌∙◌}
use Rattle.cc_base.specs.declared.place.Place.{Place}
use Rattle.cc_base.specs.declared.number.NodeId.{NodeId}
use Rattle.cc_base.specs.declared.number.TypeId.{TypeId}
use Rattle.c_types.specs.declared.shape.TypeShape.{TypeShape}
use Rattle.c_types.specs.Layouts.{size_of, member_at}
use Rattle.c_types.specs.Table.{Table, shape_at}
use Rattle.c_tree.specs.declared.leaf.Identifier.{Identifier}
use Rattle.c_tree.specs.declared.operator.MemberOperator.TheVariants as member_operator
use Rattle.c_tree.specs.declared.operator.Unary.TheVariants as unary
use Rattle.c_tree.specs.Places.{expr_place}
use Rattle.c_tree.specs.Tree as tree
use Rattle.c_tree.specs.TypedTree as typed
use Rattle.c_tree.specs.TypedTree.{TypedExpr, TypedPlace}
use Rattle.c_tree.specs.TypedParts.{Address, made_by, made_by_place, type_of, place_type}
use Rattle.c_typing.specs.Conversions.{bare}
use Rattle.c_typing.specs.Extensions.{IsExtended}
use Rattle.c_typing.specs.Held
use Rattle.c_typing.specs.Held.{held, held_with}
use Rattle.c_typing.specs.Judging.{State, Gives, pure, by_known, new_pointer, Pointing}
use Rattle.c_typing.specs.Operands.{Operand, Value, value, value_of}
use Rattle.c_typing.specs.Operations.{prefix, address, address_of_part, address_behind, size, size_of_part, size_type, pointed_member, member_at_pointer, Found, found}
use Rattle.c_typing.specs.Refusals.{IsElaborated}
use Rattle.c_typing.specs.Rules.{IsMemberAt, number_of_shape, pointer_behind, is_made_of_place}
use Rattle.c_typing.specs.Scopes.{Scopes}
use Rattle.c_typing.specs.Settled.{IsBasic, IsKnown}
use Rattle.c_typing.specs.Shapes.{pointee_at, pointee_of_shape}
use Rattle.c_typing.specs.Tests.{Elaborated, AsPlace, AsValue, AsAllocation, first_broken, address_tests, member_tests, size_tests, pointed_shape}
use Rattle.c_typing.specs.Walks.{judge}
use Rattle.c_typing_laws.proofs.HeldTrees.{held-law}
use Rattle.c_typing_laws.proofs.JudgedTrees.{expr-law}
use Rattle.c_typing_laws.proofs.Outcomes.{bind-gives, gives-value, gives-state}
use Rattle.c_typing_unique.specs.Points.{Point}
use Rattle.c_typing_unique.proofs.OperatorLaws.{bare-plain}
use Rattle.c_typing_unique.proofs.Reading.{Part, plain-bare}
use Rattle.c_typing_unique.proofs.Readings.{IsAddressed, of-place, of-element, of-function, IsSized, of-object, of-value}
use Rattle.c_typing_unique.proofs.Shapes.{no_true}
use Rattle.c_typing_exact.specs.Passing.{Passes}
use Rattle.c_typing_exact.proofs.OperatorPasses.{address-passes, designator-passes, behind_lvalue, arrow-passes, place-size-passes, value-size-passes}
use Rattle.c_rules_alike.proofs.OperatorRules.{size-over}
use Rattle.c_rules_alike.proofs.PartsAlike.{pointed-over}
use Rattle.c_rules_alike.proofs.TypesAlike.{pointee-over, pointee-in}
use Rattle.c_typing_given.specs.Given.{point_at, IsHere, IsPartGiven, IsGiven, IsValueGiven}
use Rattle.c_unit_typing.specs.Holding.{expr_holds}
use Rattle.c_type_order.specs.TypesUsed.{used_by_place, OfType}
use Rattle.c_typing_given.proofs.Constructing.{as-place, as-value, of-part, finish, uses-as, room-as, alike-as, scopes-at, plain-given, max-left, max-right, held-as}
use Rattle.c_typing_given.proofs.OperatorsGiven.{judges-prefix}
use Rattle.c_typing_given.proofs.PlacesGiven.{found-is, way-node, node-few, place-there}
use Rattle.c_typing_given.proofs.Settling.{of_part}
use Rattle.c_typing_given.proofs.Spent.{room-first}
use Rattle.c_typing_given.proofs.Steps.{then-is, construct-is, with_node, operand_with, pointing}
use Rattle.c_typing_given.proofs.ValuesGiven.{uses-first, same-place, same-value, pointer-after, way-pointer}
use Rattle.c_typing_given.proofs.AddressSteps.{judges-arrow, designator-natural, designator-unnamed}
pub use Rattle.c_typing_given.proofs.AddressSteps.{place-made, value-own}

module _ (T : Table) (basic : IsBasic T) where
  -- a value that is given, in its two steps
  pub record IsTakenApart (called : Bool) (e : tree.Expr) (v : TypedExpr) (s : State) (b : Point) (count : ℕ) (g : IsValueGiven T called e v s b count) : Type 0 where
    pub operand : Operand
    pub between : State
    pub gives : judge called e s ≡ Gives operand between
    pub taking : value_of operand.place operand.part between ≡ Gives g.value.expr g.after
    pub held : operand.held ≡ Held.held e
    pub place : operand.place ≡ expr_place e
    pub typed : IsElaborated between.table e operand.part s.seen.scopes between.seen.scopes
    pub known : IsKnown between
    pub grown : IsExtended s.table between.table

  pub taken-apart : (called : Bool) (e : tree.Expr) (v : TypedExpr) (s : State) (b : Point) (count : ℕ) (g : IsValueGiven T called e v s b count) → IsHere T s
      → IsTakenApart called e v s b count g
  unfolding value
  taken-apart called e v s b count g here =
      let one = bind-gives (judge called e s) value g.value g.after g.gives in
      let o : Operand = one.0 in
      let two = bind-gives (value_of one.0.place one.0.part one.1) (λ (x : TypedExpr). pure (record { expr = x; place = one.0.place; held = one.0.held })) g.value g.after one.3 in
      let made : Value = record { expr = two.0; place = one.0.place; held = one.0.held } in
      let own : two.0 ≡ g.value.expr = ap (λ (w : Value). w.expr) (gives-value (record { expr = two.0; place = one.0.place; held = one.0.held }) g.value two.1 g.after two.3) in
      let state : two.1 ≡ g.after = gives-state (record { expr = two.0; place = one.0.place; held = one.0.held }) g.value two.1 g.after two.3 in
      let j = expr-law called e one.0 s one.1 here.known one.2 in
      record {
        operand = one.0;
        between = one.1;
        gives = one.2;
        taking = two.2 ∙ (λ i. Gives (own i) (state i));
        held = held-law called e one.0 s one.1 one.2;
        place = j.place;
        typed = j.part;
        known = j.goes.known;
        grown = j.goes.extends;
      }

  -- `->`

  arrow_made : (begin at : Place) (name : Identifier) (e : TypedExpr) (whole : TypeId) (i : ℕ) (n : NodeId) (r : State) → pointee_at r.table (type_of e) ≡ Some whole
      → found begin (shape_at r.table whole) name r ≡ Gives (record { member = i; node = n }) (with_node r)
      → member_at_pointer begin at name e (pointee_at r.table (type_of e)) r ≡ Gives (AsPlace (typed.MemberAt e at name i n (member_at r.table whole i))) (with_node r)
  unfolding member_at_pointer
  arrow_made begin at name e whole i n r h k =
      ap (λ (o : Option TypeId). member_at_pointer begin at name e o r) h
      ∙ then-is (by_known (λ (s : State). found begin (shape_at s.table whole) name))
      (λ (f : Found). by_known (λ (s : State). pure (AsPlace (typed.MemberAt e at name f.member f.node (member_at s.table whole f.member))))) (record { member = i; node = n }) r (with_node r)
      (Gives (AsPlace (typed.MemberAt e at name i n (member_at r.table whole i))) (with_node r)) k refl

  arrow_is : (at : Place) (name : Identifier) (v : Value) (whole : TypeId) (i : ℕ) (n : NodeId) (r : State)
      → first_broken (member_tests r.seen.scopes (pointed_shape r.table (shape_at r.table (type_of v.expr))) at name.bytes name.place) ≡ None → held_with 0 (v.held ∷ []) ≤ 256
      → pointee_at r.table (type_of v.expr) ≡ Some whole → found v.place (shape_at r.table whole) name r ≡ Gives (record { member = i; node = n }) (with_node r)
      → pointed_member v at name r ≡ Gives (operand_with v.place (AsPlace (typed.MemberAt v.expr at name i n (member_at r.table whole i))) (held_with 0 (v.held ∷ []))) (with_node r)
  unfolding pointed_member
  arrow_is at name v whole i n r pass few h k =
      construct-is (λ s. member_tests s.seen.scopes (pointed_shape s.table (shape_at s.table (type_of v.expr))) at name.bytes name.place) v.place (v.held ∷ [])
      (by_known (λ s. member_at_pointer v.place at name v.expr (pointee_at s.table (type_of v.expr)))) r (with_node r)
      (AsPlace (typed.MemberAt v.expr at name i n (member_at r.table whole i))) pass few (arrow_made v.place at name v.expr whole i n r h k)

  pub arrow-given : (x : tree.Expr) (at : Place) (name : Identifier) → IsGiven T x → IsGiven T (tree.Member x member_operator.Arrow at name)
  arrow-given x at name gx called z s b count here h c uses room holds =
      let i = of-part T basic (tree.Member x member_operator.Arrow at name) z (point_at s) b h in
      let m : Point = i.4.0 in
      let q = as-place z (typed.MemberAt i.0 at name i.1 i.2 i.3) i.6 in
      let all = room-as T basic z (AsPlace (typed.MemberAt i.0 at name i.1 i.2 i.3)) s q room in
      let whole : TypeId = i.5.whole in
      let own = plain-bare i.0 i.5.pointer.plain in
      let g =
      plain-given T basic x gx i.0 s m count here i.4.1 (bare-plain i.0 i.5.pointer.plain) (uses-as T basic z (AsPlace (typed.MemberAt i.0 at name i.1 i.2 i.3)) (length s.table) count q uses)
      (room-first T (made_by i.0) (Address i.2 ∷ []) s all) (max-right (held (tree.Member x member_operator.Arrow at name)) (expr_holds x) 256 holds) in
      let v : Value = g.value in
      let r : State = g.after in
      let first = g.reached.way.first in
      let known = g.reached.here.known.basic in
      let has : IsMemberAt T r.seen.scopes i.0 name i.1 i.3 =
      subst (λ (sc : Scopes). IsMemberAt T sc i.0 name i.1 i.3) (sym (scopes-at T basic (made_by i.0) s r m count g.reached ∙ i.4.2)) i.5 in
      let same : v.expr ≡ i.0 = g.same ∙ own in
      let points : pointee_at r.table (type_of v.expr) ≡ Some has.whole =
      pointee-over r.table T first known (type_of v.expr) g.there.type ∙ ap (λ (e : TypedExpr). pointee_at T (type_of e)) same ∙ ap pointee_of_shape has.pointer.type.1.1 in
      let inside = pointee-in r.table T first known (type_of v.expr) has.whole points in
      let shape : shape_at r.table has.whole ≡ shape_at T has.whole = sym (first.shapes has.whole inside) in
      let pass =
      ap (λ (y : TypeShape). first_broken (member_tests r.seen.scopes y at name.bytes name.place)) (pointed-over r.table T first known (AsValue v.expr) g.there)
      ∙ arrow-passes T r.seen.scopes at i.0 name i.1 i.3 (AsValue v.expr) has (alike-as T basic v.expr (bare i.0) g.same) in
      let few = held-as (held_with 0 (v.held ∷ [])) (held (tree.Member x member_operator.Arrow at name)) 256 (λ j. held_with 0 (g.held j ∷ []))
      (max-left (held (tree.Member x member_operator.Arrow at name)) (expr_holds x) 256 holds) in
      let made = found-is v.place (shape_at r.table has.whole) name has.member.number i.1 i.2 r g.reached.here.small (ap number_of_shape shape ∙ has.member.declared) has.member.named
      (i.4.3 ∙ sym (ap (λ (a : Point). a.node) g.reached.point)) (node-few T basic (made_by i.0) s r i.2 all g.reached.way.spent) in
      finish T basic called (tree.Member x member_operator.Arrow at name) z (AsPlace (typed.MemberAt i.0 at name i.1 i.2 i.3))
      (operand_with v.place (AsPlace (typed.MemberAt v.expr at name i.1 i.2 (member_at r.table has.whole i.1))) (held_with 0 (v.held ∷ []))) s (with_node r) b count here h q
      (judges-arrow called x at name v s r
      (Gives (operand_with v.place (AsPlace (typed.MemberAt v.expr at name i.1 i.2 (member_at r.table has.whole i.1))) (held_with 0 (v.held ∷ []))) (with_node r)) g.gives
      (arrow_is at name v has.whole i.1 i.2 r pass few points made)) (way-node T basic (made_by i.0) s r i.2 count g.reached.here g.reached.way)

  -- `&`

  address_prefix : (at : Place) (p : Operand) (q : State) → prefix unary.AddressOf at p q ≡ address at p q
  unfolding prefix
  address_prefix at p q = refl

  address_is : (at : Place) (o : Operand) (x y : Elaborated) (k r : State) → o.part ≡ x → first_broken (address_tests at x) ≡ None → held_with 0 (o.held ∷ []) ≤ 256
      → address_of_part at x k ≡ Gives y r → address at o k ≡ Gives (operand_with at y (held_with 0 (o.held ∷ []))) r
  unfolding address
  address_is at o x y k r h pass few made =
      construct-is (λ s. address_tests at o.part) at (o.held ∷ []) (address_of_part at o.part) k r y (ap (λ (w : Elaborated). first_broken (address_tests at w)) h ∙ pass) few
      (ap (λ (w : Elaborated). address_of_part at w k) h ∙ made)

  address_place : (at : Place) (p : TypedPlace) (n : NodeId) (t : TypeId) (k r : State) → pointer_behind p ≡ None → new_pointer at (place_type p) k ≡ Gives (pointing n t) r
      → address_of_part at (AsPlace p) k ≡ Gives (AsValue (typed.AddressOf at p n t)) r
  unfolding address_of_part address_behind
  address_place at p n t k r h g =
      ap (λ (o : Option TypedExpr). address_behind at p o k) h
      ∙ then-is (new_pointer at (place_type p)) (λ (made : Pointing). pure (AsValue (typed.AddressOf at p made.node made.type))) (pointing n t) k r (Gives (AsValue (typed.AddressOf at p n t)) r) g refl

  address_element : (at : Place) (p : TypedPlace) (e : TypedExpr) (k : State) → pointer_behind p ≡ Some e
      → address_of_part at (AsPlace p) k ≡ Gives (AsValue (typed.AddressOfElement at p (type_of e))) k
  unfolding address_of_part address_behind
  address_element at p e k h = ap (λ (o : Option TypedExpr). address_behind at p o k) h

  address_function : (at : Place) (e : TypedExpr) (k : State) → address_of_part at (AsValue e) k ≡ Gives (AsValue (typed.AddressOfFunction at e)) k
  unfolding address_of_part
  address_function at e k = refl

  pub address-given : (at : Place) (x : tree.Expr) → IsGiven T x → IsGiven T (tree.Prefix unary.AddressOf at x)
  address-given at x gx called z s b count here h c uses room holds = by (of_part z) refl (of-part T basic (tree.Prefix unary.AddressOf at x) z (point_at s) b h)
    where
      inner : expr_holds x ≤ 256
      inner = max-right (held (tree.Prefix unary.AddressOf at x)) (expr_holds x) 256 holds

      few_of : (o : Operand) → o.held ≡ held x → held_with 0 (o.held ∷ []) ≤ 256
      few_of o same =
          held-as (held_with 0 (o.held ∷ [])) (held (tree.Prefix unary.AddressOf at x)) 256 (λ j. held_with 0 (same j ∷ []))
          (max-left (held (tree.Prefix unary.AddressOf at x)) (expr_holds x) 256 holds)

      by : (y : Part) → of_part z ≡ y → IsAddressed T x at (point_at s) b y → IsPartGiven T called (tree.Prefix unary.AddressOf at x) z s b count
      by _ k (of-place p n t read w) =
          let q = as-value T basic (tree.Prefix unary.AddressOf at x) z (typed.AddressOf at p n t) (point_at s) b h k refl in
          let us = uses-first (used_by_place T p) (OfType t ∷ []) (length s.table) count (uses-as T basic z (AsValue (typed.AddressOf at p n t)) (length s.table) count q uses) in
          let all = room-as T basic z (AsValue (typed.AddressOf at p n t)) s q room in
          let g = gx false (AsPlace p) s read.0 us.0 here read.1 tt us.1 (room-first T (made_by_place p) (Address n ∷ []) s all) inner in
          let o : Operand = g.operand in
          let made = pointer-after T basic at n t (place_type p) (made_by_place p) s g.after read.0 us.0 count g.reached w.type read.3 us.2 all in
          finish T basic called (tree.Prefix unary.AddressOf at x) z (AsValue (typed.AddressOf at p n t)) (operand_with at (AsValue (typed.AddressOf at p n t)) (held_with 0 (o.held ∷ []))) s made.after b count here h q
          (judges-prefix called unary.AddressOf at x o s g.after (Gives (operand_with at (AsValue (typed.AddressOf at p n t)) (held_with 0 (o.held ∷ []))) made.after) g.gives
          (address_prefix at o g.after ∙ address_is at o (AsPlace p) (AsValue (typed.AddressOf at p n t)) g.after made.after (same-place o.part p g.same) (address-passes at p w.lvalue) (few_of o g.held)
          (address_place at p n t g.after made.after w.own made.gives)))
          (way-pointer T basic (made_by_place p) s g.after us.0 count at n t (place_type p) g.reached.here g.reached.way made)
      by _ k (of-element p t read w) =
          let q = as-value T basic (tree.Prefix unary.AddressOf at x) z (typed.AddressOfElement at p t) (point_at s) b h k refl in
          let g =
          gx false (AsPlace p) s b count here read tt (uses-as T basic z (AsValue (typed.AddressOfElement at p t)) (length s.table) count q uses)
          (room-as T basic z (AsValue (typed.AddressOfElement at p t)) s q room) inner in
          let o : Operand = g.operand in
          finish T basic called (tree.Prefix unary.AddressOf at x) z (AsValue (typed.AddressOfElement at p t))
          (operand_with at (AsValue (typed.AddressOfElement at p (type_of w.pointer))) (held_with 0 (o.held ∷ []))) s g.after b count here h q
          (judges-prefix called unary.AddressOf at x o s g.after (Gives (operand_with at (AsValue (typed.AddressOfElement at p (type_of w.pointer))) (held_with 0 (o.held ∷ []))) g.after) g.gives
          (address_prefix at o g.after ∙ address_is at o (AsPlace p) (AsValue (typed.AddressOfElement at p (type_of w.pointer))) g.after g.after (same-place o.part p g.same)
          (address-passes at p (behind_lvalue p w.pointer w.behind)) (few_of o g.held) (address_element at p w.pointer g.after w.behind)))
          g.reached.way
      by _ k (of-function e read w) =
          let q = as-value T basic (tree.Prefix unary.AddressOf at x) z (typed.AddressOfFunction at e) (point_at s) b h k refl in
          let g =
          gx false (AsValue e) s b count here (read, designator-natural e w) (designator-unnamed e w) (uses-as T basic z (AsValue (typed.AddressOfFunction at e)) (length s.table) count q uses)
          (room-as T basic z (AsValue (typed.AddressOfFunction at e)) s q room) inner in
          let o : Operand = g.operand in
          finish T basic called (tree.Prefix unary.AddressOf at x) z (AsValue (typed.AddressOfFunction at e)) (operand_with at (AsValue (typed.AddressOfFunction at e)) (held_with 0 (o.held ∷ []))) s g.after b count here h q
          (judges-prefix called unary.AddressOf at x o s g.after (Gives (operand_with at (AsValue (typed.AddressOfFunction at e)) (held_with 0 (o.held ∷ []))) g.after) g.gives
          (address_prefix at o g.after ∙ address_is at o (AsValue e) (AsValue (typed.AddressOfFunction at e)) g.after g.after (same-value o.part e g.same) (designator-passes at e w) (few_of o g.held)
          (address_function at e g.after)))
          g.reached.way

  -- `sizeof`

  size_prefix : (at : Place) (p : Operand) (q : State) → prefix unary.SizeOf at p q ≡ size at p q
  unfolding prefix
  size_prefix at p q = refl

  size_is : (at : Place) (o : Operand) (x y : Elaborated) (k r : State) → o.part ≡ x → first_broken (size_tests k.table k.seen.scopes at x) ≡ None → held_with 0 (o.held ∷ []) ≤ 256
      → size_of_part at o.place x k ≡ Gives y r → size at o k ≡ Gives (operand_with at y (held_with 0 (o.held ∷ []))) r
  unfolding size
  size_is at o x y k r h pass few made =
      construct-is (λ s. size_tests s.table s.seen.scopes at o.part) at (o.held ∷ []) (size_of_part at o.place o.part) k r y
      (ap (λ (w : Elaborated). first_broken (size_tests k.table k.seen.scopes at w)) h ∙ pass) few
      (ap (λ (w : Elaborated). size_of_part at o.place w k) h ∙ made)

  size_place : (at begin : Place) (p : TypedPlace) (k : State)
      → size_of_part at begin (AsPlace p) k ≡ Gives (AsValue (typed.SizeOfPlace at p (size_of k.table (place_type p)) size_type)) k
  unfolding size_of_part
  size_place at begin p k = refl

  size_value : (at begin : Place) (u w : TypedExpr) (k r : State) → value_of begin (AsValue u) k ≡ Gives w r
      → size_of_part at begin (AsValue u) k ≡ Gives (AsValue (typed.SizeOfValue at w (size_of r.table (type_of w)) size_type)) r
  unfolding size_of_part
  size_value at begin u w k r h =
      then-is (value_of begin (AsValue u)) (λ (e : TypedExpr). by_known (λ (s : State). pure (AsValue (typed.SizeOfValue at e (size_of s.table (type_of e)) size_type)))) w k r
      (Gives (AsValue (typed.SizeOfValue at w (size_of r.table (type_of w)) size_type)) r) h refl

  size_block : (at begin : Place) (u w : TypedExpr) (k r : State) → value_of begin (AsAllocation u) k ≡ Gives w r
      → size_of_part at begin (AsAllocation u) k ≡ Gives (AsValue (typed.SizeOfValue at w (size_of r.table (type_of w)) size_type)) r
  unfolding size_of_part
  size_block at begin u w k r h =
      then-is (value_of begin (AsAllocation u)) (λ (e : TypedExpr). by_known (λ (s : State). pure (AsValue (typed.SizeOfValue at e (size_of s.table (type_of e)) size_type)))) w k r
      (Gives (AsValue (typed.SizeOfValue at w (size_of r.table (type_of w)) size_type)) r) h refl

  size_by : (at : Place) (o : Operand) (y : Elaborated) (w : TypedExpr) (k r : State) → o.part ≡ y → value_of o.place y k ≡ Gives w r → is_made_of_place w ≡ false
      → first_broken (size_tests r.table r.seen.scopes at (AsValue w)) ≡ None → held_with 0 (o.held ∷ []) ≤ 256
      → size at o k ≡ Gives (operand_with at (AsValue (typed.SizeOfValue at w (size_of r.table (type_of w)) size_type)) (held_with 0 (o.held ∷ []))) r
  size_by at o (AsPlace p) w k r h g own pass few = no_true (sym own ∙ place-made o.place p w k r g)
  size_by at o (AsValue u) w k r h g own pass few =
      let same = value-own o.place u w k r g in
      size_is at o (AsValue u) (AsValue (typed.SizeOfValue at w (size_of r.table (type_of w)) size_type)) k r h
      ((λ i. first_broken (size_tests (same.1 i).table (same.1 i).seen.scopes at (AsValue (same.0 i)))) ∙ pass) few (size_value at o.place u w k r g)
  size_by at o (AsAllocation u) w k r h g own pass few =
      size_is at o (AsAllocation u) (AsValue (typed.SizeOfValue at w (size_of r.table (type_of w)) size_type)) k r h refl few (size_block at o.place u w k r g)

  pub size-given : (at : Place) (x : tree.Expr) → IsGiven T x → IsGiven T (tree.Prefix unary.SizeOf at x)
  size-given at x gx called z s b count here h c uses room holds = by (of_part z) refl (of-part T basic (tree.Prefix unary.SizeOf at x) z (point_at s) b h)
    where
      inner : expr_holds x ≤ 256
      inner = max-right (held (tree.Prefix unary.SizeOf at x)) (expr_holds x) 256 holds

      few_of : (o : Operand) → o.held ≡ held x → held_with 0 (o.held ∷ []) ≤ 256
      few_of o same =
          held-as (held_with 0 (o.held ∷ [])) (held (tree.Prefix unary.SizeOf at x)) 256 (λ j. held_with 0 (same j ∷ []))
          (max-left (held (tree.Prefix unary.SizeOf at x)) (expr_holds x) 256 holds)

      by : (y : Part) → of_part z ≡ y → IsSized T x at (point_at s) b y → IsPartGiven T called (tree.Prefix unary.SizeOf at x) z s b count
      by _ k (of-object p n t read w) =
          let q = as-value T basic (tree.Prefix unary.SizeOf at x) z (typed.SizeOfPlace at p n t) (point_at s) b h k refl in
          let g =
          gx false (AsPlace p) s b count here read tt (uses-as T basic z (AsValue (typed.SizeOfPlace at p n t)) (length s.table) count q uses)
          (room-as T basic z (AsValue (typed.SizeOfPlace at p n t)) s q room) inner in
          let o : Operand = g.operand in
          let r : State = g.after in
          let pass =
          ap first_broken (size-over r.table T g.reached.way.first g.reached.here.known.basic r.seen.scopes at (AsPlace p) (place-there T basic x p s b count g))
          ∙ subst (λ (sc : Scopes). Passes (size_tests T sc at (AsPlace p))) (sym (scopes-at T basic (made_by_place p) s r b count g.reached)) (place-size-passes T b.scopes at p n t w) in
          finish T basic called (tree.Prefix unary.SizeOf at x) z (AsValue (typed.SizeOfPlace at p n t))
          (operand_with at (AsValue (typed.SizeOfPlace at p (size_of r.table (place_type p)) size_type)) (held_with 0 (o.held ∷ []))) s r b count here h q
          (judges-prefix called unary.SizeOf at x o s r (Gives (operand_with at (AsValue (typed.SizeOfPlace at p (size_of r.table (place_type p)) size_type)) (held_with 0 (o.held ∷ []))) r) g.gives
          (size_prefix at o r ∙ size_is at o (AsPlace p) (AsValue (typed.SizeOfPlace at p (size_of r.table (place_type p)) size_type)) r r (same-place o.part p g.same) pass (few_of o g.held)
          (size_place at o.place p r)))
          g.reached.way
      by _ k (of-value e n t read alone w) =
          let q = as-value T basic (tree.Prefix unary.SizeOf at x) z (typed.SizeOfValue at e n t) (point_at s) b h k refl in
          let g =
          plain-given T basic x gx e s b count here read (bare-plain e alone.plain) (uses-as T basic z (AsValue (typed.SizeOfValue at e n t)) (length s.table) count q uses)
          (room-as T basic z (AsValue (typed.SizeOfValue at e n t)) s q room) inner in
          let two = taken-apart false x e s b count g here in
          let o : Operand = two.operand in
          let r : State = g.after in
          let v : TypedExpr = g.value.expr in
          let same : g.value.expr ≡ e = g.same ∙ plain-bare e alone.plain in
          let pass =
          ap first_broken (size-over r.table T g.reached.way.first g.reached.here.known.basic r.seen.scopes at (AsValue g.value.expr) g.there)
          ∙ subst (λ (sc : Scopes). Passes (size_tests T sc at (AsValue g.value.expr))) (sym (scopes-at T basic (made_by e) s r b count g.reached))
          (subst (λ (u : TypedExpr). Passes (size_tests T b.scopes at (AsValue u))) (sym same) (value-size-passes T b.scopes at e n t alone.no_function w)) in
          finish T basic called (tree.Prefix unary.SizeOf at x) z (AsValue (typed.SizeOfValue at e n t))
          (operand_with at (AsValue (typed.SizeOfValue at g.value.expr (size_of r.table (type_of g.value.expr)) size_type)) (held_with 0 (o.held ∷ []))) s r b count here h q
          (judges-prefix called unary.SizeOf at x o s two.between
          (Gives (operand_with at (AsValue (typed.SizeOfValue at g.value.expr (size_of r.table (type_of g.value.expr)) size_type)) (held_with 0 (o.held ∷ []))) r) two.gives
          (size_prefix at o two.between ∙ size_by at o o.part g.value.expr two.between r refl two.taking (ap is_made_of_place same ∙ alone.value) pass (few_of o two.held)))
          g.reached.way
