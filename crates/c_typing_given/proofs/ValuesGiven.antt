-- The value of a part that is given is given: a place that is read, the address of an array, an allocation that nothing takes over.
use Rattle.std.proofs.Common.{◌≡◌, ◌≤◌, ℕ, Bool, true, false, List, [], ◌∷◌, ◌++◌, length, None, refl, ap, sym, subst, ◌∙◌, inl, inr, arith}
use Rattle.cc_base.specs.declared.place.Place.{Place}
use Rattle.cc_base.specs.declared.number.NodeId.{NodeId}
use Rattle.cc_base.specs.declared.number.TypeId.{TypeId}
use Rattle.c_types.specs.declared.shape.TypeShape.TheVariants.{Pointer}
use Rattle.c_types.specs.Table.{Table, HasShape, shape_at}
use Rattle.c_tree.specs.Tree as tree
use Rattle.c_tree.specs.TypedTree as typed
use Rattle.c_tree.specs.TypedTree.{TypedExpr, TypedPlace}
use Rattle.c_tree.specs.TypedParts.{Made, Address, made_by, made_by_place, place_type}
use Rattle.c_typing.specs.declared.typing.Reading.{Reading}
use Rattle.c_typing.specs.declared.typing.Reading.TheVariants as reading
use Rattle.c_typing.specs.Conversions.{bare, is_allocation, is_taken_over}
use Rattle.c_typing.specs.Judging.{State, Outcome, Gives, next, pure, Pointing, new_pointer, void_type}
use Rattle.c_typing.specs.Operands.{Operand, Value, value, value_of, place_value, raw_value, reading_of, made_raw}
use Rattle.c_typing.specs.Refusals.{is_natural, IsElaborated}
use Rattle.c_typing.specs.Rules.{is_made_of_place, runtime_named}
use Rattle.c_typing.specs.Scopes.{Seen}
use Rattle.c_typing.specs.Settled.{IsBasic}
use Rattle.c_typing.specs.Tests.{Elaborated, AsPlace, AsValue, AsAllocation}
use Rattle.c_typing.specs.Walks.{judge}
use Rattle.c_typing_laws.proofs.HeldTrees.{held-law}
use Rattle.c_typing_laws.proofs.JudgedTrees.{expr-judged, value-here}
use Rattle.c_typing_laws.proofs.KeptTrees.{value-kept}
use Rattle.c_typing_laws.proofs.KnownStates.{new_pointer-gives}
use Rattle.c_typing_laws.proofs.NodeNumbers.{numbered-from}
use Rattle.c_typing_laws.proofs.NumberedConstructs.{value-numbered}
use Rattle.c_typing_laws.proofs.NumberedTrees.{expr-makes, operand-whole}
use Rattle.c_typing_laws.proofs.Outcomes.{bind-gives, gives-value, gives-state}
use Rattle.c_typing_laws.proofs.TypesThere.{place-there}
use Rattle.c_typing_laws.proofs.ValuesTaken.{value-gives}
use Rattle.c_typing_unique.specs.Points.{Point, Numbers, IsRead, IsReadPlace}
use Rattle.c_typing_unique.proofs.Numbering.{two-parts}
use Rattle.c_typing_unique.proofs.Reading.{IsMadeOf, by-read, by-unread, by-decay, IsStanding, standing, bare-value, bare-read, bare-made, plain-one}
use Rattle.c_typing_exact.proofs.SameParts.{distinct, one}
use Rattle.c_rules_alike.specs.PartsThere.{IsPartThere}
use Rattle.c_rules_alike.proofs.PartsThere.{taken-there}
use Rattle.c_typing_given.specs.Given.{point_at, IsHere, IsOnWay, IsReached, IsCallableAs, IsPartGiven, IsGiven, IsValueGiven}
use Rattle.c_unit_typing.specs.Holding.{expr_holds}
use Rattle.c_typing_given.specs.Spending.{HasRoom}
use Rattle.c_type_order.specs.TypesUsed.{AreUses, used_by, used_by_place, Use, OfType}
use Rattle.c_typing_given.proofs.Settling.{small-kept, numbered-at}
use Rattle.c_typing_given.proofs.Spent.{room-first, room-then, spent-both}
use Rattle.c_typing_given.proofs.Steps.{then-is, pointing, IsPointerGiven, new_pointer-given}
use Rattle.c_typing_given.proofs.ValueSteps.{value-with, scalar-reads, aggregate-stays, plain-or, bare-used, unmade, raw-of, done-over}
pub use Rattle.c_typing_given.proofs.ValueSteps.{uses-first, use-one, same-place, same-value, same-allocation, natural-by}

module _ (T : Table) (basic : IsBasic T) where
  -- a pointer with a node of its own, after a part
  pub way-pointer : (made : List Made) (s k : State) (c count : ℕ) (at : Place) (n : NodeId) (t to : TypeId) → IsHere T k → IsOnWay T made s k c
      → (p : IsPointerGiven T basic (new_pointer at to k) n t k count) → IsOnWay T (made ++ Address n ∷ []) s p.after count
  way-pointer made s k c count at n t to here way p =
      let got = new_pointer-gives at to (pointing n t) k p.after here.known p.gives in
      let longer = got.1.goes.extends.longer in
      let seen = p.seen in
      record {
        first = p.first;
        small = small-kept k p.after here.small (ap (λ (z : Seen). z.scopes.members) seen) (ap (λ (z : Seen). z.scopes.defined) seen) longer
            (λ l. let e = ap (λ (z : Seen). length z.scopes.levels) seen in omega (arith, e, l)) p.bare;
        types = p.count;
        spent = spent-both T made (Address n ∷ []) s k p.after way.spent (record {
          nodes = let e = ap (λ (z : Seen). z.node) seen in omega (arith, e);
          globals = let e = ap (λ (z : Seen). z.globals) seen in omega (arith, e);
          cells = let e = ap (λ (z : Seen). z.cells) seen in omega (arith, e);
        });
      }

  -- what is given as a value is the value that stands there
  pub settle-value : (called : Bool) (e : tree.Expr) (v : TypedExpr) (o : Operand) (w : Value) (s k r : State) (b : Point) (count : ℕ) → IsHere T s → IsRead T e v (point_at s) b
      → is_taken_over (bare v) ≡ false → judge called e s ≡ Gives o k → value o k ≡ Gives w r → IsOnWay T (made_by v) s r count → IsValueGiven T called e v s b count
  unfolding value
  settle-value called e v o w s k r b count here h over g vg way =
      let j = expr-judged e called o s k here.known g in
      let f = (value-here called e o w s k r j vg).value in
      let whole = operand-whole called e o s k here.known g in
      let numbers = value-numbered o w s.seen.node k r whole.0 (expr-makes e called o s k here.known g) vg in
      let read : IsRead T e w.expr (point_at s) (point_at r) = (
        f.taken.erases,
        value-kept r.table T way.first f.goes.known.basic w.expr s.seen.scopes r.seen.scopes f.taken.typed,
        numbered-at T basic (made_by w.expr) s r (numbered-from (made_by w.expr) s r numbers),
      ) in
      let same = plain-one T (distinct T basic) e (one T basic e) w.expr v (point_at s) (point_at r) (point_at s) b read h refl here.own (done-over w.expr f.taken.settled.bare f.done) over in
      let made = bind-gives (value_of o.place o.part k) (λ (x : TypedExpr). pure (value-with o x)) w r vg in
      let own : made.0 ≡ w.expr = ap (λ (u : Value). u.expr) (gives-value (value-with o made.0) w made.1 r made.3) in
      let state : made.1 ≡ r = gives-state (value-with o made.0) w made.1 r made.3 in
      record {
        value = w;
        after = r;
        gives = ap (λ (q : Outcome Operand). next q value) g ∙ vg;
        same = sym f.taken.settled.bare ∙ same.0;
        place = f.place;
        held = (value-gives e o w s.seen.scopes k r j.judged.goes.known j.judged.part vg).held ∙ held-law called e o s k g;
        taken = f.taken;
        there =
            subst (λ (q : State). IsPartThere q.table (AsValue w.expr)) state
            (subst (λ (x : TypedExpr). IsPartThere made.1.table (AsValue x)) own
            (taken-there e o.place o.part made.0 s.seen.scopes k made.1 j.judged.goes.known j.judged.part made.2));
        reached = record {
          here = record { known = f.goes.known; first = way.first; small = way.small; own = same.2 };
          grown = f.goes.extends;
          point = same.1;
          way = way;
        };
      }

  value_is : (o : Operand) (x : Elaborated) (w : TypedExpr) (k r : State) → o.part ≡ x → value_of o.place x k ≡ Gives w r → value o k ≡ Gives (value-with o w) r
  unfolding value
  value_is o x w k r h g =
      then-is (value_of o.place o.part) (λ (y : TypedExpr). pure (value-with o y)) w k r (Gives (value-with o w) r) (ap (λ (y : Elaborated). value_of o.place y k) h ∙ g) refl

  -- a pointer with a node of its own is given at the next node, where its type is used next
  pub pointer-here : (at : Place) (n : NodeId) (t to : TypeId) (k : State) (count : ℕ) → IsHere T k → HasShape T t (Pointer n to) → n.0 ≡ k.seen.node
      → AreUses (OfType t ∷ []) (length k.table) count → HasRoom T (Address n ∷ []) k → IsPointerGiven T basic (new_pointer at to k) n t k count
  pointer-here at n t to k count here shape node uses room =
      let few = room.nodes in
      new_pointer-given T basic at n to t k count here.known here.first shape (use-one t (length k.table) count uses) node (omega (arith, few))

  pub pointer-after : (at : Place) (n : NodeId) (t to : TypeId) (made : List Made) (s k : State) (m : Point) (c count : ℕ) → IsReached T made s k m c → HasShape T t (Pointer n to)
      → n.0 ≡ m.node → AreUses (OfType t ∷ []) c count → HasRoom T (made ++ Address n ∷ []) s → IsPointerGiven T basic (new_pointer at to k) n t k count
  pointer-after at n t to made s k m c count r shape node uses room =
      pointer-here at n t to k count r.here shape (node ∙ sym (ap (λ (p : Point). p.node) r.point))
      (subst (λ (l : ℕ). AreUses (OfType t ∷ []) l count) (sym r.way.types) uses)
      (room-then T made (Address n ∷ []) s k room r.way.spent)

  callable_value : (called : Bool) (w : TypedExpr) → (called ≡ false → runtime_named w ≡ None) → IsCallableAs called (AsValue w)
  callable_value true w h = tt
  callable_value false w h = h refl

  pub callable-place : (called : Bool) (p : TypedPlace) → IsCallableAs called (AsPlace p)
  callable-place true p = tt
  callable-place false p = tt

  pub callable-block : (called : Bool) (w : TypedExpr) → IsCallableAs called (AsAllocation w)
  callable-block true w = tt
  callable-block false w = tt

  value_of_value : (at : Place) (w : TypedExpr) (k : State) → value_of at (AsValue w) k ≡ Gives w k
  unfolding value_of
  value_of_value at w k = refl

  value_of_block : (at : Place) (w u : TypedExpr) (n : NodeId) (t : TypeId) (k r : State) → new_pointer at void_type k ≡ Gives (pointing n t) r → made_raw n t w ≡ u
      → value_of at (AsAllocation w) k ≡ Gives u r
  unfolding value_of raw_value
  value_of_block at w u n t k r h q =
      then-is (new_pointer at void_type) (λ (made : Pointing). pure (made_raw made.node made.type w)) (pointing n t) k r (Gives u r) h (ap (λ (x : TypedExpr). Gives x r) q)

  value_of_place : (at : Place) (p : TypedPlace) (k : State) (how : Reading) (o : Outcome TypedExpr) → reading_of (shape_at k.table (place_type p)) ≡ how → place_value at p how k ≡ o
      → value_of at (AsPlace p) k ≡ o
  unfolding value_of
  value_of_place at p k how o h q = ap (λ (x : Reading). place_value at p x k) h ∙ q

  read_place : (at : Place) (p : TypedPlace) (k : State) → place_value at p reading.Reads k ≡ Gives (typed.Read p) k
  unfolding place_value
  read_place at p k = refl

  unread_place : (at : Place) (p : TypedPlace) (k : State) → place_value at p reading.Stays k ≡ Gives (typed.Unread p) k
  unfolding place_value
  unread_place at p k = refl

  decayed_place : (at : Place) (p : TypedPlace) (element : TypeId) (n : NodeId) (t : TypeId) (k r : State) → new_pointer at element k ≡ Gives (pointing n t) r
      → place_value at p (reading.Decays element) k ≡ Gives (typed.Decay p n t) r
  unfolding place_value
  decayed_place at p element n t k r h =
      then-is (new_pointer at element) (λ (made : Pointing). pure (typed.Decay p made.node made.type)) (pointing n t) k r (Gives (typed.Decay p n t) r) h refl

  -- the type of a place that is given is in the table so far
  pub place-shape : (called : Bool) (e : tree.Expr) (p : TypedPlace) (s : State) (m : Point) (c : ℕ) (g : IsPartGiven T called e (AsPlace p) s m c)
      → shape_at T (place_type p) ≡ shape_at g.after.table (place_type p)
  place-shape called e p s m c g =
      let own : IsElaborated g.after.table e (AsPlace p) s.seen.scopes g.after.seen.scopes =
      subst (λ (x : Elaborated). IsElaborated g.after.table e x s.seen.scopes g.after.seen.scopes) (same-place g.operand.part p g.same) g.typed in
      g.reached.way.first.shapes (place_type p) (place-there g.after.table g.reached.here.known.basic p s.seen.scopes g.after.seen.scopes own.0)

  module _ (e : tree.Expr) (given : IsGiven T e) (called : Bool) (v : TypedExpr) (s : State) (b : Point) (count : ℕ) (here : IsHere T s) (h : IsRead T e v (point_at s) b)
      (over : is_taken_over (bare v) ≡ false) (holds : expr_holds e ≤ 256) where
    plain_given : (w : TypedExpr) → made_by w ≡ made_by v → IsRead T e w (point_at s) b → is_made_of_place w ≡ false → is_allocation w ≡ false → (called ≡ false → runtime_named w ≡ None)
        → AreUses (used_by T w) (length s.table) count → HasRoom T (made_by w) s → IsValueGiven T called e v s b count
    plain_given w m r p a free uses room =
        let n : is_natural w ≡ true = natural-by w false false true p a (plain-or T w s.seen.scopes b.scopes r.1 p a) in
        let g = given called (AsValue w) s b count here (r, n) (callable_value called w free) uses room holds in
        settle-value called e v g.operand (value-with g.operand w) s g.after g.after b count here h over g.gives
        (value_is g.operand (AsValue w) w g.after g.after (same-value g.operand.part w g.same) (value_of_value g.operand.place w g.after))
        (subst (λ (made : List Made). IsOnWay T made s g.after count) m g.reached.way)

    block_given : (w : TypedExpr) → made_by w ≡ made_by v → IsRead T e w (point_at s) b → is_allocation w ≡ true → is_taken_over w ≡ false
        → AreUses (used_by T w) (length s.table) count → HasRoom T (made_by w) s → IsValueGiven T called e v s b count
    block_given w m r a o uses room =
        let raw = (raw-of T basic w s.seen.scopes b.scopes r.1 a o).0 in
        let n : NodeId = raw.node in
        let t : TypeId = raw.type in
        let cut = two-parts (made_by (unmade w)) (Address raw.node ∷ []) s.seen.node b.node (subst (λ (made : List Made). Numbers made s.seen.node b.node) raw.made r.2) in
        let mid : Point = record { scopes = b.scopes; node = cut.0 } in
        let us = uses-first (used_by T (unmade w)) (OfType raw.type ∷ []) (length s.table) count (subst (λ (all : List Use). AreUses all (length s.table) count) raw.used uses) in
        let whole = subst (λ (made : List Made). HasRoom T made s) raw.made room in
        let g =
        given called (AsAllocation (unmade w)) s mid us.0 here ((raw.erases ∙ r.0, (raw-of T basic w s.seen.scopes b.scopes r.1 a o).1, cut.1), raw.over) (callable-block called (unmade w))
        us.1 (room-first T (made_by (unmade w)) (Address raw.node ∷ []) s whole) holds in
        let block = same-allocation g.operand.part (unmade w) g.same in
        let p = pointer-after g.operand.place raw.node raw.type void_type (made_by (unmade w)) s g.after mid us.0 count g.reached raw.shape cut.2.0 us.2 whole in
        settle-value called e v g.operand (value-with g.operand (made_raw raw.node raw.type block.0)) s g.after p.after b count here h over g.gives
        (value_is g.operand (AsAllocation block.0) (made_raw raw.node raw.type block.0) g.after p.after block.1
        (value_of_block g.operand.place block.0 (made_raw raw.node raw.type block.0) raw.node raw.type g.after p.after p.gives refl))
        (subst (λ (made : List Made). IsOnWay T made s p.after count) (sym raw.made ∙ m)
        (way-pointer (made_by (unmade w)) s g.after us.0 count g.operand.place raw.node raw.type void_type g.reached.here g.reached.way p))

    place_given : (p : TypedPlace) (m : Point) (w : TypedExpr) → made_by w ≡ made_by v → IsReadPlace T e p (point_at s) m → IsMadeOf T p m.node w
        → AreUses (used_by T w) (length s.table) count → HasRoom T (made_by w) s → IsValueGiven T called e v s b count
    place_given p m _ made r (by-read scalar) uses room =
        let g = given called (AsPlace p) s m count here r (callable-place called p) uses room holds in
        settle-value called e v g.operand (value-with g.operand (typed.Read p)) s g.after g.after b count here h over g.gives
        (value_is g.operand (AsPlace p) (typed.Read p) g.after g.after (same-place g.operand.part p g.same)
        (value_of_place g.operand.place p g.after reading.Reads (Gives (typed.Read p) g.after)
        (ap reading_of (sym (place-shape called e p s m count g)) ∙ scalar-reads (shape_at T (place_type p)) scalar) (read_place g.operand.place p g.after)))
        (subst (λ (all : List Made). IsOnWay T all s g.after count) made g.reached.way)
    place_given p m _ made r (by-unread aggregate) uses room =
        let g = given called (AsPlace p) s m count here r (callable-place called p) uses room holds in
        settle-value called e v g.operand (value-with g.operand (typed.Unread p)) s g.after g.after b count here h over g.gives
        (value_is g.operand (AsPlace p) (typed.Unread p) g.after g.after (same-place g.operand.part p g.same)
        (value_of_place g.operand.place p g.after reading.Stays (Gives (typed.Unread p) g.after)
        (ap reading_of (sym (place-shape called e p s m count g)) ∙ aggregate-stays (shape_at T (place_type p)) aggregate) (unread_place g.operand.place p g.after)))
        (subst (λ (all : List Made). IsOnWay T all s g.after count) made g.reached.way)
    place_given p m _ made r (by-decay n t d node) uses room =
        let us = uses-first (used_by_place T p) (OfType t ∷ []) (length s.table) count uses in
        let g = given called (AsPlace p) s m us.0 here r (callable-place called p) us.1 (room-first T (made_by_place p) (Address n ∷ []) s room) holds in
        let q = pointer-after g.operand.place n t d.element (made_by_place p) s g.after m us.0 count g.reached d.type node us.2 room in
        settle-value called e v g.operand (value-with g.operand (typed.Decay p n t)) s g.after q.after b count here h over g.gives
        (value_is g.operand (AsPlace p) (typed.Decay p n t) g.after q.after (same-place g.operand.part p g.same)
        (value_of_place g.operand.place p g.after (reading.Decays d.element) (Gives (typed.Decay p n t) q.after)
        (ap reading_of (sym (place-shape called e p s m us.0 g) ∙ d.array.1)) (decayed_place g.operand.place p d.element n t g.after q.after q.gives)))
        (subst (λ (all : List Made). IsOnWay T all s q.after count) made
        (way-pointer (made_by_place p) s g.after us.0 count g.operand.place n t d.element g.reached.here g.reached.way q))

    pub value-given : (called ≡ false → runtime_named (bare v) ≡ None) → AreUses (used_by T v) (length s.table) count → HasRoom T (made_by v) s → IsValueGiven T called e v s b count
    value-given free uses room = by (standing T e (bare v) (point_at s) b (bare-value T v s.seen.scopes b.scopes h.1) (bare-read T e v (point_at s) b h))
      where
        own_uses : AreUses (used_by T (bare v)) (length s.table) count
        own_uses = subst (λ (all : List Use). AreUses all (length s.table) count) (sym (bare-used T v)) uses

        own_room : HasRoom T (made_by (bare v)) s
        own_room = subst (λ (made : List Made). HasRoom T made s) (sym (bare-made v)) room

        by_allocation : (a : Bool) → is_allocation (bare v) ≡ a → is_made_of_place (bare v) ≡ false → IsRead T e (bare v) (point_at s) b → IsValueGiven T called e v s b count
        by_allocation false a p r = plain_given (bare v) (bare-made v) r p a free own_uses own_room
        by_allocation true a p r = block_given (bare v) (bare-made v) r a over own_uses own_room

        by : IsStanding T e (bare v) (point_at s) b → IsValueGiven T called e v s b count
        by (inl g) = by_allocation (is_allocation (bare v)) refl g.0 g.1
        by (inr g) = place_given g.0 g.1 (bare v) (bare-made v) g.2 g.3 own_uses own_room
