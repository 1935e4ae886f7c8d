-- Pointers that move, arrays that decay, `&`, and tests for null keep the facts.
use Rattle.std.proofs.Common.{◌≡◌, ◌⊎◌, ◌∙◌, ℕ, ◌<◌, Bool, true, false, not, List, [], ◌∷◌, length, refl, ap, sym, subst, arith}
use Rattle.std.proofs.lemmas.Option.{slice_get-get_or}
use Rattle.std.specs.Prelude.{◌↔◌}
use Rattle.std.proofs.lemmas.List.Elements.{All-contains}
use Rattle.std.specs.List.{All, Contains}
use Rattle.cc_base.specs.declared.place.Place.{Place}
use Rattle.cc_base.specs.declared.kind.Kind.TheVariants.{Seq, Wild}
use Rattle.cc_base.specs.declared.number.NodeId.{NodeId}
use Rattle.cc_base.specs.declared.number.TypeId.{TypeId}
use Rattle.c_types.specs.declared.shape.TypeShape.{TypeShape}
use Rattle.c_types.specs.declared.shape.TypeShape.TheVariants as shape
use Rattle.kind_sites.specs.declared.site.Site.TheVariants as site
use Rattle.c_types.specs.Table.{IsComplete, IsAggregate, shape_at, members_at, parts_at, parts_of_shape, is_aggregate_shape, is_union_shape, is_empty, is_complete_entry}
use Rattle.c_types.specs.Layouts.{member_at}
use Rattle.kind_sites.specs.Solutions.{IsUnionAllowed, IsWildWhereMixed}
use Rattle.c_types.proofs.Lists.{contains_head}
use Rattle.integers.specs.Arithmetic.{IntegerType, int}
use Rattle.runs.specs.Outcome.{done}
use Rattle.src_mem.specs.Pointers.{Value, Integer, Address, Pointer, is_null}
use Rattle.src_mem.specs.Operations.{node_at, pointee, kind_in, node_of_shape, pointee_of_shape, amount, moved, member, decayed}
use Rattle.src_mem.specs.Values.{moved_value, null_value, negated_where, member_value, decayed_value, addressed}
use Rattle.src_mem.specs.Facts.{IsHeldIn, IsHeldBy, IsPlaceIn}
use Rattle.src_mem.specs.Laws.{Gives}
use Rattle.facts_kept.specs.Kept.{GivesPointer, GivesAddress}
use Rattle.facts_kept.proofs.Giving.{gives-from, gives-more}
use Rattle.facts_kept.proofs.Complete.{complete-data}
use Rattle.facts_kept.proofs.PartsSpread.{listed-at}
use Rattle.facts_kept.proofs.PlaceParts.{gives-member_place}
use Rattle.facts_kept.proofs.Moving.{gives-moved}
use Rattle.facts_kept.proofs.Addresses.{gives-decayed}
use Rattle.facts_kept.proofs.Addressing.{gives-addressed, gives-decayed_place}
use Rattle.cil_form.specs.declared.number.Temp.{Temp}
use Rattle.cil_form.specs.declared.instr.Direction.{Direction}
use Rattle.cil_form.specs.declared.instr.Point.TheVariants as point
use Rattle.cil_form.specs.declared.instr.Instr.TheVariants as instr
use Rattle.cil_form.specs.State.{Local, Around}
use Rattle.cil_form.specs.Typing.{IntegerOf, PointerTo, PlaceOf, Typing, Context, HoldsArray, IsShaped}
use Rattle.cil_form.specs.Meaning.{act, is_backward}
use Rattle.cil_facts.specs.Held.{IsHeldAs, IsSolvedFor, AreFacts, AreFactsBehind, GoesOn}
use Rattle.cil_facts.proofs.Conversions.{shape-in, Given, goes-held}
use Rattle.cil_facts.proofs.Calculations.{truth-fits}
use Rattle.cil_facts.proofs.Accesses.{address-held, allowed-held}

module _ (k : Context) (a : Around) (solved : IsSolvedFor k a.setting) (types after : Typing) (c : Local) (facts : AreFacts k a types c) where
  complete-in : (t : TypeId) → IsComplete k.table t → IsComplete a.setting.table t
  complete-in t h = subst (λ table. IsComplete table t) (sym solved.table) h

  -- Moves

  move-held : (t : TypeId) (at : Place) (backwards : Bool) (node : NodeId) (u : TypeId) (j : IntegerType) (v n : Value)
      → shape_at a.setting.table t ≡ shape.Pointer node u → (kind_in a.setting t ≡ Seq) ⊎ (kind_in a.setting t ≡ Wild)
      → IsComplete a.setting.table u → Contains k.sites (site.Pointee node u)
      → IsHeldAs a.setting k.sites c.state.memory a.depth (PointerTo node u) v → IsHeldAs a.setting k.sites c.state.memory a.depth (IntegerOf j) n
      → Gives (moved_value a.setting at backwards t v n c.state) (Given k a solved types after c facts (PointerTo node u))
  move-held t at backwards node u j (Integer z) n e which complete told h g = absurd h
  move-held t at backwards node u j (Address p) (Address q) e which complete told h g = absurd g
  move-held t at backwards node u j (Address p) (Integer z) e which complete told h g =
      gives-from (GivesPointer a.setting k.sites a.depth (kind_in a.setting t) (pointee a.setting t) c.state)
      (Given k a solved types after c facts (PointerTo node u)) (moved a.setting at t (amount backwards z) p c.state) (λ q. done (Address q))
      (gives-moved a.setting solved.well_formed k.sites at t (amount backwards z) c.state a.depth p which
      (subst (λ sh. IsComplete a.setting.table (pointee_of_shape sh)) (sym e) complete)
      (subst (λ sh. IsHeldIn a.setting c.state.memory a.depth (a.setting.kind (node_of_shape sh)) (pointee_of_shape sh) p) (sym e) h.held) (h.made told))
      (λ q r g. (
        g.memory,
        record {
          held = subst (λ sh. IsHeldIn a.setting c.state.memory a.depth (a.setting.kind (node_of_shape sh)) (pointee_of_shape sh) q) e g.held;
          made = λ z. g.made;
        },
      ))

  pub move-keeps : (into p n : Temp) (way : Direction) (t : TypeId) (at : Place) → IsShaped (instr.Point (point.Move into p n way t at)) k types after
      → GoesOn (act (instr.Point (point.Move into p n way t at)) a c) (AreFactsBehind k a after c)
  move-keeps into p n way t at shaped =
      let s = shaped.0 in
      goes-held k a solved types after c facts (instr.Point (point.Move into p n way t at)) into (PointerTo s.0 s.1)
      (moved_value a.setting at (is_backward way) t (c.temps p) (c.temps n) c.state) shaped s.6
      (move-held t at (is_backward way) s.0 s.1 s.5.0 (c.temps p) (c.temps n) (shape-in k a solved t (shape.Pointer s.0 s.1) s.2.1)
      (subst (λ table. (a.setting.kind (node_at table t) ≡ Seq) ⊎ (a.setting.kind (node_at table t) ≡ Wild)) (sym solved.table)
      (solved.solution.each (site.Arith (node_at k.table t) at) shaped.1.0))
      (complete-in s.1 s.3.1) (facts.asked p (PointerTo s.0 s.1) s.4.1) (facts.held p (PointerTo s.0 s.1) s.4.1)
      (facts.held n (IntegerOf s.5.0) s.5.1.1))

  -- Tests for null

  null-tested : (different : Bool) (node : NodeId) (u : TypeId) (v : Value) → IsHeldAs a.setting k.sites c.state.memory a.depth (PointerTo node u) v
      → Gives (null_value different v c.state) (Given k a solved types after c facts (IntegerOf int))
  null-tested different node u (Integer z) h = absurd h
  null-tested different node u (Address p) h = (refl, truth-fits (negated_where different (is_null p)))

  pub null-keeps : (into p : Temp) (t : TypeId) (different : Bool) → IsShaped (instr.Point (point.IsNull into p t different)) k types after
      → GoesOn (act (instr.Point (point.IsNull into p t different)) a c) (AreFactsBehind k a after c)
  null-keeps into p t different shaped =
      let s = shaped.0 in
      goes-held k a solved types after c facts (instr.Point (point.IsNull into p t different)) into (IntegerOf int)
      (null_value different (c.temps p) c.state) shaped s.4 (null-tested different s.0 s.1 (c.temps p) (facts.held p (PointerTo s.0 s.1) s.3.1))

  -- Arrays

  pub array-complete : (array element : TypeId) (n : ℕ) → shape_at a.setting.table array ≡ shape.Array element n → IsComplete a.setting.table array
  array-complete array element n e = ap (λ s. is_complete_entry s (members_at a.setting.table array)) e

  pub element-complete : (array element : TypeId) (n : ℕ) → shape_at a.setting.table array ≡ shape.Array element n → IsComplete a.setting.table element
  element-complete array element n e =
      let P : TypeShape → Type 0 = λ s. (m : TypeId) → Contains (parts_of_shape s (members_at a.setting.table array)) m → IsComplete a.setting.table m in
      subst P e
      (λ m h. All-contains (IsComplete a.setting.table) (parts_at a.setting.table array) m (solved.well_formed.each array).parts h) element
      (contains_head element [])

  linked-back : (inner outer : NodeId) → Contains k.sites (site.Linked inner outer) → (a.setting.kind outer ≡ Wild) ↔ (a.setting.kind inner ≡ Wild)
  linked-back inner outer h = let l = solved.solution.each (site.Linked inner outer) h in (l.1, l.0)

  array-held : (at : Place) (outer : NodeId) (array : TypeId) (check : Bool) (inner : NodeId) (element : TypeId) (n : ℕ) (p : Pointer)
      → Gives (decayed a.setting at (a.setting.kind outer) array check inner element p c.state)
      (GivesPointer a.setting k.sites a.depth (a.setting.kind inner) element c.state)
      → Gives (decayed_value a.setting at outer array check inner element (Address p) c.state) (Given k a solved types after c facts (PointerTo inner element))
  array-held at outer array check inner element n p h =
      gives-from (GivesPointer a.setting k.sites a.depth (a.setting.kind inner) element c.state)
      (Given k a solved types after c facts (PointerTo inner element)) (decayed a.setting at (a.setting.kind outer) array check inner element p c.state)
      (λ q. done (Address q)) h (λ q r g. (g.memory, record { held = g.held; made = λ z. g.made }))

  decay-held : (source : Temp) (outer : NodeId) (array : TypeId) (check : Bool) (inner : NodeId) (element : TypeId) (at : Place) (n : ℕ)
      → shape_at a.setting.table array ≡ shape.Array element n → Contains k.sites (site.Pointee inner element) → Contains k.sites (site.Linked inner outer)
      → HoldsArray check types source outer array
      → Gives (decayed_value a.setting at outer array check inner element (c.temps source) c.state) (Given k a solved types after c facts (PointerTo inner element))
  decay-held source outer array true inner element at n e told linked h =
      let p = address-held k a solved types after c facts source outer array h in
      subst
      (λ v. Gives (decayed_value a.setting at outer array true inner element v c.state) (Given k a solved types after c facts (PointerTo inner element)))
      (sym p.1)
      (array-held at outer array true inner element n p.0
      (gives-decayed a.setting solved.well_formed k.sites c.state a.depth at (a.setting.kind outer) inner array element n p.0 (linked-back inner outer linked)
      e (array-complete array element n e) (element-complete array element n e) told facts.memory.outlines (p.2).held))
  decay-held source outer array false inner element at n e told linked h = by (c.temps source) (facts.held source (PlaceOf outer array) h.1)
    where
      by : (v : Value) → IsHeldAs a.setting k.sites c.state.memory a.depth (PlaceOf outer array) v
          → Gives (decayed_value a.setting at outer array false inner element v c.state) (Given k a solved types after c facts (PointerTo inner element))
      by (Integer z) g = absurd g
      by (Address p) g =
          array-held at outer array false inner element n p
          (gives-decayed_place a.setting solved.well_formed k.sites c.state a.depth at (a.setting.kind outer) inner array element n p
          (linked-back inner outer linked) e (array-complete array element n e) (element-complete array element n e) told facts.memory.outlines g.1)

  pub decay-keeps : (into source : Temp) (outer : NodeId) (array : TypeId) (check : Bool) (inner : NodeId) (element : TypeId) (at : Place)
      → IsShaped (instr.Point (point.Decay into source outer array check inner element at)) k types after
      → GoesOn (act (instr.Point (point.Decay into source outer array check inner element at)) a c) (AreFactsBehind k a after c)
  decay-keeps into source outer array check inner element at shaped =
      let s = shaped.0 in
      goes-held k a solved types after c facts (instr.Point (point.Decay into source outer array check inner element at)) into (PointerTo inner element)
      (decayed_value a.setting at outer array check inner element (c.temps source) c.state) shaped s.5
      (decay-held source outer array check inner element at s.3.0 (shape-in k a solved array (shape.Array element s.3.0) s.3.1) shaped.1.0 shaped.1.1.0 s.4)

  -- `&`

  address-given : (outer inner : NodeId) (t : TypeId) (v : Value) → IsComplete a.setting.table t → Contains k.sites (site.Pointee inner t)
      → Contains k.sites (site.Linked inner outer) → IsHeldAs a.setting k.sites c.state.memory a.depth (PlaceOf outer t) v
      → Gives (addressed a.setting inner t v c.state) (Given k a solved types after c facts (PointerTo inner t))
  address-given outer inner t (Integer z) complete told linked h = absurd h
  address-given outer inner t (Address p) complete told linked h =
      gives-more (GivesAddress a.setting k.sites a.depth (a.setting.kind inner) t c.state) (Given k a solved types after c facts (PointerTo inner t))
      (addressed a.setting inner t (Address p) c.state)
      (gives-addressed a.setting solved.well_formed k.sites c.state a.depth (a.setting.kind outer) inner t p (linked-back inner outer linked) complete told
      facts.memory.outlines h.1)
      (λ v r g. (
        g.gives.memory,
        subst (λ y. IsHeldAs a.setting k.sites c.state.memory a.depth (PointerTo inner t) y) (sym g.is)
            (record { held = g.gives.held; made = λ z. g.gives.made }),
      ))

  pub address-keeps : (into source : Temp) (outer inner : NodeId) (t : TypeId) → IsShaped (instr.Point (point.Address into source outer inner t)) k types after
      → GoesOn (act (instr.Point (point.Address into source outer inner t)) a c) (AreFactsBehind k a after c)
  address-keeps into source outer inner t shaped =
      let s = shaped.0 in
      goes-held k a solved types after c facts (instr.Point (point.Address into source outer inner t)) into (PointerTo inner t)
      (addressed a.setting inner t (c.temps source) c.state) shaped s.4
      (address-given outer inner t (c.temps source) (complete-in t s.2.1) shaped.1.0 shaped.1.1.0 (facts.held source (PlaceOf outer t) s.3.1))

  -- Members

  pub member-complete : (t : TypeId) (i : ℕ) → IsAggregate a.setting.table t → i < length (members_at a.setting.table t)
      → IsComplete a.setting.table (member_at a.setting.table t i)
  member-complete t i aggregate l = by (shape_at a.setting.table t) refl aggregate
    where
      of : (s : TypeShape) → shape_at a.setting.table t ≡ s → parts_of_shape s (members_at a.setting.table t) ≡ members_at a.setting.table t
          → IsComplete a.setting.table (member_at a.setting.table t i)
      of s e f =
          All-contains (IsComplete a.setting.table) (members_at a.setting.table t) (member_at a.setting.table t i)
          (subst (λ ms. All (IsComplete a.setting.table) ms) (ap (λ x. parts_of_shape x (members_at a.setting.table t)) e ∙ f)
          (solved.well_formed.each t).parts)
          (listed-at (members_at a.setting.table t) i (member_at a.setting.table t i) (slice_get-get_or (members_at a.setting.table t) i t l))

      by : (s : TypeShape) → shape_at a.setting.table t ≡ s → is_aggregate_shape s ≡ true → IsComplete a.setting.table (member_at a.setting.table t i)
      by (shape.Struct tag) e f = of (shape.Struct tag) e refl
      by (shape.Union tag) e f = of (shape.Union tag) e refl
      by shape.Void e f = absurd (cc (f))
      by (shape.Integer b s) e f = absurd (cc (f))
      by (shape.Pointer n u) e f = absurd (cc (f))
      by (shape.Array u n) e f = absurd (cc (f))
      by (shape.Function ps r) e f = absurd (cc (f))

  -- each union of the program is allowed; one without members has none that correspond
  pub union-allowed : (v : TypeId) (tag : ℕ) → shape_at a.setting.table v ≡ shape.Union tag → IsUnionAllowed a.setting.table a.setting.kind v
  union-allowed v tag e = by (members_at a.setting.table v) refl
    where
      none : (u : TypeId) → Contains [] u → ⊥
      none u h = let n = h.1 in omega (arith, n)

      by : (ms : List TypeId) → members_at a.setting.table v ≡ ms → IsUnionAllowed a.setting.table a.setting.kind v
      by [] f = λ plain u m h. absurd (none u (subst (λ xs. Contains xs u) f h))
      by (x ∷ xs) f =
          let known = solved.told.unions v (ap is_union_shape e)
          (ap (λ s. is_complete_entry s (members_at a.setting.table v)) e ∙ ap (λ ms. not (is_empty ms)) f) in
          solved.solution.each (site.Union v known.0) known.1

  member-given : (at : Place) (outer : NodeId) (t : TypeId) (i : ℕ) (inner : NodeId) (p : Pointer) → IsComplete a.setting.table t
      → IsAggregate a.setting.table t → i < length (members_at a.setting.table t)
      → IsWildWhereMixed a.setting.table a.setting.kind outer t → Contains k.sites (site.Pointee inner (member_at a.setting.table t i))
      → Contains k.sites (site.Linked inner outer) → IsHeldBy a.setting k.sites c.state.memory a.depth outer t p
      → Gives (member_value a.setting at outer t i inner (member_at a.setting.table t i) (Address p) c.state)
      (Given k a solved types after c facts (PlaceOf inner (member_at a.setting.table t i)))
  member-given at outer t i inner p complete aggregate l mixed told linked h =
      gives-from
      (λ q r. GivesPointer a.setting k.sites a.depth (a.setting.kind inner) (member_at a.setting.table t i) c.state q r
      × IsPlaceIn a.setting c.state.memory a.depth (a.setting.kind inner) (member_at a.setting.table t i) q)
      (Given k a solved types after c facts (PlaceOf inner (member_at a.setting.table t i)))
      (member a.setting at (a.setting.kind outer) t i inner (member_at a.setting.table t i) p c.state) (λ q. done (Address q))
      (gives-member_place a.setting solved.well_formed k.sites c.state a.depth union-allowed at outer inner t i p (linked-back inner outer linked) mixed
      complete aggregate l (member-complete t i aggregate l) told facts.memory.outlines h.held)
      (λ q r g. (g.0.memory, (record { held = g.0.held; made = λ z. g.0.made }, g.1)))

  pub member-keeps : (into source : Temp) (outer : NodeId) (t : TypeId) (i : ℕ) (inner : NodeId) (u : TypeId) (at : Place)
      → IsShaped (instr.Point (point.Member into source outer t i inner u at)) k types after
      → GoesOn (act (instr.Point (point.Member into source outer t i inner u at)) a c) (AreFactsBehind k a after c)
  member-keeps into source outer t i inner u at shaped =
      let s = shaped.0 in
      let complete = complete-in t s.2.1 in
      let p = address-held k a solved types after c facts source outer t s.6 in
      let is : member_at a.setting.table t i ≡ u = ap (λ table. member_at table t i) solved.table ∙ s.5 in
      goes-held k a solved types after c facts (instr.Point (point.Member into source outer t i inner u at)) into (PlaceOf inner u)
      (member_value a.setting at outer t i inner u (c.temps source) c.state) shaped s.7
      (subst
      (λ x. Gives (member_value a.setting at outer t i inner x (c.temps source) c.state) (Given k a solved types after c facts (PlaceOf inner x))) is
      (subst
      (λ v. Gives (member_value a.setting at outer t i inner (member_at a.setting.table t i) v c.state)
      (Given k a solved types after c facts (PlaceOf inner (member_at a.setting.table t i)))) (sym p.1)
      (member-given at outer t i inner p.0 complete (subst (λ table. IsAggregate table t) (sym solved.table) s.3)
      (subst (λ table. i < length (members_at table t)) (sym solved.table) s.4)
      (let held = allowed-held k a solved types after c facts t (complete-data a.setting.table solved.well_formed t complete) source outer s.6 in held.1)
      (subst (λ x. Contains k.sites (site.Pointee inner x)) (sym is) shaped.1.0) shaped.1.1.0 p.2)))
