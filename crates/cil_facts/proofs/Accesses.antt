-- Loads and stores keep the facts.
use Rattle.std.proofs.Common.{◌≡◌, ◌⊎◌, ◌∙◌, ℕ, zero, suc, false, Option, Some, None, refl, ap, sym, subst, ⊎_elim, slice_get}
use Rattle.std.specs.Prelude.{IsSome}
use Rattle.std.specs.List.{Contains}
use Rattle.cc_base.specs.declared.place.Place.{Place}
use Rattle.cc_base.specs.declared.kind.Kind.TheVariants.{Wild}
use Rattle.cc_base.specs.declared.number.NodeId.{NodeId}
use Rattle.cc_base.specs.declared.number.TypeId.{TypeId}
use Rattle.c_types.specs.declared.shape.TypeShape.{TypeShape}
use Rattle.c_types.specs.declared.shape.TypeShape.TheVariants as shape
use Rattle.kind_sites.specs.declared.site.Site.TheVariants as site
use Rattle.c_types.specs.Table.{shape_at, is_function}
use Rattle.c_types.specs.Cells.{Cell, raw, pointer, mixed, incomplete}
use Rattle.c_types.specs.Equality.{cells_of}
use Rattle.c_types.specs.Flows.{HeldPointer, IsOfOneClass, CellsAgree, pointer_in_cell, and_then}
use Rattle.c_types.specs.Contents.{HoldsMixed, at_place, in_member}
use Rattle.kind_sites.specs.Solutions.{SpreadsWild, IsWildWhereMixed}
use Rattle.type_laws.proofs.Pointers.{class_own, class_turned, class_twice}
use Rattle.type_laws.proofs.OneClass.{data-pointer}
use Rattle.integers.specs.Arithmetic.{IntegerType, converted}
use Rattle.src_mem.specs.Pointers.{Value, Integer, Address, Pointer}
use Rattle.src_mem.specs.Uses.{read}
use Rattle.src_mem.specs.Values.{loaded, stored}
use Rattle.src_mem.specs.Facts.{IsHeldBy}
use Rattle.src_mem.specs.Laws.{Gives}
use Rattle.src_mem.proofs.Right.{no_function}
use Rattle.facts_kept.specs.Kept.{GivesAddress, GivesIntegerValue, IsKept}
use Rattle.facts_kept.proofs.Agree.{class-cells, pointer-there}
use Rattle.facts_kept.proofs.Flow.{equal-data}
use Rattle.facts_kept.proofs.Giving.{gives-more}
use Rattle.facts_kept.proofs.Reading.{gives-read_pointer, gives-read_integer}
use Rattle.facts_kept.proofs.Writing.{gives-written_pointer, gives-written_integer}
use Rattle.cil_form.specs.declared.number.Temp.{Temp}
use Rattle.cil_form.specs.declared.instr.Target.TheVariants as target
use Rattle.cil_form.specs.declared.instr.Access.TheVariants as access
use Rattle.cil_form.specs.declared.instr.Instr.TheVariants as instr
use Rattle.cil_form.specs.State.{Local, Around}
use Rattle.cil_form.specs.Typing.{HeldType, IntegerOf, PointerTo, PlaceOf, Typing, Context, AreDeclaredAlike, same, listed, turned, chained, HoldsAddress, Leaves, IsShaped, held_shape}
use Rattle.cil_form.specs.Meaning.{act}
use Rattle.cil_form.specs.Told.{IsAsked}
use Rattle.cil_form.proofs.AskedLaws.{instr-asked}
use Rattle.cil_facts.specs.Held.{IsHeldAs, IsSolvedFor, AreFacts, AreFactsBehind, GoesOn}
use Rattle.cil_facts.proofs.Written.{goes-storing}
use Rattle.cil_facts.proofs.Conversions.{converted-fits, shape-in, Given, goes-held}

module _ (k : Context) (a : Around) (solved : IsSolvedFor k a.setting) where
  -- types that were declared of one name are of one class
  pub alike-class : (t u : TypeId) → AreDeclaredAlike k.sites t u → IsOfOneClass a.setting.table a.setting.kind t u
  alike-class t u (same x) = class_own a.setting.table a.setting.kind x
  alike-class t u (listed x y h) = record { equal = solved.told.same x y h; kinds = solved.solution.each (site.Same x y) h }
  alike-class t u (turned x y h) = class_turned a.setting.table a.setting.kind x y (alike-class x y h)
  alike-class t u (chained x y z h i) =
      class_twice a.setting.table a.setting.kind solved.well_formed x y z (alike-class x y h) (alike-class y z i)

  -- WILD spreads to the pointers of a data type from one of its class
  module _ (n : NodeId) (v u : TypeId) (fv : is_function a.setting.table v ≡ false) (fu : is_function a.setting.table u ≡ false)
      (class : IsOfOneClass a.setting.table a.setting.kind v u) (spreads : SpreadsWild a.setting.table a.setting.kind n v) (wild : a.setting.kind n ≡ Wild) where
    agreeing : (i : ℕ) (c : Cell) (m : NodeId) (t : TypeId) → slice_get (cells_of a.setting.table v) i ≡ Some c
        → CellsAgree a.setting.table a.setting.kind c (pointer m t 0) → a.setting.kind m ≡ Wild
    agreeing i raw m t e g = absurd g
    agreeing i (mixed x j) m t e g = absurd g
    agreeing i (incomplete x) m t e g = absurd g
    agreeing i (pointer o x j) m t e g =
        sym g.1 ∙ spreads wild (record { node = o; to = x })
        (at_place v i (record { node = o; to = x })
        (pointer-there a.setting.table v fv i o x
        (subst (λ z. slice_get (cells_of a.setting.table v) i ≡ Some (pointer o x z)) g.0 e)))

    there : (i : ℕ) (p : HeldPointer) (o : Option Cell) → slice_get (cells_of a.setting.table u) i ≡ o → and_then o pointer_in_cell ≡ Some p
        → a.setting.kind p.node ≡ Wild
    there i p None e f = absurd (cc (f))
    there i p (Some raw) e f = absurd (cc (f))
    there i p (Some (mixed x j)) e f = absurd (cc (f))
    there i p (Some (incomplete x)) e f = absurd (cc (f))
    there i p (Some (pointer m t (suc j))) e f = absurd (cc (f))
    there i p (Some (pointer m t zero)) e f =
        let x = class-cells a.setting solved.well_formed v u fv fu class i (pointer m t 0) e in
        let it : record { node = m; to = t } ≡ p = cc (f) in
        subst (λ (q : HeldPointer). a.setting.kind q.node ≡ Wild) it (agreeing i x.0 m t x.1 x.2)

  -- a mixed union that a data type holds is held by one of its class
  module _ (v u : TypeId) (fv : is_function a.setting.table v ≡ false) (fu : is_function a.setting.table u ≡ false)
      (class : IsOfOneClass a.setting.table a.setting.kind v u) where
    mixed-there : (i j : ℕ) (t : TypeId) (c : Cell) → slice_get (cells_of a.setting.table v) i ≡ Some c
        → CellsAgree a.setting.table a.setting.kind c (mixed t j) → HoldsMixed a.setting.table v t
    mixed-there i j t raw e g = absurd g
    mixed-there i j t (pointer o x l) e g = absurd g
    mixed-there i j t (incomplete x) e g = absurd g
    mixed-there i j t (mixed x l) e g = (i, l, subst (λ y. slice_get (cells_of a.setting.table v) i ≡ Some (mixed y l)) g.0 e)

    holds-mixed : (t : TypeId) → HoldsMixed a.setting.table u t → HoldsMixed a.setting.table v t
    holds-mixed t h =
        let x = class-cells a.setting solved.well_formed v u fv fu class h.0 (mixed t h.1) h.2 in mixed-there h.0 h.1 t x.0 x.1 x.2

  spreads-along : (n : NodeId) (v u : TypeId) → is_function a.setting.table v ≡ false → is_function a.setting.table u ≡ false
      → IsOfOneClass a.setting.table a.setting.kind v u → SpreadsWild a.setting.table a.setting.kind n v → SpreadsWild a.setting.table a.setting.kind n u
  spreads-along n v u fv fu class spreads wild p (at_place x i q h) =
      there n v u fv fu class spreads wild i p (slice_get (cells_of a.setting.table u) i) refl
      (sym (data-pointer a.setting.table u (shape_at a.setting.table u) i fu) ∙ h)
  spreads-along n v u fv fu class spreads wild p (in_member x y m q h contains held) =
      spreads wild p (in_member v y m p (holds-mixed v u fv fu class y h) contains held)

  -- of a node whose address is one of a data type
  module _ (node : NodeId) (t : TypeId) (data_type : is_function a.setting.table t ≡ false) where
    -- WILD spreads to its pointers, and it is WILD where it holds a mixed union
    abbrev Allowed : TypeId → Type 0
    Allowed v = SpreadsWild a.setting.table a.setting.kind node v × IsWildWhereMixed a.setting.table a.setting.kind node v

    pointee-allowed : Contains k.sites (site.Pointee node t) → Allowed t
    pointee-allowed known = let s = solved.solution.each (site.Pointee node t) known in (s.spreads, s.mixed)

    named-allowed : (v : TypeId) → Allowed v → (v ≡ t) ⊎ AreDeclaredAlike k.sites v t → Allowed t
    named-allowed v s which = ⊎_elim (λ same. subst (λ y. Allowed y) same s) by_class which
      where
        by_class : AreDeclaredAlike k.sites v t → Allowed t
        by_class alike =
            let class = alike-class v t alike in
            let back = class_turned a.setting.table a.setting.kind v t class in
            let fv = equal-data a.setting.table solved.well_formed t v data_type back.equal in
            (spreads-along node v t fv data_type class s.0, λ x h. s.1 x (holds-mixed v t fv data_type class x h))

    pub place-allowed : IsAsked k.sites (PlaceOf node t) → Allowed t
    place-allowed known =
        ⊎_elim pointee-allowed
        (λ home. let s = solved.solution.each (site.Home node home.0) home.1 in named-allowed home.0 (s.spreads, s.mixed) home.2) known

  module _ (types after : Typing) (c : Local) (facts : AreFacts k a types c) where
    -- behind an address of a data type
    pub allowed-held : (t : TypeId) → is_function a.setting.table t ≡ false → (source : Temp) (node : NodeId) → HoldsAddress types source node t
        → SpreadsWild a.setting.table a.setting.kind node t × IsWildWhereMixed a.setting.table a.setting.kind node t
    allowed-held t data_type source node h =
        ⊎_elim (λ i. pointee-allowed node t data_type (facts.asked source (PointerTo node t) i.1))
        (λ i. place-allowed node t data_type (facts.asked source (PlaceOf node t) i.1)) h

    -- behind an address of a pointer type
    spreads-held : (t : TypeId) (m : NodeId) (x : TypeId) → shape_at a.setting.table t ≡ shape.Pointer m x → (source : Temp) (node : NodeId)
        → HoldsAddress types source node t → SpreadsWild a.setting.table a.setting.kind node t
    spreads-held t m x e source node h =
        let held = allowed-held t (no_function a.setting.table t (shape.Pointer m x) e refl) source node h in held.0

    -- the pointer that is an address
    as-pointer : (v : Value) (node : NodeId) (t : TypeId) → IsHeldAs a.setting k.sites c.state.memory a.depth (PointerTo node t) v
        → (p : Pointer) × (v ≡ Address p) × IsHeldBy a.setting k.sites c.state.memory a.depth node t p
    as-pointer (Integer z) node t h = absurd h
    as-pointer (Address p) node t h = (p, refl, h)

    as-place : (v : Value) (node : NodeId) (t : TypeId) → IsHeldAs a.setting k.sites c.state.memory a.depth (PlaceOf node t) v
        → (p : Pointer) × (v ≡ Address p) × IsHeldBy a.setting k.sites c.state.memory a.depth node t p
    as-place (Integer z) node t h = absurd h
    as-place (Address p) node t h = (p, refl, h.0)

    pub address-held : (source : Temp) (node : NodeId) (t : TypeId) → HoldsAddress types source node t
        → (p : Pointer) × (c.temps source ≡ Address p) × IsHeldBy a.setting k.sites c.state.memory a.depth node t p
    address-held source node t h = ⊎_elim (λ i. as-pointer (c.temps source) node t (facts.held source (PointerTo node t) i.1))
        (λ i. as-place (c.temps source) node t (facts.held source (PlaceOf node t) i.1)) h

    -- Loads

    integer-loaded : (at : Place) (node : NodeId) (t : TypeId) (i : IntegerType) (p : Pointer) → shape_at a.setting.table t ≡ shape.Integer i.bytes i.signed
        → IsHeldBy a.setting k.sites c.state.memory a.depth node t p
        → Gives (loaded a.setting at node t (Address p) c.state) (Given k a solved types after c facts (IntegerOf i))
    integer-loaded at node t i p e h =
        gives-more (GivesIntegerValue i c.state) (Given k a solved types after c facts (IntegerOf i)) (read a.setting at (a.setting.kind node) t p c.state)
        (gives-read_integer a.setting solved.well_formed k.sites t i e c.state a.depth at (a.setting.kind node) p h.held)
        (λ v r g. (
          g.gives.memory,
          subst (λ y. IsHeldAs a.setting k.sites c.state.memory a.depth (IntegerOf i) y) (sym g.is)
              (ap (converted i) g.gives.is ∙ converted-fits i g.gives.word ∙ sym g.gives.is),
        ))

    pointer-loaded : (at : Place) (node : NodeId) (t : TypeId) (m : NodeId) (x : TypeId) (p : Pointer) → shape_at a.setting.table t ≡ shape.Pointer m x
        → SpreadsWild a.setting.table a.setting.kind node t → IsHeldBy a.setting k.sites c.state.memory a.depth node t p
        → Gives (loaded a.setting at node t (Address p) c.state) (Given k a solved types after c facts (PointerTo m x))
    pointer-loaded at node t m x p e spreads h =
        gives-more (GivesAddress a.setting k.sites a.depth (a.setting.kind m) x c.state) (Given k a solved types after c facts (PointerTo m x))
        (read a.setting at (a.setting.kind node) t p c.state)
        (gives-read_pointer a.setting solved.well_formed k.sites t x m e c.state a.depth facts.memory.objects at node p spreads h.held)
        (λ v r g. (
          g.gives.memory,
          subst (λ y. IsHeldAs a.setting k.sites c.state.memory a.depth (PointerTo m x) y) (sym g.is)
              (record { held = g.gives.held; made = λ z. g.gives.made }),
        ))

    pub load-keeps : (into source : Temp) (node : NodeId) (t : TypeId) (at : Place)
        → IsShaped (instr.Access (access.Load into source node t at)) k types after
        → GoesOn (act (instr.Access (access.Load into source node t at)) a c) (AreFactsBehind k a after c)
    load-keeps into source node t at shaped = by (shape_at k.table t) refl shaped.0.1.1 shaped.0.3
      where
        goes : (x : HeldType) → Leaves types into (Some x) after
            → ((p : Pointer) → IsHeldBy a.setting k.sites c.state.memory a.depth node t p
            → Gives (loaded a.setting at node t (Address p) c.state) (Given k a solved types after c facts x))
            → GoesOn (act (instr.Access (access.Load into source node t at)) a c) (AreFactsBehind k a after c)
        goes x l gives =
            let p = address-held source node t shaped.0.2 in
            goes-held k a solved types after c facts (instr.Access (access.Load into source node t at)) into x
            (loaded a.setting at node t (c.temps source) c.state) shaped l
            (subst (λ v. Gives (loaded a.setting at node t v c.state) (Given k a solved types after c facts x)) (sym p.1) (gives p.0 p.2))

        by : (s : TypeShape) → shape_at k.table t ≡ s → IsSome (held_shape s) → Leaves types into (held_shape s) after
            → GoesOn (act (instr.Access (access.Load into source node t at)) a c) (AreFactsBehind k a after c)
        by (shape.Integer bytes signed) e some l =
            goes (IntegerOf (record { bytes = bytes; signed = signed })) l
            (λ p h. integer-loaded at node t (record { bytes = bytes; signed = signed }) p (shape-in k a solved t (shape.Integer bytes signed) e) h)
        by (shape.Pointer m x) e some l =
            let f = shape-in k a solved t (shape.Pointer m x) e in
            goes (PointerTo m x) l (λ p h. pointer-loaded at node t m x p f (spreads-held t m x f source node shaped.0.2) h)
        by shape.Void e some l = absurd (cc (some))
        by (shape.Array element count) e some l = absurd (cc (some))
        by (shape.Function parameters result) e some l = absurd (cc (some))
        by (shape.Struct tag) e some l = absurd (cc (some))
        by (shape.Union tag) e some l = absurd (cc (some))

    -- Stores

    integer-stored : (at assignment : Place) (node : NodeId) (t : TypeId) (i : IntegerType) (p : Pointer) (v : Value)
        → shape_at a.setting.table t ≡ shape.Integer i.bytes i.signed → IsHeldBy a.setting k.sites c.state.memory a.depth node t p
        → IsHeldAs a.setting k.sites c.state.memory a.depth (IntegerOf i) v
        → Gives (stored a.setting at assignment node t (Address p) v c.state) (λ x r. IsKept a.setting k.sites c.state.memory r.memory)
    integer-stored at assignment node t i p (Address q) e h is = absurd is
    integer-stored at assignment node t i p (Integer z) e h is =
        gives-written_integer a.setting solved.well_formed k.sites t i e c.state a.depth facts.memory.objects z at assignment (a.setting.kind node) p
        facts.memory.outlines h.held

    pointer-stored : (at assignment : Place) (node : NodeId) (t : TypeId) (m : NodeId) (x : TypeId) (p : Pointer) (v : Value)
        → shape_at a.setting.table t ≡ shape.Pointer m x → SpreadsWild a.setting.table a.setting.kind node t
        → IsHeldBy a.setting k.sites c.state.memory a.depth node t p → Contains k.sites (site.Pointee m x)
        → IsHeldAs a.setting k.sites c.state.memory a.depth (PointerTo m x) v
        → Gives (stored a.setting at assignment node t (Address p) v c.state) (λ x r. IsKept a.setting k.sites c.state.memory r.memory)
    pointer-stored at assignment node t m x p (Integer z) e spreads h told is = absurd is
    pointer-stored at assignment node t m x p (Address q) e spreads h told is =
        gives-written_pointer a.setting solved.well_formed k.sites t x m e c.state a.depth facts.memory.objects q is.held (is.made told) at assignment
        node p spreads h.held

    pub store-keeps : (to value : Temp) (node : NodeId) (t : TypeId) (at assignment : Place)
        → IsShaped (instr.Access (access.Store (target.Pointer to node) value t at assignment)) k types after
        → GoesOn (act (instr.Access (access.Store (target.Pointer to node) value t at assignment)) a c) (AreFactsBehind k a after c)
    store-keeps to value node t at assignment shaped =
        let s = shaped.0 in
        let p = address-held to node t s.0.1 in
        goes-storing k a types after c facts
        (instr-asked (instr.Access (access.Store (target.Pointer to node) value t at assignment)) k types after solved.tells facts.asked shaped)
        (stored a.setting at assignment node t (c.temps to) (c.temps value) c.state) s.2
        (subst
        (λ y. Gives (stored a.setting at assignment node t y (c.temps value) c.state) (λ x r. IsKept a.setting k.sites c.state.memory r.memory)) (sym p.1)
        (by p.0 p.2 (shape_at k.table t) refl s.1.0.1 s.1.2))
      where
        by : (p : Pointer) → IsHeldBy a.setting k.sites c.state.memory a.depth node t p → (sh : TypeShape) → shape_at k.table t ≡ sh
            → IsSome (held_shape sh) → types value ≡ held_shape sh
            → Gives (stored a.setting at assignment node t (Address p) (c.temps value) c.state) (λ x r. IsKept a.setting k.sites c.state.memory r.memory)
        by p h (shape.Integer bytes signed) e some is =
            integer-stored at assignment node t (record { bytes = bytes; signed = signed }) p (c.temps value)
            (shape-in k a solved t (shape.Integer bytes signed) e) h (facts.held value (IntegerOf (record { bytes = bytes; signed = signed })) is)
        by p h (shape.Pointer m x) e some is =
            let f = shape-in k a solved t (shape.Pointer m x) e in
            pointer-stored at assignment node t m x p (c.temps value) f (spreads-held t m x f to node shaped.0.0.1) h
            (facts.asked value (PointerTo m x) is) (facts.held value (PointerTo m x) is)
        by p h shape.Void e some is = absurd (cc (some))
        by p h (shape.Array element count) e some is = absurd (cc (some))
        by p h (shape.Function parameters result) e some is = absurd (cc (some))
        by p h (shape.Struct tag) e some is = absurd (cc (some))
        by p h (shape.Union tag) e some is = absurd (cc (some))
