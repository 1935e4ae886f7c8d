-- What the sites of a ready unit tell: its pointer types and objects, and both ends of each flow.
use Rattle.std.specs.List.{All, Contains}
use Rattle.std.proofs.Common.{ℕ, ◌≢◌, ◌⊎◌, inl, inr, ap, ◌∙◌, Bool, true, false, List, [], ◌∷◌, ◌++◌, map, flat_map, Option, Some, None, sym, subst, if◌then◌else◌, ◌==◌, ◌≡◌, IsTrue, refl}
use Rattle.std.proofs.lemmas.List.Elements.{All-nil, All-head, All-append, All-map, All-weaker, All-get_or, All-contains, All-contains_itself, All-cons, All-from_get_or, Contains-append_left, Contains-append_right}
use Rattle.cc_base.specs.declared.place.Place.{Place}
use Rattle.cc_base.specs.declared.number.NodeId.{NodeId}
use Rattle.cc_base.specs.declared.number.TypeId.{TypeId}
use Rattle.c_types.specs.declared.shape.TypeShape.{TypeShape}
use Rattle.c_types.specs.declared.shape.TypeShape.TheVariants as shape
use Rattle.kind_sites.specs.declared.site.Site.{Site}
use Rattle.kind_sites.specs.declared.site.Site.TheVariants as site
use Rattle.c_types.specs.Equality.{physically_equal}
use Rattle.c_types.specs.Table.{Table, Entry, HasShape, IsType, shape_at, void_entry}
use Rattle.kind_sites.specs.Solutions.{sites_of_shape, sites_of_table}
use Rattle.c_tree.specs.declared.operator.AggregateKind.{AggregateKind}
use Rattle.c_tree.specs.declared.operator.AggregateKind.TheVariants as aggregate
use Rattle.c_tree.specs.declared.operator.Binary.{Binary}
use Rattle.c_tree.specs.declared.operator.Binary.TheVariants as binary
use Rattle.c_tree.specs.declared.typed_word.Conversion.{Conversion}
use Rattle.c_tree.specs.declared.typed_word.Conversion.TheVariants as conversion
use Rattle.c_tree.specs.TypedTree as typed
use Rattle.c_tree.specs.TypedTree.{TypedExpr, TypedPlace, TypedSpecifier, TypedInitialiser, TypedItems, TypedTranslationUnit}
use Rattle.c_tree.specs.TypedParts.{MadeObject, DefinedFunction, type_of, place_type, named_type, home_of, statics_of, functions_of, home_node}
use Rattle.c_ready.specs.Ready as stages
use Rattle.c_ready.specs.Ready.{Stage, Fits, IsReady, IsReadyUnit, static_stage, homes_of, member_nodes, variables_named}
use Rattle.c_ready.proofs.Basics.{all-left, all-right, unmap}
use Rattle.src_mem.specs.Memory.{Planned}
use Rattle.src_mem.specs.Operations.{node_at, pointee_at, node_of_shape, pointee_of_shape}
use Rattle.src_mem.specs.Runs.{variables_of}
use Rattle.src_machine.specs.Machine.{head_of}
use Rattle.src_machine.specs.Pieces.{Piece, AnExpression, APlace, ASpecifier, AnInitialiser, pieces_of_unit}
use Rattle.src_machine.specs.Names.{Named, first_type, named_in}
use Rattle.src_machine.specs.Sites.{addresses_at, linked_to, moves_where_pointer, sites_of_conversion, sites_of_comparison, sites_of_expression, sites_of_place, sites_of_aggregate, sites_of_specifier, copies_in, copies_in_items, copies_to, sites_of_piece, sites_of_homes, same_as, sites_of_names, sites_of}
use Rattle.cil_form.specs.Sites.{Each}
use Rattle.unit_sites.specs.Objects.{objects_in}
use Rattle.unit_sites.proofs.Elements.{each-of, every, only, pair, flat, unflat}
use Rattle.unit_sites.proofs.FramesNamed.{plan_named, frame-named}
use Rattle.unit_sites.proofs.MemberNodes.{IsMemberOf, HasMember, member-in, member-listed, distinct-right, never-both, one-member}
use Rattle.unit_sites.proofs.NamesAlike.{first-equal}
use Rattle.unit_sites.proofs.PiecesReady.{unit-pieces}

-- The parts of the sites of a unit

abbrev HasHome : List Site → Planned → Type 0
HasHome sites o = Contains sites (site.Home o.node o.type)

module _ (u : TypedTranslationUnit) (T : Table) where
  abbrev statics_homes : List Site
  statics_homes = map (λ (o : MadeObject). site.Home o.home o.type) (statics_of u)

  abbrev frame_homes : DefinedFunction → List Site
  frame_homes f = map (λ (v : Planned). site.Home v.node v.type) (variables_of (head_of f))

  abbrev homes : List Site
  homes = statics_homes ++ flat_map frame_homes (functions_of u)

  abbrev of_pieces : List Site
  of_pieces = flat_map (sites_of_piece T) (pieces_of_unit u)

  abbrev names : List Site
  names = sites_of_names (named_in u T)

  abbrev sites : List Site
  sites = sites_of u T

  abbrev Among : Site → Type 0
  Among s = Contains sites s

  among : All Among sites
  among = All-contains_itself sites

  without-names : All Among (sites_of_table T ++ homes ++ of_pieces)
  without-names = all-left Among (sites_of_table T ++ homes ++ of_pieces) names among

  of-table-and-homes : All Among (sites_of_table T ++ homes)
  of-table-and-homes = all-left Among (sites_of_table T ++ homes) of_pieces without-names

  of-table : All Among (sites_of_table T)
  of-table = all-left Among (sites_of_table T) homes of-table-and-homes

  of-homes : All Among homes
  of-homes = all-right Among (sites_of_table T) homes of-table-and-homes

  -- each pointer type has a site
  pub pointers-told : (t : TypeId) (n : NodeId) (to : TypeId) → HasShape T t (shape.Pointer n to) → Among (site.Pointee n to)
  pointers-told t n to h =
      let f = λ (e : Entry). sites_of_shape e.shape in
      let all = All-get_or (λ (e : Entry). All Among (f e)) T t.0 void_entry h.0 (unflat Among f T of-table) in
      All-head Among (site.Pointee n to) [] (subst (λ (x : TypeShape). All Among (sites_of_shape x)) h.1 all)

  abbrev plan : MadeObject → Planned
  plan o = record { type = o.type; node = o.home }

  abbrev frame : DefinedFunction → List Planned
  frame f = variables_of (head_of f)

  statics-told : All (HasHome sites) (map plan (statics_of u))
  statics-told =
      All-map (HasHome sites) plan (statics_of u) (unmap Among (λ (o : MadeObject). site.Home o.home o.type) (statics_of u)
      (all-left Among statics_homes (flat_map frame_homes (functions_of u)) of-homes))

  frames-told : All (HasHome sites) (flat_map frame (functions_of u))
  frames-told =
      flat (HasHome sites) frame (functions_of u) (All-weaker (λ f. All Among (frame_homes f)) (λ f. All (HasHome sites) (frame f))
      (λ f h. unmap Among (λ (v : Planned). site.Home v.node v.type) (frame f) h) (functions_of u)
      (unflat Among frame_homes (functions_of u) (all-right Among statics_homes (flat_map frame_homes (functions_of u)) of-homes)))

  -- and each object
  pub objects-told : Each (HasHome sites) (objects_in u)
  objects-told =
      each-of (HasHome sites) (objects_in u)
      (All-append (HasHome sites) (map plan (statics_of u)) (flat_map frame (functions_of u)) statics-told frames-told)

-- Flows: both types of a conversion of pointers are pointer types

abbrev IsPointerType : Table → TypeId → Type 0
IsPointerType T t = (n : NodeId) × (to : TypeId) × HasShape T t (shape.Pointer n to)

abbrev JoinsPointers : Table → Conversion → TypeId → TypeId → Type 0
JoinsPointers T conversion.PointerToPointer t u = IsPointerType T t × IsPointerType T u
JoinsPointers T which t u = Unit {0}

abbrev IsJoin : Table → Piece → Type 0
IsJoin T (AnExpression (typed.Convert which at t e)) = JoinsPointers T which (type_of e) t
IsJoin T (AnExpression (typed.Cast which at to e)) = JoinsPointers T which (type_of e) (named_type to)
IsJoin T other = Unit {0}

fits-joins : (k : Stage) (which : Conversion) (t u : TypeId) → Fits k which t u → JoinsPointers k.table which t u
fits-joins k conversion.PointerToPointer t u h = h
fits-joins k which t u h = tt

value-join : (k : Stage) (e : TypedExpr) → IsReady k e → IsJoin k.table (AnExpression e)
value-join k (typed.Convert which at t e) r = fits-joins k which (type_of e) t r.1
value-join k (typed.Cast which at to e) r = fits-joins k which (type_of e) (named_type to) r.2
value-join k other r = tt

module _ (u : TypedTranslationUnit) (T : Table) where
  -- what a site tells by itself: a flow of its ends, a pointee of a pointer type or a member, a home that it is one, and two types of one name
  -- that they are physically equal
  abbrev HasEnds : Site → Type 0
  HasEnds (site.Flow m t n v at) = Contains (sites_of u T) (site.Pointee m t) × Contains (sites_of u T) (site.Pointee n v)
  HasEnds (site.Pointee n t) = ((a : TypeId) × HasShape T a (shape.Pointer n t)) ⊎ HasMember n t (pieces_of_unit u)
  HasEnds (site.Home n t) = Contains (homes_of u) n.0
  HasEnds (site.Same first t) = IsTrue (physically_equal T first t)
  HasEnds other = Unit {0}

  abbrev Ends : List Site → Type 0
  Ends xs = All HasEnds xs

  end-told : (t : TypeId) → IsPointerType T t → Contains (sites_of u T) (site.Pointee (node_at T t) (pointee_at T t))
  end-told t h =
      subst (λ (x : TypeShape). Contains (sites_of u T) (site.Pointee (node_of_shape x) (pointee_of_shape x))) (sym h.2.1)
      (pointers-told u T t h.0 h.1 h.2)

  none : Ends []
  none = All-nil HasEnds

  linked-ends : (n : NodeId) (p : TypedPlace) → Ends (linked_to T n p)
  linked-ends n p = All-map HasEnds (site.Linked n) (addresses_at T p) (every (λ m. HasEnds (site.Linked n m)) (λ m. tt) (addresses_at T p))

  conversion-ends : (which : Conversion) (at : Place) (t v : TypeId) → JoinsPointers T which t v → Ends (sites_of_conversion T which at t v)
  conversion-ends conversion.PointerToPointer at t v h = only HasEnds (site.Flow (node_at T t) (pointee_at T t) (node_at T v) (pointee_at T v) at)
      (end-told t h.0, end-told v h.1)
  conversion-ends conversion.IntegerToPointer at t v h = only HasEnds (site.Integer (node_at T v) at) tt
  conversion-ends which at t v h = none

  moved-ends : (x : TypeShape) (at : Place) → Ends (moves_where_pointer x at)
  moved-ends (shape.Pointer n to) at = only HasEnds (site.Arith n at) tt
  moved-ends x at = none

  compared-ends : (operator : Binary) (at : Place) (t v : TypeId) → Ends (sites_of_comparison T operator at t v)
  compared-ends binary.Equal at t v = none
  compared-ends binary.NotEqual at t v = none
  compared-ends operator at t v = pair HasEnds (site.Arith (node_at T t) at) (site.Arith (node_at T v) at) tt tt

  value-ends : (e : TypedExpr) → IsJoin T (AnExpression e) → Ends (sites_of_expression T e)
  value-ends (typed.Decay p n t) h = only HasEnds _ tt
  value-ends (typed.AddressOf at p n t) h = only HasEnds _ tt
  value-ends (typed.Convert which at t e) h = conversion-ends which at (type_of e) t h
  value-ends (typed.Cast which at to e) h = conversion-ends which at (type_of e) (named_type to) h
  value-ends (typed.StepBefore which at p) h = moved-ends (shape_at T (place_type p)) at
  value-ends (typed.StepAfter p which at) h = moved-ends (shape_at T (place_type p)) at
  value-ends (typed.AssignWith operator p at e t) h = moved-ends (shape_at T (place_type p)) at
  value-ends (typed.Moved operator which a at b t) h = only HasEnds _ tt
  value-ends (typed.Difference a at b t) h = pair HasEnds _ _ tt tt
  value-ends (typed.Compared operator a at b t) h = compared-ends operator at (type_of a) (type_of b)
  value-ends other h = none

  abbrev IsListed : Piece → Type 0
  IsListed x = (n : NodeId) (t : TypeId) → IsMemberOf n t x → HasMember n t (pieces_of_unit u)

  place-ends : (p : TypedPlace) → IsListed (APlace p) → Ends (sites_of_place T p)
  place-ends (typed.Element which a at b t) l = only HasEnds _ tt
  place-ends (typed.Member p at name i n t) l =
      All-append HasEnds (site.Pointee n t ∷ []) (linked_to T n p) (only HasEnds (site.Pointee n t) (inr (l n t (refl, refl)))) (linked-ends n p)
  place-ends (typed.MemberAt e at name i n t) l =
      pair HasEnds (site.Pointee n t) (site.Linked n (node_at T (type_of e))) (inr (l n t (refl, refl))) tt
  place-ends (typed.StructAssign p at q) l = linked-ends _ q
  place-ends (typed.StructConditional c at p q) l = only HasEnds _ tt
  place-ends other l = none

  aggregate-ends : (kind : AggregateKind) (at : Place) (t : TypeId) → Ends (sites_of_aggregate kind at t)
  aggregate-ends aggregate.Struct at t = none
  aggregate-ends aggregate.Union at t = only HasEnds (site.Union t at) tt

  specifier-ends : (x : TypedSpecifier) → Ends (sites_of_specifier x)
  specifier-ends (typed.Aggregate kind at name brace members t) = aggregate-ends kind at t
  specifier-ends other = none

  mutual
    copies-ends : (n : NodeId) (i : TypedInitialiser) → Ends (copies_in T n i)
    copies-ends n (typed.Value e) = none
    copies-ends n (typed.Copied p at) = linked-ends n p
    copies-ends n (typed.Text pieces bytes) = none
    copies-ends n (typed.Listed at items comma t) = items-ends n items

    items-ends : (n : NodeId) (items : TypedItems) → Ends (copies_in_items T n items)
    items-ends n typed.NoItem = none
    items-ends n (typed.AndItem all offset t i) =
        All-append HasEnds (copies_in_items T n all) (copies_in T n i) (items-ends n all) (copies-ends n i)

  initialiser-ends : (n : Option NodeId) (i : TypedInitialiser) → Ends (copies_to T n i)
  initialiser-ends None i = none
  initialiser-ends (Some n) i = copies-ends n i

  piece-ends : (piece : Piece) → IsJoin T piece → IsListed piece → Ends (sites_of_piece T piece)
  piece-ends (AnExpression e) h l = value-ends e h
  piece-ends (APlace p) h l = place-ends p l
  piece-ends (ASpecifier x) h l = specifier-ends x
  piece-ends (AnInitialiser d i) h l = initialiser-ends (home_node (home_of d)) i

  pieces-ends : (xs : List Piece) → All (IsJoin T) xs → All IsListed xs → All (λ piece. Ends (sites_of_piece T piece)) xs
  pieces-ends [] h l = All-nil (λ piece. Ends (sites_of_piece T piece))
  pieces-ends (x ∷ xs) h l =
      All-cons (λ piece. Ends (sites_of_piece T piece)) x xs (piece-ends x (All-head (IsJoin T) x xs h) (All-head IsListed x xs l))
      (pieces-ends xs (all-right (IsJoin T) (x ∷ []) xs h) (all-right IsListed (x ∷ []) xs l))

  shape-ends : (t : TypeId) → IsType T t → (x : TypeShape) → shape_at T t ≡ x → Ends (sites_of_shape x)
  shape-ends t q (shape.Pointer n to) e = only HasEnds (site.Pointee n to) (inl (t, (q, e)))
  shape-ends t q shape.Void e = none
  shape-ends t q (shape.Integer a s) e = none
  shape-ends t q (shape.Array v c) e = none
  shape-ends t q (shape.Function ps r) e = none
  shape-ends t q (shape.Struct i) e = none
  shape-ends t q (shape.Union i) e = none

  same-ends : (t : TypeId) (o : Option TypeId) → ((first : TypeId) → o ≡ Some first → IsTrue (physically_equal T first t)) → Ends (same_as t o)
  same-ends t None h = none
  same-ends t (Some first) h = by (first.0 == t.0)
    where
      by : (b : Bool) → Ends (if b then [] else site.Same first t ∷ [])
      by true = none
      by false = only HasEnds (site.Same first t) (h first refl)

  table-ends : Ends (sites_of_table T)
  table-ends =
      flat HasEnds (λ (e : Entry). sites_of_shape e.shape) T
      (All-from_get_or (λ (e : Entry). Ends (sites_of_shape e.shape)) T void_entry
      (λ i q. shape-ends (record { 0 = i }) q (shape_at T (record { 0 = i })) refl))

  abbrev IsHome : ℕ → Type 0
  IsHome m = Contains (homes_of u) m

  statics-are_homes : All (λ (o : MadeObject). IsHome o.home.0) (statics_of u)
  statics-are_homes =
      unmap IsHome (λ (o : MadeObject). o.home.0) (statics_of u)
      (all-left IsHome (map (λ (o : MadeObject). o.home.0) (statics_of u))
      (flat_map (λ f. map (λ (o : stages.Named). o.0.0) (variables_named f)) (functions_of u)) (All-contains_itself (homes_of u)))

  frames-are_homes : All (λ f. All (λ (o : stages.Named). IsHome o.0.0) (variables_named f)) (functions_of u)
  frames-are_homes =
      All-weaker (λ f. All IsHome (map (λ (o : stages.Named). o.0.0) (variables_named f)))
      (λ f. All (λ (o : stages.Named). IsHome o.0.0) (variables_named f))
      (λ f h. unmap IsHome (λ (o : stages.Named). o.0.0) (variables_named f) h) (functions_of u)
      (unflat IsHome (λ f. map (λ (o : stages.Named). o.0.0) (variables_named f)) (functions_of u)
      (all-right IsHome (map (λ (o : MadeObject). o.home.0) (statics_of u))
      (flat_map (λ f. map (λ (o : stages.Named). o.0.0) (variables_named f)) (functions_of u)) (All-contains_itself (homes_of u))))

  frame-ends : (f : DefinedFunction) → All (λ (o : stages.Named). IsHome o.0.0) (variables_named f) → Ends (frame_homes u T f)
  frame-ends f h =
      All-map HasEnds (λ (v : Planned). site.Home v.node v.type) (variables_of (head_of f))
      (unmap (λ (o : stages.Named). IsHome o.0.0) plan_named (variables_of (head_of f))
      (subst (All (λ (o : stages.Named). IsHome o.0.0)) (sym (frame-named f)) h))

  homes-ends : Ends (sites_of_homes u)
  homes-ends =
      All-append HasEnds (statics_homes u T) (flat_map (frame_homes u T) (functions_of u))
      (All-map HasEnds (λ (o : MadeObject). site.Home o.home o.type) (statics_of u) statics-are_homes)
      (flat HasEnds (frame_homes u T) (functions_of u)
      (All-weaker (λ f. All (λ (o : stages.Named). IsHome o.0.0) (variables_named f)) (λ f. Ends (frame_homes u T f)) frame-ends (functions_of u)
      frames-are_homes))

  names-ends : IsReadyUnit T u → Ends (sites_of_names (named_in u T))
  names-ends r =
      let all = named_in u T in
      flat HasEnds (λ (x : Named). same_as x.type (first_type all x.which)) all
      (All-weaker (λ (x : Named). (first : TypeId) → first_type all x.which ≡ Some first → IsTrue (physically_equal T first x.type))
      (λ (x : Named). Ends (same_as x.type (first_type all x.which))) (λ x h. same-ends x.type (first_type all x.which) h) all (first-equal T u r))

  module _ (r : IsReadyUnit T u) where
    joins : All (IsJoin T) (pieces_of_unit u)
    joins = unit-pieces (λ T n piece. IsJoin T piece) value-join (λ k p q. tt) (λ k x q. tt) (λ k d t i h q. tt) (static_stage T u) u r.externals

    all : Ends (sites_of u T)
    all =
        All-append HasEnds (sites_of_table T ++ sites_of_homes u ++ flat_map (sites_of_piece T) (pieces_of_unit u)) (sites_of_names (named_in u T))
        (All-append HasEnds (sites_of_table T ++ sites_of_homes u) (flat_map (sites_of_piece T) (pieces_of_unit u))
        (All-append HasEnds (sites_of_table T) (sites_of_homes u) table-ends homes-ends)
        (flat HasEnds (sites_of_piece T) (pieces_of_unit u)
        (pieces-ends (pieces_of_unit u) joins (member-in (pieces_of_unit u))))) (names-ends r)

    -- what flows is told of at both ends
    pub flows-told : (m n : NodeId) (t v : TypeId) (at : Place) → Contains (sites_of u T) (site.Flow m t n v at)
        → Contains (sites_of u T) (site.Pointee m t) × Contains (sites_of u T) (site.Pointee n v)
    flows-told m n t v at c = All-contains HasEnds (sites_of u T) (site.Flow m t n v at) all c

    -- two types of one name are physically equal
    pub same-told : (first t : TypeId) → Contains (sites_of u T) (site.Same first t) → IsTrue (physically_equal T first t)
    same-told first t c = All-contains HasEnds (sites_of u T) (site.Same first t) all c

    -- Nodes

    -- the node of a pointer type is no object's and no member's
    other : (t to : TypeId) (n : NodeId) → HasShape T t (shape.Pointer n to) → Contains (homes_of u ++ member_nodes u) n.0 → ⊥
    other t to n h c = All-contains (λ m. m ≢ n.0) (homes_of u ++ member_nodes u) n.0 (r.homes t to n h) c refl

    same-pointee : (n : NodeId) (t v : TypeId) → shape.Pointer n t ≡ shape.Pointer n v → t ≡ v
    same-pointee n t v h = cc

    -- no node points to two types
    pub pointees-told : (n : NodeId) (t v : TypeId) → Contains (sites_of u T) (site.Pointee n t) → Contains (sites_of u T) (site.Pointee n v)
        → t ≡ v
    pointees-told n t v c e =
        let x = All-contains HasEnds (sites_of u T) (site.Pointee n t) all c in
        let y = All-contains HasEnds (sites_of u T) (site.Pointee n v) all e in
        elim x [
          | inl a ↦ elim y [
            | inl b ↦
                let one = r.pointees a.0 t b.0 v n a.1 b.1 in same-pointee n t v (sym a.1.1 ∙ (ap (λ z. shape_at T z) one ∙ b.1.1))
            | inr b ↦
                absurd (other a.0 t n a.1 (Contains-append_right (homes_of u) (member_nodes u) n.0 (member-listed n v (pieces_of_unit u) b)))
          ]
          | inr a ↦ elim y [
            | inl b ↦
                absurd (other b.0 v n b.1 (Contains-append_right (homes_of u) (member_nodes u) n.0 (member-listed n t (pieces_of_unit u) a)))
            | inr b ↦ one-member n t v (pieces_of_unit u) (distinct-right (homes_of u) (member_nodes u) r.members) a b
          ]
        ]

    -- what points is no home
    pub homes-told : (n : NodeId) (t v : TypeId) → Contains (sites_of u T) (site.Pointee n t) → Contains (sites_of u T) (site.Home n v) → ⊥
    homes-told n t v c e =
        let x = All-contains HasEnds (sites_of u T) (site.Pointee n t) all c in
        let y = All-contains HasEnds (sites_of u T) (site.Home n v) all e in
        elim x [
          | inl a ↦ other a.0 t n a.1 (Contains-append_left (homes_of u) (member_nodes u) n.0 y)
          | inr a ↦ never-both (homes_of u) (member_nodes u) r.members n.0 y (member-listed n t (pieces_of_unit u) a)
        ]
