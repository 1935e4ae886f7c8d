-- The sites of a ready unit name its nodes, its types and its unions.
use Rattle.std.specs.List.{All}
use Rattle.std.proofs.Common.{◌≡◌, ℕ, ◌<◌, Bool, true, false, List, [], ◌∷◌, ◌++◌, map, flat_map, length, Option, Some, None, inl, inr, refl, ap, sym, subst, if◌then◌else◌, ◌==◌, true≢false}
use Rattle.std.proofs.lemmas.List.Elements.{All-nil, All-cons, All-head, All-append, All-map, All-weaker, All-from_get_or}
use Rattle.cc_base.specs.declared.place.Place.{Place}
use Rattle.cc_base.specs.declared.number.NodeId.{NodeId}
use Rattle.cc_base.specs.declared.number.TypeId.{TypeId}
use Rattle.c_types.specs.declared.shape.TypeShape.{TypeShape}
use Rattle.c_types.specs.declared.shape.TypeShape.TheVariants as shape
use Rattle.kind_sites.specs.declared.site.Site.{Site}
use Rattle.kind_sites.specs.declared.site.Site.TheVariants as site
use Rattle.kind_sites.specs.Solutions.{sites_of_shape, sites_of_table}
use Rattle.c_types.specs.Table.{Table, Entry, AreNodesOf, HasShape, IsType, is_function, is_union_shape, shape_at, void_entry, named_by}
use Rattle.c_tree.specs.declared.operator.AggregateKind.{AggregateKind}
use Rattle.c_tree.specs.declared.operator.AggregateKind.TheVariants as aggregate
use Rattle.c_tree.specs.declared.operator.Binary.{Binary}
use Rattle.c_tree.specs.declared.operator.Binary.TheVariants as binary
use Rattle.c_tree.specs.declared.typed_word.Conversion.{Conversion}
use Rattle.c_tree.specs.declared.typed_word.Conversion.TheVariants as conversion
use Rattle.c_tree.specs.TypedTree as typed
use Rattle.c_tree.specs.TypedTree.{TypedExpr, TypedPlace, TypedSpecifier, TypedDeclarator, TypedInitialiser, TypedItems, TypedTranslationUnit}
use Rattle.c_tree.specs.TypedParts.{MadeObject, DefinedFunction, type_of, place_type, named_type, pointer_side, home_of, name_of, declared_type, statics_of, functions_of, nodes_made, made_by_unit, home_node}
use Rattle.c_ready.specs.Rows as rule
use Rattle.c_typing.specs.Shapes as shapes
use Rattle.c_ready.specs.Ready.{Stage, Named, IsNode, IsWhole, IsObjectOf, Fits, IsPointerToWhole, IsReady, IsReadyPlace, IsReadySpecifier, IsReadyInitialiser, AreReadyItems, IsReadyFunction, is_of_kind, static_stage, IsReadyUnit}
use Rattle.c_ready.proofs.Basics.{unmap}
use Rattle.c_ready.proofs.Suits.{is_in}
use Rattle.src_mem.specs.Memory.{Planned}
use Rattle.src_mem.specs.Operations.{node_at, pointee_at, node_of_shape, pointee_of_shape}
use Rattle.src_mem.specs.Runs.{variables_of}
use Rattle.src_machine.specs.Machine.{head_of}
use Rattle.src_machine.specs.Names as names
use Rattle.src_machine.specs.Names.{object_named, function_named, named_in, first_type, is_same_which, declarators_in}
use Rattle.src_machine.specs.Pieces.{Piece, pieces_of_unit}
use Rattle.src_machine.specs.Sites.{address_at, addresses_at, linked_to, moves, moves_where_pointer, sites_of_conversion, sites_of_comparison, sites_of_expression, sites_of_place, sites_of_aggregate, sites_of_specifier, copies_in, copies_in_items, copies_to, sites_of_piece, sites_of_homes, same_as, sites_of_names, sites_of}
use Rattle.cil_form.specs.Shape.{IsSiteInShape}
use Rattle.unit_sites.proofs.Elements.{only, pair, flat}
use Rattle.c_ready.proofs.Suits.{function-in}
use Rattle.unit_sites.proofs.NamesAlike.{first-of}
use Rattle.unit_sites.proofs.ObjectsAlike.{Names, objects_made, objects-named}
use Rattle.unit_sites.proofs.PiecesReady.{unit-pieces}
use Rattle.unit_sites.proofs.FramesNamed.{frame-named}

-- each pointer type has a node of the unit, and what it points to is a type
abbrev ArePointersIn : Table → ℕ → Type 0
ArePointersIn T n = (t : TypeId) (m : NodeId) (u : TypeId) → HasShape T t (shape.Pointer m u) → (m.0 < n) × IsType T u

module _ (T : Table) (n : ℕ) (w : ArePointersIn T n) where
  abbrev Good : Site → Type 0
  Good s = IsSiteInShape T n s

  abbrev Are : List Site → Type 0
  Are list = All Good list

  abbrev IsPointerType : TypeId → Type 0
  IsPointerType t = (m : NodeId) × (u : TypeId) × HasShape T t (shape.Pointer m u)

  pointer-node : (t : TypeId) → IsPointerType t → (node_at T t).0 < n
  pointer-node t (m, u, h) = subst (λ (x : TypeShape). (node_of_shape x).0 < n) (sym h.1) (w t m u h).0

  pointer-type : (t : TypeId) → IsPointerType t → IsType T (pointee_at T t)
  pointer-type t (m, u, h) = subst (λ (x : TypeShape). IsType T (pointee_of_shape x)) (sym h.1) (w t m u h).1

  moves-there : (t : TypeId) (at : Place) → IsPointerType t → Are (moves T t at ∷ [])
  moves-there t at h = only Good (moves T t at) (pointer-node t h)

  stepped-there : (t : TypeId) (at : Place) (x : TypeShape) → shape_at T t ≡ x → Are (moves_where_pointer x at)
  stepped-there t at (shape.Pointer m u) e = only Good (site.Arith m at) (w t m u (is_in T t (ap shapes.is_void_shape e), e)).0
  stepped-there t at shape.Void e = All-nil Good
  stepped-there t at (shape.Integer a s) e = All-nil Good
  stepped-there t at (shape.Array u c) e = All-nil Good
  stepped-there t at (shape.Function ps r) e = All-nil Good
  stepped-there t at (shape.Struct i) e = All-nil Good
  stepped-there t at (shape.Union i) e = All-nil Good

  linked-there : (m : NodeId) (list : List NodeId) → m.0 < n → All (λ (o : NodeId). o.0 < n) list → Are (map (site.Linked m) list)
  linked-there m list q h =
      All-map Good (site.Linked m) list (All-weaker (λ (o : NodeId). o.0 < n) (λ o. Good (site.Linked m o)) (λ o l. (q, l)) list h)

  ordered-there : (t u : TypeId) (at : Place) → IsPointerType t → IsPointerType u → Are (moves T t at ∷ moves T u at ∷ [])
  ordered-there t u at h g = pair Good (moves T t at) (moves T u at) (pointer-node t h) (pointer-node u g)

  compared-there : (operator : Binary) (a : TypedExpr) (at : Place) (b : TypedExpr) → rule.AreCompared T operator a at b
      → Are (sites_of_comparison T operator at (type_of a) (type_of b))
  compared-there binary.Equal a at b h = All-nil Good
  compared-there binary.NotEqual a at b h = All-nil Good
  compared-there operator a at b (inl (o, g)) =
      ordered-there (type_of a) (type_of b) at (g.first.type.0, g.left, g.first.type.1) (g.second.type.0, g.right, g.second.type.1)
  compared-there operator a at b (inr (o, g)) = absurd (true≢false (sym o))

-- Pieces

module _ (k : Stage) (w : ArePointersIn k.table k.nodes) where
  abbrev Fine : List Site → Type 0
  Fine list = All (IsSiteInShape k.table k.nodes) list

  pointed : (t u : TypeId) → shapes.IsPointerTo k.table u t → IsPointerType k.table k.nodes w t
  pointed t u h = (h.0, u, h.1)

  object-node_in : (b : Bool) (h : NodeId) (t : TypeId) → IsObjectOf b k h t → IsNode k h
  object-node_in true h t o = o.0
  object-node_in false h t o = o.0

  place-node : (p : TypedPlace) → IsReadyPlace k p → (address_at k.table p).0 < k.nodes
  place-node (typed.Variable name home t) r = object-node_in k.runs home t r
  place-node (typed.String pieces home t) r = r.0.0
  place-node (typed.ParenPlace at p) r = place-node p r
  place-node (typed.Target at e t) r = pointer-node k.table k.nodes w (type_of e) (pointed (type_of e) t r.1.type)
  place-node (typed.Element which a at b t) r =
      pointer-node k.table k.nodes w (type_of (pointer_side which a b)) (pointed (type_of (pointer_side which a b)) t r.2.type)
  place-node (typed.Member p at name i n t) r = r.1.node
  place-node (typed.MemberAt e at name i n t) r = r.1.2.node
  place-node (typed.StructAssign p at q) r = place-node p r.0
  place-node (typed.StructConditional c at p q) r = place-node p r.1
  place-node (typed.StructComma e p) r = place-node p r.1

  places-nodes : (p : TypedPlace) → IsReadyPlace k p → All (λ (o : NodeId). o.0 < k.nodes) (addresses_at k.table p)
  places-nodes (typed.ParenPlace at p) r = places-nodes p r
  places-nodes (typed.StructConditional c at p q) r =
      All-append (λ (o : NodeId). o.0 < k.nodes) (addresses_at k.table p) (addresses_at k.table q) (places-nodes p r.1) (places-nodes q r.2)
  places-nodes (typed.StructComma e p) r = places-nodes p r.1
  places-nodes (typed.Variable name home t) r = only (λ (o : NodeId). o.0 < k.nodes) _ (place-node (typed.Variable name home t) r)
  places-nodes (typed.String pieces home t) r = only (λ (o : NodeId). o.0 < k.nodes) _ (place-node (typed.String pieces home t) r)
  places-nodes (typed.Target at e t) r = only (λ (o : NodeId). o.0 < k.nodes) _ (place-node (typed.Target at e t) r)
  places-nodes (typed.Element which a at b t) r = only (λ (o : NodeId). o.0 < k.nodes) _ (place-node (typed.Element which a at b t) r)
  places-nodes (typed.Member p at name i n t) r = only (λ (o : NodeId). o.0 < k.nodes) _ (place-node (typed.Member p at name i n t) r)
  places-nodes (typed.MemberAt e at name i n t) r = only (λ (o : NodeId). o.0 < k.nodes) _ (place-node (typed.MemberAt e at name i n t) r)
  places-nodes (typed.StructAssign p at q) r = only (λ (o : NodeId). o.0 < k.nodes) _ (place-node (typed.StructAssign p at q) r)

  linked-fine : (n : NodeId) (p : TypedPlace) → n.0 < k.nodes → IsReadyPlace k p → Fine (linked_to k.table n p)
  linked-fine n p q r = linked-there k.table k.nodes w n (addresses_at k.table p) q (places-nodes p r)

  conversion-fine : (which : Conversion) (at : Place) (t u : TypeId) → Fits k which t u → Fine (sites_of_conversion k.table which at t u)
  conversion-fine conversion.PointerToPointer at t u (h, g) =
      only (IsSiteInShape k.table k.nodes) _ (
        pointer-node k.table k.nodes w t h,
        pointer-type k.table k.nodes w t h,
        pointer-node k.table k.nodes w u g,
        pointer-type k.table k.nodes w u g,
      )
  conversion-fine conversion.IntegerToPointer at t u (i, g) = only (IsSiteInShape k.table k.nodes) _ (pointer-node k.table k.nodes w u g)
  conversion-fine which at t u h = All-nil (IsSiteInShape k.table k.nodes)

  whole-pointer : (t : TypeId) → IsPointerToWhole k t → IsPointerType k.table k.nodes w t
  whole-pointer t h = (h.0, h.1, h.2)

  value-fine : (e : TypedExpr) → IsReady k e → Fine (sites_of_expression k.table e)
  value-fine (typed.Decay p n t) r = only (IsSiteInShape k.table k.nodes) _ (r.1, place-node p r.0)
  value-fine (typed.AddressOf at p n t) r = only (IsSiteInShape k.table k.nodes) _ (r.1, place-node p r.0)
  value-fine (typed.Convert which at t e) r = conversion-fine which at (type_of e) t r.1
  value-fine (typed.Cast which at to e) r = conversion-fine which at (type_of e) (named_type to) r.2
  value-fine (typed.StepBefore which at p) r = stepped-there k.table k.nodes w (place_type p) at (shape_at k.table (place_type p)) refl
  value-fine (typed.StepAfter p which at) r = stepped-there k.table k.nodes w (place_type p) at (shape_at k.table (place_type p)) refl
  value-fine (typed.AssignWith operator p at e t) r = stepped-there k.table k.nodes w (place_type p) at (shape_at k.table (place_type p)) refl
  value-fine (typed.Moved operator which a at b t) r =
      moves-there k.table k.nodes w (type_of (pointer_side which a b)) at (whole-pointer (type_of (pointer_side which a b)) r.3)
  value-fine (typed.Difference a at b t) r =
      ordered-there k.table k.nodes w (type_of a) (type_of b) at (whole-pointer (type_of a) r.2) (whole-pointer (type_of b) r.3)
  value-fine (typed.Compared operator a at b t) r = compared-there k.table k.nodes w operator a at b r.2.compared
  value-fine other r = All-nil (IsSiteInShape k.table k.nodes)

  place-fine : (p : TypedPlace) → IsReadyPlace k p → Fine (sites_of_place k.table p)
  place-fine (typed.Element which a at b t) r =
      moves-there k.table k.nodes w (type_of (pointer_side which a b)) at (pointed (type_of (pointer_side which a b)) t r.2.type)
  place-fine (typed.Member p at name i n t) r =
      All-cons (IsSiteInShape k.table k.nodes) (site.Pointee n t) (linked_to k.table n p) (r.1.node, r.1.part.0) (linked-fine n p r.1.node r.0)
  place-fine (typed.MemberAt e at name i n t) r =
      pair (IsSiteInShape k.table k.nodes) (site.Pointee n t) (site.Linked n (node_at k.table (type_of e))) (r.1.2.node, r.1.2.part.0)
      (r.1.2.node, pointer-node k.table k.nodes w (type_of e) (pointed (type_of e) r.1.0 r.1.1.type))
  place-fine (typed.StructAssign p at q) r = linked-fine (address_at k.table p) q (place-node p r.0) r.1
  place-fine (typed.StructConditional c at p q) r = only (IsSiteInShape k.table k.nodes) _ (place-node p r.1, place-node q r.2)
  place-fine other r = All-nil (IsSiteInShape k.table k.nodes)

  union-of : (x : TypeShape) → is_of_kind aggregate.Union x ≡ true → is_union_shape x ≡ true
  union-of (shape.Union n) h = refl
  union-of shape.Void h = absurd (true≢false (sym h))
  union-of (shape.Integer a s) h = absurd (true≢false (sym h))
  union-of (shape.Pointer n t) h = absurd (true≢false (sym h))
  union-of (shape.Array t n) h = absurd (true≢false (sym h))
  union-of (shape.Function ps r) h = absurd (true≢false (sym h))
  union-of (shape.Struct n) h = absurd (true≢false (sym h))

  aggregate-fine : (kind : AggregateKind) (at : Place) (t : TypeId) → is_of_kind kind (shape_at k.table t) ≡ true
      → Fine (sites_of_aggregate kind at t)
  aggregate-fine aggregate.Struct at t h = All-nil (IsSiteInShape k.table k.nodes)
  aggregate-fine aggregate.Union at t h = only (IsSiteInShape k.table k.nodes) (site.Union t at) (union-of (shape_at k.table t) h)

  specifier-fine : (x : TypedSpecifier) → IsReadySpecifier k x → Fine (sites_of_specifier x)
  specifier-fine (typed.Aggregate kind at name brace members t) r = aggregate-fine kind at t r.3
  specifier-fine other r = All-nil (IsSiteInShape k.table k.nodes)

  mutual
    copies-fine : (n : NodeId) → n.0 < k.nodes → (t : TypeId) (i : TypedInitialiser) → IsReadyInitialiser k t i → Fine (copies_in k.table n i)
    copies-fine n q t (typed.Value e) r = All-nil (IsSiteInShape k.table k.nodes)
    copies-fine n q t (typed.Copied p at) r = linked-fine n p q r.0
    copies-fine n q t (typed.Text pieces bytes) r = All-nil (IsSiteInShape k.table k.nodes)
    copies-fine n q t (typed.Listed at items comma u) r = items-fine n q _ t items r.1

    items-fine : (n : NodeId) → n.0 < k.nodes → (text : Bool) (t : TypeId) (items : TypedItems) → AreReadyItems k text t items
        → Fine (copies_in_items k.table n items)
    items-fine n q text t typed.NoItem r = All-nil (IsSiteInShape k.table k.nodes)
    items-fine n q text t (typed.AndItem all offset u i) r =
        All-append (IsSiteInShape k.table k.nodes) (copies_in_items k.table n all) (copies_in k.table n i) (items-fine n q text t all r.0)
        (copies-fine n q u i r.1)

  initialiser-fine : (o : Option NodeId) (t : TypeId) (i : TypedInitialiser) → ((n : NodeId) → o ≡ Some n → n.0 < k.nodes)
      → IsReadyInitialiser k t i → Fine (copies_to k.table o i)
  initialiser-fine None t i q r = All-nil (IsSiteInShape k.table k.nodes)
  initialiser-fine (Some n) t i q r = copies-fine n (q n refl) t i r

abbrev IsPieceFine : Table → ℕ → Piece → Type 0
IsPieceFine T n piece = ArePointersIn T n → All (IsSiteInShape T n) (sites_of_piece T piece)

-- The whole

module _ (T : Table) (u : TypedTranslationUnit) (w : IsReadyUnit T u) where
  abbrev count : ℕ
  count = length (nodes_made (made_by_unit u))

  abbrev static : Stage
  static = static_stage T u

  abbrev There : List Site → Type 0
  There list = All (IsSiteInShape T count) list

  pointers-in : ArePointersIn T count
  pointers-in t m v h = (
    w.nodes t v m h,
    All-head (IsType T) v [] (subst (λ (x : TypeShape). All (IsType T) (named_by x)) h.1 (w.basic.formed.each t).named),
  )

  shape-there : (t : TypeId) → IsType T t → (x : TypeShape) → shape_at T t ≡ x → There (sites_of_shape x)
  shape-there t q (shape.Pointer m v) e = only (IsSiteInShape T count) (site.Pointee m v) (pointers-in t m v (q, e))
  shape-there t q shape.Void e = All-nil (IsSiteInShape T count)
  shape-there t q (shape.Integer a s) e = All-nil (IsSiteInShape T count)
  shape-there t q (shape.Array v c) e = All-nil (IsSiteInShape T count)
  shape-there t q (shape.Function ps r) e = All-nil (IsSiteInShape T count)
  shape-there t q (shape.Struct i) e = All-nil (IsSiteInShape T count)
  shape-there t q (shape.Union i) e = All-nil (IsSiteInShape T count)

  table-there : There (sites_of_table T)
  table-there =
      flat (IsSiteInShape T count) (λ (e : Entry). sites_of_shape e.shape) T
      (All-from_get_or (λ (e : Entry). There (sites_of_shape e.shape)) T void_entry
      (λ i q. shape-there (record { 0 = i }) q (shape_at T (record { 0 = i })) refl))

  nodes-shape : (t : TypeId) → IsType T t → (x : TypeShape) → shape_at T t ≡ x → AreNodesOf count x
  nodes-shape t q (shape.Pointer m v) e = (pointers-in t m v (q, e)).0
  nodes-shape t q shape.Void e = tt
  nodes-shape t q (shape.Integer a s) e = tt
  nodes-shape t q (shape.Array v c) e = tt
  nodes-shape t q (shape.Function ps r) e = tt
  nodes-shape t q (shape.Struct i) e = tt
  nodes-shape t q (shape.Union i) e = tt

  pub table-nodes : All (λ (e : Entry). AreNodesOf count e.shape) T
  table-nodes =
      All-from_get_or (λ (e : Entry). AreNodesOf count e.shape) T void_entry
      (λ i q. nodes-shape (record { 0 = i }) q (shape_at T (record { 0 = i })) refl)

  frame-there : (f : DefinedFunction) → IsReadyFunction static f → There (map (λ (v : Planned). site.Home v.node v.type) (variables_of (head_of f)))
  frame-there f r =
      All-map (IsSiteInShape T count) (λ (v : Planned). site.Home v.node v.type) (variables_of (head_of f))
      (All-weaker (λ (o : Planned). IsNode static o.node × IsWhole static o.type) (λ (v : Planned). IsSiteInShape T count (site.Home v.node v.type))
      (λ o q. (q.0, q.1.0)) (variables_of (head_of f))
      (unmap (λ (o : Named). IsNode static o.0 × IsWhole static o.1) (λ (o : Planned). (o.node, o.type)) (variables_of (head_of f))
      (subst (All (λ (o : Named). IsNode static o.0 × IsWhole static o.1)) (sym (frame-named f)) r.plans)))

  homes-there : There (sites_of_homes u)
  homes-there =
      All-append (IsSiteInShape T count) (map (λ (o : MadeObject). site.Home o.home o.type) (statics_of u))
      (flat_map (λ f. map (λ (v : Planned). site.Home v.node v.type) (variables_of (head_of f))) (functions_of u))
      (All-map (IsSiteInShape T count) (λ (o : MadeObject). site.Home o.home o.type) (statics_of u)
      (All-weaker (λ (o : MadeObject). IsNode static o.home × IsWhole static o.type) (λ (o : MadeObject). IsSiteInShape T count
      (site.Home o.home o.type))
      (λ o q. (q.0, q.1.0)) (statics_of u) w.objects.plans))
      (flat (IsSiteInShape T count) (λ f. map (λ (v : Planned). site.Home v.node v.type) (variables_of (head_of f))) (functions_of u)
      (All-weaker (IsReadyFunction static) (λ f. There (map (λ (v : Planned). site.Home v.node v.type) (variables_of (head_of f)))) frame-there
      (functions_of u) w.functions))

  pieces-there : There (flat_map (sites_of_piece T) (pieces_of_unit u))
  pieces-there =
      flat (IsSiteInShape T count) (sites_of_piece T) (pieces_of_unit u)
      (All-weaker (IsPieceFine T count) (λ piece. There (sites_of_piece T piece)) (λ piece h. h pointers-in) (pieces_of_unit u)
      (unit-pieces IsPieceFine (λ k e r q. value-fine k q e r) (λ k p r q. place-fine k q p r) (λ k x r q. specifier-fine k q x r)
      (λ k d t i h r q. initialiser-fine k q (home_node (home_of d)) t i h r) static u w.externals))

  -- the types of what is declared
  named-in : (d : TypedDeclarator) → Names static (objects_made u) d → All (λ (x : names.Named). IsType T x.type) (names.named_by T d)
  named-in d h = by (is_function T (declared_type d)) refl
    where
      function : (o : Option _) → is_function T (declared_type d) ≡ true
          → All (λ (x : names.Named). IsType T x.type) (function_named o (declared_type d))
      function None e = All-nil (λ (x : names.Named). IsType T x.type)
      function (Some id) e = only (λ (x : names.Named). IsType T x.type) _ (function-in T (declared_type d) e)

      object : (o : Option NodeId) → home_node (home_of d) ≡ o → All (λ (x : names.Named). IsType T x.type) (object_named o (declared_type d))
      object None e = All-nil (λ (x : names.Named). IsType T x.type)
      object (Some n) e = only (λ (x : names.Named). IsType T x.type) _ (h n e).1.0

      by : (b : Bool) → is_function T (declared_type d) ≡ b
          → All (λ (x : names.Named). IsType T x.type)
          (if b then function_named (name_of d) (declared_type d) else object_named (home_node (home_of d)) (declared_type d))
      by true e = function (name_of d) e
      by false e = object (home_node (home_of d)) refl

  all-named_in : All (λ (x : names.Named). IsType T x.type) (named_in u T)
  all-named_in =
      flat (λ (x : names.Named). IsType T x.type) (names.named_by T) (declarators_in u)
      (All-weaker (Names static (objects_made u)) (λ d. All (λ (x : names.Named). IsType T x.type) (names.named_by T d)) named-in (declarators_in u)
      (objects-named T u w.externals))

  same-there : (t : TypeId) (o : Option TypeId) → IsType T t → ((first : TypeId) → o ≡ Some first → IsType T first) → There (same_as t o)
  same-there t None q h = All-nil (IsSiteInShape T count)
  same-there t (Some first) q h = by (first.0 == t.0)
    where
      by : (b : Bool) → There (if b then [] else site.Same first t ∷ [])
      by true = All-nil (IsSiteInShape T count)
      by false = only (IsSiteInShape T count) (site.Same first t) (h first refl, q)

  names-there : There (sites_of_names (named_in u T))
  names-there =
      flat (IsSiteInShape T count) (λ (x : names.Named). same_as x.type (first_type (named_in u T) x.which)) (named_in u T)
      (All-weaker (λ (x : names.Named). IsType T x.type) (λ (x : names.Named). There (same_as x.type (first_type (named_in u T) x.which)))
      (λ x q. same-there x.type (first_type (named_in u T) x.which) q (λ first e. first-of (IsType T) x.which (named_in u T)
      (All-weaker (λ (y : names.Named). IsType T y.type) (λ (y : names.Named). is_same_which y.which x.which ≡ true → IsType T y.type) (λ y l g. l)
      (named_in u T) all-named_in) first e)) (named_in u T) all-named_in)

  pub sites-there : There (sites_of u T)
  sites-there =
      let A = sites_of_table T in let B = sites_of_homes u in let C = flat_map (sites_of_piece T) (pieces_of_unit u) in
      All-append (IsSiteInShape T count) (A ++ B ++ C) (sites_of_names (named_in u T))
      (All-append (IsSiteInShape T count) (A ++ B) C (All-append (IsSiteInShape T count) A B table-there homes-there) pieces-there) names-there
