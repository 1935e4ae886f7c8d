-- Each complete union has a site: that of the specifier that gives it its members.
use Rattle.std.specs.List.{All, Contains}
use Rattle.std.proofs.Common.{◌≡◌, ℕ, true, [], ◌++◌, flat_map, refl, sym, subst, true≢false}
use Rattle.std.proofs.lemmas.List.Elements.{All-head, All-contains, All-contains_itself}
use Rattle.cc_base.specs.declared.place.Place.{Place}
use Rattle.cc_base.specs.declared.number.TypeId.{TypeId}
use Rattle.c_types.specs.declared.shape.TypeShape.{TypeShape}
use Rattle.c_types.specs.declared.shape.TypeShape.TheVariants as shape
use Rattle.kind_sites.specs.declared.site.Site.TheVariants as site
use Rattle.kind_sites.specs.Solutions.{sites_of_table}
use Rattle.c_types.specs.Table.{Table, IsUnion, IsComplete, is_aggregate_shape, is_union_shape, shape_at}
use Rattle.c_tree.specs.declared.operator.AggregateKind.{AggregateKind}
use Rattle.c_tree.specs.declared.operator.AggregateKind.TheVariants as aggregate
use Rattle.c_tree.specs.TypedTree as typed
use Rattle.c_tree.specs.TypedTree.{TypedSpecifier, TypedTranslationUnit}
use Rattle.c_ready.specs.Ready.{Stage, IsReadySpecifier, IsReadyUnit, is_of_kind, static_stage}
use Rattle.c_ready.proofs.Basics.{all-left, all-right}
use Rattle.src_machine.specs.Names.{named_in}
use Rattle.src_machine.specs.Pieces.{Piece, ASpecifier, pieces_of_unit}
use Rattle.src_machine.specs.Sites.{sites_of_aggregate, sites_of_homes, sites_of_piece, sites_of_names, sites_of}
use Rattle.unit_sites.proofs.Elements.{unflat}
use Rattle.unit_sites.proofs.PiecesReady.{unit-pieces}

union-aggregate : (x : TypeShape) → is_union_shape x ≡ true → is_aggregate_shape x ≡ true
union-aggregate (shape.Union n) h = refl
union-aggregate (shape.Struct n) h = refl
union-aggregate shape.Void h = absurd (true≢false (sym h))
union-aggregate (shape.Integer a s) h = absurd (true≢false (sym h))
union-aggregate (shape.Pointer n t) h = absurd (true≢false (sym h))
union-aggregate (shape.Array t n) h = absurd (true≢false (sym h))
union-aggregate (shape.Function ps r) h = absurd (true≢false (sym h))

kind-of-union : (kind : AggregateKind) (x : TypeShape) → is_of_kind kind x ≡ true → is_union_shape x ≡ true → kind ≡ aggregate.Union
kind-of-union aggregate.Union x h g = refl
kind-of-union aggregate.Struct (shape.Struct n) h g = absurd (true≢false (sym g))
kind-of-union aggregate.Struct (shape.Union n) h g = absurd (true≢false (sym h))
kind-of-union aggregate.Struct shape.Void h g = absurd (true≢false (sym h))
kind-of-union aggregate.Struct (shape.Integer a s) h g = absurd (true≢false (sym h))
kind-of-union aggregate.Struct (shape.Pointer n t) h g = absurd (true≢false (sym h))
kind-of-union aggregate.Struct (shape.Array t n) h g = absurd (true≢false (sym h))
kind-of-union aggregate.Struct (shape.Function ps r) h g = absurd (true≢false (sym h))

module _ (T : Table) (u : TypedTranslationUnit) (r : IsReadyUnit T u) where
  abbrev IsKindly : Table → ℕ → Piece → Type 0
  IsKindly U n (ASpecifier (typed.Aggregate kind at name brace members t)) = is_of_kind kind (shape_at U t) ≡ true
  IsKindly U n other = Unit {0}

  specifier-kindly : (k : Stage) (x : TypedSpecifier) → IsReadySpecifier k x → IsKindly k.table k.nodes (ASpecifier x)
  specifier-kindly k (typed.Aggregate kind at name brace members t) r = r.3
  specifier-kindly k other r = tt

  all-kindly : All (IsKindly T (static_stage T u).nodes) (pieces_of_unit u)
  all-kindly =
      unit-pieces IsKindly (λ k e r. tt) (λ k p r. tt) specifier-kindly (λ k d t i h r. tt) (static_stage T u) u r.externals

  pieces-among : All (λ piece. All (Contains (sites_of u T)) (sites_of_piece T piece)) (pieces_of_unit u)
  pieces-among =
      let A = sites_of_table T ++ sites_of_homes u in
      let B = flat_map (sites_of_piece T) (pieces_of_unit u) in
      unflat (Contains (sites_of u T)) (sites_of_piece T) (pieces_of_unit u)
      (all-right (Contains (sites_of u T)) A B (all-left (Contains (sites_of u T)) (A ++ B) (sites_of_names (named_in u T)) (All-contains_itself
      (sites_of u T))))

  -- each union that is complete has a site
  pub unions-told : (v : TypeId) → IsUnion T v → IsComplete T v → (place : Place) × Contains (sites_of u T) (site.Union v place)
  unions-told v h c =
      let a = r.written v (union-aggregate (shape_at T v) h) c in
      let kindly = All-contains (IsKindly T (static_stage T u).nodes) (pieces_of_unit u) _ all-kindly a.there in
      let kind = kind-of-union a.kind (shape_at T v) kindly h in
      let at = All-contains (λ piece. All (Contains (sites_of u T)) (sites_of_piece T piece)) (pieces_of_unit u) _ pieces-among a.there in (
        a.place,
        All-head (Contains (sites_of u T)) (site.Union v a.place) []
            (subst (λ kind. All (Contains (sites_of u T)) (sites_of_aggregate kind a.place v)) kind at),
      )
