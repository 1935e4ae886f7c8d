-- What stands at an offset in a type: WILD spreads to its pointers as it does to those of the type, and it fits.
use Rattle.std.proofs.Common.{◌≡◌, ◌⊎◌, inl, inr, ◌∙◌, ℕ, zero, suc, ◌+◌, ◌*◌, ◌<◌, ◌≤◌, false, true, List, [], ◌∷◌, map, length, slice_get, Option, None, Some, refl, ap, sym, subst, ⊎_elim, arith}
use Rattle.std.specs.Prelude.{take}
use Rattle.std.specs.List.{Contains}
use Rattle.std.proofs.lemmas.Bool.{cases_eq}
use Rattle.std.proofs.lemmas.Option.{slice_get-get_or}
use Rattle.cc_base.specs.declared.kind.Kind.TheVariants.{Wild}
use Rattle.cc_base.specs.declared.number.NodeId.{NodeId}
use Rattle.cc_base.specs.declared.number.TypeId.{TypeId}
use Rattle.c_types.specs.declared.shape.TypeShape.{TypeShape}
use Rattle.c_types.specs.declared.shape.TypeShape.TheVariants.{Void, Integer, Pointer, Array, Function, Struct, Union}
use Rattle.c_types.specs.declared.layout.Layout.{Layout}
use Rattle.c_types.specs.Table.{IsComplete, IsAggregate, shape_at, members_at, is_aggregate_shape, is_function}
use Rattle.c_types.specs.Layouts.{size_of, layout_of, layout_of_shape, union_layout, greatest_size, greatest_align, offset_of, offset_of_shape, member_at}
use Rattle.c_types.specs.Cells.{Cell, raw, pointer, mixed, incomplete}
use Rattle.c_types.specs.Equality.{cells_of}
use Rattle.c_types.specs.Flows.{HeldPointer, CellsAgree, pointer_in_cell, and_then}
use Rattle.c_types.specs.Contents.{HoldsMixed, Holds, at_place, in_member}
use Rattle.kind_sites.specs.Solutions.{SpreadsWild, IsUnionAllowed}
use Rattle.c_types.specs.Sound.{IsWellFormed}
use Rattle.c_types.proofs.Lists.{contains_head, contains_tail}
use Rattle.c_types.proofs.Descent.{layout_is}
use Rattle.c_types.proofs.Ends.{rounded_up}
use Rattle.type_laws.proofs.OneClass.{data-pointer}
use Rattle.src_mem.specs.State.{Setting}
use Rattle.facts_kept.specs.Kept.{IsSub}
use Rattle.facts_kept.proofs.Agree.{pointer-there}
use Rattle.facts_kept.proofs.Complete.{complete-some, complete-data}
use Rattle.facts_kept.proofs.Members.{sub-struct}
use Rattle.facts_kept.proofs.Unions.{sub-union}
use Rattle.facts_kept.proofs.Parts.{sub-element, at-most}

-- what stands at a place of a list is among it
pub listed-at : (xs : List TypeId) (i : ℕ) (x : TypeId) → slice_get xs i ≡ Some x → Contains xs x
listed-at [] i x e = absurd (cc (e))
listed-at (y ∷ ys) zero x e = let is : y ≡ x = cc (e) in subst (λ z. Contains (y ∷ ys) z) is (contains_head y ys)
listed-at (y ∷ ys) (suc i) x e = contains_tail y ys x (listed-at ys i x e)

-- whether a mixed union of the type v is among the cells
abbrev AmongMixed : List Cell → TypeId → Type 0
AmongMixed cells v = (i j : ℕ) × (slice_get cells i ≡ Some (mixed v j))

among-mixed : (cells : List Cell) (v : TypeId) → AmongMixed cells v ⊎ (AmongMixed cells v → ⊥)
among-mixed [] v = inr (λ h. let e = h.2 in absurd (cc (e)))
among-mixed (c ∷ cells) v = ⊎_elim (λ h. inl (suc h.0, h.1, h.2)) (λ none. first c none) (among-mixed cells v)
  where
    later : (c : Cell) → (AmongMixed cells v → ⊥) → ((j : ℕ) → c ≡ mixed v j → ⊥) → AmongMixed (c ∷ cells) v → ⊥
    later c none not_first (zero, j, e) = let is : c ≡ mixed v j = cc (e) in not_first j is
    later c none not_first (suc i, j, e) = none (i, j, e)

    of : (u : TypeId) (k : ℕ) → (AmongMixed cells v → ⊥) → (u.0 ≡ v.0) ⊎ (u.0 ≡ v.0 → ⊥)
        → AmongMixed (mixed u k ∷ cells) v ⊎ (AmongMixed (mixed u k ∷ cells) v → ⊥)
    of u k none (inl e) = inl (zero, k, ap (λ (n : ℕ). Some (mixed (record { 0 = n }) k)) e)
    of u k none (inr n) = inr (later (mixed u k) none (λ j e. n (let is : u ≡ v = cc (e) in ap (λ (x : TypeId). x.0) is)))

    first : (c : Cell) → (AmongMixed cells v → ⊥) → AmongMixed (c ∷ cells) v ⊎ (AmongMixed (c ∷ cells) v → ⊥)
    first raw none = inr (later raw none (λ j e. absurd (cc (e))))
    first (pointer n u k) none = inr (later (pointer n u k) none (λ j e. absurd (cc (e))))
    first (incomplete u) none = inr (later (incomplete u) none (λ j e. absurd (cc (e))))
    first (mixed u k) none = of u k none (cases_eq u.0 v.0)

module _ (w : Setting) (sound : IsWellFormed w.table) where
  -- a type that stands in another
  module _ (n : NodeId) (t v : TypeId) (offset : ℕ) (sub : IsSub w t offset v) (ft : is_function w.table t ≡ false) (fv : is_function w.table v ≡ false)
      (spreads : SpreadsWild w.table w.kind n t) (wild : w.kind n ≡ Wild) where
    agreeing : (i : ℕ) (c : Cell) (m : NodeId) (x : TypeId) → slice_get (cells_of w.table t) (offset + i) ≡ Some c
        → CellsAgree w.table w.kind c (pointer m x 0) → w.kind m ≡ Wild
    agreeing i raw m x e g = absurd g
    agreeing i (mixed y j) m x e g = absurd g
    agreeing i (incomplete y) m x e g = absurd g
    agreeing i (pointer o y j) m x e g =
        sym g.1 ∙ spreads wild (record { node = o; to = y })
        (at_place t (offset + i) (record { node = o; to = y })
        (pointer-there w.table t ft (offset + i) o y (subst (λ z. slice_get (cells_of w.table t) (offset + i) ≡ Some (pointer o y z)) g.0 e)))

    there : (i : ℕ) (p : HeldPointer) (o : Option Cell) → slice_get (cells_of w.table v) i ≡ o → and_then o pointer_in_cell ≡ Some p → w.kind p.node ≡ Wild
    there i p None e f = absurd (cc (f))
    there i p (Some raw) e f = absurd (cc (f))
    there i p (Some (mixed x j)) e f = absurd (cc (f))
    there i p (Some (incomplete x)) e f = absurd (cc (f))
    there i p (Some (pointer m x (suc j))) e f = absurd (cc (f))
    there i p (Some (pointer m x zero)) e f =
        let y = sub.agree i (pointer m x 0) e in
        let it : record { node = m; to = x } ≡ p = cc (f) in
        subst (λ (q : HeldPointer). w.kind q.node ≡ Wild) it (agreeing i y.0 m x y.1 y.2)

    mixed-there : (i j : ℕ) (x : TypeId) (c : Cell) → slice_get (cells_of w.table t) (offset + i) ≡ Some c → CellsAgree w.table w.kind c (mixed x j)
        → HoldsMixed w.table t x
    mixed-there i j x raw e g = absurd g
    mixed-there i j x (pointer o y l) e g = absurd g
    mixed-there i j x (incomplete y) e g = absurd g
    mixed-there i j x (mixed y l) e g = (offset + i, l, subst (λ z. slice_get (cells_of w.table t) (offset + i) ≡ Some (mixed z l)) g.0 e)

    spread : (p : HeldPointer) → Holds w.table v p → w.kind p.node ≡ Wild
    spread p (at_place x i q h) =
        there i p (slice_get (cells_of w.table v) i) refl (sym (data-pointer w.table v (shape_at w.table v) i fv) ∙ h)
    spread p (in_member x y m q h contains held) =
        let z = sub.agree h.0 (mixed y h.1) h.2 in
        spreads wild p (in_member t y m p (mixed-there h.0 h.1 y z.0 z.1 z.2) contains held)

  pub sub-spreads : (n : NodeId) (t v : TypeId) (offset : ℕ) → IsSub w t offset v → is_function w.table t ≡ false → is_function w.table v ≡ false
      → SpreadsWild w.table w.kind n t → SpreadsWild w.table w.kind n v
  sub-spreads n t v offset sub ft fv spreads wild = spread n t v offset sub ft fv spreads wild

  module _ (allowed : (t : TypeId) (tag : ℕ) → shape_at w.table t ≡ Union tag → IsUnionAllowed w.table w.kind t) where
    -- a member, of a mixed union too
    module _ (t : TypeId) (i : ℕ) (l : i < length (members_at w.table t)) where
      union-offset : (tag : ℕ) → shape_at w.table t ≡ Union tag → offset_of w.table t i ≡ 0
      union-offset tag e =
          ap (λ s. offset_of_shape s (map (layout_of w.table) (take i (members_at w.table t))) (layout_of w.table (member_at w.table t i))) e

      union-fits : (tag : ℕ) → shape_at w.table t ≡ Union tag → size_of w.table (member_at w.table t i) ≤ size_of w.table t
      union-fits tag e =
          let s : size_of w.table t ≡ (union_layout (map (layout_of w.table) (members_at w.table t))).size =
          ap (λ (y : Layout). y.size) (layout_is w.table sound.order.0 sound.order.1 t) ∙ ap
          (λ x. (layout_of_shape (layout_of w.table) x (members_at w.table t)).size) e in
          let m = at-most (layout_of w.table) (members_at w.table t) 0 i t l in
          let r = rounded_up (greatest_size (map (layout_of w.table) (members_at w.table t)))
          (greatest_align (map (layout_of w.table) (members_at w.table t))) in
          omega (arith, s, m, r)

      pub member-fits : IsComplete w.table t → IsAggregate w.table t → IsComplete w.table (member_at w.table t i)
          → offset_of w.table t i + size_of w.table (member_at w.table t i) ≤ size_of w.table t
      member-fits c aggregate part = by (shape_at w.table t) refl aggregate
        where
          by : (s : TypeShape) → shape_at w.table t ≡ s → is_aggregate_shape s ≡ true
              → offset_of w.table t i + size_of w.table (member_at w.table t i) ≤ size_of w.table t
          by (Struct tag) e f =
              let x = (sub-struct w sound t tag i e l).room in
              let a = (complete-some w.table sound t c).1 in
              let b = (complete-some w.table sound (member_at w.table t i) part).1 in
              omega (arith, x, a, b)
          by (Union tag) e f = let z = union-offset tag e in let y = union-fits tag e in omega (arith, z, y)
          by Void e f = absurd (cc (f))
          by (Integer b s) e f = absurd (cc (f))
          by (Pointer n u) e f = absurd (cc (f))
          by (Array u n) e f = absurd (cc (f))
          by (Function ps r) e f = absurd (cc (f))

      pub member-spreads : (n : NodeId) → IsComplete w.table t → IsAggregate w.table t → IsComplete w.table (member_at w.table t i)
          → SpreadsWild w.table w.kind n t → SpreadsWild w.table w.kind n (member_at w.table t i)
      member-spreads n c aggregate part spreads = by (shape_at w.table t) refl aggregate
        where
          among : Contains (members_at w.table t) (member_at w.table t i)
          among = listed-at (members_at w.table t) i (member_at w.table t i) (slice_get-get_or (members_at w.table t) i t l)

          along : (offset : ℕ) → IsSub w t offset (member_at w.table t i) → SpreadsWild w.table w.kind n (member_at w.table t i)
          along offset sub =
              sub-spreads n t (member_at w.table t i) offset sub (complete-data w.table sound t c)
              (complete-data w.table sound (member_at w.table t i) part) spreads

          by : (s : TypeShape) → shape_at w.table t ≡ s → is_aggregate_shape s ≡ true → SpreadsWild w.table w.kind n (member_at w.table t i)
          by (Struct tag) e f = along (offset_of w.table t i) (sub-struct w sound t tag i e l)
          by (Union tag) e f = ⊎_elim (λ h wild p held. spreads wild p (in_member t t (member_at w.table t i) p h among held))
              (λ plain. along 0 (sub-union w sound t tag i (member_at w.table t i) e (slice_get-get_or (members_at w.table t) i t l) plain
              (allowed t tag e) (union-fits tag e))) (among-mixed (cells_of w.table t) t)
          by Void e f = absurd (cc (f))
          by (Integer b s) e f = absurd (cc (f))
          by (Pointer m u) e f = absurd (cc (f))
          by (Array u m) e f = absurd (cc (f))
          by (Function ps r) e f = absurd (cc (f))

    pub element-spreads : (n : NodeId) (t element : TypeId) (count i : ℕ) → shape_at w.table t ≡ Array element count → i < count → IsComplete w.table t
        → IsComplete w.table element → SpreadsWild w.table w.kind n t → SpreadsWild w.table w.kind n element
    element-spreads n t element count i e l c part spreads =
        sub-spreads n t element (i * size_of w.table element) (sub-element w sound t element count i e l) (complete-data w.table sound t c)
        (complete-data w.table sound element part) spreads
