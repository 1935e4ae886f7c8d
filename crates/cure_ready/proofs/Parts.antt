-- Parts of complete types: they are complete, they fit, and WILD spreads to them.
use Rattle.std.proofs.Common.{◌≡◌, ◌∙◌, ℕ, ◌+◌, ◌*◌, ◌<◌, ◌≤◌, true, [], length, refl, ap, subst, arith}
use Rattle.std.specs.List.{All, Contains}
use Rattle.std.proofs.lemmas.List.Elements.{All-contains}
use Rattle.std.proofs.lemmas.Option.{slice_get-get_or}
use Rattle.cc_base.specs.declared.number.NodeId.{NodeId}
use Rattle.cc_base.specs.declared.number.TypeId.{TypeId}
use Rattle.c_types.specs.declared.shape.TypeShape.{TypeShape}
use Rattle.c_types.specs.declared.shape.TypeShape.TheVariants.{Void, Integer, Pointer, Array, Function, Struct, Union}
use Rattle.c_types.specs.Table.{IsComplete, IsAggregate, shape_at, members_at, parts_at, parts_of_shape, is_aggregate_shape}
use Rattle.c_types.specs.Layouts.{size_of, member_at}
use Rattle.c_types.specs.Equality.{cells_of}
use Rattle.kind_sites.specs.Solutions.{SpreadsWild, IsUnionAllowed}
use Rattle.c_types.specs.Sound.{IsWellFormed}
use Rattle.c_types.proofs.Lists.{contains_head}
use Rattle.src_mem.specs.State.{Setting}
use Rattle.facts_kept.proofs.Complete.{complete-some}
use Rattle.facts_kept.proofs.Parts.{sub-element}
use Rattle.facts_kept.proofs.PartsSpread.{listed-at, member-fits, member-spreads, element-spreads}
use Rattle.cil_form.specs.Typing.{IsPart, whole, in_member, in_element}

module _ (w : Setting) (sound : IsWellFormed w.table) where
  pub element-complete : (t element : TypeId) (count : ℕ) → shape_at w.table t ≡ Array element count → IsComplete w.table element
  element-complete t element count e =
      let P : TypeShape → Type 0 = λ s. (m : TypeId) → Contains (parts_of_shape s (members_at w.table t)) m → IsComplete w.table m in
      subst P e (λ m h. All-contains (IsComplete w.table) (parts_at w.table t) m (sound.each t).parts h) element (contains_head element [])

  pub member-complete : (t : TypeId) (i : ℕ) → IsAggregate w.table t → i < length (members_at w.table t) → IsComplete w.table (member_at w.table t i)
  member-complete t i aggregate l = by (shape_at w.table t) refl aggregate
    where
      of : (s : TypeShape) → shape_at w.table t ≡ s → parts_of_shape s (members_at w.table t) ≡ members_at w.table t
          → IsComplete w.table (member_at w.table t i)
      of s e f =
          All-contains (IsComplete w.table) (members_at w.table t) (member_at w.table t i)
          (subst (λ ms. All (IsComplete w.table) ms) (ap (λ x. parts_of_shape x (members_at w.table t)) e ∙ f) (sound.each t).parts)
          (listed-at (members_at w.table t) i (member_at w.table t i) (slice_get-get_or (members_at w.table t) i t l))

      by : (s : TypeShape) → shape_at w.table t ≡ s → is_aggregate_shape s ≡ true → IsComplete w.table (member_at w.table t i)
      by (Struct tag) e f = of (Struct tag) e refl
      by (Union tag) e f = of (Union tag) e refl
      by Void e f = absurd (cc (f))
      by (Integer b s) e f = absurd (cc (f))
      by (Pointer n u) e f = absurd (cc (f))
      by (Array u n) e f = absurd (cc (f))
      by (Function ps r) e f = absurd (cc (f))

  pub part-complete : (u : TypeId) (offset : ℕ) (t : TypeId) → IsPart w.table u offset t → IsComplete w.table u → IsComplete w.table t
  part-complete u offset t (whole x) h = h
  part-complete u offset t (in_member x i o y aggregate l part) h =
      part-complete (member_at w.table x i) o y part (member-complete x i aggregate l)
  part-complete u offset t (in_element x element count i o y e l part) h = part-complete element o y part (element-complete x element count e)

  module _ (allowed : (t : TypeId) (tag : ℕ) → shape_at w.table t ≡ Union tag → IsUnionAllowed w.table w.kind t) where
    pub part-fits : (u : TypeId) (offset : ℕ) (t : TypeId) → IsPart w.table u offset t → IsComplete w.table u
        → offset + size_of w.table t ≤ size_of w.table u
    part-fits u offset t (whole x) h = omega arith
    part-fits u offset t (in_member x i o y aggregate l part) h =
        let m = member-fits w sound allowed x i l h aggregate (member-complete x i aggregate l) in
        let n = part-fits (member_at w.table x i) o y part (member-complete x i aggregate l) in
        omega (arith, m, n)
    part-fits u offset t (in_element x element count i o y e l part) h =
        let m = (sub-element w sound x element count i e l).room in
        let n = part-fits element o y part (element-complete x element count e) in
        let p = (complete-some w.table sound x h).1 in
        let q = (complete-some w.table sound element (element-complete x element count e)).1 in
        within (i * size_of w.table element) (length (cells_of w.table element)) (length (cells_of w.table x)) m n p q
      where
        within : (start cells all : ℕ) → start + cells ≤ all → o + size_of w.table y ≤ size_of w.table element → all ≡ size_of w.table x
            → cells ≡ size_of w.table element → start + o + size_of w.table y ≤ size_of w.table x
        within start cells all m n p q = omega (arith, m, n, p, q)

    pub part-spreads : (n : NodeId) (u : TypeId) (offset : ℕ) (t : TypeId) → IsPart w.table u offset t → IsComplete w.table u
        → SpreadsWild w.table w.kind n u → SpreadsWild w.table w.kind n t
    part-spreads n u offset t (whole x) h spreads = spreads
    part-spreads n u offset t (in_member x i o y aggregate l part) h spreads =
        part-spreads n (member_at w.table x i) o y part (member-complete x i aggregate l)
        (member-spreads w sound allowed x i l n h aggregate (member-complete x i aggregate l) spreads)
    part-spreads n u offset t (in_element x element count i o y e l part) h spreads =
        part-spreads n element o y part (element-complete x element count e)
        (element-spreads w sound allowed n x element count i e l h (element-complete x element count e) spreads)
