-- What is kept of a struct that consists of one member.
use Rattle.std.proofs.Common.{◌≡◌, ℕ, List, [], ◌∷◌, length, get_or, false, refl, ap, sym, subst, ◌∙◌, arith}
use Rattle.std.proofs.lemmas.List.Elements.{Contains-get_or}
use Rattle.cc_base.specs.declared.number.TypeId.{TypeId}
use Rattle.c_types.specs.declared.shape.TypeShape.TheVariants.{Struct}
use Rattle.c_types.specs.Table.{Table, IsComplete, shape_at, members_at, is_complete_entry}
use Rattle.c_types.specs.Layouts.{size_of, offset_of}
use Rattle.c_types.specs.Cells.{Relation}
use Rattle.c_types.specs.Sound.{IsWellFormed}
use Rattle.c_types.proofs.Cells.{length_cells}
use Rattle.phys_types.specs.declared.keeping.Repeated.{Repeated}
use Rattle.phys_types.specs.declared.spot.Layout.{Layout}
use Rattle.phys_types.specs.Shown.{IsLayoutOf, IsKeptOf, all_size, all_spots, ArePartsShown, IsStruct}
use Rattle.phys_types.specs.Spots.{cells_from}
use Rattle.phys_types.proofs.InCopies.{kept_whole}
use Rattle.phys_types.proofs.Kept.{kept_size, unmoved}
use Rattle.phys_types.proofs.Parts.{parts_of_struct, member_shown}
use Rattle.phys_types.proofs.Structs.{StructSoFar, struct_tag, struct_start, struct_more, struct_done, offset_is, complete_member}

module _ (table : Table) (w : IsWellFormed table) (t : TypeId) (s : IsStruct table t) (one : length (members_at table t) ≡ 1) where
  abbrev member : TypeId
  member = get_or (members_at table t) 0 t

  pub sole_complete : IsComplete table t
  sole_complete = by (members_at table t) refl
    where
      tag : (tag : ℕ) × (shape_at table t ≡ Struct tag)
      tag = struct_tag (shape_at table t) s

      by : (ms : List TypeId) → members_at table t ≡ ms → IsComplete table t
      by [] f = absurd (let e = sym (ap length f) ∙ one in omega arith)
      by (m ∷ ms) f = λ i. is_complete_entry (tag.1 i) (f i)

  pub member_complete : IsComplete table member
  member_complete =
      let tag = struct_tag (shape_at table t) s in
      complete_member table w t tag.0 tag.1 member (Contains-get_or (members_at table t) 0 t (omega arith))

  module _ (E : Relation) (o : offset_of table t 0 ≡ 0) (k : Repeated) (h : IsKeptOf table E member k) (z : all_size k ≡ size_of table t) where
    whole : (x : Layout) × (all_spots k ≡ x.spots.items) × (x.size ≡ all_size k) × (x.holds ≡ k.part.holds) × IsLayoutOf table E member x
    whole = kept_whole table w E member k h

    sole_layout : IsLayoutOf table E t whole.0
    sole_layout =
        let x = whole.0 in
        let tag = struct_tag (shape_at table t) s in
        let first : StructSoFar table E (members_at table t) 1 x.spots.items x.holds =
        struct_more table w E (members_at table t) 0 0 [] x.spots.items false t x (omega arith) (sym o ∙ offset_is table w E t tag.0 0 tag.1) whole.4
        (sym (unmoved x.spots.items)) (struct_start table w E (members_at table t)) in
        struct_done table w E t tag.0 1 x tag.1 sole_complete (omega arith) first (whole.2 ∙ z)

    as_member : IsKeptOf table E t k
    as_member = record {
      some = h.some;
      spots = h.spots;
      cells = (λ i. cells_from 0 (whole.1 i) (sym whole.2 i)) ∙ sole_layout.cells;
      holds = sym whole.3 ∙ sole_layout.holds;
    }

  pub sole_kept : (places : List ℕ) (built : List Repeated) (E : Relation) (ty : TypeId) (k : Repeated) → ty ≡ member → offset_of table t 0 ≡ 0 → size_of table ty ≡ size_of table t
      → ((d : Repeated) → k ≡ get_or built (get_or places ty.0 0) d) → ArePartsShown table E places built t → IsKeptOf table E t k
  sole_kept places built E ty k e o z b h =
      let g : IsKeptOf table E member k =
      subst (IsKeptOf table E member) (sym (b k)) (member_shown table t (parts_of_struct table t s) places built E 0 ty (omega arith) e h k) in
      as_member E o k g (kept_size table E member k g ∙ length_cells table w E member member_complete ∙ ap (size_of table) (sym e) ∙ z)
