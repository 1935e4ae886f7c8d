-- The lines that copy structs are cured code of it.
use Rattle.std.proofs.Common.{◌≡◌, refl, ap, sym, subst, ◌∙◌, inr, ℕ, Bool, true, false, List, [], ◌∷◌, ◌++◌, append_assoc, take, get_or, length, ◌+◌, ◌<◌}
use Rattle.std.specs.List.{All}
use Rattle.std.proofs.lemmas.List.{append-nil, take_more}
use Rattle.std.proofs.lemmas.List.Elements.{All-head, All-tail}
use Rattle.cc_base.specs.declared.kind.Kind.{Kind}
use Rattle.cc_base.specs.declared.kind.Kind.TheVariants.{Safe, Seq, Rtti, Wild}
use Rattle.cc_base.specs.declared.number.TypeId.{TypeId}
use Rattle.cc_base.specs.declared.number.NodeId.{NodeId}
use Rattle.cc_base.specs.declared.place.Place.{Place}
use Rattle.c_types.specs.Table.{IsComplete, IsType}
use Rattle.c_types.specs.Cells.{IsBetweenPointers, holds_pointer}
use Rattle.c_types.specs.Equality.{cells_of}
use Rattle.phys_types.specs.declared.spot.Item.{Item}
use Rattle.phys_types.specs.declared.spot.Item.TheVariants.{Pointer, Mixed, Incomplete}
use Rattle.phys_types.specs.declared.spot.Spot.{Spot}
use Rattle.phys_types.specs.declared.spot.Layout.{Layout}
use Rattle.src_mem.specs.Uses.{pointer_offsets}
use Rattle.cil_form.specs.declared.number.Temp.{Temp}
use Rattle.cil_form.specs.declared.number.Object.{Object}
use Rattle.cil_form.specs.declared.instr.Access.TheVariants as access
use Rattle.cil_form.specs.declared.instr.Target.TheVariants as target
use Rattle.cil_form.specs.Typing as shaped
use Rattle.cil_form.specs.Typing.{Typing}
use Rattle.cured_code.specs.declared.instr.Instr.{Instr}
use Rattle.check_forms.specs.declared.op.Op.TheVariants as op
use Rattle.check_forms.specs.declared.slots.PointerSlots.{PointerSlots}
use Rattle.check_forms.specs.Pieces.{Line, Then}
use Rattle.check_forms.specs.Rows.{home_slot}
use Rattle.check_insert.specs.declared.draft.Draft.{Draft}
use Rattle.check_insert.specs.Drafts.{Grows}
use Rattle.check_insert.proofs.Laws.{grows_both}
use Rattle.cure_rules.specs.Slots.{Word}
use Rattle.cure_rules.specs.Known.{Whole, pointer_slots}
use Rattle.cure_rules.specs.Checks.{reach_needs, aligned_needs, size_at, wild_numbers}
use Rattle.cure_rules.specs.Pointing.{cured_offset}
use Rattle.cure_rules.specs.Accesses.{CellsKept, CopiedBy, PointersCopied}
use Rattle.cure_scope.specs.declared.scope.Scope.{Scope}
use Rattle.cure_scope.specs.Scopes.{fixed_column, seat, whole_of, world_of}
use Rattle.cure_scope.proofs.GuardLaws.{guarded}
use Rattle.cure_instrs.specs.Cured.{IsHome}
use Rattle.cure_instrs.proofs.KnownLaws.{includes_held, is_address}
use Rattle.cure_instrs.proofs.AccessLaws.{reaches}
use Rattle.cure_instrs.proofs.SeatLaws.{seated_append, seated_reach, seated_aligned}
use Rattle.cure_objects.specs.Cured.{CanPlace, ObjectCured}
use Rattle.cure_objects.specs.Starts.{item_starts, pointer_starts, IsItemStart, IsSpotOf, TellsPointers}
use Rattle.cure_objects.specs.Copies.{AreCopied, CanCopy, CanCopyPart, HolderCopied, ItemKept, SpotsKept, StructCopied}
use Rattle.cure_objects.specs.Lines.{PartSet, part_at}
use Rattle.cure_objects.proofs.ObjectLaws.{part_set}

-- Pointers one after another

module _ (k : Scope) (from : Kind) (t : TypeId) (a h : ℕ) (assignment : Place) where
  item-kept : (i : ℕ) (item : Item) (is : List ℕ) (x y code : List Instr) → IsItemStart k.layouts.now.table t i item
      → ItemKept (world_of k) from t a h assignment i item x → CellsKept (world_of k) seat from t a h assignment is y → code ≡ x ++ y
      → CellsKept (world_of k) seat from t a h assignment (item_starts i item ++ is) code
  unfolding Then Line
  item-kept i (Pointer node to) is x y code start g rest e =
      let kind = (whole_of k).kind node in
      let loaded = g.3 in (
        record { node = node; to = to },
        start.there,
        (
          g.0,
          loaded.0 ++ (loaded.1 ++ y),
          inr (refl, g.2),
          (
            loaded.0,
            loaded.1 ++ y,
            loaded.2,
            (
              loaded.1,
              y,
              guarded k (op.KeepCell (home_slot kind (pointer_slots (seat Word))) h) from assignment loaded.1 tt loaded.3,
              rest,
              refl,
            ),
            refl,
          ),
          e ∙ ap (λ z. z ++ y) (g.4 ∙ ap (λ z. g.0 ++ z) loaded.4) ∙ append_assoc g.0 (loaded.0 ++ loaded.1) y
              ∙ ap (λ z. g.0 ++ z) (append_assoc loaded.0 loaded.1 y),
        ),
      )
  item-kept i (Mixed u n) is x y code start g rest e =
      subst (CellsKept (world_of k) seat from t a h assignment is) (sym (e ∙ ap (λ z. z ++ y) g)) rest
  item-kept i (Incomplete u) is x y code start g rest e =
      subst (CellsKept (world_of k) seat from t a h assignment is) (sym (e ∙ ap (λ z. z ++ y) g)) rest

  spots-kept : (ss : List Spot) (code : List Instr) → All (IsSpotOf k.layouts.now.table t) ss → SpotsKept (world_of k) from t a h assignment ss code
      → CellsKept (world_of k) seat from t a h assignment (pointer_starts ss) code
  unfolding Then
  spots-kept [] code starts g = g
  spots-kept (s ∷ ss) code starts g =
      item-kept s.start s.item (pointer_starts ss) g.0 g.1 code (All-head (IsSpotOf k.layouts.now.table t) s ss starts) g.2
      (spots-kept ss g.1 (All-tail (IsSpotOf k.layouts.now.table t) s ss starts) g.3) g.4

  -- one spot more
  spots-more : (ss : List Spot) (s : Spot) (x y : List Instr) → SpotsKept (world_of k) from t a h assignment ss x
      → ItemKept (world_of k) from t a h assignment s.start s.item y → SpotsKept (world_of k) from t a h assignment (ss ++ (s ∷ [])) (x ++ y)
  unfolding Then Line
  spots-more [] s x y g f = (y, [], f, refl, ap (λ z. z ++ y) g ∙ sym (append-nil y))
  spots-more (r ∷ ss) s x y g f =
      (g.0, g.1 ++ y, g.2, spots-more ss s g.1 y g.3 f, ap (λ z. z ++ y) g.4 ∙ append_assoc g.0 g.1 y)

  pub kept_more : (ss : List Spot) (i : ℕ) (d : Spot) (s : Spot) (o p q : Draft) → i < length ss → s ≡ get_or ss i d
      → Grows (SpotsKept (world_of k) from t a h assignment (take i ss)) (Unit {0}) o p
      → Grows (ItemKept (world_of k) from t a h assignment s.start s.item) (Unit {0}) p q
      → Grows (SpotsKept (world_of k) from t a h assignment (take (i + 1) ss)) (Unit {0}) o q
  kept_more ss i d s o p q within is f g =
      let same = take_more ss i d within ∙ ap (λ z. take i ss ++ (z ∷ [])) (sym is) in
      grows_both _ _ _ o p q
      (λ x y u v. subst (λ z. SpotsKept (world_of k) from t a h assignment z (x ++ y)) (sym same) (spots-more (take i ss) s x y u v)) f g

-- A struct with pointers

module _ (k : Scope) (t : TypeId) (layout : Layout) (tells : TellsPointers k.layouts.now.table t layout) (holds : layout.holds ≡ true)
    (source to : PointerSlots) (assignment : Place) (code : List Instr) where
  cells-kept : (from : Kind) (h : ℕ) (x : List Instr) → SpotsKept (world_of k) from t source.first h assignment layout.spots.items x
      → CellsKept (world_of k) seat from t source.first h assignment (pointer_offsets k.layouts.now.table t) x
  cells-kept from h x g =
      subst (λ is. CellsKept (world_of k) seat from t source.first h assignment is x) (sym (tells.offsets holds))
      (spots-kept k from t source.first h assignment layout.spots.items x (tells.spots holds) g)

  pointers-copied : (from kind : Kind) → HolderCopied from kind (world_of k) t layout.spots.items source to assignment code
      → PointersCopied from kind (world_of k) seat t source to assignment code
  unfolding Then
  pointers-copied Wild Wild g = g
  pointers-copied Wild Safe g = absurd g
  pointers-copied Wild Seq g = absurd g
  pointers-copied Wild Rtti g = absurd g
  pointers-copied Safe Wild g = absurd g
  pointers-copied Safe Safe g = (g.0, g.1, cells-kept Safe to.first g.0 g.2, g.3, g.4)
  pointers-copied Safe Seq g = (g.0, g.1, cells-kept Safe to.second g.0 g.2, g.3, g.4)
  pointers-copied Safe Rtti g = (g.0, g.1, cells-kept Safe to.first g.0 g.2, g.3, g.4)
  pointers-copied Seq Wild g = absurd g
  pointers-copied Seq Safe g = (g.0, g.1, cells-kept Seq to.first g.0 g.2, g.3, g.4)
  pointers-copied Seq Seq g = (g.0, g.1, cells-kept Seq to.second g.0 g.2, g.3, g.4)
  pointers-copied Seq Rtti g = (g.0, g.1, cells-kept Seq to.first g.0 g.2, g.3, g.4)
  pointers-copied Rtti Wild g = absurd g
  pointers-copied Rtti Safe g = (g.0, g.1, cells-kept Rtti to.first g.0 g.2, g.3, g.4)
  pointers-copied Rtti Seq g = (g.0, g.1, cells-kept Rtti to.second g.0 g.2, g.3, g.4)
  pointers-copied Rtti Rtti g = (g.0, g.1, cells-kept Rtti to.first g.0 g.2, g.3, g.4)

struct-copied : (k : Scope) (holds : Bool) (layout : Layout) (from kind : Kind) (t : TypeId) (source to : PointerSlots)
    (from_place to_place assignment : Place)
    (code : List Instr) → TellsPointers k.layouts.now.table t layout → layout.holds ≡ holds
    → StructCopied (world_of k) holds layout.spots.items from kind t source to from_place to_place assignment code
    → CopiedBy holds (world_of k) seat seat from kind t source to from_place to_place assignment code
unfolding Then
struct-copied k false layout from kind t source to from_place to_place assignment code tells e h =
    let size = size_at (world_of k) seat from t in (
      h.0,
      h.1,
      guarded k (op.CopyPlain source to kind size to_place) from from_place h.0
          (seated_append (reach_needs from size) (reach_needs kind size) (seated_reach from _) (seated_reach kind _)) h.2,
      h.3,
      h.4,
    )
struct-copied k true layout from kind t source to from_place to_place assignment code tells e h =
    let size = size_at (world_of k) seat from t in
    let numbers = wild_numbers (world_of k) seat in (
      h.0,
      h.1,
      guarded k (op.CopyPointers source to kind size numbers to_place assignment) from from_place h.0
          (seated_append ((reach_needs from size ++ aligned_needs from numbers) ++ reach_needs kind size) (aligned_needs kind numbers)
          (seated_append (reach_needs from size ++ aligned_needs from numbers) (reach_needs kind size)
          (seated_append (reach_needs from size) (aligned_needs from numbers) (seated_reach from _) (seated_aligned k from)) (seated_reach kind _))
          (seated_aligned k kind)) h.2,
      pointers-copied k t layout tells e source to assignment h.1 from kind h.3,
      h.4,
    )

-- a struct of this layout
laid-copied : (k : Scope) (layout : Layout) (from kind : Kind) (t : TypeId) (source to : PointerSlots) (from_place to_place assignment : Place)
    (code : List Instr)
    → TellsPointers k.layouts.now.table t layout
    → StructCopied (world_of k) layout.holds layout.spots.items from kind t source to from_place to_place assignment code
    → CopiedBy (holds_pointer k.layouts.now.table t) (world_of k) seat seat from kind t source to from_place to_place assignment code
laid-copied k layout from kind t source to from_place to_place assignment code tells h =
    struct-copied k (holds_pointer k.layouts.now.table t) layout from kind t source to from_place to_place assignment code tells tells.holds
    (subst (λ z. StructCopied (world_of k) z layout.spots.items from kind t source to from_place to_place assignment code) tells.holds h)

pub pointer_copied : (k : Scope) (types : Typing) (p : Temp) (m : NodeId) (from : Temp) (n : NodeId) (t : TypeId)
    (to_place from_place assignment : Place) (layout : Layout) (code : List Instr) → TellsPointers k.layouts.now.table t layout
    → StructCopied (world_of k) layout.holds layout.spots.items ((whole_of k).kind n) ((whole_of k).kind m) t (pointer_slots (fixed_column from))
    (pointer_slots (fixed_column p)) from_place to_place assignment code
    → ObjectCured (access.Copy (target.Pointer p m) to_place from n from_place t assignment) (world_of k) types code
unfolding ObjectCured Then
pointer_copied k types p m from n t to_place from_place assignment layout code tells h c after is whole s = (
  fixed_column from,
  [],
  pointer_slots (fixed_column p),
  seat,
  seat,
  is_address k.parameters types from n t s.4,
  (
    [],
    code,
    reaches k types c p m t s.3.1,
    laid-copied k layout ((whole_of k).kind n) ((whole_of k).kind m) t
        (pointer_slots (fixed_column from)) (pointer_slots (fixed_column p)) from_place to_place assignment code tells h,
    refl,
  ),
  includes_held k.parameters types after s.5,
)

pub part_copied : (k : Scope) (types : Typing) (o : Object) (home : NodeId) (u : TypeId) (offset : ℕ) (from : Temp) (n : NodeId) (t : TypeId)
    (to_place from_place assignment : Place) (layout : Layout) (far : ℕ) (code : List Instr) → TellsPointers k.layouts.now.table t layout
    → (IsBetweenPointers (cells_of k.layouts.now.table u) offset → far ≡ cured_offset (world_of k) ((whole_of k).kind home) u offset)
    → IsComplete k.layouts.now.table u
    → Then (PartSet ((whole_of k).kind home) k o far)
    (StructCopied (world_of k) layout.holds layout.spots.items ((whole_of k).kind n) ((whole_of k).kind home) t (pointer_slots (fixed_column from))
    part_at from_place to_place assignment) code
    → ObjectCured (access.Copy (target.Part o home u offset) to_place from n from_place t assignment) (world_of k) types code
unfolding ObjectCured Then
part_copied k types o home u offset from n t to_place from_place assignment layout far code tells at complete h c after is whole s =
    let kind = (whole_of k).kind home in
    let part = subst (λ z. shaped.IsPart z u offset t) is.table s.3.1 in
    let m = at (whole u t offset complete part) in
    let set = part_set k kind o (cured_offset (world_of k) kind u offset) h.0 (subst (λ z. PartSet kind k o z h.0) m h.2) in (
      fixed_column from,
      [],
      part_at,
      seat,
      seat,
      is_address k.parameters types from n t s.4,
      (
        h.0,
        h.1,
        set,
        laid-copied k layout ((whole_of k).kind n) kind t
            (pointer_slots (fixed_column from)) part_at from_place to_place assignment h.1 tells h.3,
        h.4,
      ),
      includes_held k.parameters types after s.5,
    )

pub copy_ready : (w : Whole) (to n : NodeId) (t : TypeId) (layout : Layout) → TellsPointers w.table t layout → CanCopy w to n t
    → AreCopied layout.holds (w.kind n) (w.kind to)
unfolding CanCopy
copy_ready w to n t layout tells h = subst (λ z. AreCopied z (w.kind n) (w.kind to)) (sym tells.holds) h.1

pub no_type : (w : Whole) (to n : NodeId) (t : TypeId) → (IsType w.table t → ⊥) → CanCopy w to n t → ⊥
unfolding CanCopy
no_type w to n t none h = none h.0

pub part_copy_ready : (w : Whole) (home : NodeId) (u : TypeId) (offset : ℕ) (n : NodeId) (t : TypeId) (layout : Layout)
    → TellsPointers w.table t layout → CanCopyPart w home u offset n t → IsHome (w.kind home) × AreCopied layout.holds (w.kind n) (w.kind home)
unfolding CanCopyPart
part_copy_ready w home u offset n t layout tells h =
    (h.1.1.0, subst (λ z. AreCopied z (w.kind n) (w.kind home)) (sym tells.holds) h.1.1.1)

pub no_part_type : (w : Whole) (home : NodeId) (u : TypeId) (offset : ℕ) (n : NodeId) (t : TypeId) → (IsType w.table t → ⊥)
    → CanCopyPart w home u offset n t → ⊥
unfolding CanCopyPart
no_part_type w home u offset n t none h = none h.0

pub no_part : (w : Whole) (home : NodeId) (u : TypeId) (offset : ℕ) (n : NodeId) (t : TypeId) → (CanPlace w u offset → ⊥)
    → CanCopyPart w home u offset n t → ⊥
unfolding CanCopyPart
no_part w home u offset n t none h = none h.1.0
