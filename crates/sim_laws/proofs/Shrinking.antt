-- A SEQ pointer that becomes one of one word: what the lines compare is what C asks, for every target that a flow allows.
use Rattle.std.proofs.Common.{◌≡◌, ◌∙◌, ℕ, ◌+◌, ◌<◌, Bool, true, false, ◌&&◌, ◌||◌, List, [], ◌∷◌, length, slice_get, Some, refl, ap, sym, subst, arith}
use Rattle.std.specs.Prelude.{slice_index_or}
use Rattle.std.specs.List.{list_all}
use Rattle.std.proofs.lemmas.Option.{slice_get-get_or, slice_get_within}
use Rattle.std.proofs.Math.Nat.{mod-eq_of_lt}
use Rattle.cc_base.specs.declared.kind.Kind.{Kind}
use Rattle.cc_base.specs.declared.kind.Kind.TheVariants.{Safe, Seq}
use Rattle.cc_base.specs.declared.number.NodeId.{NodeId}
use Rattle.cc_base.specs.declared.number.TypeId.{TypeId}
use Rattle.c_types.specs.declared.shape.TypeShape.{TypeShape}
use Rattle.c_types.specs.declared.shape.TypeShape.TheVariants.{Void, Integer, Pointer as PointerShape, Array, Function as FunctionShape, Struct, Union}
use Rattle.c_types.specs.declared.layout.Layout.{Layout}
use Rattle.c_types.specs.declared.flow_class.FlowClass.{FlowClass}
use Rattle.c_types.specs.declared.flow_class.FlowClass.TheVariants.{Equal, UpTile, Up, DownTile, Down, Tile, Bad}
use Rattle.c_types.specs.Table.{IsComplete, entry_at, is_complete, is_complete_entry, shape_at, members_at, is_function}
use Rattle.c_types.specs.Layouts.{layout_of, layout_of_shape, size_of}
use Rattle.c_types.specs.Cells.{Cell, raw}
use Rattle.c_types.specs.Equality.{cells_of, repeated_cell}
use Rattle.c_types.specs.Flows.{Correspond, CorrespondAtTop, HaveEqualKinds, Covers, CellsAgree, flow_class}
use Rattle.c_types.specs.Sound.{IsWellFormed}
use Rattle.c_types.specs.Widths.{cured_size}
use Rattle.c_types.proofs.Descent.{layout_is}
use Rattle.kind_sites.specs.declared.site.Site.{Site}
use Rattle.kind_sites.specs.Solutions.{allows, is_upward, is_tiled}
use Rattle.src_mem.specs.Pointers.{Pointer}
use Rattle.src_mem.specs.State as source
use Rattle.src_mem.specs.State.{Setting}
use Rattle.src_mem.specs.Checks.{null_or_in_bounds, holds}
use Rattle.src_mem.specs.Facts.{RepeatType}
use Rattle.src_mem.specs.Outlines.{outlines_of}
use Rattle.facts_kept.specs.Kept.{IsFlow}
use Rattle.facts_kept.proofs.Agree.{agree-turned, covered-cells}
use Rattle.facts_kept.proofs.Complete.{complete-like, complete-some, complete-data}
use Rattle.facts_kept.proofs.Convert.{not-plain}
use Rattle.facts_kept.proofs.Flow.{Tells, class-tells, covers-up, tile-some, tile-in-class}
use Rattle.cured_code.specs.FlatState as flat
use Rattle.cured_code.specs.declared.parts.Parts.{Parts}
use Rattle.check_forms.specs.declared.slots.PointerSlots.{PointerSlots}
use Rattle.check_forms.specs.declared.slots.Fixed.{Fixed}
use Rattle.check_forms.specs.Conditions.{UnlessNull, flat_holds}
use Rattle.check_forms.specs.Rows.{in_part}
use Rattle.sim_checks.specs.Rows.{IsChecked}
use Rattle.sim_checks.proofs.Sequences.{shrinking-compared}
use Rattle.sim_checks.proofs.Unsized.{unsized-compared}

-- What has no size

-- what isn't complete has size 0
pub unsized : (w : Setting) → IsWellFormed w.table → (u : TypeId) → is_complete (entry_at w.table u) ≡ false → size_of w.table u ≡ 0
unsized w sound u none = ap (λ (l : Layout). l.size) (layout_is w.table sound.order.0 sound.order.1 u) ∙ by (shape_at w.table u) (members_at w.table u) none
  where
    by : (s : TypeShape) (ms : List TypeId) → is_complete_entry s ms ≡ false → (layout_of_shape (layout_of w.table) s ms).size ≡ 0
    by Void ms e = refl
    by (Integer bytes signed) ms e = absurd (cc (e))
    by (PointerShape n v) ms e = absurd (cc (e))
    by (Array v n) ms e = absurd (cc (e))
    by (FunctionShape ps r) ms e = refl
    by (Struct tag) [] e = refl
    by (Struct tag) (m ∷ ms) e = absurd (cc (e))
    by (Union tag) [] e = refl
    by (Union tag) (m ∷ ms) e = absurd (cc (e))

pub and-true : (b : Bool) → b ≡ (b && true)
and-true true = refl
and-true false = refl

-- What has one: what the source points to begins with it, again and again

module _ (w : Setting) (sound : IsWellFormed w.table) (t u : TypeId) (cu : IsComplete w.table u) where
  abbrev Begins : Type 0
  Begins = IsComplete w.table t × RepeatType w (cells_of w.table u) 0 (length (cells_of w.table u)) t

  -- the cell of the source's repetition agrees with each of the target
  from-cells : is_function w.table t ≡ false → 0 < length (cells_of w.table t)
      → ((i : ℕ) → i < length (cells_of w.table u) → CellsAgree w.table w.kind (repeated_cell (cells_of w.table t) i) (slice_index_or (cells_of w.table u) i raw)) → Begins
  from-cells ft some agree = (
    complete-like w sound u t cu ft some (agree-turned w sound (repeated_cell (cells_of w.table t) 0) (repeated_cell (cells_of w.table u) 0)
        (subst (λ (k : ℕ). CellsAgree w.table w.kind (repeated_cell (cells_of w.table t) 0) (slice_index_or (cells_of w.table u) k raw))
        (sym (mod-eq_of_lt (complete-some w.table sound u cu).0)) (agree 0 (complete-some w.table sound u cu).0))),
    record {
      agree = λ i less. let l : i < length (cells_of w.table u) = omega (arith, less) in (
        slice_index_or (cells_of w.table u) i raw,
        subst (λ (k : ℕ). slice_get (cells_of w.table u) k ≡ Some (slice_index_or (cells_of w.table u) i raw)) (let e : i ≡ 0 + i = omega arith in e)
            (slice_get-get_or (cells_of w.table u) i raw l),
        agree-turned w sound (repeated_cell (cells_of w.table t) i) (slice_index_or (cells_of w.table u) i raw) (agree i l),
      );
    },
  )

  covered-begins : is_function w.table t ≡ false → Covers w.table w.kind t u → Begins
  covered-begins ft covers = from-cells ft (let k = cell 0 (complete-some w.table sound u cu).0 in
      let m = slice_get_within (cells_of w.table t) 0 k.0 k.1 in omega (arith, m)) (λ i less. at i (cell i less))
    where
      cell : (i : ℕ) → i < length (cells_of w.table u)
          → (d : Cell) × (slice_get (cells_of w.table t) i ≡ Some d) × CellsAgree w.table w.kind d (slice_index_or (cells_of w.table u) i raw)
      cell i less = covered-cells w sound t u covers i (slice_index_or (cells_of w.table u) i raw) (slice_get-get_or (cells_of w.table u) i raw less)

      at : (i : ℕ) → (d : Cell) × (slice_get (cells_of w.table t) i ≡ Some d) × CellsAgree w.table w.kind d (slice_index_or (cells_of w.table u) i raw)
          → CellsAgree w.table w.kind (repeated_cell (cells_of w.table t) i) (slice_index_or (cells_of w.table u) i raw)
      at i (d, found, agree) =
          let l = slice_get_within (cells_of w.table t) i d found in
          let e : slice_get (cells_of w.table t) i ≡ Some (slice_index_or (cells_of w.table t) i raw) = slice_get-get_or (cells_of w.table t) i raw l in
          let same : d ≡ slice_index_or (cells_of w.table t) i raw = cc (found, e) in
          let whole : d ≡ repeated_cell (cells_of w.table t) i = same ∙ ap (λ (k : ℕ). slice_index_or (cells_of w.table t) k raw) (sym (mod-eq_of_lt l)) in
          subst (λ (x : Cell). CellsAgree w.table w.kind x (slice_index_or (cells_of w.table u) i raw)) whole agree

  tiled-begins : is_function w.table t ≡ false → 0 < length (cells_of w.table t)
      → ((i : ℕ) → CellsAgree w.table w.kind (repeated_cell (cells_of w.table t) i) (repeated_cell (cells_of w.table u) i)) → Begins
  tiled-begins ft some alike = from-cells ft some
      (λ i less. subst (λ (k : ℕ). CellsAgree w.table w.kind (repeated_cell (cells_of w.table t) i) (slice_index_or (cells_of w.table u) k raw)) (mod-eq_of_lt less) (alike i))

  begins-by : (class : FlowClass) → Tells w.table t u class → HaveEqualKinds w.kind (Correspond w.table (CorrespondAtTop w.table class t u))
      → (is_upward class || is_tiled class) ≡ true → is_function w.table t ≡ false → Begins
  begins-by Equal told same k ft = covered-begins ft (covers-up w.table sound w.kind t u Equal ft refl told same)
  begins-by UpTile told same k ft = covered-begins ft (covers-up w.table sound w.kind t u UpTile ft refl told same)
  begins-by Up told same k ft = covered-begins ft (covers-up w.table sound w.kind t u Up ft refl told same)
  begins-by DownTile told same k ft = tiled-begins ft (tile-some w sound t u told.1).0
      (tile-in-class w sound t u DownTile refl same ft (complete-data w.table sound u cu) told (complete-some w.table sound u cu).0)
  begins-by Tile told same k ft = tiled-begins ft (tile-some w sound t u told).0
      (tile-in-class w sound t u Tile refl same ft (complete-data w.table sound u cu) told (complete-some w.table sound u cu).0)
  begins-by Down told same k ft = absurd (cc (k))
  begins-by Bad told same k ft = absurd (cc (k))

-- The check of an allowed conversion from SEQ to SAFE

pub shrinks-compared : (w : Setting) (number_of : TypeId → ℕ) (s : source.State) (c : flat.State) (parts : Parts) (depth : ℕ) → IsWellFormed w.table → (sites : List Site)
    (m n : NodeId) (t u : TypeId) → IsFlow w sites m t n u → w.kind m ≡ Seq → w.kind n ≡ Safe → (e : ℕ → ℕ) (p : PointerSlots) (size : Fixed)
    → (IsComplete w.table u → size.value ≡ cured_size w.table w.kind u) → (is_complete (entry_at w.table u) ≡ false → size.value ≡ 0)
    → (q : Pointer) → IsChecked w number_of s c depth Seq t q e p
    → flat_holds parts c.memory (UnlessNull p (in_part p size)) e ≡ list_all (holds w s.memory) (null_or_in_bounds (size_of w.table u) q)
shrinks-compared w number_of s c parts depth sound sites m n t u f em en e p size full none q x = by (is_complete (entry_at w.table u)) refl
  where
    allowed : (is_upward (flow_class w.table t u) || is_tiled (flow_class w.table t u)) ≡ true
    allowed = subst (λ (k : Kind). allows Seq k (flow_class w.table t u) f.flow.below ≡ true) en
        (subst (λ (k : Kind). allows k (w.kind n) (flow_class w.table t u) f.flow.below ≡ true) em f.flow.allowed)

    ft : is_function w.table t ≡ false
    ft = not-plain w sound (outlines_of s.memory) Seq m t em (λ h. cc (h)) (λ h. cc (h)) f.source

    by : (b : Bool) → is_complete (entry_at w.table u) ≡ b
        → flat_holds parts c.memory (UnlessNull p (in_part p size)) e ≡ list_all (holds w s.memory) (null_or_in_bounds (size_of w.table u) q)
    by true cu =
        let h = begins-by w sound t u cu (flow_class w.table t u) (class-tells w.table t u) f.flow.equal allowed ft in
        shrinking-compared w number_of s c parts depth t u sound h.0 cu h.1 e p size (full cu) q x
    by false nu = unsized-compared w number_of s c parts depth t sound e p size (none nu) q x
        ∙ ap (λ (k : ℕ). list_all (holds w s.memory) (null_or_in_bounds k q)) (sym (unsized w sound u nu))
