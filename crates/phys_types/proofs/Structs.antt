use Rattle.std.proofs.Common.{◌≡◌, ℕ, suc, ◌+◌, ◌<◌, ◌≤◌, Bool, true, false, ◌||◌, List, [], ◌∷◌, ◌++◌, length, get_or, take, map, refl, ap, sym, subst, ◌∙◌, true≢false, arith}
use Rattle.std.specs.List.{All, Contains, list_any}
use Rattle.std.proofs.lemmas.List.{take_more, take_all}
use Rattle.std.proofs.lemmas.List.Sums.{fold-append}
use Rattle.std.proofs.lemmas.List.Elements.{All-contains}
use Rattle.cc_base.specs.declared.number.TypeId.{TypeId}
use Rattle.c_types.specs.declared.shape.TypeShape.{TypeShape}
use Rattle.c_types.specs.declared.shape.TypeShape.TheVariants.{Void, Integer, Pointer, Array, Function, Struct, Union}
use Rattle.c_types.specs.declared.layout.Layout.{Layout as Measure}
use Rattle.c_types.specs.Table.{Table, shape_at, members_at, parts_at, parts_of_shape, is_complete_entry, IsComplete}
use Rattle.c_types.specs.Layouts.{rounded, members_end, struct_layout, layout_of, size_of, align_of, offset_of, offset_of_shape, layout_of_shape, greatest_align}
use Rattle.c_types.specs.Cells.{Cell, Relation, padded_to, member_cells, cells_of_shape, cells_at, holds_pointer, holds_in_shape}
use Rattle.c_types.specs.Sound.{IsWellFormed}
use Rattle.c_types.proofs.Lists.{contains_head, contains_tail, contains_take, fold_map_more}
use Rattle.c_types.proofs.Descent.{descend_is, rank_bound, layout_is}
use Rattle.c_types.proofs.Ends.{rounded_up, end_of_part}
use Rattle.c_types.proofs.Cells.{cells_are, length_cells, length_members}
use Rattle.phys_types.specs.declared.spot.Layout.{Layout}
use Rattle.phys_types.specs.declared.spot.Spot.{Spot}
use Rattle.phys_types.specs.Spots.{cells_from, AreSpots, shifted}
use Rattle.phys_types.specs.Shown.{IsLayoutOf, is_struct_shape}
use Rattle.phys_types.proofs.Spreading.{spots_to, spots_joined, cells_joined, moved_spots, moved_cells, cells_padded, length_all}

-- The layout of a struct, member by member.

any_same : (f g : TypeId → Bool) (ms : List TypeId) → ((m : TypeId) → Contains ms m → f m ≡ g m) → list_any f ms ≡ list_any g ms
any_same f g [] h = refl
any_same f g (m ∷ ms) h = λ i. h m (contains_head m ms) i || any_same f g ms (λ x c. h x (contains_tail m ms x c)) i

holds_same : (f g : TypeId → Bool) (s : TypeShape) (ms : List TypeId) → ((m : TypeId) → Contains (parts_of_shape s ms) m → f m ≡ g m)
    → holds_in_shape f s ms ≡ holds_in_shape g s ms
holds_same f g Void ms h = refl
holds_same f g (Integer b s) ms h = refl
holds_same f g (Pointer n t) ms h = refl
holds_same f g (Array e n) ms h = h e (contains_head e [])
holds_same f g (Function ps r) ms h = refl
holds_same f g (Struct t) ms h = any_same f g ms h
holds_same f g (Union t) ms h = any_same f g ms h

pub holds_is : (table : Table) → IsWellFormed table → (t : TypeId) → holds_pointer table t ≡ holds_in_shape (holds_pointer table) (shape_at table t) (members_at table t)
unfolding holds_pointer
holds_is table w t =
    descend_is (λ of_part u. holds_in_shape of_part (shape_at table u) (members_at table u)) false (parts_at table) w.order.0
    (λ f g u h. holds_same f g (shape_at table u) (members_at table u) h) w.order.1.falls (suc (length table)) t (rank_bound table w.order.0 w.order.1 t)

pub struct_tag : (s : TypeShape) → is_struct_shape s ≡ true → (tag : ℕ) × (s ≡ Struct tag)
struct_tag (Struct tag) h = (tag, refl)
struct_tag Void h = absurd (true≢false (sym h))
struct_tag (Integer b s) h = absurd (true≢false (sym h))
struct_tag (Pointer n t) h = absurd (true≢false (sym h))
struct_tag (Array e n) h = absurd (true≢false (sym h))
struct_tag (Function ps r) h = absurd (true≢false (sym h))
struct_tag (Union t) h = absurd (true≢false (sym h))

any_more : (p : TypeId → Bool) (ms : List TypeId) (m : TypeId) → list_any p (ms ++ m ∷ []) ≡ (list_any p ms || p m)
any_more p [] m = by (p m)
  where
    by : (b : Bool) → (b || false) ≡ b
    by true = refl
    by false = refl
any_more p (x ∷ xs) m = ap (λ b. p x || b) (any_more p xs m) ∙ regroup (p x) (list_any p xs) (p m)
  where
    regroup : (a b c : Bool) → (a || (b || c)) ≡ ((a || b) || c)
    regroup true b c = refl
    regroup false b c = refl

module _ (table : Table) where
  abbrev pub members_cells : Relation → List TypeId → List Cell
  members_cells E ms = member_cells (align_of table) (cells_at table E) ms

  -- what the first i members have given
  pub record StructSoFar (E : Relation) (ms : List TypeId) (i : ℕ) (spots : List Spot) (holds : Bool) : Type 0 where
    pub spots_are : AreSpots (size_of table) 0 spots (length (members_cells E (take i ms)))
    pub shown : cells_from 0 spots (length (members_cells E (take i ms))) ≡ members_cells E (take i ms)
    pub holds_are : holds ≡ list_any (holds_pointer table) (take i ms)

module _ (table : Table) (w : IsWellFormed table) where
  pub struct_start : (E : Relation) (ms : List TypeId) → StructSoFar table E ms 0 [] false
  struct_start E ms = record { spots_are = omega arith; shown = refl; holds_are = refl }

  members_more : (E : Relation) (ms : List TypeId) (i : ℕ) (d : TypeId) → i < length ms
      → members_cells table E (take (i + 1) ms)
      ≡ padded_to (rounded (length (members_cells table E (take i ms))) (align_of table (get_or ms i d))) (members_cells table E (take i ms)) ++ cells_at table E (get_or ms i d)
  members_more E ms i d l =
      ap (members_cells table E) (take_more ms i d l)
      ∙ fold-append (λ cells m. padded_to (rounded (length cells) (align_of table m)) cells ++ cells_at table E m) [] (take i ms) (get_or ms i d ∷ [])

  pub struct_more : (E : Relation) (ms : List TypeId) (i offset : ℕ) (spots new : List Spot) (holds : Bool) (d : TypeId) (part : Layout) → i < length ms
      → offset ≡ rounded (length (members_cells table E (take i ms))) (align_of table (get_or ms i d)) → IsLayoutOf table E (get_or ms i d) part
      → new ≡ spots ++ map (shifted offset) part.spots.items
      → StructSoFar table E ms i spots holds → StructSoFar table E ms (i + 1) new (holds || part.holds)
  struct_more E ms i offset spots new holds d part l e p n s =
      let m : TypeId = get_or ms i d in
      let X : List Cell = members_cells table E (take i ms) in
      let up : length X ≤ offset = (let r = rounded_up (length X) (align_of table (get_or ms i d)) in omega arith) in
      let front = spots_to (size_of table) 0 spots (length X) offset s.spots_are up in
      let back = moved_spots (size_of table) part.size offset part.spots.items p.spots in
      let both : AreSpots (size_of table) 0 (spots ++ map (shifted offset) part.spots.items) (offset + part.size) =
      spots_joined (size_of table) 0 spots offset (map (shifted offset) part.spots.items) (offset + part.size) front back in
      let cells : cells_from 0 (spots ++ map (shifted offset) part.spots.items) (offset + part.size) ≡ members_cells table E (take (i + 1) ms) =
      sym (cells_joined (size_of table) 0 spots offset (map (shifted offset) part.spots.items) (offset + part.size) front back)
      ∙ (λ j. (sym (cells_padded (size_of table) (length X) offset spots s.spots_are up) ∙ ap (padded_to offset) s.shown) j
      ++ (moved_cells (size_of table) part.size offset part.spots.items ∙ p.cells) j)
      ∙ ap (λ k. padded_to k (members_cells table E (take i ms)) ++ cells_at table E (get_or ms i d)) e
      ∙ sym (members_more E ms i d l) in
      let end : offset + part.size ≡ length (members_cells table E (take (i + 1) ms)) = sym (length_all (size_of table) _ (offset + part.size) both) ∙ ap length cells in
      record {
        spots_are = subst (λ xs. AreSpots (size_of table) 0 xs (length (members_cells table E (take (i + 1) ms)))) (sym n)
            (subst (λ k. AreSpots (size_of table) 0 (spots ++ map (shifted offset) part.spots.items) k) end both);
        shown = ap (λ xs. cells_from 0 xs (length (members_cells table E (take (i + 1) ms)))) n
            ∙ ap (λ k. cells_from 0 (spots ++ map (shifted offset) part.spots.items) k) (sym end) ∙ cells;
        holds_are = (λ j. s.holds_are j || p.holds j) ∙ sym (any_more (holds_pointer table) (take i ms) (get_or ms i d))
            ∙ ap (list_any (holds_pointer table)) (sym (take_more ms i d l));
      }

  pub complete_member : (t : TypeId) (tag : ℕ) → shape_at table t ≡ Struct tag → (m : TypeId) → Contains (members_at table t) m → IsComplete table m
  complete_member t tag e m c =
      let P : TypeShape → Type 0 = λ s. All (IsComplete table) (parts_of_shape s (members_at table t)) in
      All-contains (IsComplete table) (members_at table t) m (subst P e (w.each t).parts) c

  -- where the first i members end
  pub end_is : (E : Relation) (t : TypeId) (tag i : ℕ) → shape_at table t ≡ Struct tag
      → length (members_cells table E (take i (members_at table t))) ≡ members_end (map (layout_of table) (take i (members_at table t)))
  end_is E t tag i e =
      length_members (cells_at table E) (layout_of table) [] (take i (members_at table t))
      (λ m c. length_cells table w E m (complete_member t tag e m (contains_take i (members_at table t) m c)))

  struct_size : (t : TypeId) (tag : ℕ) → shape_at table t ≡ Struct tag → size_of table t ≡ (struct_layout (map (layout_of table) (members_at table t))).size
  struct_size t tag e =
      ap (λ (l : Measure). l.size) (layout_is table w.order.0 w.order.1 t ∙ ap (λ s. layout_of_shape_at s) e)
    where
      layout_of_shape_at : TypeShape → Measure
      layout_of_shape_at s = layout_of_shape (layout_of table) s (members_at table t)

  pub offset_is : (E : Relation) (t : TypeId) (tag i : ℕ) → shape_at table t ≡ Struct tag
      → offset_of table t i ≡ rounded (length (members_cells table E (take i (members_at table t)))) (align_of table (get_or (members_at table t) i t))
  offset_is E t tag i e =
      ap (λ s. offset_of_shape s (map (layout_of table) (take i (members_at table t))) (layout_of table (get_or (members_at table t) i t))) e
      ∙ ap (λ n. rounded n (align_of table (get_or (members_at table t) i t))) (sym (end_is E t tag i e))

  pub offset_low : (t : TypeId) (tag i : ℕ) → shape_at table t ≡ Struct tag → i < length (members_at table t) → offset_of table t i ≤ size_of table t
  offset_low t tag i e l =
      let o = ap (λ s. offset_of_shape s (map (layout_of table) (take i (members_at table t))) (layout_of table (get_or (members_at table t) i t))) e in
      let m = fold_map_more (λ end (m : Measure). rounded end m.align + m.size) 0 (layout_of table) (members_at table t) i t l in
      let k = end_of_part (layout_of table) (members_at table t) (i + 1) in
      let z = struct_size t tag e in
      let r = rounded_up (members_end (map (layout_of table) (members_at table t))) (greatest_align (map (layout_of table) (members_at table t))) in
      omega arith

  pub struct_done : (E : Relation) (t : TypeId) (tag i : ℕ) (layout : Layout) → shape_at table t ≡ Struct tag → is_complete_entry (shape_at table t) (members_at table t) ≡ true
      → length (members_at table t) ≤ i → StructSoFar table E (members_at table t) i layout.spots.items layout.holds → layout.size ≡ size_of table t → IsLayoutOf table E t layout
  struct_done E t tag i layout e c l s z = by (members_at table t) refl
    where
      all : take i (members_at table t) ≡ members_at table t
      all = take_all i (members_at table t) l

      fits : length (members_cells table E (take i (members_at table t))) ≤ size_of table t
      fits =
          let a = end_is E t tag i e ∙ ap (λ ms. members_end (map (layout_of table) ms)) all in
          let b = struct_size t tag e in
          let r = rounded_up (members_end (map (layout_of table) (members_at table t))) (greatest_align (map (layout_of table) (members_at table t))) in
          omega arith

      shown : cells_from 0 layout.spots.items layout.size ≡ padded_to (size_of table t) (members_cells table E (members_at table t))
      shown =
          ap (cells_from 0 layout.spots.items) z
          ∙ sym (cells_padded (size_of table) (length (members_cells table E (take i (members_at table t)))) (size_of table t) layout.spots.items s.spots_are fits)
          ∙ ap (padded_to (size_of table t)) (s.shown ∙ ap (members_cells table E) all)

      here : (ms : List TypeId) → members_at table t ≡ ms → (m : TypeId) (rest : List TypeId) → ms ≡ m ∷ rest
          → padded_to (size_of table t) (members_cells table E ms) ≡ cells_of_shape table E (cells_at table E) t (Struct tag) ms
      here ms f m rest g = ap (λ xs. padded_to (size_of table t) (members_cells table E xs)) g ∙ ap (cells_of_shape table E (cells_at table E) t (Struct tag)) (sym g)

      by : (ms : List TypeId) → members_at table t ≡ ms → IsLayoutOf table E t layout
      by [] f = absurd (true≢false (sym c ∙ (λ j. is_complete_entry (e j) (f j))))
      by (m ∷ rest) f = record {
        spots = subst (AreSpots (size_of table) 0 layout.spots.items) (sym z) (spots_to (size_of table) 0 layout.spots.items (length (members_cells table E (take i (members_at table t)))) (size_of table t) s.spots_are fits);
        cells = shown ∙ here (members_at table t) refl m rest f
            ∙ ap (λ s. cells_of_shape table E (cells_at table E) t s (members_at table t)) (sym e)
            ∙ sym (cells_are table w.order.0 w.order.1 E t);
        holds = s.holds_are ∙ ap (list_any (holds_pointer table)) all
            ∙ ap (λ s. holds_in_shape (holds_pointer table) s (members_at table t)) (sym e) ∙ sym (holds_is table w t);
      }
