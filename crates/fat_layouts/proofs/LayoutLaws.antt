-- What the stops of a part say of the widths of its cells, and the parts that are kept.
use Rattle.std.proofs.Common.{◌≡◌, ℕ, ◌+◌, ◌-◌, ◌*◌, ◌<◌, ◌≤◌, ◌⊎◌, inl, inr, zero, suc, List, length, slice_get, Some, refl, ap, sym, subst, ◌∙◌, arith, ◌++◌, [], ◌∷◌, true≢false}
use Rattle.std.specs.Prelude.{slice_index_or}
use Rattle.std.specs.List.{All, repeat}
use Rattle.std.specs.List.Sorted.{IsNonDecreasingBy}
use Rattle.std.proofs.lemmas.Option.{slice_get_past}
use Rattle.std.proofs.lemmas.List.{get_or_past, length-append}
use Rattle.cc_base.specs.declared.number.NodeId.{NodeId}
use Rattle.cc_base.specs.declared.number.TypeId.{TypeId}
use Rattle.cc_base.specs.declared.kind.Kind.{Kind}
use Rattle.c_types.specs.Table.{Table, Entry, IsType, IsComplete, AreNodesOf, shape_at, void_entry, is_complete}
use Rattle.c_types.specs.Layouts.{size_of}
use Rattle.c_types.specs.Cells.{IsBetweenPointers}
use Rattle.c_types.specs.Equality.{cells_of, physically_equal}
use Rattle.cc_base.specs.Kinds.{kind_at}
use Rattle.c_types.specs.Widths.{before, cured_size}
use Rattle.c_types.specs.Sound.{IsWellFormed}
use Rattle.c_types.proofs.Cells.{length_cells}
use Rattle.phys_types.specs.declared.spot.Layout.{Layout}
use Rattle.phys_types.specs.declared.spot.Spot.{Spot}
use Rattle.phys_types.specs.declared.keeping.Repeated.{Repeated}
use Rattle.phys_types.specs.Spots.{cells_from, AreSpots}
use Rattle.phys_types.specs.Shown.{IsLayoutOf, IsKeptOf}
use Rattle.phys_types.proofs.Kept.{kept_low, kept_cells}
use Rattle.fat_layouts.specs.declared.stops.Stop.{Stop}
use Rattle.fat_layouts.specs.declared.stops.CuredLayout.{CuredLayout}
use Rattle.fat_layouts.specs.Stops.{HasNode, IsLaid, IsLastPassed, first_stop, all_stops}
use Rattle.fat_layouts.specs.Standing.{Curing, IsPart, IsCuredLayout, AreCuredLayouts}
use Rattle.fat_layouts.proofs.NodeCells.{EachHas, cells_have, items_have, first_has}
use Rattle.fat_layouts.proofs.StopLaws.{stops_rise, stops_ordered, width_before}

by_cases : (a b : ℕ) → (a < b) ⊎ (b ≤ a)
by_cases a b = grind arith

front_at : (us vs : List CuredLayout) (i : ℕ) (d : CuredLayout) → i < length us → slice_index_or (us ++ vs) i d ≡ slice_index_or us i d
front_at [] vs i d l = absurd (omega (arith, l))
front_at (u ∷ us) vs zero d l = refl
front_at (u ∷ us) vs (suc i) d l = front_at us vs i d (omega arith)

last_at : (us : List CuredLayout) (a : CuredLayout) (i : ℕ) (d : CuredLayout) → i ≡ length us → slice_index_or (us ++ a ∷ []) i d ≡ a
last_at [] a zero d l = refl
last_at [] a (suc i) d l = absurd (omega arith)
last_at (u ∷ us) a zero d l = absurd (omega arith)
last_at (u ∷ us) a (suc i) d l = last_at us a i d (omega arith)

module _ (kind : NodeId → Kind) (spots : List Spot) (x : CuredLayout) (h : IsPart kind spots x) where
  pub part_ordered : IsNonDecreasingBy (λ (s : Stop). s.end) x.stops.items
  part_ordered = subst (IsNonDecreasingBy (λ (s : Stop). s.end)) (sym h.stops) (stops_ordered kind h.size first_stop spots x.size h.stand (omega arith))

  pub part_first : slice_get x.stops.items 0 ≡ Some first_stop
  part_first = ap (λ (xs : List Stop). slice_get xs 0) h.stops

  at_stop : (o : ℕ) (s : Stop) (l : IsLastPassed x.stops.items o s) → slice_get (all_stops kind spots) l.index ≡ Some s
  at_stop o s l = subst (λ (xs : List Stop). slice_get xs l.index ≡ Some s) h.stops l.there

  pub offset_small : (o : ℕ) (s : Stop) → IsLastPassed x.stops.items o s → s.cured + (o - s.end) ≤ 3 * o
  offset_small o s l =
      let r = (stops_rise kind h.size first_stop spots x.size l.index s h.stand (omega arith) (at_stop o s l)).1 in
      let p = l.passed in omega arith

  pub offset_is : (o : ℕ) (s : Stop) → o ≤ x.size → IsBetweenPointers (cells_from 0 spots x.size) o → IsLastPassed x.stops.items o s
      → s.cured + (o - s.end) ≡ before kind (cells_from 0 spots x.size) o
  offset_is o s k b l =
      let r = width_before kind h.size first_stop spots x.size o l.index s h.stand (omega arith) (at_stop o s l) l.passed k
      (λ y q. l.next y (subst (λ (xs : List Stop). slice_get xs (suc l.index) ≡ Some y) (sym h.stops) q))
      (λ n u j q. b.whole n u j (ap (slice_get (cells_from 0 spots x.size)) (sym f) ∙ q)) in
      let g = ap (before kind (cells_from 0 spots x.size)) f in omega arith
    where
      f : o - 0 ≡ o
      f = omega arith

-- no pointer goes on behind the last byte
pub end_is_whole : (table : Table) → IsWellFormed table → (t : TypeId) → IsComplete table t → IsBetweenPointers (cells_of table t) (size_of table t)
end_is_whole table w t complete =
    let e = length_cells table w (physically_equal table) t complete in
    let p = slice_get_past (cells_of table t) (size_of table t) (omega arith) in
    record { whole = λ n u i q. absurd (cc (p, q)) }

pub all_before : (table : Table) → IsWellFormed table → (kinds : List Kind) (t : TypeId) → IsComplete table t
    → before (kind_at kinds) (cells_of table t) (size_of table t) ≡ cured_size table (kind_at kinds) t
all_before table w kinds t complete = ap (before (kind_at kinds) (cells_of table t)) (sym (length_cells table w (physically_equal table) t complete))

-- what the building of stops asks of the part that is kept
pub part_laid : (table : Table) → IsWellFormed table → (t : TypeId) (k : Repeated) → IsKeptOf table (physically_equal table) t k → IsLaid k.part.spots.items
part_laid table w t k h = record { size = size_of table; end = k.part.size; stand = h.spots; small = (kept_low table (physically_equal table) t w k h).0.1 }

pub part_cured : (table : Table) → IsWellFormed table → (kinds : List Kind) (t : TypeId) (k : Repeated) (x : CuredLayout) → IsKeptOf table (physically_equal table) t k
    → x.size ≡ k.part.size → x.stops.items ≡ all_stops (kind_at kinds) k.part.spots.items → IsCuredLayout table kinds t x
part_cured table w kinds t k x h e f = record {
  spots = k.part.spots.items;
  part = record {
    size = size_of table;
    stand = subst (AreSpots (size_of table) 0 k.part.spots.items) (sym e) h.spots;
    small = let l = (kept_low table (physically_equal table) t w k h).0.1 in omega arith;
    stops = f;
  };
  count = k.count;
  cells = ap (λ (n : ℕ). repeat k.count (cells_from 0 k.part.spots.items n)) e ∙ kept_cells table (physically_equal table) t k h;
}

shaped_nodes : (table : Table) (n : ℕ) → All (λ (e : Entry). AreNodesOf n e.shape) table → (u : TypeId) → AreNodesOf n (shape_at table u)
shaped_nodes table n nodes u = of (by_cases u.0 (length table))
  where
    of : (u.0 < length table) ⊎ (length table ≤ u.0) → AreNodesOf n (shape_at table u)
    of (inl l) = nodes u.0 void_entry l
    of (inr l) = subst (λ (e : Entry). AreNodesOf n e.shape) (sym (get_or_past table u.0 void_entry l)) tt

pub layout_nodes : (table : Table) → IsWellFormed table → (n : ℕ) → All (λ (e : Entry). AreNodesOf n e.shape) table → (t : TypeId) (x : Layout)
    → IsLayoutOf table (physically_equal table) t x → All (λ (s : Spot). HasNode n s.item) x.spots.items
layout_nodes table w n nodes t x h =
    items_have n 0 x.spots.items x.size (subst (EachHas n) (sym h.cells) (cells_have table w n (shaped_nodes table n nodes) (physically_equal table) t))

-- the pointers of the part have nodes of the table, as those of all copies have
pub part_nodes : (table : Table) → IsWellFormed table → (n : ℕ) → All (λ (e : Entry). AreNodesOf n e.shape) table → (t : TypeId) (k : Repeated)
    → IsKeptOf table (physically_equal table) t k → All (λ (s : Spot). HasNode n s.item) k.part.spots.items
part_nodes table w n nodes t k h =
    items_have n 0 k.part.spots.items k.part.size
    (first_has n k.count (cells_from 0 k.part.spots.items k.part.size) h.some
    (subst (EachHas n) (sym (kept_cells table (physically_equal table) t k h)) (cells_have table w n (shaped_nodes table n nodes) (physically_equal table) t)))

-- ---- the layouts that are kept
pub kept_formed : (p q : Curing) (xs : List CuredLayout) → p ≡ q → AreCuredLayouts p.table p.kinds xs → IsWellFormed q.table
kept_formed p q xs e h = subst (λ (r : Curing). IsWellFormed r.table) e h.formed

pub complete_typed : (table : Table) (t : TypeId) → IsComplete table t → IsType table t
complete_typed table t h = of (by_cases t.0 (length table))
  where
    of : (IsType table t) ⊎ (length table ≤ t.0) → IsType table t
    of (inl l) = l
    of (inr l) =
        let e = get_or_past table t.0 void_entry l in
        absurd (true≢false (sym h ∙ ap is_complete e))

pub the_layout : (p q : Curing) (xs : List CuredLayout) → p ≡ q → AreCuredLayouts p.table p.kinds xs → (t : TypeId) (d : CuredLayout) → IsComplete q.table t
    → (x : CuredLayout) → x ≡ slice_index_or xs t.0 d → IsCuredLayout q.table q.kinds t x
the_layout p q xs e h t d c x f =
    let k = subst (λ (r : Curing). AreCuredLayouts r.table r.kinds xs) e h in
    subst (IsCuredLayout q.table q.kinds t) (sym f) (k.each t d (complete_typed q.table t c))

-- ---- one layout after another
pub record AreSoFar (table : Table) (kinds : List Kind) (xs : List CuredLayout) (n : ℕ) : Type 0 where
  pub count : length xs ≡ n
  pub each : (t : TypeId) (d : CuredLayout) → t.0 < n → IsCuredLayout table kinds t (slice_index_or xs t.0 d)

module _ (table : Table) (kinds : List Kind) where
  pub none_so_far : AreSoFar table kinds [] 0
  none_so_far = record { count = refl; each = λ t d l. absurd (omega (arith, l)) }

  pub one_more : (xs ys : List CuredLayout) (n : ℕ) (t : TypeId) (x : CuredLayout) → t.0 ≡ n → AreSoFar table kinds xs n → IsCuredLayout table kinds t x → ys ≡ xs ++ x ∷ []
      → AreSoFar table kinds ys (n + 1)
  one_more xs ys n t x e h k f = subst (λ (zs : List CuredLayout). AreSoFar table kinds zs (n + 1)) (sym f) (record {
    count = (let l = length-append xs (x ∷ []) in let c = h.count in omega arith);
    each = λ u d l. of u d (less u.0 n (omega (arith, l)));
  })
    where
      less : (a b : ℕ) → a < b + 1 → (a < b) ⊎ (a ≡ b)
      less a b l = grind arith

      of : (u : TypeId) (d : CuredLayout) → (u.0 < n) ⊎ (u.0 ≡ n) → IsCuredLayout table kinds u (slice_index_or (xs ++ x ∷ []) u.0 d)
      of u d (inl l) = subst (IsCuredLayout table kinds u) (sym (front_at xs (x ∷ []) u.0 d (let c = h.count in omega arith))) (h.each u d l)
      of u d (inr q) =
          let c = h.count in
          let same : t ≡ u = ap (λ (i : ℕ). record { 0 = i }) (e ∙ sym q) in
          subst (λ (v : TypeId). IsCuredLayout table kinds v (slice_index_or (xs ++ x ∷ []) u.0 d)) same
          (subst (IsCuredLayout table kinds t) (sym (last_at xs x u.0 d (omega arith))) k)

  pub all_so_far : (xs : List CuredLayout) (n : ℕ) → IsWellFormed table → length table ≡ n → AreSoFar table kinds xs n → AreCuredLayouts table kinds xs
  all_so_far xs n w e h = record { formed = w; count = h.count ∙ sym e; each = λ t d l. h.each t d (omega arith) }
