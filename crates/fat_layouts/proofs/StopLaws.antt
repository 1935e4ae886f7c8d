-- What stops say of the widths of the cells that their spots show.
use Rattle.std.proofs.Common.{◌≡◌, ℕ, zero, suc, ◌+◌, ◌-◌, ◌*◌, ◌<◌, ◌≤◌, ◌⊎◌, ⊎_elim, true, false, List, [], ◌∷◌, ◌++◌, length, map, replicate, slice_get, Some, refl, ap, sym, subst, ◌∙◌, arith, leb, leb-true, append_assoc, drop}
use Rattle.std.specs.Prelude.{slice_index_or}
use Rattle.std.specs.List.{range_with_len}
use Rattle.std.specs.List.Sorted.{IsNonDecreasingBy, IsPartitionPoint}
use Rattle.std.proofs.lemmas.Bool.{leb-false}
use Rattle.std.proofs.lemmas.List.{append-nil, drop_more, length-replicate}
use Rattle.std.proofs.lemmas.Option.{slice_get-get_or, slice_get_within, get_or_from_slice_get}
use Rattle.cc_base.specs.declared.number.TypeId.{TypeId}
use Rattle.cc_base.specs.declared.number.NodeId.{NodeId}
use Rattle.cc_base.specs.declared.kind.Kind.{Kind}
use Rattle.cc_base.specs.declared.kind.Kind.TheVariants.{Safe, Seq, Rtti, Wild}
use Rattle.c_types.specs.Cells.{Cell, raw, pointer, mixed, pointer_cells}
use Rattle.c_types.specs.Widths.{kind_width, before, width_of}
use Rattle.c_types.proofs.OrderedPointers.{get_front, get_back}
use Rattle.type_laws.proofs.Widths.{before-append}
use Rattle.phys_types.specs.declared.spot.Item.{Item}
use Rattle.phys_types.specs.declared.spot.Item.TheVariants.{Pointer, Mixed, Incomplete}
use Rattle.phys_types.specs.declared.spot.Spot.{Spot}
use Rattle.phys_types.specs.Spots.{item_size, item_cells, cells_from, AreSpots}
use Rattle.phys_types.proofs.Spreading.{length_item, spots_end}
use Rattle.fat_layouts.specs.declared.stops.Stop.{Stop}
use Rattle.fat_layouts.specs.Stops.{item_width, stop_after, stops_of, first_stop, all_stops, IsLaid, IsLastPassed}

split : (a b : ℕ) → (a ≤ b) ⊎ (b < a)
split a b = grind arith

module _ (kind : NodeId → Kind) where
  -- raw bytes and bytes of a mixed union count 1 each
  raw_widths : (n i : ℕ) → i ≤ n → before kind (replicate n raw) i ≡ i
  raw_widths n zero h = refl
  raw_widths zero (suc i) h = absurd (omega arith)
  raw_widths (suc n) (suc i) h = let r = raw_widths n i (omega arith) in omega arith

  mixed_widths : (t : TypeId) (a n i : ℕ) → i ≤ n → before kind (map (mixed t) (range_with_len a n)) i ≡ i
  mixed_widths t a n zero h = refl
  mixed_widths t a zero (suc i) h = absurd (omega arith)
  mixed_widths t a (suc n) (suc i) h = let r = mixed_widths t (a + 1) n i (omega arith) in omega arith

  pub front_widths : (xs ys : List Cell) (i : ℕ) → i ≤ length xs → before kind (xs ++ ys) i ≡ before kind xs i
  front_widths xs ys zero h = refl
  front_widths [] ys (suc i) h = absurd (omega arith)
  front_widths (x ∷ xs) ys (suc i) h = let r = front_widths xs ys i (omega arith) in omega arith

  raw_all : (n : ℕ) → width_of kind (replicate n raw) ≡ n
  raw_all n = ap (before kind (replicate n raw)) (length-replicate n raw) ∙ raw_widths n n (omega arith)

  item_all : (x : Item) → width_of kind (item_cells x) ≡ item_width kind x
  item_all (Pointer node to) = omega arith
  item_all (Mixed t n) = ap (before kind (item_cells (Mixed t n))) (length_item (Mixed t n)) ∙ mixed_widths t 0 n n (omega arith)
  item_all (Incomplete t) = refl

  -- inside an item that isn't a pointer
  item_part : (x : Item) (i : ℕ) → 0 < i → i < item_size x → ((n : NodeId) (t : TypeId) (j : ℕ) → slice_get (item_cells x) i ≡ Some (pointer n t (suc j)) → ⊥)
      → before kind (item_cells x) i ≡ i
  item_part (Mixed t n) i h k cut = mixed_widths t 0 n i (omega arith)
  item_part (Incomplete t) i h k cut = absurd (omega arith)
  item_part (Pointer node to) i h k cut = absurd (inside i h k cut)
    where
      inside : (i : ℕ) → 0 < i → i < 8 → ((n : NodeId) (t : TypeId) (j : ℕ) → slice_get (pointer_cells node to) i ≡ Some (pointer n t (suc j)) → ⊥) → ⊥
      inside zero h k cut = omega arith
      inside (suc zero) h k cut = cut node to 0 refl
      inside (suc (suc zero)) h k cut = cut node to 1 refl
      inside (suc (suc (suc zero))) h k cut = cut node to 2 refl
      inside (suc (suc (suc (suc zero)))) h k cut = cut node to 3 refl
      inside (suc (suc (suc (suc (suc zero))))) h k cut = cut node to 4 refl
      inside (suc (suc (suc (suc (suc (suc zero)))))) h k cut = cut node to 5 refl
      inside (suc (suc (suc (suc (suc (suc (suc zero))))))) h k cut = cut node to 6 refl
      inside (suc (suc (suc (suc (suc (suc (suc (suc i)))))))) h k cut = omega (arith, k)

  wide : (x : Item) → item_width kind x ≤ 3 * item_size x
  wide (Pointer node to) = of (kind node)
    where
      of : (k : Kind) → kind_width k ≤ 24
      of Safe = omega arith
      of Seq = omega arith
      of Rtti = omega arith
      of Wild = omega arith
  wide (Mixed t n) = omega arith
  wide (Incomplete t) = omega arith

  module _ (size : TypeId → ℕ) where
    -- each stop behind another is no nearer, and at most three bytes stand for one
    pub stops_rise : (last : Stop) (ss : List Spot) (end : ℕ) (k : ℕ) (s : Stop) → AreSpots size last.end ss end → last.cured ≤ 3 * last.end
        → slice_get (last ∷ stops_of kind last ss) k ≡ Some s → (last.end ≤ s.end) × (s.cured ≤ 3 * s.end)
    stops_rise last ss end zero s a b e = let f : last ≡ s = cc (e) in subst (λ (x : Stop). (last.end ≤ x.end) × (x.cured ≤ 3 * x.end)) f (omega arith, b)
    stops_rise last [] end (suc k) s a b e = absurd (cc (e))
    stops_rise last (p ∷ ss) end (suc k) s a b e =
        let w = wide p.item in
        let h = a.0 in
        let r = stops_rise (stop_after kind last p) ss end k s a.2 (omega arith) e in
        (let r0 = r.0 in omega arith, r.1)

    -- the last stop that isn't behind an offset tells the width before it
    pub width_before : (last : Stop) (ss : List Spot) (end o k : ℕ) (s : Stop) → AreSpots size last.end ss end → last.cured ≤ 3 * last.end
        → slice_get (last ∷ stops_of kind last ss) k ≡ Some s → s.end ≤ o → o ≤ end
        → ((x : Stop) → slice_get (last ∷ stops_of kind last ss) (suc k) ≡ Some x → o < x.end)
        → ((n : NodeId) (t : TypeId) (j : ℕ) → slice_get (cells_from last.end ss end) (o - last.end) ≡ Some (pointer n t (suc j)) → ⊥)
        → last.cured + before kind (cells_from last.end ss end) (o - last.end) ≡ s.cured + (o - s.end)
    width_before last [] end o zero s a b e l m next cut =
        let f : last ≡ s = cc (e) in
        let r = raw_widths (end - last.end) (o - last.end) (omega arith) in
        subst (λ (x : Stop). last.cured + before kind (replicate (end - last.end) raw) (o - last.end) ≡ x.cured + (o - x.end)) f (omega arith)
    width_before last [] end o (suc k) s a b e l m next cut = absurd (cc (e))
    width_before last (p ∷ ss) end o zero s a b e l m next cut =
        subst (λ (x : Stop). last.cured + before kind (cells_from last.end (p ∷ ss) end) (o - last.end) ≡ x.cured + (o - x.end)) f
        (⊎_elim gap inside (split o p.start))
      where
        f : last ≡ s
        f = cc (e)

        rest : List Cell
        rest = cells_from (p.start + item_size p.item) ss end

        raws : List Cell
        raws = replicate (p.start - last.end) raw

        low : last.end ≤ o
        low = subst (λ (x : Stop). x.end ≤ o) (sym f) l

        gap : o ≤ p.start → last.cured + before kind (raws ++ (item_cells p.item ++ rest)) (o - last.end) ≡ last.cured + (o - last.end)
        gap h =
            let n = length-replicate (p.start - last.end) raw in
            let r = front_widths raws (item_cells p.item ++ rest) (o - last.end) (omega arith) in
            let q = raw_widths (p.start - last.end) (o - last.end) (omega arith) in omega arith

        inside : p.start < o → last.cured + before kind (raws ++ (item_cells p.item ++ rest)) (o - last.end) ≡ last.cured + (o - last.end)
        inside h =
            let n = length-replicate (p.start - last.end) raw in
            let a0 = a.0 in
            let z = next (stop_after kind last p) refl in
            let i = length_item p.item in
            let d : o - last.end ≡ length raws + (o - p.start) = omega arith in
            let x = before-append kind raws (item_cells p.item ++ rest) (o - p.start) in
            let w = raw_all (p.start - last.end) in
            let r = front_widths (item_cells p.item) rest (o - p.start) (omega arith) in
            let q = item_part p.item (o - p.start) (omega arith) (omega arith)
            (λ n t j c. cut n t j (ap (slice_get (raws ++ (item_cells p.item ++ rest))) d ∙ get_back raws (item_cells p.item ++ rest) (o - p.start)
            ∙ get_front (item_cells p.item) rest (o - p.start) (omega arith) ∙ c)) in
            let y = ap (before kind (raws ++ (item_cells p.item ++ rest))) d in omega arith
    width_before last (p ∷ ss) end o (suc k) s a b e l m next cut =
        let w = wide p.item in
        let a0 = a.0 in
        let g = (stops_rise (stop_after kind last p) ss end k s a.2 (omega arith) e).0 in
        let n = length-replicate (p.start - last.end) raw in
        let i = length_item p.item in
        let d : o - last.end ≡ length raws + (length (item_cells p.item) + (o - (p.start + item_size p.item))) = omega arith in
        let r = width_before (stop_after kind last p) ss end o k s a.2 (omega arith) e l m next
        (λ n t j c. cut n t j (ap (slice_get (raws ++ (item_cells p.item ++ rest))) d
        ∙ get_back raws (item_cells p.item ++ rest) (length (item_cells p.item) + (o - (p.start + item_size p.item)))
        ∙ get_back (item_cells p.item) rest (o - (p.start + item_size p.item)) ∙ c)) in
        let x = before-append kind raws (item_cells p.item ++ rest) (length (item_cells p.item) + (o - (p.start + item_size p.item))) in
        let y = before-append kind (item_cells p.item) rest (o - (p.start + item_size p.item)) in
        let v = raw_all (p.start - last.end) in
        let u = item_all p.item in
        let z = ap (before kind (raws ++ (item_cells p.item ++ rest))) d in omega arith
      where
        rest : List Cell
        rest = cells_from (p.start + item_size p.item) ss end

        raws : List Cell
        raws = replicate (p.start - last.end) raw

    -- the ends of the stops are in order
    pub stops_ordered : (last : Stop) (ss : List Spot) (end : ℕ) → AreSpots size last.end ss end → last.cured ≤ 3 * last.end
        → IsNonDecreasingBy (λ (s : Stop). s.end) (last ∷ stops_of kind last ss)
    stops_ordered last ss end a b zero j d l h =
        (stops_rise last ss end j (slice_index_or (last ∷ stops_of kind last ss) j d) a b (slice_get-get_or (last ∷ stops_of kind last ss) j d h)).0
    stops_ordered last ss end a b (suc i) zero d l h = absurd (omega arith)
    stops_ordered last [] end a b (suc i) (suc j) d l h = absurd (omega (arith, h))
    stops_ordered last (p ∷ ss) end a b (suc i) (suc j) d l h =
        let w = wide p.item in
        let a0 = a.0 in
        stops_ordered (stop_after kind last p) ss end a.2 (omega arith) i j d (omega arith) (omega (arith, h))

-- ---- the stops so far, with the spots that are left
pub record IsBuilding (kind : NodeId → Kind) (spots rest : List Spot) (last : Stop) (stops : List Stop) : Type 0 where
  pub size : TypeId → ℕ
  pub end : ℕ
  pub stand : AreSpots size last.end rest end
  pub small : end ≤ 1048576
  pub low : last.cured ≤ 3 * last.end
  pub whole : stops ++ stops_of kind last rest ≡ all_stops kind spots

module _ (kind : NodeId → Kind) (spots : List Spot) where
  pub building_starts : IsLaid spots → IsBuilding kind spots spots first_stop (first_stop ∷ [])
  building_starts h = record { size = h.size; end = h.end; stand = h.stand; small = h.small; low = omega arith; whole = refl }

  -- what the code computes of the next spot
  pub record IsNext (last : Stop) (p : Spot) : Type 0 where
    pub behind : last.end ≤ p.start
    pub short : p.start + item_size p.item ≤ 1048576
    pub low : last.cured ≤ 3 * last.end
    pub wide : item_width kind p.item ≤ 3 * item_size p.item

  pub building_next : (rest : List Spot) (p : Spot) (last : Stop) (stops : List Stop) → IsBuilding kind spots (p ∷ rest) last stops → IsNext last p
  building_next rest p last stops h =
      let e = spots_end h.size (p.start + item_size p.item) rest h.end h.stand.2 in
      let s = h.small in
      record { behind = h.stand.0; short = omega arith; low = h.low; wide = wide kind p.item }

  pub building_more : (rest : List Spot) (p : Spot) (last : Stop) (stops : List Stop) → IsBuilding kind spots (p ∷ rest) last stops
      → IsBuilding kind spots rest (stop_after kind last p) (stops ++ stop_after kind last p ∷ [])
  building_more rest p last stops h =
      let n = building_next rest p last stops h in
      let w = n.wide in let b = n.behind in let l = h.low in
      record {
        size = h.size;
        end = h.end;
        stand = h.stand.2;
        small = h.small;
        low = omega arith;
        whole = append_assoc stops (stop_after kind last p ∷ []) (stops_of kind (stop_after kind last p) rest) ∙ h.whole;
      }

  pub building_done : (last : Stop) (stops : List Stop) → IsBuilding kind spots [] last stops → stops ≡ all_stops kind spots
  building_done last stops h = sym (append-nil stops) ∙ h.whole

-- ---- the stop that is found
abbrev pub Splits : List Stop → ℕ → ℕ → Type 0
Splits xs o n = IsPartitionPoint (λ (y : Stop). leb y.end o ≡ true) (λ (y : Stop). leb y.end o ≡ false) xs n

pub some_passed : (xs : List Stop) (o n : ℕ) → slice_get xs 0 ≡ Some first_stop → Splits xs o n → 1 ≤ n
some_passed xs o (suc n) e h = omega arith
some_passed [] o zero e h = absurd (cc (e))
some_passed (x ∷ xs) o zero e h =
    let f : x ≡ first_stop = cc (e) in
    let l : o < x.end = leb-false x.end o (h.1 0 x (omega arith) (omega arith)) in
    absurd (let z = subst (λ (y : Stop). o < y.end) f l in omega (arith, z))

pub is_last_passed : (xs : List Stop) (o n : ℕ) (d : Stop) → slice_get xs 0 ≡ Some first_stop → n ≤ length xs → Splits xs o n → IsLastPassed xs o (slice_index_or xs (n - 1) d)
is_last_passed xs o n d e b h =
    let s = some_passed xs o n e h in
    let q : suc (n - 1) ≡ n = omega arith in
    record {
      index = n - 1;
      there = slice_get-get_or xs (n - 1) d (omega arith);
      passed = leb-true (slice_index_or xs (n - 1) d).end o (h.0 (n - 1) d (omega arith) (omega arith));
      next = λ x k. behind x (subst (λ (i : ℕ). slice_get xs i ≡ Some x) q k);
    }
  where
    behind : (x : Stop) → slice_get xs n ≡ Some x → o < x.end
    behind x k = subst (λ (y : Stop). o < y.end) (get_or_from_slice_get xs n x x k) (leb-false (slice_index_or xs n x).end o (h.1 n x (omega arith) (slice_get_within xs n x k)))

-- at a spot of the list
module _ (kind : NodeId → Kind) (spots : List Spot) where
  at_spot : (i : ℕ) (d : Spot) (last : Stop) (stops : List Stop) → i < length spots → IsBuilding kind spots (drop i spots) last stops
      → IsBuilding kind spots (slice_index_or spots i d ∷ drop (i + 1) spots) last stops
  at_spot i d last stops l h = subst (λ (rest : List Spot). IsBuilding kind spots rest last stops) (drop_more spots i d l) h

  pub spot_next : (i : ℕ) (d : Spot) (last : Stop) (stops : List Stop) → i < length spots → IsBuilding kind spots (drop i spots) last stops → IsNext kind spots last (slice_index_or spots i d)
  spot_next i d last stops l h = building_next kind spots (drop (i + 1) spots) (slice_index_or spots i d) last stops (at_spot i d last stops l h)

  pub spot_more : (i : ℕ) (d : Spot) (last new : Stop) (stops later : List Stop) → i < length spots → IsBuilding kind spots (drop i spots) last stops
      → new ≡ stop_after kind last (slice_index_or spots i d) → later ≡ stops ++ new ∷ [] → IsBuilding kind spots (drop (i + 1) spots) new later
  spot_more i d last new stops later l h e f =
      subst (λ (xs : List Stop). IsBuilding kind spots (drop (i + 1) spots) new xs) (sym f)
      (subst (λ (s : Stop). IsBuilding kind spots (drop (i + 1) spots) s (stops ++ s ∷ [])) (sym e)
      (building_more kind spots (drop (i + 1) spots) (slice_index_or spots i d) last stops (at_spot i d last stops l h)))

  pub spots_done : (i : ℕ) (last : Stop) (stops : List Stop) → length spots ≤ i → IsBuilding kind spots (drop i spots) last stops → stops ≡ all_stops kind spots
  spots_done i last stops l h = building_done kind spots last stops (subst (λ (rest : List Spot). IsBuilding kind spots rest last stops) (none_left spots i l) h)
    where
      none_left : (xs : List Spot) (i : ℕ) → length xs ≤ i → drop i xs ≡ []
      none_left [] zero l = refl
      none_left [] (suc i) l = refl
      none_left (x ∷ xs) zero l = absurd (omega arith)
      none_left (x ∷ xs) (suc i) l = none_left xs i (omega arith)

-- what an index out of range would read
abbrev pub zero_spot : Spot
zero_spot = record { start = 0; item = Pointer (record { 0 = 0 }) (record { 0 = 0 }) }
