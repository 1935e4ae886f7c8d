-- The address of a part of a place: a member, an array that decays, a place under `&`.
use Rattle.std.proofs.Common.{◌≡◌, ℕ, zero, suc, ◌+◌, ◌-◌, ◌*◌, ◌%◌, ◌<◌, ◌≤◌, ◌≤ℤ◌, pos, ◌-ℤ◌, List, [], ◌∷◌, ◌++◌, map, length, take, replicate, slice_get, Some, refl, ap, sym, subst, ◌∙◌, arith}
use Rattle.std.specs.Prelude.{slice_index_or}
use Rattle.std.specs.List.{Contains, All, fold, repeat}
use Rattle.std.proofs.lemmas.Int.{ints}
use Rattle.std.proofs.lemmas.Option.{slice_get_within, slice_get-get_or}
use Rattle.std.proofs.lemmas.List.Elements.{All-contains}
use Rattle.std.proofs.Math.Nat.{mod-mod_of_dvd, dvd-mul_right}
use native.Mathlib.Nat.{mod-lt, mod-eq_of_lt}
use Rattle.cc_base.specs.declared.number.TypeId.{TypeId}
use Rattle.cc_base.specs.declared.number.NodeId.{NodeId}
use Rattle.c_types.specs.declared.shape.TypeShape.TheVariants.{Array, Struct}
use Rattle.c_types.specs.Table.{IsComplete, shape_at, members_at, parts_of_shape}
use Rattle.c_types.specs.Layouts.{size_of, align_of, layout_of, rounded, offset_of, offset_of_shape, member_at}
use Rattle.c_types.specs.Cells.{Cell, raw, pointer, mixed, incomplete, padded_to, member_cells, cells_of_shape, IsBetweenPointers, AreOrdered}
use Rattle.c_types.specs.Equality.{cells_of, repeated_cell, physically_equal}
use Rattle.c_types.specs.Sound.{IsWellFormed, IsProper}
use Rattle.c_types.proofs.Cells.{cells_are, length_cells, length_padded, length_members}
use Rattle.c_types.proofs.Ends.{rounded_up}
use Rattle.c_types.proofs.Lists.{contains_take}
use Rattle.type_laws.proofs.Pointers.{class_own, covers_own}
use Rattle.src_mem.specs.Pointers.{Location}
use Rattle.src_mem.specs.State.{Setting}
use Rattle.c_types.specs.Flows.{CellsAgree}
use Rattle.src_mem.specs.Facts.{HoldType, IsSameShifted, sequence_least, sequence_most, IsLocated, IsTyped, StandsAt, IsSafeAt, IsTypedAt, IsSequenceAt, IsTypedPlace}
use Rattle.c_types.proofs.OrderedPointers.{cells_ordered, get_front, get_back}
use Rattle.src_mem.specs.Outlines.{Outline}
use Rattle.facts_kept.proofs.Agree.{agree-own, agree-twice}
use Rattle.facts_kept.proofs.Flow.{rep-there}
use Rattle.facts_kept.proofs.Complete.{complete-some, complete-data}
use Rattle.facts_kept.proofs.Holds.{first-between}
use Rattle.facts_kept.specs.Kept.{IsSub}
use Rattle.facts_kept.proofs.Blocks.{shifted-none, rep-get, rep-length}

-- v is x again and again: x itself, or an array of it
pub record Fills (w : Setting) (v x : TypeId) : Type 0 where
  pub first : length (cells_of w.table x) ≤ length (cells_of w.table v)
  pub some : 0 < length (cells_of w.table x)
  pub count : ℕ
  pub whole : length (cells_of w.table v) ≡ length (cells_of w.table x) * count
  pub each : (i : ℕ) → i < length (cells_of w.table v) → slice_get (cells_of w.table v) i ≡ Some (repeated_cell (cells_of w.table x) i)

module _ (w : Setting) (sound : IsWellFormed w.table) where
  pub fills-own : (v : TypeId) → IsComplete w.table v → Fills w v v
  fills-own v c = record {
    first = omega arith;
    some = (complete-some w.table sound v c).0;
    count = 1;
    whole = omega arith;
    each = λ i h. ap (slice_get (cells_of w.table v)) (sym (mod-eq_of_lt h)) ∙ rep-there (cells_of w.table v) i (omega (arith, h));
  }

  pub fills-array : (v x : TypeId) (n : ℕ) → shape_at w.table v ≡ Array x n → Fills w v x
  fills-array v x n e = record {
    first = omega (arith, long, positive, more);
    some = (complete-some w.table sound x part).0;
    count = n;
    whole = long ∙ turned n (length (cells_of w.table x));
    each = λ i h. ap (λ cs. slice_get cs i) cells ∙ rep-get n (cells_of w.table x) i (omega (arith, h, long));
  }
    where
      part : IsComplete w.table x
      part =
          All-contains (IsComplete w.table) (x ∷ []) x
          (subst (λ s. All (IsComplete w.table) (parts_of_shape s (members_at w.table v))) e (sound.each v).parts) (0, omega arith, refl)

      turned : (m n : ℕ) → m * n ≡ n * m
      turned m n = grind arith

      positive : 0 < n
      positive = subst IsProper e (sound.each v).proper

      cells : cells_of w.table v ≡ repeat n (cells_of w.table x)
      cells =
          cells_are w.table sound.order.0 sound.order.1 (physically_equal w.table) v ∙ ap
          (λ s. cells_of_shape w.table (physically_equal w.table) (cells_of w.table) v s (members_at w.table v)) e

      long : length (cells_of w.table v) ≡ n * length (cells_of w.table x)
      long = ap length cells ∙ rep-length n (cells_of w.table x)

      more : length (cells_of w.table x) ≤ n * length (cells_of w.table x)
      more = times n (length (cells_of w.table x)) positive
        where
          times : (n m : ℕ) → 0 < n → m ≤ n * m
          times zero m h = absurd (omega (arith, h))
          times (suc n) m h = let e : suc n * m ≡ m + n * m = step n m in omega (arith, e)
            where
              step : (n m : ℕ) → suc n * m ≡ m + n * m
              step n m = grind arith

  pub sub-own : (t : TypeId) → IsSub w t 0 t
  sub-own t =
      record {
        room = omega arith;
        agree = λ j d e. let z : 0 + j ≡ j = omega arith in
            (d, ap (slice_get (cells_of w.table t)) z ∙ e, agree-own w sound d);
      }

  -- the address of such a part of a place
  module _ (outlines : List Outline) (t v x : TypeId) (l : Location) (p : IsTypedPlace w outlines t l) (offset m : ℕ) (sub : IsSub w t offset v)
      (fills : Fills w v x)
      (size : length (cells_of w.table v) ≡ m) (complete : IsComplete w.table x) (ordered : AreOrdered p.object.cells) where
    abbrev there : Location
    there = record { object = l.object; part = record { low = p.at + offset; high = p.at + offset + m }; offset = pos (p.at + offset); made = x }

    cell : (j : ℕ) → j < m
        → (c : Cell) × (slice_get p.object.cells (p.at + offset + j) ≡ Some c) × CellsAgree w.table w.kind c (repeated_cell (cells_of w.table x) j)
    cell j h =
        let a = sub.agree j (repeated_cell (cells_of w.table x) j) (fills.each j (omega (arith, h, size))) in
        let b = p.holds.agree (offset + j) a.0 a.1 in
        let z : p.at + (offset + j) ≡ p.at + offset + j = omega arith in
        (b.0, ap (slice_get p.object.cells) (sym z) ∙ b.1, agree-twice w sound b.0 a.0 (repeated_cell (cells_of w.table x) j) b.2 a.2)

    some : 0 < m
    some = let a = fills.first in let b = fills.some in omega (arith, a, b, size)

    inside : p.at + offset + m ≤ l.part.high
    inside = let a = p.holds.room in let b = sub.room in omega (arith, a, b, size)

    located : IsLocated outlines there p.object
    located = record { found = p.located.found; ordered = omega arith; inside = (let a = p.located.inside in let b = inside in omega (arith, a, b)) }

    begins : IsBetweenPointers p.object.cells (p.at + offset)
    begins = let c = cell 0 some in let z : p.at + offset + 0 ≡ p.at + offset = omega arith in
        first-between w sound x p.object.cells (p.at + offset) fills.some c.0 (ap (slice_get p.object.cells) (sym z) ∙ c.1) c.2

    kind-of : (n : NodeId) (u : TypeId) (i : ℕ) (d : Cell) → CellsAgree w.table w.kind (pointer n u i) d
        → (a : NodeId) × (b : TypeId) × (d ≡ pointer a b i)
    kind-of n u i raw h = absurd h
    kind-of n u i (pointer a b j) h = (a, b, ap (pointer a b) (sym h.0))
    kind-of n u i (mixed a j) h = absurd h
    kind-of n u i (incomplete a) h = absurd h

    ends : IsBetweenPointers p.object.cells (p.at + offset + m)
    ends = record { whole = λ n u i e. none n u i e m refl some }
      where
        none : (n : NodeId) (u : TypeId) (i : ℕ) → slice_get p.object.cells (p.at + offset + m) ≡ Some (pointer n u (suc i)) → (k : ℕ) → m ≡ k → 0 < k
            → Prim.⊥
        none n u i e zero f h = omega (arith, h)
        none n u i e (suc k) f h =
            let z : p.at + offset + m ≡ suc (p.at + offset + k) = omega (arith, f) in
            let e' : slice_get p.object.cells (suc (p.at + offset + k)) ≡ Some (pointer n u (suc i)) = ap (slice_get p.object.cells) (sym z) ∙ e in
            let b = ordered.back (p.at + offset + k) i n u e' in
            let small = (ordered.least (suc (p.at + offset + k)) (suc i) n u e').0 in
            let c = cell k (omega (arith, f)) in
            let g : c.0 ≡ pointer n u i = (let y = c.1 in cc (y, b)) in
            let q = kind-of n u i (repeated_cell (cells_of w.table x) k)
            (subst (λ y. CellsAgree w.table w.kind y (repeated_cell (cells_of w.table x) k)) g c.2) in
            let own : slice_get (cells_of w.table v) k ≡ Some (pointer q.0 q.1 i) = fills.each k (omega (arith, f, size)) ∙ ap Some q.2 in
            let next = slice_get_within (cells_of w.table v) (suc k) (pointer q.0 q.1 (suc i))
            ((cells_ordered w.table sound v).on k i q.0 q.1 own (omega (arith, small))) in
            omega (arith, next, size, f)

    typed : IsTyped w there p.object
    typed = record { untagged = p.typed.untagged; low = begins; high = ends }

    stands : StandsAt there p.object (p.at + offset)
    stands = record { offset = refl; low = omega arith; high = omega arith; whole = begins }

    hold : HoldType w p.object.cells (p.at + offset) (p.at + offset + m) x
    hold = record {
      room = let a = fills.first in omega (arith, a, size);
      agree = λ i d e.
          let k = slice_get_within (cells_of w.table x) i d e in
          let c = cell i (let a = fills.first in omega (arith, a, k, size)) in
          let g : slice_get (cells_of w.table x) i ≡ Some (repeated_cell (cells_of w.table x) i) = ap (slice_get (cells_of w.table x))
          (sym (mod-eq_of_lt k)) ∙ rep-there (cells_of w.table x) i (omega (arith, k)) in
          let same : repeated_cell (cells_of w.table x) i ≡ d = cc (e, g) in
          (c.0, c.1, subst (CellsAgree w.table w.kind c.0) same c.2);
    }

    pub address-safe : IsSafeAt w outlines x there
    address-safe =
        record {
          object = p.object;
          at = p.at + offset;
          located = located;
          typed = typed;
          stands = stands;
          data_type = complete-data w.table sound x complete;
          holds = hold;
          covers = covers_own w.table w.kind x
              (complete-data w.table sound x complete);
        }

    pub address-typed : IsTypedAt w outlines x there
    address-typed =
        record {
          object = p.object;
          at = p.at + offset;
          located = located;
          typed = typed;
          stands = stands;
          holds = hold;
          covers = covers_own w.table w.kind x (complete-data w.table sound x complete);
        }

    pub address-place : IsTypedPlace w outlines x there
    address-place = record { object = p.object; at = p.at + offset; located = located; typed = typed; stands = stands; holds = hold }

    pub address-seq : IsSequenceAt w outlines x there
    address-seq = record {
      object = p.object;
      located = located;
      typed = typed;
      made = class_own w.table w.kind x;
      least = near (p.at + offset);
      most = near' (p.at + offset);
      filled = λ c. record { agree = λ h i. again i };
      blank = λ c e. let h = some in absurd (omega (arith, e, h));
      shifted = λ c. subst (IsSameShifted w x) (sym (none (p.at + offset))) (shifted-none w sound x c);
      unmoved = λ c. absurd (c complete);
    }
      where
        -- the part consists of whole elements
        again : (i : ℕ) → (c : Cell) × (slice_get p.object.cells (p.at + offset + i % ((p.at + offset + m) - (p.at + offset))) ≡ Some c)
            × CellsAgree w.table w.kind c (repeated_cell (cells_of w.table x) i)
        again i =
            let long : (p.at + offset + m) - (p.at + offset) ≡ m = omega arith in
            let c = cell (i % m) (mod-lt i some) in
            let product : m ≡ length (cells_of w.table x) * fills.count = sym size ∙ fills.whole in
            let same : repeated_cell (cells_of w.table x) (i % m) ≡ repeated_cell (cells_of w.table x) i = ap (λ k. slice_index_or (cells_of w.table x) k raw)
            (ap (λ k. i % k % length (cells_of w.table x)) product
            ∙ mod-mod_of_dvd (length (cells_of w.table x)) i (dvd-mul_right (length (cells_of w.table x)) fills.count)) in
            (c.0, ap (λ k. slice_get p.object.cells (p.at + offset + i % k)) long ∙ c.1, subst (CellsAgree w.table w.kind c.0) same c.2)

        none : (k : ℕ) → pos k -ℤ pos k ≡ pos 0
        none k = omega (arith, ints)

        near : (k : ℕ) → sequence_least ≤ℤ (pos k -ℤ pos k)
        near k = omega (arith, ints)

        near' : (k : ℕ) → (pos k -ℤ pos k) ≤ℤ sequence_most
        near' k = omega (arith, ints)

-- A member of a struct

module _ (align : TypeId → ℕ) (f : TypeId → List Cell) where
  abbrev joined : List Cell → TypeId → List Cell
  joined cells m = padded_to (rounded (length cells) (align m)) cells ++ f m

  fold-front : (ms : List TypeId) (a : List Cell) (k : ℕ) (d : Cell) → slice_get a k ≡ Some d
      → slice_get (fold (λ cells m. padded_to (rounded (length cells) (align m)) cells ++ f m) a ms) k ≡ Some d
  fold-front [] a k d e = e
  fold-front (m ∷ ms) a k d e =
      fold-front ms (padded_to (rounded (length a) (align m)) a ++ f m) k d
      (let h = slice_get_within a k d e in
      get_front (padded_to (rounded (length a) (align m)) a) (f m) k
      (let n = length_padded (rounded (length a) (align m)) a (rounded_up (length a) (align m)) in let r = rounded_up (length a) (align m) in
      omega (arith, n, r, h))
      ∙ get_front a (replicate (rounded (length a) (align m) - length a) raw) k h ∙ e)

  fold-get : (ms : List TypeId) (a : List Cell) (i : ℕ) (z : TypeId) → i < length ms → (j : ℕ) (d : Cell)
      → slice_get (f (slice_index_or ms i z)) j ≡ Some d
      → slice_get (fold (λ cells m. padded_to (rounded (length cells) (align m)) cells ++ f m) a ms)
      (rounded (length (fold (λ cells m. padded_to (rounded (length cells) (align m)) cells ++ f m) a (take i ms)))
      (align (slice_index_or ms i z)) + j) ≡ Some d
  fold-get [] a i z h j d e = absurd (omega (arith, h))
  fold-get (m ∷ ms) a zero z h j d e =
      fold-front ms (padded_to (rounded (length a) (align m)) a ++ f m) (rounded (length a) (align m) + j) d
      (ap (λ n. slice_get (padded_to (rounded (length a) (align m)) a ++ f m) (n + j))
      (sym (length_padded (rounded (length a) (align m)) a (rounded_up (length a) (align m))))
      ∙ get_back (padded_to (rounded (length a) (align m)) a) (f m) j ∙ e)
  fold-get (m ∷ ms) a (suc i) z h j d e = fold-get ms (padded_to (rounded (length a) (align m)) a ++ f m) i z (omega (arith, h)) j d e

module _ (w : Setting) (sound : IsWellFormed w.table) where
  struct-cells : (t : TypeId) (tag : ℕ) → shape_at w.table t ≡ Struct tag → 0 < length (members_at w.table t)
      → cells_of w.table t ≡ padded_to (size_of w.table t) (member_cells (align_of w.table) (cells_of w.table) (members_at w.table t))
  struct-cells t tag e h = cells_are w.table sound.order.0 sound.order.1 (physically_equal w.table) t
      ∙ ap (λ s. cells_of_shape w.table (physically_equal w.table) (cells_of w.table) t s (members_at w.table t)) e ∙ by (members_at w.table t) h
    where
      by : (ms : List TypeId) → 0 < length ms
          → cells_of_shape w.table (physically_equal w.table) (cells_of w.table) t (Struct tag) ms ≡ padded_to (size_of w.table t)
          (member_cells (align_of w.table) (cells_of w.table) ms)
      by [] h = absurd (omega (arith, h))
      by (m ∷ ms) h = refl

  struct-part : (t : TypeId) (tag : ℕ) → shape_at w.table t ≡ Struct tag → (m : TypeId) → Contains (members_at w.table t) m → IsComplete w.table m
  struct-part t tag e m c =
      All-contains (IsComplete w.table) (members_at w.table t) m
      (subst (λ s. All (IsComplete w.table) (parts_of_shape s (members_at w.table t))) e (sound.each t).parts) c

  struct-offset : (t : TypeId) (tag i : ℕ) → shape_at w.table t ≡ Struct tag
      → offset_of w.table t i ≡ rounded (length (member_cells (align_of w.table) (cells_of w.table) (take i (members_at w.table t))))
      (align_of w.table (member_at w.table t i))
  struct-offset t tag i e =
      ap (λ s. offset_of_shape s (map (layout_of w.table) (take i (members_at w.table t))) (layout_of w.table (member_at w.table t i))) e
      ∙ ap (λ n. rounded n (align_of w.table (member_at w.table t i)))
      (sym (length_members (cells_of w.table) (layout_of w.table) [] (take i (members_at w.table t))
      (λ m c. length_cells w.table sound (physically_equal w.table) m (struct-part t tag e m (contains_take i (members_at w.table t) m c)))))

  pub sub-struct : (t : TypeId) (tag i : ℕ) → shape_at w.table t ≡ Struct tag → i < length (members_at w.table t)
      → IsSub w t (offset_of w.table t i) (member_at w.table t i)
  sub-struct t tag i e h = record { room = room; agree = λ j d f. (d, there j d f, agree-own w sound d) }
    where
      there : (j : ℕ) (d : Cell) → slice_get (cells_of w.table (member_at w.table t i)) j ≡ Some d
          → slice_get (cells_of w.table t) (offset_of w.table t i + j) ≡ Some d
      there j d f =
          let g = fold-get (align_of w.table) (cells_of w.table) (members_at w.table t) [] i t h j d f in
          let k = slice_get_within (member_cells (align_of w.table) (cells_of w.table) (members_at w.table t))
          (rounded (length (member_cells (align_of w.table) (cells_of w.table) (take i (members_at w.table t))))
          (align_of w.table (member_at w.table t i)) + j) d g in
          ap (slice_get (cells_of w.table t)) (ap (λ n. n + j) (struct-offset t tag i e))
          ∙ ap
          (λ cs. slice_get cs
          (rounded (length (member_cells (align_of w.table) (cells_of w.table) (take i (members_at w.table t))))
          (align_of w.table (member_at w.table t i)) + j))
          (struct-cells t tag e (omega (arith, h)))
          ∙ get_front (member_cells (align_of w.table) (cells_of w.table) (members_at w.table t))
          (replicate (size_of w.table t - length (member_cells (align_of w.table) (cells_of w.table) (members_at w.table t))) raw)
          (rounded (length (member_cells (align_of w.table) (cells_of w.table) (take i (members_at w.table t))))
          (align_of w.table (member_at w.table t i)) + j) k
          ∙ g

      room : offset_of w.table t i + length (cells_of w.table (member_at w.table t i)) ≤ length (cells_of w.table t)
      room = by (length (cells_of w.table (member_at w.table t i))) refl
        where
          by : (n : ℕ) → length (cells_of w.table (member_at w.table t i)) ≡ n
              → offset_of w.table t i + length (cells_of w.table (member_at w.table t i)) ≤ length (cells_of w.table t)
          by zero g =
              absurd
              (let s = (complete-some w.table sound (member_at w.table t i) (struct-part t tag e (member_at w.table t i) (i, h, refl'))).0 in
              omega (arith, s, g))
            where
              refl' : slice_index_or (members_at w.table t) i (member_at w.table t i) ≡ member_at w.table t i
              refl' = any (members_at w.table t) i (member_at w.table t i) t h
                where
                  any : (ms : List TypeId) (i : ℕ) (a b : TypeId) → i < length ms → slice_index_or ms i a ≡ slice_index_or ms i b
                  any [] i a b h = absurd (omega (arith, h))
                  any (m ∷ ms) zero a b h = refl
                  any (m ∷ ms) (suc i) a b h = any ms i a b (omega (arith, h))
          by (suc n) g =
              let d = slice_index_or (cells_of w.table (member_at w.table t i)) n raw in
              let x = there n d (slice_get-get_or (cells_of w.table (member_at w.table t i)) n raw (omega (arith, g))) in
              let l = slice_get_within (cells_of w.table t) (offset_of w.table t i + n) d x in omega (arith, g, l)
