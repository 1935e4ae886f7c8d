-- No pointer has begun before a part of an object and ends in it.
use Rattle.std.proofs.Common.{◌≡◌, ◌∙◌, ℕ, zero, suc, ◌+◌, ◌-◌, ◌*◌, ◌<◌, Bool, true, false, List, [], ◌∷◌, map, length, take, replicate, slice_get, Some, refl, ap, sym, subst, arith, if◌then◌else◌}
use Rattle.std.specs.Prelude.{slice_index_or, ◌==◌}
use Rattle.std.specs.List.{list_all, range_with_len}
use Rattle.std.proofs.lemmas.Option.{slice_get_within, slice_get-get_or}
use Rattle.cc_base.specs.declared.kind.Kind.TheVariants.{Safe}
use Rattle.cc_base.specs.declared.number.NodeId.{NodeId}
use Rattle.cc_base.specs.declared.number.TypeId.{TypeId}
use Rattle.c_types.specs.declared.shape.TypeShape.{TypeShape}
use Rattle.c_types.specs.declared.shape.TypeShape.TheVariants.{Void, Integer, Pointer, Array, Function, Struct, Union}
use Rattle.c_types.specs.Table.{Table, IsComplete, IsAggregate, shape_at, members_at, is_aggregate_shape}
use Rattle.c_types.specs.Layouts.{size_of, layout_of, offset_of, offset_of_shape, member_at}
use Rattle.c_types.specs.Cells.{Cell, raw, pointer, mixed, incomplete, alike, begins, longest, padded_to, union_cells, cells_of_shape, holds_pointer, IsBetweenPointers}
use Rattle.c_types.specs.Equality.{cells_of, physically_equal}
use Rattle.c_types.specs.Flows.{CellsAgree}
use Rattle.kind_sites.specs.Solutions.{IsUnionAllowed}
use Rattle.c_types.specs.Sound.{IsWellFormed}
use Rattle.c_types.proofs.Cells.{cells_are}
use Rattle.c_types.proofs.OrderedPointers.{cells_ordered, get_front}
use Rattle.src_mem.specs.State.{Setting}
use Rattle.facts_kept.specs.Kept.{IsSub}
use Rattle.facts_kept.proofs.Agree.{alike-there, get-taken, number-is, first, second}
use Rattle.facts_kept.proofs.Complete.{complete-some}
use Rattle.facts_kept.proofs.Members.{sub-struct}
use Rattle.facts_kept.proofs.Parts.{sub-element}
use Rattle.cil_form.specs.Typing.{IsPart, whole, in_member, in_element}
use Rattle.cure_points.specs.Cured.{AreMembersWhole}
use Rattle.cure_objects.specs.Cured.{ArePartsWhole}
use Rattle.cure_ready.proofs.Parts.{element-complete, member-complete, part-complete, part-fits}

-- the table where all kinds are SAFE: where parts stand doesn't depend on kinds
abbrev pub all_safe : Table → Setting
all_safe table = record { table = table; kind = λ n. Safe; functions = [] }

pub all_allowed : (table : Table) (t : TypeId) (tag : ℕ) → shape_at table t ≡ Union tag → IsUnionAllowed table (λ n. Safe) t
all_allowed table t tag e plain u m h l p q c = refl

raw-none : (n j : ℕ) (a : NodeId) (t : TypeId) (i : ℕ) → slice_get (replicate n raw) j ≡ Some (pointer a t i) → ⊥
raw-none zero j a t i e = absurd (cc (e))
raw-none (suc n) zero a t i e = absurd (cc (e))
raw-none (suc n) (suc j) a t i e = raw-none n j a t i e

mixed-none : (v : TypeId) (ns : List ℕ) (j : ℕ) (a : NodeId) (t : TypeId) (i : ℕ) → slice_get (map (mixed v) ns) j ≡ Some (pointer a t i) → ⊥
mixed-none v [] j a t i e = absurd (cc (e))
mixed-none v (n ∷ ns) zero a t i e = absurd (cc (e))
mixed-none v (n ∷ ns) (suc j) a t i e = mixed-none v ns j a t i e

all-at : (p : List Cell → Bool) (f : TypeId → List Cell) (ms : List TypeId) (i : ℕ) (z : TypeId) → list_all p (map f ms) ≡ true → i < length ms
    → p (f (slice_index_or ms i z)) ≡ true
all-at p f [] i z h l = absurd (omega (arith, l))
all-at p f (m ∷ ms) zero z h l = first (p (f m)) (list_all p (map f ms)) h
all-at p f (m ∷ ms) (suc i) z h l = all-at p f ms i z (second (p (f m)) (list_all p (map f ms)) h) (omega (arith, l))

module _ (table : Table) (sound : IsWellFormed table) where
  pub whole-between : (t : TypeId) → IsBetweenPointers (cells_of table t) 0
  whole-between t =
      record { whole = λ n u i e. absurd (let l = ((cells_ordered table sound t).least 0 (suc i) n u e).1 in omega (arith, l)) }

  pub end-between : (t : TypeId) → IsBetweenPointers (cells_of table t) (length (cells_of table t))
  end-between t =
      record { whole = λ n u i e. absurd (let l = slice_get_within (cells_of table t) (length (cells_of table t)) (pointer n u (suc i)) e in omega (arith, l)) }

  -- where a type stands in another, what lies between the pointers of the one lies between those of the other
  sub-between : (u v : TypeId) (o j : ℕ) → IsSub (all_safe table) u o v → j < length (cells_of table v) → IsBetweenPointers (cells_of table v) j
      → IsBetweenPointers (cells_of table u) (o + j)
  sub-between u v o j sub l b = by (slice_index_or (cells_of table v) j raw) (slice_get-get_or (cells_of table v) j raw l)
    where
      agreed : (n : NodeId) (t : TypeId) (i : ℕ) (d : Cell) → slice_get (cells_of table v) j ≡ Some d
          → CellsAgree table (λ m. Safe) (pointer n t (suc i)) d → ⊥
      agreed n t i raw e g = absurd g
      agreed n t i (mixed x k) e g = absurd g
      agreed n t i (incomplete x) e g = absurd g
      agreed n t i (pointer m x k) e g = b.whole m x i (subst (λ z. slice_get (cells_of table v) j ≡ Some (pointer m x z)) (sym g.0) e)

      by : (d : Cell) → slice_get (cells_of table v) j ≡ Some d → IsBetweenPointers (cells_of table u) (o + j)
      by d e = let x = sub.agree j d e in record {
        whole = λ n t i f.
            let there = x.1 in
            let it : x.0 ≡ pointer n t (suc i) = cc (there, f) in
            agreed n t i d e (subst (λ c. CellsAgree table (λ m. Safe) c d) it x.2);
      }

  -- a member of a union
  union-between : (t : TypeId) (tag i : ℕ) → shape_at table t ≡ Union tag → i < length (members_at table t) → (j : ℕ)
      → j < length (cells_of table (member_at table t i)) → IsBetweenPointers (cells_of table (member_at table t i)) j
      → IsBetweenPointers (cells_of table t) j
  union-between t tag i e l j inside b = by (members_at table t) refl l
    where
      m : TypeId
      m = member_at table t i

      by : (ms : List TypeId) → members_at table t ≡ ms → i < length ms → IsBetweenPointers (cells_of table t) j
      by [] g k = absurd (omega (arith, k))
      by (x ∷ xs) g k =
          subst (λ cs. IsBetweenPointers cs j) (sym cells)
          (tested (holds_pointer table t) (list_all (begins (physically_equal table) (longest (map (cells_of table) (x ∷ xs)))) (map (cells_of table) (x ∷ xs))) refl)
        where
          big : List Cell
          big = longest (map (cells_of table) (x ∷ xs))

          cells : cells_of table t ≡ union_cells (physically_equal table) t (size_of table t) (holds_pointer table t) (map (cells_of table) (x ∷ xs))
          cells = cells_are table sound.order.0 sound.order.1 (physically_equal table) t
              ∙ ap (λ s. cells_of_shape table (physically_equal table) (cells_of table) t s (members_at table t)) e
              ∙ ap (λ l. cells_of_shape table (physically_equal table) (cells_of table) t (Union tag) l) g

          alike-none : (n : NodeId) (u : TypeId) (a : ℕ) (d : Cell) → slice_get (cells_of table m) j ≡ Some d
              → alike (physically_equal table) (pointer n u (suc a)) d ≡ true → ⊥
          alike-none n u a raw f g = absurd (cc (g))
          alike-none n u a (mixed y k) f g = absurd (cc (g))
          alike-none n u a (incomplete y) f g = absurd (cc (g))
          alike-none n u a (pointer o y k) f g =
              b.whole o y a (subst (λ z. slice_get (cells_of table m) j ≡ Some (pointer o y z))
              (sym (number-is (suc a) k (first (suc a == k) (physically_equal table u y) g))) f)

          longest-none : list_all (begins (physically_equal table) big) (map (cells_of table) (x ∷ xs)) ≡ true → (n : NodeId) (u : TypeId) (a : ℕ)
              → slice_get (padded_to (size_of table t) big) j ≡ Some (pointer n u (suc a)) → ⊥
          longest-none q n u a f =
              let d = slice_index_or (cells_of table m) j raw in
              let there = slice_get-get_or (cells_of table m) j raw inside in
              let front : begins (physically_equal table) big (cells_of table m) ≡ true =
              subst (λ ms. begins (physically_equal table) big (cells_of table (slice_index_or ms i t)) ≡ true) (sym g)
              (all-at (begins (physically_equal table) big) (cells_of table) (x ∷ xs) i t q k) in
              let c = alike-there (physically_equal table) (take (length (cells_of table m)) big) (cells_of table m) front j d there in
              let at = sym (get-taken big (length (cells_of table m)) j inside) ∙ c.1 in
              let padded = get_front big (replicate (size_of table t - length big) raw) j (slice_get_within big j c.0 at) ∙ at in
              let it : c.0 ≡ pointer n u (suc a) = cc (padded, f) in
              alike-none n u a d there (subst (λ y. alike (physically_equal table) y d ≡ true) it c.2)

          tested : (holds all : Bool) → list_all (begins (physically_equal table) big) (map (cells_of table) (x ∷ xs)) ≡ all
              → IsBetweenPointers (if holds then (if all then padded_to (size_of table t) big else map (mixed t) (range_with_len 0 (size_of table t))) else replicate (size_of table t) raw) j
          tested false all q = record { whole = λ n u a f. raw-none (size_of table t) j n u (suc a) f }
          tested true false q = record { whole = λ n u a f. mixed-none t (range_with_len 0 (size_of table t)) j n u (suc a) f }
          tested true true q = record { whole = λ n u a f. longest-none q n u a f }

  member-between : (t : TypeId) (i : ℕ) → IsAggregate table t → i < length (members_at table t) → (j : ℕ)
      → j < length (cells_of table (member_at table t i)) → IsBetweenPointers (cells_of table (member_at table t i)) j
      → IsBetweenPointers (cells_of table t) (offset_of table t i + j)
  member-between t i aggregate l j inside b = by (shape_at table t) refl aggregate
    where
      by : (s : TypeShape) → shape_at table t ≡ s → is_aggregate_shape s ≡ true → IsBetweenPointers (cells_of table t) (offset_of table t i + j)
      by (Struct tag) e f = sub-between t (member_at table t i) (offset_of table t i) j (sub-struct (all_safe table) sound t tag i e l) inside b
      by (Union tag) e f =
          let z : offset_of table t i ≡ 0 =
          ap (λ s. offset_of_shape s (map (layout_of table) (take i (members_at table t))) (layout_of table (member_at table t i))) e in
          let n : j ≡ offset_of table t i + j = omega (arith, z) in
          subst (λ k. IsBetweenPointers (cells_of table t) k) n (union-between t tag i e l j inside b)
      by Void e f = absurd (cc (f))
      by (Integer a s) e f = absurd (cc (f))
      by (Pointer n u) e f = absurd (cc (f))
      by (Array u n) e f = absurd (cc (f))
      by (Function ps r) e f = absurd (cc (f))

  part-between : (u : TypeId) (o : ℕ) (t : TypeId) → IsPart table u o t → IsComplete table u → (j : ℕ) → j < length (cells_of table t)
      → IsBetweenPointers (cells_of table t) j → IsBetweenPointers (cells_of table u) (o + j)
  part-between u o t (whole x) h j inside b =
      let n : j ≡ 0 + j = omega arith in subst (λ k. IsBetweenPointers (cells_of table x) k) n b
  part-between u o t (in_member x i a y aggregate l part) h j inside b =
      subst (λ k. IsBetweenPointers (cells_of table x) k) along
      (member-between x i aggregate l (a + j) room (part-between (member_at table x i) a y part whole_part j inside b))
    where
      whole_part : IsComplete table (member_at table x i)
      whole_part = member-complete (all_safe table) sound x i aggregate l

      room : a + j < length (cells_of table (member_at table x i))
      room =
          let f = part-fits (all_safe table) sound (all_allowed table) (member_at table x i) a y part whole_part in
          let p = (complete-some table sound (member_at table x i) whole_part).1 in
          let q = (complete-some table sound y (part-complete (all_safe table) sound (member_at table x i) a y part whole_part)).1 in
          omega (arith, f, p, q, inside)

      along : offset_of table x i + (a + j) ≡ offset_of table x i + a + j
      along = omega arith
  part-between u o t (in_element x element count i a y e l part) h j inside b =
      subst (λ k. IsBetweenPointers (cells_of table x) k) (along (i * size_of table element))
      (sub-between x element (i * size_of table element) (a + j) (sub-element (all_safe table) sound x element count i e l) room
      (part-between element a y part whole_part j inside b))
    where
      whole_part : IsComplete table element
      whole_part = element-complete (all_safe table) sound x element count e

      room : a + j < length (cells_of table element)
      room =
          let f = part-fits (all_safe table) sound (all_allowed table) element a y part whole_part in
          let p = (complete-some table sound element whole_part).1 in
          let q = (complete-some table sound y (part-complete (all_safe table) sound element a y part whole_part)).1 in
          omega (arith, f, p, q, inside)

      along : (n : ℕ) → n + (a + j) ≡ n + a + j
      along n = omega arith

  pub parts-whole : ArePartsWhole table
  parts-whole u t o complete part =
      let n : o + 0 ≡ o = omega arith in
      subst (λ k. IsBetweenPointers (cells_of table u) k) n
      (part-between u o t part complete 0 (complete-some table sound t (part-complete (all_safe table) sound u o t part complete)).0 (whole-between t))

  pub members-whole : AreMembersWhole table
  members-whole t i complete aggregate l =
      let n : offset_of table t i + 0 ≡ offset_of table t i = omega arith in
      subst (λ k. IsBetweenPointers (cells_of table t) k) n
      (parts-whole t (member_at table t i) (offset_of table t i + 0) complete
      (in_member t i 0 (member_at table t i) aggregate l (whole (member_at table t i))))
