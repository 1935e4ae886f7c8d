use Rattle.std.proofs.Common.{◌≡◌, ◌≢◌, ℕ, zero, suc, ◌+◌, ◌<◌, ◌≤◌, max, true, false, cond, List, [], ◌∷◌, length, get_or, map, set, refl, ap, sym, subst, ◌∙◌, inl, inr, true≢false, arith}
use Rattle.std.specs.List.{All, fold}
use Rattle.std.proofs.lemmas.Bool.Decides.{eqb_tells}
use Rattle.std.proofs.lemmas.List.{get_or-set_same, get_or-set_other, length-set, length-map, get_or-map}
use Rattle.std.proofs.lemmas.List.Sums.{sum_by-set}
use Rattle.std.proofs.lemmas.List.Elements.{All-nil, All-head, All-tail}
use Rattle.indexmap.specs.IndexMap.{set_value_at}
use Rattle.cc_base.specs.declared.number.TypeId.{TypeId}
use Rattle.c_types.specs.declared.layout.Layout.{Layout}
use Rattle.c_types.specs.declared.kept.FieldPlace.{FieldPlace}
use Rattle.c_types.specs.declared.kept.Kept.{Kept}
use Rattle.c_types.specs.declared.shape.TypeShape.{TypeShape}
use Rattle.c_types.specs.declared.shape.TypeShape.TheVariants.{Void, Integer, Pointer, Array, Function, Struct, Union}
use Rattle.c_types.specs.Table.{Table, Entry, void_entry, entry_at, shape_at, members_at, parts_of_shape, is_aggregate_shape, IsAggregate, IsType, IsComplete, is_complete, is_complete_entry, HasShape}
use Rattle.c_types.specs.Layouts.{rounded, layout_of_shape, layout_of, size_of}
use Rattle.c_types.specs.PointerCounts.{pointers_of_shape, pointers_in}
use Rattle.c_types.specs.Sound.{IsFormed, IsSized, IsWellFormed}
use Rattle.c_types.specs.Kept.{KeptEntry, KnownShape, AreFirst, IsSound, IsKeptOf, ArePlaces, table_of, entry_of, first_at, firsts_of}
use Rattle.c_types.specs.Calls.{with_members, defined_layout}
use Rattle.c_types.proofs.Growth.{Changes, not_here}
use Rattle.c_types.proofs.PointerCounts.{pointers_here}
use Rattle.c_types.proofs.Firsts.{first_kept, firsts_set}
use Rattle.c_types.proofs.Upkeep.{other_layout, own_layout, own_offset, kept_other, formed_after}

-- Giving a struct or union its members.

open_shape : (s : TypeShape) (ms : List TypeId) → is_aggregate_shape s ≡ true → ms ≡ [] → is_complete_entry s ms ≡ false
open_shape Void ms a e = refl
open_shape (Integer bytes signed) ms a e = absurd (true≢false (sym a))
open_shape (Pointer node to) ms a e = absurd (true≢false (sym a))
open_shape (Array element count) ms a e = absurd (true≢false (sym a))
open_shape (Function ps r) ms a e = refl
open_shape (Struct tag) ms a e = ap (is_complete_entry (Struct tag)) e
open_shape (Union tag) ms a e = ap (is_complete_entry (Union tag)) e

aggregate_parts : (P : TypeId → Type 0) (s : TypeShape) (ms : List TypeId) → is_aggregate_shape s ≡ true → All P ms → All P (parts_of_shape s ms)
aggregate_parts P (Array element count) ms a h = absurd (true≢false (sym a))
aggregate_parts P (Struct tag) ms a h = h
aggregate_parts P (Union tag) ms a h = h
aggregate_parts P Void ms a h = All-nil P
aggregate_parts P (Integer bytes signed) ms a h = All-nil P
aggregate_parts P (Pointer node to) ms a h = All-nil P
aggregate_parts P (Function ps r) ms a h = All-nil P

-- ---- the layout of members is a size of at least a byte and an alignment of at most 8

align_low : (a : ℕ) (ls : List Layout) → a ≤ fold (λ b (m : Layout). max b m.align) a ls
align_low a [] = omega arith
align_low a (l ∷ ls) = let h = align_low (max a l.align) ls in omega arith

align_high : (f : TypeId → Layout) (a : ℕ) (ms : List TypeId) → All (λ m. (f m).align ≤ 8) ms → a ≤ 8 → fold (λ b (m : Layout). max b m.align) a (map f ms) ≤ 8
align_high f a [] h b = b
align_high f a (m ∷ ms) h b =
    let k = All-head (λ m. (f m).align ≤ 8) m ms h in
    align_high f (max a (f m).align) ms (All-tail (λ m. (f m).align ≤ 8) m ms h) (omega arith)

end_low : (a : ℕ) (ls : List Layout) → a ≤ fold (λ end (m : Layout). rounded end m.align + m.size) a ls
end_low a [] = omega arith
end_low a (l ∷ ls) = let h = end_low (rounded a l.align + l.size) ls in omega arith

size_low : (a : ℕ) (ls : List Layout) → a ≤ fold (λ n (m : Layout). max n m.size) a ls
size_low a [] = omega arith
size_low a (l ∷ ls) = let h = size_low (max a l.size) ls in omega arith

some_size : (f : TypeId → Layout) (s : TypeShape) (ms : List TypeId) → is_aggregate_shape s ≡ true → 0 < length ms → All (λ m. 0 < (f m).size) ms
    → 0 < (layout_of_shape f s ms).size
some_size f (Struct tag) [] a n h = absurd (omega arith)
some_size f (Union tag) [] a n h = absurd (omega arith)
some_size f (Struct tag) (m ∷ ms) a n h =
    let k = All-head (λ m. 0 < (f m).size) m ms h in
    let e = end_low (rounded 0 (f m).align + (f m).size) (map f ms) in omega arith
some_size f (Union tag) (m ∷ ms) a n h =
    let k = All-head (λ m. 0 < (f m).size) m ms h in
    let e = size_low (max 0 (f m).size) (map f ms) in omega arith
some_size f Void ms a n h = absurd (true≢false (sym a))
some_size f (Integer bytes signed) ms a n h = absurd (true≢false (sym a))
some_size f (Pointer node to) ms a n h = absurd (true≢false (sym a))
some_size f (Array element count) ms a n h = absurd (true≢false (sym a))
some_size f (Function ps r) ms a n h = absurd (true≢false (sym a))

aligned_fit : (f : TypeId → Layout) (s : TypeShape) (ms : List TypeId) → is_aggregate_shape s ≡ true → All (λ m. (f m).align ≤ 8) ms
    → (0 < (layout_of_shape f s ms).align) × ((layout_of_shape f s ms).align ≤ 8)
aligned_fit f (Struct tag) ms a h = let l = align_low 1 (map f ms) in (omega arith, align_high f 1 ms h (omega arith))
aligned_fit f (Union tag) ms a h = let l = align_low 1 (map f ms) in (omega arith, align_high f 1 ms h (omega arith))
aligned_fit f Void ms a h = absurd (true≢false (sym a))
aligned_fit f (Integer bytes signed) ms a h = absurd (true≢false (sym a))
aligned_fit f (Pointer node to) ms a h = absurd (true≢false (sym a))
aligned_fit f (Array element count) ms a h = absurd (true≢false (sym a))
aligned_fit f (Function ps r) ms a h = absurd (true≢false (sym a))

-- ---- the table with the members of t

module _ (old : Table) (t : TypeId) (members : List TypeId) (w : IsWellFormed old) (b : IsType old t) (a : IsAggregate old t)
    (o : members_at old t ≡ []) (some : 0 < length members) (full : All (IsComplete old) members) where
  vague_here : is_complete (entry_at old t) ≡ false
  vague_here = open_shape (shape_at old t) (members_at old t) a o

  pub defines : Changes old (with_members old t members) t (record { shape = shape_at old t; members = members })
  defines = record {
    here = get_or-set_same old t.0 (record { shape = shape_at old t; members = members }) void_entry b;
    other = λ u n. get_or-set_other old t.0 u.0 (record { shape = shape_at old t; members = members }) void_entry n;
    vague = vague_here;
    longer = omega (arith, length-set old t.0 (record { shape = shape_at old t; members = members }));
    count =
        let h = sum_by-set (λ (d : Entry). cond (is_complete d) 1 0) old t.0 (record { shape = shape_at old t; members = members }) void_entry b in
        let z : cond {A = ℕ} (is_complete (entry_at old t)) 1 0 ≡ 0 = ap (λ x. cond {A = ℕ} x 1 0) vague_here in omega arith;
    parts = aggregate_parts (IsComplete old) (shape_at old t) members a full;
  }

  formed : IsFormed old (record { shape = shape_at old t; members = members })
  formed = record {
    proper = (w.each t).proper;
    named = (w.each t).named;
    parts = aggregate_parts (IsComplete old) (shape_at old t) members a full;
    plain = inl a;
  }

  pub defined_others : (u : TypeId) → u.0 ≢ t.0 → layout_of (with_members old t members) u ≡ layout_of old u
  defined_others = other_layout old (with_members old t members) t (record { shape = shape_at old t; members = members }) defines w formed

  pub others_complete : (u : TypeId) → IsComplete old u → layout_of (with_members old t members) u ≡ layout_of old u
  others_complete u h = defined_others u (not_here old (with_members old t members) t (record { shape = shape_at old t; members = members }) defines u h)

  pub defined_own : layout_of (with_members old t members) t ≡ defined_layout old t members
  defined_own = own_layout old (with_members old t members) t (record { shape = shape_at old t; members = members }) defines w formed

  pub defined_count : pointers_in (with_members old t members) t ≡ pointers_of_shape (size_of old) (pointers_in old) (shape_at old t) members
  defined_count = pointers_here old (with_members old t members) t (record { shape = shape_at old t; members = members }) defines w formed

  pub same_shapes : (u : TypeId) → shape_at (with_members old t members) u ≡ shape_at old u
  same_shapes u = elim (eqb_tells u.0 t.0) [
    | inl s ↦
        ap (λ (i : ℕ). shape_at (with_members old t members) (record { 0 = i })) s.1
        ∙ ap (λ (d : Entry). d.shape) defines.here
        ∙ ap (λ (i : ℕ). shape_at old (record { 0 = i })) (sym s.1)
    | inr n ↦ ap (λ (d : Entry). d.shape) (defines.other u n.1)
  ]

  pub same_length : length (with_members old t members) ≡ length old
  same_length = length-set old t.0 (record { shape = shape_at old t; members = members })

  distinct_after : (u v : TypeId) → IsType (with_members old t members) u
      → HasShape (with_members old t members) v (shape_at (with_members old t members) u) → u ≡ v
  distinct_after u v h k =
      w.distinct u v (subst (λ n. u.0 < n) same_length h) (subst (λ n. v.0 < n) same_length k.0, sym (same_shapes v) ∙ k.1 ∙ same_shapes u)

  sized_here : (defined_layout old t members).size ≤ 1048576 → IsSized (with_members old t members) t
  sized_here most =
      let P : Layout → Type 0 = λ l. (0 < l.size) × (l.size ≤ 1048576) × (0 < l.align) × (l.align ≤ 8) in
      let n = aligned_fit (layout_of old) (shape_at old t) members a (λ k d c. (w.sized (get_or members k d) (full k d c)).narrow) in
      let z = some_size (layout_of old) (shape_at old t) members a some (λ k d c. (w.sized (get_or members k d) (full k d c)).some) in
      let r = subst P (sym defined_own) (z, most, n.0, n.1) in
      record { some = r.0; most = r.1; aligned = r.2; narrow = r.3 }

  pub formed_defined : (defined_layout old t members).size ≤ 1048576 → IsWellFormed (with_members old t members)
  formed_defined most =
      formed_after old (with_members old t members) t (record { shape = shape_at old t; members = members }) defines w formed
      (let s = w.small in omega (arith, same_length)) distinct_after (λ h. sized_here most) (w.built t)

  pub kept_defined : (k : Kept) → k.layout ≡ defined_layout old t members → k.pointers ≡ pointers_of_shape (size_of old) (pointers_in old) (shape_at old t) members
      → ArePlaces (layout_of old) (shape_at old t) members k.fields.items → IsKeptOf (with_members old t members) t k
  kept_defined k l q p = record {
    layout = l ∙ sym defined_own;
    pointers = q ∙ sym defined_count;
    offsets = λ i d c.
        let n : length k.fields.items ≡ length members = sym (length-map k.fields.items (λ (q : FieldPlace). q.ty)) ∙ ap length p.types in
        p.offsets i d t c
        ∙ sym (own_offset old (with_members old t members) t (record { shape = shape_at old t; members = members }) defines w formed i (omega arith));
  }

  pub kept_by_others : (u : TypeId) (k : Kept) → u.0 ≢ t.0 → map (λ (p : FieldPlace). p.ty) k.fields.items ≡ members_at old u → IsKeptOf old u k
      → IsKeptOf (with_members old t members) u k
  kept_by_others = kept_other old (with_members old t members) t (record { shape = shape_at old t; members = members }) defines w formed

-- ---- what the struct keeps

-- a value is written beside its key
pub set_value_is : (es : List KeptEntry) (i : ℕ) (k : Kept) (d : KeptEntry) → set_value_at es i k ≡ set es i ((get_or es i d).0, k)
set_value_is [] i k d = refl
set_value_is (e ∷ es) zero k d = refl
set_value_is (e ∷ es) (suc i) k d = ap (λ l. e ∷ l) (set_value_is es i k d)

pub table_set : (es : List KeptEntry) (i : ℕ) (k : Kept) → table_of (set_value_at es i k)
    ≡ set (table_of es) i (record { shape = (get_or (table_of es) i void_entry).shape; members = map (λ (p : FieldPlace). p.ty) k.fields.items })
table_set [] i k = refl
table_set (e ∷ es) zero k = refl
table_set (e ∷ es) (suc i) k = ap (λ l. entry_of e ∷ l) (table_set es i k)

module _ (es : List KeptEntry) (t : TypeId) (members : List TypeId) (k : Kept) (b : IsType (table_of es) t)
    (p : ArePlaces (layout_of (table_of es)) (shape_at (table_of es) t) members k.fields.items) where
  within : t.0 < length es
  within = subst (λ n. t.0 < n) (length-map es entry_of) b

  pub table_defined : table_of (set_value_at es t.0 k) ≡ with_members (table_of es) t members
  table_defined =
      table_set es t.0 k
      ∙ ap (λ (ms : List TypeId). set (table_of es) t.0 (record { shape = shape_at (table_of es) t; members = ms })) p.types

  module _ (known : List KnownShape) (s : IsSound es known) (a : IsAggregate (table_of es) t) (o : members_at (table_of es) t ≡ []) (some : 0 < length members)
      (full : All (IsComplete (table_of es)) members) (l : k.layout ≡ defined_layout (table_of es) t members)
      (q : k.pointers ≡ pointers_of_shape (size_of (table_of es)) (pointers_in (table_of es)) (shape_at (table_of es) t) members) where
    kept_each : (i : ℕ) (d : KeptEntry) → i < length (set_value_at es t.0 k)
        → IsKeptOf (with_members (table_of es) t members) (record { 0 = i }) (get_or (set_value_at es t.0 k) i d).1
    kept_each i d c =
        let e = set_value_is es t.0 k d in
        let P : List KeptEntry → Type 0 = λ xs. IsKeptOf (with_members (table_of es) t members) (record { 0 = i }) (get_or xs i d).1 in
        let h : i < length es = omega (arith, ap length e, length-set es t.0 ((get_or es t.0 d).0, k)) in
        subst P (sym e) (elim (eqb_tells i t.0) [
          | inl x ↦
              let Q : ℕ → Type 0 = λ j. IsKeptOf (with_members (table_of es) t members) (record { 0 = j }) (get_or (set es t.0 ((get_or es t.0 d).0, k)) j d).1 in
              let R : KeptEntry → Type 0 = λ x. IsKeptOf (with_members (table_of es) t members) t x.1 in
              subst Q (sym x.1) (subst R (sym (get_or-set_same es t.0 ((get_or es t.0 d).0, k) d within))
              (kept_defined (table_of es) t members s.formed b a o some full k l q p))
          | inr n ↦
              let R : KeptEntry → Type 0 = λ x. IsKeptOf (with_members (table_of es) t members) (record { 0 = i }) x.1 in
              subst R (sym (get_or-set_other es t.0 i ((get_or es t.0 d).0, k) d n.1))
              (kept_by_others (table_of es) t members s.formed b a o some full (record { 0 = i }) (get_or es i d).1 n.1
              (sym (ap (λ (x : Entry). x.members) (get_or-map entry_of es i d void_entry h))) (s.kept i d h))
        ])

    first_defined : k.first ≡ first_at (firsts_of es) t → AreFirst (with_members (table_of es) t members) (firsts_of (set_value_at es t.0 k)) known
    first_defined f =
        subst (λ (firsts : List TypeId). AreFirst (with_members (table_of es) t members) firsts known) (sym (firsts_set es t.0 k t f))
        (first_kept (table_of es) (with_members (table_of es) t members) (firsts_of es) known
        (same_length (table_of es) t members s.formed b a o some full) (same_shapes (table_of es) t members s.formed b a o some full) s.first)

    pub sound_defined : (defined_layout (table_of es) t members).size ≤ 1048576 → k.first ≡ first_at (firsts_of es) t → IsSound (set_value_at es t.0 k) known
    sound_defined most f = record {
      formed = subst IsWellFormed (sym table_defined) (formed_defined (table_of es) t members s.formed b a o some full most);
      kept = λ i d c. let P : Table → Type 0 = λ table. IsKeptOf table (record { 0 = i }) (get_or (set_value_at es t.0 k) i d).1 in subst P (sym table_defined) (kept_each i d c);
      first = subst (λ (table : Table). AreFirst table (firsts_of (set_value_at es t.0 k)) known) (sym table_defined) (first_defined f);
    }
