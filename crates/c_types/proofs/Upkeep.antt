use Rattle.std.proofs.Common.{◌≡◌, ◌≢◌, ℕ, ◌<◌, ◌≤◌, List, length, get_or, take, map, refl, ap, sym, subst, ◌∙◌, inl, inr, arith}
use Rattle.std.specs.List.{Contains}
use Rattle.std.proofs.lemmas.Bool.Decides.{eqb_tells}
use Rattle.std.proofs.lemmas.List.{length-map}
use Rattle.std.proofs.lemmas.List.Elements.{All-contains, Contains-get_or}
use Rattle.cc_base.specs.declared.number.TypeId.{TypeId}
use Rattle.c_types.specs.declared.layout.Layout.{Layout}
use Rattle.c_types.specs.declared.kept.FieldPlace.{FieldPlace}
use Rattle.c_types.specs.declared.kept.Kept.{Kept}
use Rattle.c_types.specs.declared.shape.TypeShape.{TypeShape}
use Rattle.c_types.specs.declared.shape.TypeShape.TheVariants.{Struct}
use Rattle.c_types.specs.Table.{Table, Entry, entry_at, shape_at, members_at, parts_of_shape, named_by, IsType, IsComplete, is_complete, HasShape}
use Rattle.c_types.specs.Layouts.{layout_of_shape, layout_of, offset_of_shape, offset_of, offset_after}
use Rattle.c_types.specs.Sound.{IsFormed, IsSized, IsWellFormed}
use Rattle.c_types.specs.Kept.{IsKeptOf}
use Rattle.c_types.proofs.Lists.{map_same, contains_take}
use Rattle.c_types.proofs.PointerCounts.{pointers_other}
use Rattle.c_types.proofs.Growth.{Changes, not_here, each_formed, layout_other, layout_here, rank_after, ranked_after}

-- What is kept of the types stays right where the table changes.

-- an offset depends on the layouts of the members alone
pub offset_local : (f g : TypeId → Layout) (shape : TypeShape) (members : List TypeId) (i : ℕ) (d : TypeId) → i < length members
    → ((m : TypeId) → Contains (parts_of_shape shape members) m → f m ≡ g m)
    → offset_of_shape shape (map f (take i members)) (f (get_or members i d)) ≡ offset_of_shape shape (map g (take i members)) (g (get_or members i d))
offset_local f g (Struct tag) members i d b h =
    λ j. offset_after (map_same f g (take i members) (λ m k. h m (contains_take i members m k)) j)
    (h (get_or members i d) (Contains-get_or members i d b) j)
offset_local f g shape members i d b h = refl

module _ (old new : Table) (t : TypeId) (e : Entry) (c : Changes old new t e) (w : IsWellFormed old) (f : IsFormed old e) where
  rank : TypeId → ℕ
  rank = w.order.0

  pub other_layout : (u : TypeId) → u.0 ≢ t.0 → layout_of new u ≡ layout_of old u
  other_layout = layout_other old new t e c w.order.0 w.order.1 w.each

  pub own_layout : layout_of new t ≡ layout_of_shape (layout_of old) e.shape e.members
  own_layout = layout_here old new t e c w.order.0 w.order.1 w.each

  pub part_layout : (d : Entry) → IsFormed old d → (m : TypeId) → Contains (parts_of_shape d.shape d.members) m → layout_of new m ≡ layout_of old m
  part_layout d g m k = other_layout m (not_here old new t e c m (All-contains (IsComplete old) (parts_of_shape d.shape d.members) m g.parts k))

  pub other_offset : (u : TypeId) (i : ℕ) → u.0 ≢ t.0 → i < length (members_at old u) → offset_of new u i ≡ offset_of old u i
  other_offset u i n b =
      ap (λ (d : Entry). offset_of_shape d.shape (map (layout_of new) (take i d.members)) (layout_of new (get_or d.members i u))) (c.other u n)
      ∙ offset_local (layout_of new) (layout_of old) (shape_at old u) (members_at old u) i u b (part_layout (entry_at old u) (w.each u))

  pub own_offset : (i : ℕ) → i < length e.members → offset_of new t i ≡ offset_of_shape e.shape (map (layout_of old) (take i e.members)) (layout_of old (get_or e.members i t))
  own_offset i b =
      ap (λ (d : Entry). offset_of_shape d.shape (map (layout_of new) (take i d.members)) (layout_of new (get_or d.members i t))) c.here
      ∙ offset_local (layout_of new) (layout_of old) e.shape e.members i t b (part_layout e f)

  -- what is kept of another type stays right
  pub kept_other : (u : TypeId) (k : Kept) → u.0 ≢ t.0 → map (λ (p : FieldPlace). p.ty) k.fields.items ≡ members_at old u → IsKeptOf old u k → IsKeptOf new u k
  kept_other u k n m h = record {
    layout = h.layout ∙ sym (other_layout u n);
    pointers = h.pointers ∙ sym (pointers_other old new t e c w f u n);
    offsets = λ i d b.
        let l : length k.fields.items ≡ length (members_at old u) = sym (length-map k.fields.items (λ (p : FieldPlace). p.ty)) ∙ ap length m in
        h.offsets i d b ∙ sym (other_offset u i n (omega arith));
  }

  -- a size fits
  pub Fits : Layout → Type 0
  Fits l = (0 < l.size) × (l.size ≤ 1048576) × (0 < l.align) × (l.align ≤ 8)

  sized_other : (u : TypeId) → u.0 ≢ t.0 → IsSized old u → IsSized new u
  sized_other u n s = record {
    some = subst (λ (l : Layout). 0 < l.size) (sym (other_layout u n)) s.some;
    most = subst (λ (l : Layout). l.size ≤ 1048576) (sym (other_layout u n)) s.most;
    aligned = subst (λ (l : Layout). 0 < l.align) (sym (other_layout u n)) s.aligned;
    narrow = subst (λ (l : Layout). l.align ≤ 8) (sym (other_layout u n)) s.narrow;
  }

  -- the table stays well formed
  pub formed_after : length new ≤ 16384
      → ((u v : TypeId) → IsType new u → HasShape new v (shape_at new u) → u ≡ v)
      → (IsComplete new t → IsSized new t) → ((u : TypeId) → Contains (named_by e.shape) u → u.0 < t.0) → IsWellFormed new
  formed_after small distinct sized built = record {
    small = small;
    each = each_formed old new t e c w.each f;
    distinct = distinct;
    sized = λ u k. elim (eqb_tells u.0 t.0) [
      | inl s ↦ let P : ℕ → Type 0 = λ n. IsComplete new (record { 0 = n }) → IsSized new (record { 0 = n }) in subst P (sym s.1) sized k
      | inr n ↦ sized_other u n.1 (w.sized u (sym (ap is_complete (c.other u n.1)) ∙ k))
    ];
    order = (rank_after old new t e c w.order.0, ranked_after old new t e c w.order.0 w.order.1 w.each);
    built = λ u v k. elim (eqb_tells u.0 t.0) [
      | inl s ↦
          let P : ℕ → Type 0 = λ n. Contains (named_by (shape_at new (record { 0 = n }))) v → v.0 < n in
          subst P (sym s.1) (λ j. built v (subst (λ (d : Entry). Contains (named_by d.shape) v) c.here j)) k
      | inr n ↦ w.built u v (subst (λ (d : Entry). Contains (named_by d.shape) v) (c.other u n.1) k)
    ];
  }
