use Rattle.std.proofs.Common.{◌≡◌, ◌≢◌, ℕ, zero, suc, ◌<◌, ◌≤◌, Bool, true, false, cond, List, [], ◌∷◌, ◌++◌, length, get_or, map, Option, None, Some, refl, ap, sym, subst, ◌∙◌, inl, inr, ◌⊎◌, true≢false, arith}
use Rattle.std.specs.List.{All, position}
use Rattle.std.specs.Map.{keys_of, lookup}
use Rattle.std.proofs.lemmas.Map.{NonePasses, none_passes_from_lookup}
use Rattle.std.specs.Option.{is_some}
use Rattle.std.proofs.Math.Nat.{mul-pos}
use Rattle.std.proofs.lemmas.Bool.{cases_lt}
use Rattle.std.proofs.lemmas.List.{get_or_past, get_or_append_left, map-append, length-map, length-append, get_or-map}
use Rattle.std.proofs.lemmas.List.Quantifiers.{position-Some}
use Rattle.std.proofs.lemmas.List.Sums.{sum_by_push}
use Rattle.std.proofs.lemmas.List.Elements.{All-nil, All-cons, All-contains}
use Rattle.std.proofs.Math.Seq.{get_or-append_seam}
use Rattle.indexmap.specs.IndexMap.{insert_entry}
use Rattle.cc_base.specs.declared.number.TypeId.{TypeId}
use Rattle.c_types.specs.declared.layout.Layout.{Layout}
use Rattle.c_types.specs.declared.kept.FieldPlace.{FieldPlace}
use Rattle.c_types.specs.declared.kept.Kept.{Kept}
use Rattle.c_types.specs.declared.shape.TypeShape.{TypeShape}
use Rattle.c_types.specs.declared.shape.TypeShape.TheVariants.{Void, Integer, Pointer, Array, Function, Struct, Union}
use Rattle.c_types.specs.Table.{Table, Entry, void_entry, entry_at, shape_at, members_at, parts_of_shape, named_by, IsType, IsComplete, is_complete, HasShape}
use Rattle.c_types.specs.Layouts.{layout_of, size_of}
use Rattle.c_types.specs.PointerCounts.{pointers_of_shape, pointers_in}
use Rattle.c_types.specs.Sound.{IsFormed, IsSized, IsWellFormed}
use Rattle.c_types.specs.Kept.{KeptEntry, KnownShape, AreFirst, IsSound, IsKeptOf, table_of, entry_of, firsts_of}
use Rattle.c_types.specs.Calls.{IsNew, IsAddable, basic_entry, new_layout}
use Rattle.c_types.proofs.Shapes.{shape_eq, same_shape, own_shape, other_shape}
use Rattle.c_types.proofs.Growth.{Changes}
use Rattle.c_types.proofs.PointerCounts.{pointers_here}
use Rattle.c_types.proofs.Upkeep.{other_layout, own_layout, kept_other, formed_after}

-- Finding a shape in the table, and adding a type at its end.

-- the keys are the shapes
pub shapes_are : (es : List KeptEntry) → map (λ (e : Entry). e.shape) (table_of es) ≡ keys_of es
shapes_are [] = refl
shapes_are (p ∷ es) = ap (λ ks. p.0 ∷ ks) (shapes_are es)

key_at : (es : List KeptEntry) (i : ℕ) (d : TypeShape) → i < length es → get_or (keys_of es) i d ≡ shape_at (table_of es) (record { 0 = i })
key_at es i d b =
    ap (λ ks. get_or ks i d) (sym (shapes_are es))
    ∙ get_or-map (λ (e : Entry). e.shape) (table_of es) i void_entry d (subst (λ n. i < n) (sym (length-map es entry_of)) b)

pub found : (es : List KeptEntry) (shape : TypeShape) (i : ℕ) → position (shape_eq shape) (keys_of es) ≡ Some i → HasShape (table_of es) (record { 0 = i }) shape
found es shape i h =
    let p = position-Some (shape_eq shape) (keys_of es) i shape h in
    let b : i < length es = subst (λ n. i < n) (length-map es (λ (q : KeptEntry). q.0)) p.0 in (
      subst (λ n. i < n) (sym (length-map es entry_of)) b,
      sym (key_at es i shape b) ∙ sym (same_shape shape (get_or (keys_of es) i shape) p.1),
    )

passes_none : (test : TypeShape → Bool) (es : List KeptEntry) → NonePasses test es → (i : ℕ) (d : TypeShape) → i < length es → test (get_or (keys_of es) i d) ≡ false
passes_none test [] n i d b = absurd (omega arith)
passes_none test (e ∷ es) n zero d b = n.0
passes_none test (e ∷ es) n (suc i) d b = passes_none test es n.1 i d (omega arith)

none_from : {A : Type 0} (o : Option A) → is_some o ≡ false → o ≡ None
none_from None h = refl
none_from (Some x) h = absurd (true≢false h)

pub absent : (es : List KeptEntry) (shape : TypeShape) → is_some (lookup (shape_eq shape) es) ≡ false → IsNew (table_of es) shape
absent es shape h t s =
    let b : t.0 < length es = subst (λ n. t.0 < n) (length-map es entry_of) s.0 in
    let k = passes_none (shape_eq shape) es (none_passes_from_lookup (shape_eq shape) es (none_from (lookup (shape_eq shape) es) h)) t.0 shape b in
    true≢false (sym (own_shape shape) ∙ ap (shape_eq shape) (sym (key_at es t.0 shape b ∙ s.1)) ∙ k)

-- a new shape is put last
put_last : (es : List KeptEntry) (shape : TypeShape) (kept : Kept) → ((i : ℕ) → i < length es → shape_at (table_of es) (record { 0 = i }) ≡ shape → ⊥)
    → insert_entry shape_eq es shape kept ≡ es ++ (shape, kept) ∷ []
put_last [] shape kept n = refl
put_last (e ∷ es) shape kept n =
    ap (λ b. cond b ((e.0, kept) ∷ es) (e ∷ insert_entry shape_eq es shape kept)) (other_shape shape e.0 (λ s. n zero (omega arith) (sym s)))
    ∙ ap (λ l. e ∷ l) (put_last es shape kept (λ i b. n (suc i) (omega arith)))

pub put_new : (es : List KeptEntry) (shape : TypeShape) (kept : Kept) → IsNew (table_of es) shape
    → insert_entry shape_eq es shape kept ≡ es ++ (shape, kept) ∷ []
put_new es shape kept n = put_last es shape kept (λ i b s. n (record { 0 = i }) (subst (λ k. i < k) (sym (length-map es entry_of)) b, s))

-- ---- a type at the end of a table

module _ (old : Table) (e : Entry) (parts : All (IsComplete old) (parts_of_shape e.shape e.members)) where
  other_entry : (u : TypeId) → u.0 ≢ length old → entry_at (old ++ e ∷ []) u ≡ entry_at old u
  other_entry u n = elim (cases_lt u.0 (length old)) [
    | inl l ↦ get_or_append_left old (e ∷ []) void_entry u.0 l
    | inr g ↦
        let m : length old < u.0 = omega arith in
        get_or_past (old ++ e ∷ []) u.0 void_entry (omega (arith, length-append old (e ∷ [])))
        ∙ sym (get_or_past old u.0 void_entry g)
  ]

  pub appends : Changes old (old ++ e ∷ []) (record { 0 = length old }) e
  appends = record {
    here = get_or-append_seam old e [] void_entry;
    other = other_entry;
    vague = ap is_complete (get_or_past old (length old) void_entry (omega arith));
    longer = omega (arith, length-append old (e ∷ []));
    count = sum_by_push (λ d. cond (is_complete d) 1 0) old e;
    parts = parts;
  }

-- a new complete type has a byte, and is aligned to 8 bytes at most
new_sized : (table : Table) (shape : TypeShape) → IsWellFormed table → IsAddable table shape → is_complete (basic_entry shape) ≡ true
    → (0 < (new_layout table shape).size) × (0 < (new_layout table shape).align) × ((new_layout table shape).align ≤ 8)
new_sized table Void w a h = absurd (true≢false (sym h))
new_sized table (Integer bytes signed) w a h = let p = a.proper in (omega arith, omega arith, omega arith)
new_sized table (Pointer node to) w a h = (omega arith, omega arith, omega arith)
new_sized table (Array element count) w a h =
    let s = w.sized element a.parts in let p : 0 < count = a.proper in
    (mul-pos p s.some, s.aligned, s.narrow)
new_sized table (Function parameters result) w a h = absurd (true≢false (sym h))
new_sized table (Struct tag) w a h = absurd (true≢false (sym h))
new_sized table (Union tag) w a h = absurd (true≢false (sym h))

new_parts : (table : Table) (shape : TypeShape) → IsAddable table shape → All (IsComplete table) (parts_of_shape shape [])
new_parts table Void a = All-nil (IsComplete table)
new_parts table (Integer bytes signed) a = All-nil (IsComplete table)
new_parts table (Pointer node to) a = All-nil (IsComplete table)
new_parts table (Array element count) a = All-cons (IsComplete table) element [] a.parts (All-nil (IsComplete table))
new_parts table (Function parameters result) a = All-nil (IsComplete table)
new_parts table (Struct tag) a = All-nil (IsComplete table)
new_parts table (Union tag) a = All-nil (IsComplete table)

new_formed : (table : Table) (shape : TypeShape) → IsAddable table shape → IsFormed table (basic_entry shape)
new_formed table shape a = record { proper = a.proper; named = a.named; parts = new_parts table shape a; plain = inr refl }

same_number : (t u : TypeId) → t.0 ≡ u.0 → t ≡ u
same_number t u s = ap (λ (n : ℕ). record { 0 = n }) s

module _ (old : Table) (shape : TypeShape) where
  -- a type of the longer table is the last or one of the others
  pub place : (u : TypeId) → IsType (old ++ basic_entry shape ∷ []) u → (u.0 ≡ length old) ⊎ (u.0 < length old)
  place u h = elim (cases_lt u.0 (length old)) [
    | inl l ↦ inr l
    | inr g ↦ inl (omega (arith, length-append old (basic_entry shape ∷ [])))
  ]

  pub shape_old : (u : TypeId) → u.0 < length old → shape_at (old ++ basic_entry shape ∷ []) u ≡ shape_at old u
  shape_old u l = ap (λ (d : Entry). d.shape) (get_or_append_left old (basic_entry shape ∷ []) void_entry u.0 l)

  pub shape_last : (u : TypeId) → u.0 ≡ length old → shape_at (old ++ basic_entry shape ∷ []) u ≡ shape
  shape_last u s =
      ap (λ (i : ℕ). shape_at (old ++ basic_entry shape ∷ []) (record { 0 = i })) s
      ∙ ap (λ (d : Entry). d.shape) (get_or-append_seam old (basic_entry shape) [] void_entry)

module _ (old : Table) (shape : TypeShape) (w : IsWellFormed old) (n : IsNew old shape) (a : IsAddable old shape) where
  e : Entry
  e = basic_entry shape

  change : Changes old (old ++ basic_entry shape ∷ []) (record { 0 = length old }) (basic_entry shape)
  change = appends old (basic_entry shape) (new_parts old shape a)

  distinct_after : (u v : TypeId) → IsType (old ++ basic_entry shape ∷ []) u
      → HasShape (old ++ basic_entry shape ∷ []) v (shape_at (old ++ basic_entry shape ∷ []) u) → u ≡ v
  distinct_after u v h k = elim (place old shape u h) [
    | inl s ↦ elim (place old shape v k.0) [
      | inl r ↦ same_number u v (s ∙ sym r)
      | inr l ↦ absurd (n v (l, sym (shape_old old shape v l) ∙ k.1 ∙ shape_last old shape u s))
    ]
    | inr l ↦ elim (place old shape v k.0) [
      | inl r ↦ absurd (n u (l, sym (shape_old old shape u l) ∙ sym k.1 ∙ shape_last old shape v r))
      | inr m ↦ w.distinct u v l (m, sym (shape_old old shape v m) ∙ k.1 ∙ shape_old old shape u l)
    ]
  ]

  pub layouts_others : (u : TypeId) → u.0 < length old → layout_of (old ++ basic_entry shape ∷ []) u ≡ layout_of old u
  layouts_others u l = other_layout old (old ++ basic_entry shape ∷ []) (record { 0 = length old }) (basic_entry shape) change w (new_formed old shape a) u (λ s. omega arith)

  pub layout_last : layout_of (old ++ basic_entry shape ∷ []) (record { 0 = length old }) ≡ new_layout old shape
  layout_last = own_layout old (old ++ basic_entry shape ∷ []) (record { 0 = length old }) (basic_entry shape) change w (new_formed old shape a)

  pub pointers_last : pointers_in (old ++ basic_entry shape ∷ []) (record { 0 = length old }) ≡ pointers_of_shape (size_of old) (pointers_in old) shape []
  pointers_last = pointers_here old (old ++ basic_entry shape ∷ []) (record { 0 = length old }) (basic_entry shape) change w (new_formed old shape a)

  sized_last : (new_layout old shape).size ≤ 1048576 → IsComplete (old ++ basic_entry shape ∷ []) (record { 0 = length old }) → IsSized (old ++ basic_entry shape ∷ []) (record { 0 = length old })
  sized_last most h =
      let s = new_sized old shape w a (sym (ap is_complete (get_or-append_seam old (basic_entry shape) [] void_entry)) ∙ h) in
      record {
        some = subst (λ (l : Layout). 0 < l.size) (sym layout_last) s.0;
        most = subst (λ (l : Layout). l.size ≤ 1048576) (sym layout_last) most;
        aligned = subst (λ (l : Layout). 0 < l.align) (sym layout_last) s.1;
        narrow = subst (λ (l : Layout). l.align ≤ 8) (sym layout_last) s.2;
      }

  pub formed_added : length old < 16384 → (new_layout old shape).size ≤ 1048576 → IsWellFormed (old ++ basic_entry shape ∷ [])
  formed_added room most =
      formed_after old (old ++ basic_entry shape ∷ []) (record { 0 = length old }) (basic_entry shape) change w (new_formed old shape a)
      (omega (arith, length-append old (basic_entry shape ∷ []))) distinct_after (sized_last most)
      (λ u c. All-contains (IsType old) (named_by shape) u a.named c)

  pub kept_others : (u : TypeId) (k : Kept) → u.0 < length old → map (λ (p : FieldPlace). p.ty) k.fields.items ≡ members_at old u
      → IsKeptOf old u k → IsKeptOf (old ++ basic_entry shape ∷ []) u k
  kept_others u k l =
      kept_other old (old ++ basic_entry shape ∷ []) (record { 0 = length old }) (basic_entry shape) change w (new_formed old shape a) u k (λ s. omega arith)

-- ---- what the struct keeps

module _ (es : List KeptEntry) (shape : TypeShape) (kept : Kept) (empty : kept.fields.items ≡ []) where
  pub table_added : table_of (es ++ (shape, kept) ∷ []) ≡ table_of es ++ basic_entry shape ∷ []
  table_added =
      map-append entry_of es ((shape, kept) ∷ [])
      ∙ ap (λ (xs : List FieldPlace). table_of es ++ (record { shape = shape; members = map (λ (p : FieldPlace). p.ty) xs }) ∷ []) empty

  module _ (known after : List KnownShape) (s : IsSound es known) (n : IsNew (table_of es) shape) (a : IsAddable (table_of es) shape)
      (l : kept.layout ≡ new_layout (table_of es) shape)
      (q : kept.pointers ≡ pointers_of_shape (size_of (table_of es)) (pointers_in (table_of es)) shape []) where
    kept_old : (i : ℕ) (d : KeptEntry) → i < length es → IsKeptOf (table_of es ++ basic_entry shape ∷ []) (record { 0 = i }) (get_or es i d).1
    kept_old i d b =
        kept_others (table_of es) shape s.formed n a (record { 0 = i }) (get_or es i d).1 (omega (arith, length-map es entry_of))
        (sym (ap (λ (e : Entry). e.members) (get_or-map entry_of es i d void_entry b))) (s.kept i d b)

    kept_last : IsKeptOf (table_of es ++ basic_entry shape ∷ []) (record { 0 = length es }) kept
    kept_last =
        let P : ℕ → Type 0 = λ i. IsKeptOf (table_of es ++ basic_entry shape ∷ []) (record { 0 = i }) kept in
        subst P (length-map es entry_of) (record {
          layout = l ∙ sym (layout_last (table_of es) shape s.formed n a);
          pointers = q ∙ sym (pointers_last (table_of es) shape s.formed n a);
          offsets = λ i d b. absurd (omega (arith, ap length empty));
        })

    kept_each : (i : ℕ) (d : KeptEntry) → i < length (es ++ (shape, kept) ∷ [])
        → IsKeptOf (table_of es ++ basic_entry shape ∷ []) (record { 0 = i }) (get_or (es ++ (shape, kept) ∷ []) i d).1
    kept_each i d b = elim (cases_lt i (length es)) [
      | inl m ↦
          let P : KeptEntry → Type 0 = λ p. IsKeptOf (table_of es ++ basic_entry shape ∷ []) (record { 0 = i }) p.1 in
          subst P (sym (get_or_append_left es ((shape, kept) ∷ []) d i m)) (kept_old i d m)
      | inr g ↦
          let e : length es ≡ i = omega (arith, length-append es ((shape, kept) ∷ [])) in
          let P : ℕ → Type 0 = λ j. IsKeptOf (table_of es ++ basic_entry shape ∷ []) (record { 0 = j }) (get_or (es ++ (shape, kept) ∷ []) j d).1 in
          let Q : KeptEntry → Type 0 = λ p. IsKeptOf (table_of es ++ basic_entry shape ∷ []) (record { 0 = length es }) p.1 in
          subst P e (subst Q (sym (get_or-append_seam es (shape, kept) [] d)) kept_last)
    ]

    pub sound_added : length (table_of es) < 16384 → kept.layout.size ≤ 1048576
        → AreFirst (table_of es ++ basic_entry shape ∷ []) (firsts_of es ++ kept.first ∷ []) after → IsSound (es ++ (shape, kept) ∷ []) after
    sound_added room most f = record {
      formed = subst IsWellFormed (sym table_added) (formed_added (table_of es) shape s.formed n a room (subst (λ (k : Layout). k.size ≤ 1048576) l most));
      kept = λ i d b. let P : Table → Type 0 = λ table. IsKeptOf table (record { 0 = i }) (get_or (es ++ (shape, kept) ∷ []) i d).1 in subst P (sym table_added) (kept_each i d b);
      first =
          subst (λ (table : Table). AreFirst table (firsts_of (es ++ (shape, kept) ∷ [])) after) (sym table_added)
          (subst (λ (firsts : List TypeId). AreFirst (table_of es ++ basic_entry shape ∷ []) firsts after)
          (sym (map-append (λ (p : KeptEntry). p.1.first) es ((shape, kept) ∷ []))) f);
    }

-- the empty table
each_empty : (t : TypeId) → IsFormed [] (entry_at [] t)
each_empty t = record { proper = tt; named = All-nil (IsType []); parts = All-nil (IsComplete []); plain = inr refl }

pub formed_empty : IsWellFormed []
formed_empty = record {
  small = omega arith;
  each = each_empty;
  distinct = λ t u b h. absurd (omega arith);
  sized = λ t h. absurd (true≢false (sym h));
  order = (λ t. 0, record { below = λ t. omega arith; complete = λ t h. absurd (true≢false (sym h)); falls = λ t part c. absurd (omega (arith, c.1)) });
  built = λ t u c. absurd (omega (arith, c.1));
}

pub sound_empty : (es : List KeptEntry) (known : List KnownShape) → es ≡ [] → known ≡ [] → IsSound es known
sound_empty es known e f = subst (λ (xs : List KeptEntry). IsSound xs known) (sym e) (subst (IsSound []) (sym f) nothing)
  where
    nothing : IsSound [] []
    nothing = record {
      formed = formed_empty;
      kept = λ i d b. absurd (omega arith);
      first = record {
        each = λ t b. absurd (omega arith);
        shaped = λ shape t c. absurd (omega (arith, c.1));
        unique = λ shape t u c d. absurd (omega (arith, c.1));
      };
    }
