-- A type that the table of the whole text has is found in the table so far, or it is the next one, and is added there.
use Rattle.std.proofs.Common.{◌≡◌, ◌≢◌, ℕ, ◌<◌, ◌≤◌, Bool, true, false, [], ◌∷◌, ◌++◌, length, Option, Some, None, refl, ap, sym, subst, ◌∙◌, inl, inr, ◌⊎◌, nat_lt, nat_le, arith}
use Rattle.std.specs.List.{All}
use Rattle.std.proofs.lemmas.Bool.Decides.{Decides-ltb, eqb_tells, leb_tells}
use Rattle.std.proofs.lemmas.List.{length-append}
use Rattle.std.proofs.lemmas.List.Elements.{All-contains}
use Rattle.cc_base.specs.declared.place.Place.{Place}
use Rattle.cc_base.specs.declared.number.TypeId.{TypeId}
use Rattle.c_types.specs.declared.layout.Layout.{Layout}
use Rattle.c_types.specs.declared.shape.TypeShape.{TypeShape}
use Rattle.c_types.specs.declared.shape.TypeShape.TheVariants.{Void, Integer, Pointer, Array, Function, Struct, Union}
use Rattle.c_types.specs.Table.{Table, Entry, HasShape, IsType, IsComplete, entry_at, shape_at, is_complete, is_aggregate_shape, parts_of_shape}
use Rattle.c_types.specs.Calls.{basic_entry, new_layout}
use Rattle.c_types.specs.Layouts.{layout_of, layout_of_shape}
use Rattle.c_types.specs.Sound.{IsWellFormed}
use Rattle.c_types.proofs.Adding.{appends}
use Rattle.c_types.proofs.Descent.{layout_is, layout_local}
use Rattle.c_types.proofs.Growth.{Changes, layout_other, layout_here}
use Rattle.c_typing.specs.Extensions.{IsExtended}
use Rattle.c_typing.specs.Judging.{State, Outcome, Gives, type_among, there_or_added, type_with}
use Rattle.c_typing.specs.Rules.{number_of_shape}
use Rattle.c_typing.specs.Settled.{IsBasic, IsKnown}
use Rattle.c_typing_laws.proofs.ExtensionLaws.{no_true, still_in}
use Rattle.c_typing.proofs.TypeSearch.{type-found, type-absent}
use Rattle.c_type_order.specs.TypesUsed.{IsUse}

-- A table that changes at one place, where no complete type was, goes on to T where it had there what T has

module _ (T : Table) (basic : IsBasic T) (J N : Table) (t : TypeId) (e : Entry) (w : IsWellFormed J) (first : IsExtended J T) (c : Changes J N t e)
    (short : length N ≤ length T) (shape : shape_at T t ≡ e.shape) (whole : is_complete e ≡ true → entry_at T t ≡ e)
    (old : (u : TypeId) → IsType N u → u.0 ≢ t.0 → IsType J u) where
  entry_here : (u : TypeId) → u.0 ≡ t.0 → entry_at N u ≡ e
  entry_here u s = ap (λ (n : ℕ). entry_at N (record { 0 = n })) s ∙ c.here

  shapes_first : (u : TypeId) → IsType N u → shape_at T u ≡ shape_at N u
  shapes_first u h = elim (eqb_tells u.0 t.0) [
    | inl s ↦ ap (λ (n : ℕ). shape_at T (record { 0 = n })) s.1 ∙ shape ∙ sym (ap (λ (d : Entry). d.shape) (entry_here u s.1))
    | inr n ↦ first.shapes u (old u h n.1) ∙ sym (ap (λ (d : Entry). d.shape) (c.other u n.1))
  ]

  complete_first : (u : TypeId) → IsComplete N u → entry_at T u ≡ entry_at N u
  complete_first u h = elim (eqb_tells u.0 t.0) [
    | inl s ↦ ap (λ (n : ℕ). entry_at T (record { 0 = n })) s.1 ∙ whole (sym (ap is_complete (entry_here u s.1)) ∙ h) ∙ sym (entry_here u s.1)
    | inr n ↦ first.complete u (sym (ap is_complete (c.other u n.1)) ∙ h) ∙ sym (c.other u n.1)
  ]

  pub own-layout : is_complete e ≡ true → layout_of T t ≡ layout_of_shape (layout_of J) e.shape e.members
  own-layout full =
      layout_is T basic.formed.order.0 basic.formed.order.1 t
      ∙ ap (λ (d : Entry). layout_of_shape (layout_of T) d.shape d.members) (whole full)
      ∙ layout_local (layout_of T) (layout_of J) e.shape e.members
      (λ m k. first.layouts m (All-contains (IsComplete J) (parts_of_shape e.shape e.members) m c.parts k))

  layouts_first : (u : TypeId) → IsComplete N u → layout_of T u ≡ layout_of N u
  layouts_first u h = elim (eqb_tells u.0 t.0) [
    | inl s ↦
        ap (λ (n : ℕ). layout_of T (record { 0 = n })) s.1
        ∙ own-layout (sym (ap is_complete (entry_here u s.1)) ∙ h)
        ∙ sym (layout_here J N t e c w.order.0 w.order.1 w.each)
        ∙ sym (ap (λ (n : ℕ). layout_of N (record { 0 = n })) s.1)
    | inr n ↦
        first.layouts u (sym (ap is_complete (c.other u n.1)) ∙ h)
        ∙ sym (layout_other J N t e c w.order.0 w.order.1 w.each u n.1)
  ]

  pub changed-first : IsExtended N T
  changed-first = record { longer = short; shapes = shapes_first; complete = complete_first; layouts = layouts_first }

-- What a type without members is

basic_plain : (x : TypeShape) → is_complete (basic_entry x) ≡ true → is_aggregate_shape x ≡ false
basic_plain Void h = no_true h
basic_plain (Integer bytes signed) h = refl
basic_plain (Pointer n t) h = refl
basic_plain (Array t n) h = refl
basic_plain (Function ps r) h = refl
basic_plain (Struct n) h = no_true h
basic_plain (Union n) h = no_true h

pub lt_true : (a b : ℕ) → a < b → nat_lt a b ≡ true
lt_true a b h = (Decides-ltb a b).1 h

pub le_true : (a b : ℕ) → a ≤ b → nat_le a b ≡ true
le_true a b h = elim (leb_tells a b) [ inl t ↦ t.0 | inr f ↦ absurd (omega (arith, f.1)) ]

pub same_id : (t u : TypeId) → t.0 ≡ u.0 → t ≡ u
same_id t u h = ap (λ (n : ℕ). record { 0 = n }) h

-- No struct or union gets its members from one table to the next one

abbrev pub DefinesNone : Table → Table → Type 0
DefinesNone J N = (t : TypeId) (n : ℕ) → number_of_shape (shape_at N t) ≡ Some n → IsComplete N t → (number_of_shape (shape_at J t) ≡ Some n) × IsComplete J t

pub none-same : (J : Table) → DefinesNone J J
none-same J t n h full = (h, full)

pub none-both : (J M N : Table) → DefinesNone J M → DefinesNone M N → DefinesNone J N
none-both J M N p q t n h full = let k = q t n h full in p t n k.0 k.1

plain_number : (x : TypeShape) (n : ℕ) → is_aggregate_shape x ≡ false → number_of_shape x ≡ Some n → ⊥
plain_number Void n h k = absurd (let e : ◌≡◌ {A = Option ℕ} None (Some n) = k in cc)
plain_number (Integer bytes signed) n h k = absurd (let e : ◌≡◌ {A = Option ℕ} None (Some n) = k in cc)
plain_number (Pointer m t) n h k = absurd (let e : ◌≡◌ {A = Option ℕ} None (Some n) = k in cc)
plain_number (Array t m) n h k = absurd (let e : ◌≡◌ {A = Option ℕ} None (Some n) = k in cc)
plain_number (Function ps r) n h k = absurd (let e : ◌≡◌ {A = Option ℕ} None (Some n) = k in cc)
plain_number (Struct m) n h k = no_true (sym h)
plain_number (Union m) n h k = no_true (sym h)

added_none : (J : Table) (x : TypeShape) → All (IsComplete J) (parts_of_shape x []) → DefinesNone J (J ++ basic_entry x ∷ [])
added_none J x parts t n h full = elim (eqb_tells t.0 (length J)) [
  | inl s ↦
      let here : entry_at (J ++ basic_entry x ∷ []) t ≡ basic_entry x =
      ap (λ (m : ℕ). entry_at (J ++ basic_entry x ∷ []) (record { 0 = m })) s.1 ∙ (appends J (basic_entry x) parts).here in
      absurd (plain_number x n (basic_plain x (sym (ap is_complete here) ∙ full)) (sym (ap (λ (e : Entry). number_of_shape e.shape) here) ∙ h))
  | inr m ↦
      let same : entry_at (J ++ basic_entry x ∷ []) t ≡ entry_at J t = (appends J (basic_entry x) parts).other t m.1 in
      (sym (ap (λ (e : Entry). number_of_shape e.shape) same) ∙ h, sym (ap is_complete same) ∙ full)
]

module _ (T : Table) (basic : IsBasic T) where
  -- an entry of T that is complete without members has none
  basic_whole : (t : TypeId) (x : TypeShape) → shape_at T t ≡ x → is_complete (basic_entry x) ≡ true → entry_at T t ≡ basic_entry x
  basic_whole t x h full = by (basic.formed.each t).plain
    where
      by : is_aggregate_shape (shape_at T t) ≡ true ⊎ ((entry_at T t).members ≡ []) → entry_at T t ≡ basic_entry x
      by (inl a) = no_true (sym (basic_plain x full) ∙ sym (ap is_aggregate_shape h) ∙ a)
      by (inr m) = (λ i. record { shape = h i; members = m i })

  module _ (J : Table) (w : IsWellFormed J) (first : IsExtended J T) (x : TypeShape) (t : TypeId) (has : HasShape T t x) (next : t.0 ≡ length J)
      (parts : All (IsComplete J) (parts_of_shape x [])) where
    N : Table
    N = J ++ basic_entry x ∷ []

    last : TypeId
    last = record { 0 = length J }

    last_shape : shape_at T (record { 0 = length J }) ≡ x
    last_shape = ap (λ (n : ℕ). shape_at T (record { 0 = n })) (sym next) ∙ has.1

    old_type : (u : TypeId) → IsType (J ++ basic_entry x ∷ []) u → u.0 ≢ length J → IsType J u
    old_type u h n = omega (arith, n, h, length-append J (basic_entry x ∷ []))

    pub added-first : IsExtended (J ++ basic_entry x ∷ []) T
    added-first =
        changed-first T basic J (J ++ basic_entry x ∷ []) (record { 0 = length J }) (basic_entry x) w first (appends J (basic_entry x) parts)
        (let b = has.0 in omega (arith, b, next, length-append J (basic_entry x ∷ []))) last_shape (basic_whole (record { 0 = length J }) x last_shape) old_type

    open_small : (y : TypeShape) → is_complete (basic_entry y) ≡ false → (new_layout J y).size ≤ 1048576
    open_small Void h = omega arith
    open_small (Function ps r) h = omega arith
    open_small (Struct n) h = omega arith
    open_small (Union n) h = omega arith
    open_small (Integer bytes signed) h = no_true (sym h)
    open_small (Pointer n u) h = no_true (sym h)
    open_small (Array u n) h = no_true (sym h)

    small_by : (full : Bool) → is_complete (basic_entry x) ≡ full → (new_layout J x).size ≤ 1048576
    small_by false h = open_small x h
    small_by true h =
        let same =
        own-layout T basic J (J ++ basic_entry x ∷ []) (record { 0 = length J }) (basic_entry x) w first (appends J (basic_entry x) parts)
        (let b = has.0 in omega (arith, b, next, length-append J (basic_entry x ∷ []))) last_shape (basic_whole (record { 0 = length J }) x last_shape) old_type h in
        subst (λ (l : Layout). l.size ≤ 1048576) same
        (basic.formed.sized (record { 0 = length J }) (ap is_complete (basic_whole (record { 0 = length J }) x last_shape h) ∙ h)).most

    pub added-small : nat_le (new_layout J x).size 1048576 ≡ true
    added-small = le_true (new_layout J x).size 1048576 (small_by (is_complete (basic_entry x)) refl)

    pub added-room : nat_lt (length J) 16384 ≡ true
    added-room = let a = has.0 in let b = basic.formed.small in lt_true (length J) 16384 (omega (arith, a, b, next))

  -- The type with the shape

  -- what gives a type: T goes on from the table after it, which has so many types, and nothing else changes
  pub record IsTypeGiven (made : Outcome TypeId) (t : TypeId) (s : State) (m : ℕ) : Type 0 where
    pub after : State
    pub gives : made ≡ Gives t after
    pub first : IsExtended after.table T
    pub count : length after.table ≡ m
    pub seen : after.seen ≡ s.seen
    pub bare : DefinesNone s.table after.table

  there_given : (at : Place) (x : TypeShape) (s : State) (t u : TypeId) → u ≡ t → Gives u s ≡ Gives t s
  there_given at x s t u h = ap (λ (v : TypeId). Gives v s) h

  found_same : (J : Table) → IsExtended J T → (x : TypeShape) (t u : TypeId) → HasShape T t x → HasShape J u x → u ≡ t
  found_same J first x t u has h =
      let there : HasShape T u x = (still_in J T first u h.0, first.shapes u h.0 ∙ h.1) in
      basic.formed.distinct u t there.0 (has.0, has.1 ∙ sym there.1)

  fresh_given : (at : Place) (x : TypeShape) (s : State) → nat_lt (length s.table) 16384 ≡ true → nat_le (new_layout s.table x).size 1048576 ≡ true
      → there_or_added at x s None ≡ Gives (record { 0 = length s.table }) (record s { table = s.table ++ basic_entry x ∷ [] })
  fresh_given at x s room small = rw (room, small) refl

  by_search : (at : Place) (x : TypeShape) (t : TypeId) (s : State) (m : ℕ) → IsKnown s → IsExtended s.table T → HasShape T t x → IsUse t (length s.table) m
      → All (IsComplete s.table) (parts_of_shape x []) → (o : Option TypeId) → type_among 0 s.table x ≡ o
      → (r : State) × (there_or_added at x s o ≡ Gives t r) × IsExtended r.table T × (length r.table ≡ m) × (r.seen ≡ s.seen)
      × DefinesNone s.table r.table
  by_search at x t s m k first has (inl used) parts (Some u) q =
      (s, there_given at x s t u (found_same s.table first x t u has (type-found s.table x u q)), first, sym used.1, refl, none-same s.table)
  by_search at x t s m k first has (inr used) parts (Some u) q =
      let same = found_same s.table first x t u has (type-found s.table x u q) in
      let below : u.0 < length s.table = (type-found s.table x u q).0 in
      let number : u.0 ≡ t.0 = ap (λ (v : TypeId). v.0) same in
      let last : t.0 ≡ length s.table = used.0 in
      absurd (omega (arith, below, number, last))
  by_search at x t s m k first has (inl used) parts None q = absurd (type-absent s.table x q t (used.0, sym (first.shapes t used.0) ∙ has.1))
  by_search at x t s m k first has (inr used) parts None q =
      let added : TypeId = record { 0 = length s.table } in
      let same : added ≡ t = same_id (record { 0 = length s.table }) t (sym used.0) in (
        record s { table = s.table ++ basic_entry x ∷ [] },
        fresh_given at x s (added-room s.table k.basic.formed first x t has used.0 parts) (added-small s.table k.basic.formed first x t has used.0 parts)
            ∙ ap (λ (v : TypeId). Gives v (record s { table = s.table ++ basic_entry x ∷ [] })) same,
        added-first s.table k.basic.formed first x t has used.0 parts,
        length-append s.table (basic_entry x ∷ []) ∙ sym used.1,
        refl,
        added_none s.table x parts,
      )

  pub type-given : (at : Place) (x : TypeShape) (t : TypeId) (s : State) (m : ℕ) → IsKnown s → IsExtended s.table T → HasShape T t x → IsUse t (length s.table) m
      → All (IsComplete s.table) (parts_of_shape x []) → IsTypeGiven (type_with at x s) t s m
  unfolding type_with
  type-given at x t s m k first has used parts =
      let g = by_search at x t s m k first has used parts (type_among 0 s.table x) refl in
      record { after = g.0; gives = g.1; first = g.2; count = g.3; seen = g.4; bare = g.5 }
