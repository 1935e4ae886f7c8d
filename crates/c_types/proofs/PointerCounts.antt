-- How many pointers a type holds: by the counts of its parts, and as a table changes.
use Rattle.std.proofs.Common.{◌≡◌, ◌≢◌, ℕ, zero, suc, ◌+◌, ◌*◌, ◌<◌, ◌≤◌, max, Bool, true, false, true≢false, List, [], ◌∷◌, ◌++◌, length, map, Option, Some, None, refl, ap, sym, ◌∙◌, nat_lt, if◌then◌else◌, arith}
use Rattle.std.specs.Prelude.{IfSome}
use Rattle.std.specs.List.{Contains, fold}
use Rattle.std.proofs.Math.Nat.{mul-le-mul_left}
use Rattle.std.proofs.lemmas.List.{get_or_past}
use Rattle.std.proofs.lemmas.List.Elements.{All-contains}
use Rattle.cc_base.specs.declared.number.TypeId.{TypeId}
use Rattle.c_types.specs.Layouts.{rounded, layout_of_shape, layout_of, layout_step, size_of}
use Rattle.c_types.specs.PointerCounts.{larger, largest_member, of_some, pointers_of_shape, pointers_step, pointers_in}
use Rattle.c_types.specs.Sound.{IsFormed, IsWellFormed}
use Rattle.c_types.specs.Table.{Table, Entry, IsComplete, IsRanked, void_entry, entry_at, shape_at, members_at, parts_at, parts_of_shape, is_complete, is_complete_entry, descend}
use Rattle.c_types.specs.declared.layout.Layout.{Layout}
use Rattle.c_types.specs.declared.shape.TypeShape.{TypeShape}
use Rattle.c_types.specs.declared.shape.TypeShape.TheVariants.{Void, Integer, Pointer, Array, Function, Struct, Union}
use Rattle.c_types.proofs.Descent.{descend_is, rank_bound, layout_is}
use Rattle.c_types.proofs.Growth.{Changes, not_here, rank_after, ranked_after, layout_other}
use Rattle.c_types.proofs.Lists.{contains_head, contains_tail}

sum_same : (f g : TypeId → ℕ) (ms : List TypeId) (a : ℕ) → ((m : TypeId) → Contains ms m → f m ≡ g m)
    → fold (λ (n : ℕ) (m : TypeId). n + f m) a ms ≡ fold (λ (n : ℕ) (m : TypeId). n + g m) a ms
sum_same f g [] a same = refl
sum_same f g (m ∷ ms) a same =
    sum_same f g ms (a + f m) (λ u c. same u (contains_tail m ms u c))
    ∙ ap (λ (k : ℕ). fold (λ (n : ℕ) (u : TypeId). n + g u) (a + k) ms) (same m (contains_head m ms))

-- sizes and counts that agree on the members
module _ (size length_of f g : TypeId → ℕ) where
  abbrev Agree : TypeId → Type 0
  Agree m = (size m ≡ length_of m) × (f m ≡ g m)

  abbrev AgreeSome : Option TypeId → Type 0
  AgreeSome None = Unit {0}
  AgreeSome (Some m) = Agree m

  larger_agrees : (found : Option TypeId) (m : TypeId) → AgreeSome found → Agree m → Agree (larger size found m)
  larger_agrees None m p q = q
  larger_agrees (Some k) m p q = by (nat_lt (size k) (size m))
    where
      by : (b : Bool) → Agree (if b then m else k)
      by true = q
      by false = p

  larger_same : (found : Option TypeId) (m : TypeId) → AgreeSome found → Agree m → larger size found m ≡ larger length_of found m
  larger_same None m p q = refl
  larger_same (Some k) m p q =
      let one = p.0 in
      let two = q.0 in
      λ i. if nat_lt (one i) (two i) then m else k

  union_same : (found : Option TypeId) (ms : List TypeId) → AgreeSome found → ((m : TypeId) → Contains ms m → Agree m)
      → of_some f (largest_member size found ms) ≡ of_some g (largest_member length_of found ms)
  union_same None [] p same = refl
  union_same (Some m) [] p same = p.1
  union_same found (m ∷ ms) p same =
      let own = same m (contains_head m ms) in
      union_same (Some (larger size found m)) ms (larger_agrees found m p own) (λ u c. same u (contains_tail m ms u c))
      ∙ ap (λ (k : TypeId). of_some g (largest_member length_of (Some k) ms)) (larger_same found m p own)

  pub pointers_same : (x : TypeShape) (ms : List TypeId) → ((m : TypeId) → Contains (parts_of_shape x ms) m → Agree m)
      → pointers_of_shape size f x ms ≡ pointers_of_shape length_of g x ms
  pointers_same Void ms same = refl
  pointers_same (Integer bytes signed) ms same = refl
  pointers_same (Pointer n t) ms same = refl
  pointers_same (Array element count) ms same = ap (λ (n : ℕ). count * n) (same element (contains_head element [])).1
  pointers_same (Function ps r) ms same = refl
  pointers_same (Struct n) ms same = sum_same f g ms 0 (λ m c. (same m c).1)
  pointers_same (Union n) ms same = union_same None ms tt same

-- how many pointers a type holds is what its shape makes of the counts of what it holds
pub pointers_are : (table : Table) (rank : TypeId → ℕ) → IsRanked table rank → (t : TypeId) → pointers_in table t ≡ pointers_step table (pointers_in table) t
unfolding pointers_in
pointers_are table rank r t =
    descend_is (pointers_step table) 0 (parts_at table) rank
    (λ f g u same. pointers_same (size_of table) (size_of table) f g (shape_at table u) (members_at table u) (λ m c. (refl, same m c)))
    r.falls (suc (length table)) t (rank_bound table rank r t)

-- what is not complete holds none
open_none : (size p : TypeId → ℕ) (x : TypeShape) (ms : List TypeId) → is_complete_entry x ms ≡ false → pointers_of_shape size p x ms ≡ 0
open_none size p Void ms h = refl
open_none size p (Function ps r) ms h = refl
open_none size p (Struct n) [] h = refl
open_none size p (Union n) [] h = refl
open_none size p (Struct n) (m ∷ ms) h = absurd (true≢false h)
open_none size p (Union n) (m ∷ ms) h = absurd (true≢false h)
open_none size p (Integer bytes signed) ms h = absurd (true≢false h)
open_none size p (Pointer node to) ms h = absurd (true≢false h)
open_none size p (Array element count) ms h = absurd (true≢false h)

pub pointers_none : (table : Table) (t : TypeId) → is_complete (entry_at table t) ≡ false → pointers_in table t ≡ 0
unfolding pointers_in
pointers_none table t h = open_none (size_of table) (descend (pointers_step table) 0 (length table)) (shape_at table t) (members_at table t) h

-- nor does what is no type
pub pointers_outside : (table : Table) (t : TypeId) → length table ≤ t.0 → pointers_in table t ≡ 0
pointers_outside table t h = pointers_none table t (ap is_complete (get_or_past table t.0 void_entry h))

-- A table changes at one place.

module _ (old new : Table) (t : TypeId) (e : Entry) (c : Changes old new t e) (w : IsWellFormed old) (f : IsFormed old e) where
  same_pointers : (n : ℕ) (u : TypeId) → w.order.0 u < n → u.0 ≢ t.0 → pointers_in new u ≡ pointers_in old u
  same_pointers zero u b m = absurd (omega arith)
  same_pointers (suc n) u b m =
      pointers_are new (rank_after old new t e c w.order.0) (ranked_after old new t e c w.order.0 w.order.1 w.each) u
      ∙ ap (λ (d : Entry). pointers_of_shape (size_of new) (pointers_in new) d.shape d.members) (c.other u m)
      ∙ pointers_same (size_of new) (size_of old) (pointers_in new) (pointers_in old) (shape_at old u) (members_at old u)
      (λ part k.
      let full = All-contains (IsComplete old) (parts_at old u) part (w.each u).parts k in
      let falls = w.order.1.falls u part k in
      let other = not_here old new t e c part full in
      (ap (λ (l : Layout). l.size) (layout_other old new t e c w.order.0 w.order.1 w.each part other), same_pointers n part (omega arith) other))
      ∙ sym (pointers_are old w.order.0 w.order.1 u)

  -- the other types hold as many
  pub pointers_other : (u : TypeId) → u.0 ≢ t.0 → pointers_in new u ≡ pointers_in old u
  pointers_other u m = same_pointers (suc (w.order.0 u)) u (omega arith) m

  -- and the changed one what its entry says
  pub pointers_here : pointers_in new t ≡ pointers_of_shape (size_of old) (pointers_in old) e.shape e.members
  pointers_here =
      pointers_are new (rank_after old new t e c w.order.0) (ranked_after old new t e c w.order.0 w.order.1 w.each) t
      ∙ ap (λ (d : Entry). pointers_of_shape (size_of new) (pointers_in new) d.shape d.members) c.here
      ∙ pointers_same (size_of new) (size_of old) (pointers_in new) (pointers_in old) e.shape e.members
      (λ part k.
      let other = not_here old new t e c part (All-contains (IsComplete old) (parts_of_shape e.shape e.members) part f.parts k) in
      (ap (λ (l : Layout). l.size) (layout_other old new t e c w.order.0 w.order.1 w.each part other), pointers_other part other))

-- A pointer takes eight bytes.

module _ (lay : TypeId → Layout) (p : TypeId → ℕ) where
  abbrev Few : TypeId → Type 0
  Few m = 8 * p m ≤ (lay m).size

  struct_few : (ms : List TypeId) (a end : ℕ) → 8 * a ≤ end → ((m : TypeId) → Contains ms m → Few m)
      → 8 * fold (λ (n : ℕ) (m : TypeId). n + p m) a ms ≤ fold (λ (end : ℕ) (m : Layout). rounded end m.align + m.size) end (map lay ms)
  struct_few [] a end h each = h
  struct_few (m ∷ ms) a end h each =
      let own = each m (contains_head m ms) in
      struct_few ms (a + p m) (rounded end (lay m).align + (lay m).size) (omega arith) (λ x c. each x (contains_tail m ms x c))

  greatest_up : (ms : List TypeId) (s : ℕ) → s ≤ fold (λ (s : ℕ) (m : Layout). max s m.size) s (map lay ms)
  greatest_up [] s = omega arith
  greatest_up (m ∷ ms) s = let h = greatest_up ms (max s (lay m).size) in omega arith

  abbrev FewSome : ℕ → Option TypeId → Type 0
  FewSome s found = 8 * of_some p found ≤ s

  one_of : (b : Bool) (k m : TypeId) (s : ℕ) → 8 * p k ≤ s → 8 * p m ≤ (lay m).size → 8 * p (if b then m else k) ≤ max s (lay m).size
  one_of true k m s h own = omega arith
  one_of false k m s h own = omega arith

  union_few : (found : Option TypeId) (ms : List TypeId) (s : ℕ) → FewSome s found → ((m : TypeId) → Contains ms m → Few m)
      → 8 * of_some p (largest_member (λ m. (lay m).size) found ms) ≤ fold (λ (s : ℕ) (m : Layout). max s m.size) s (map lay ms)
  union_few found [] s h each = h
  union_few None (m ∷ ms) s h each =
      let own = each m (contains_head m ms) in
      union_few (Some m) ms (max s (lay m).size) (omega arith) (λ x c. each x (contains_tail m ms x c))
  union_few (Some k) (m ∷ ms) s h each =
      union_few (Some (larger (λ m. (lay m).size) (Some k) m)) ms (max s (lay m).size)
      (one_of (nat_lt (lay k).size (lay m).size) k m s h (each m (contains_head m ms))) (λ x c. each x (contains_tail m ms x c))

  near : (n a b : ℕ) → a ≤ n → a ≤ rounded n b
  near n a b h = omega arith

  pub shape_few : (s : TypeShape) (ms : List TypeId) → ((m : TypeId) → Contains (parts_of_shape s ms) m → Few m)
      → 8 * pointers_of_shape (λ m. (lay m).size) p s ms ≤ (layout_of_shape lay s ms).size
  shape_few Void ms each = omega arith
  shape_few (Integer bytes signed) ms each = omega arith
  shape_few (Pointer node to) ms each = omega arith
  shape_few (Array element count) ms each =
      let h : count * (8 * p element) ≤ count * (lay element).size = mul-le-mul_left count (each element (contains_head element [])) in omega (arith, h)
  shape_few (Function ps r) ms each = omega arith
  shape_few (Struct tag) ms each = near _ _ _ (struct_few ms 0 0 (omega arith) each)
  shape_few (Union tag) ms each = near _ _ _ (union_few None ms 0 (omega arith) each)

module _ (table : Table) (w : IsWellFormed table) where
  few_below : (n : ℕ) (t : TypeId) → w.order.0 t < n → 8 * pointers_in table t ≤ size_of table t
  few_below zero t b = absurd (omega arith)
  few_below (suc n) t b =
      let e = pointers_are table w.order.0 w.order.1 t in
      let l : size_of table t ≡ (layout_step table (layout_of table) t).size = ap (λ (l : Layout). l.size) (layout_is table w.order.0 w.order.1 t) in
      let h = shape_few (layout_of table) (pointers_in table) (shape_at table t) (members_at table t)
      (λ m k. let f = w.order.1.falls t m k in few_below n m (omega arith)) in
      omega (arith, e, l, h)

  -- eight bytes each
  pub pointers_few : (t : TypeId) → 8 * pointers_in table t ≤ size_of table t
  pointers_few t = few_below (suc (w.order.0 t)) t (omega arith)

  -- what is defined holds no more pointers than there is room for
  pub members_few : (s : TypeShape) (ms : List TypeId) → 8 * pointers_of_shape (size_of table) (pointers_in table) s ms ≤ (layout_of_shape (layout_of table) s ms).size
  members_few s ms = shape_few (layout_of table) (pointers_in table) s ms (λ m k. pointers_few m)

-- The largest member

pub larger_complete : (table : Table) (found : Option TypeId) (m : TypeId) → IfSome found (IsComplete table) → IsComplete table m → IsComplete table (larger (size_of table) found m)
larger_complete table None m f h = h
larger_complete table (Some other) m f h = either (nat_lt (size_of table other) (size_of table m))
  where
    either : (b : Bool) → IsComplete table (if b then m else other)
    either true = h
    either false = f

-- one more member
pub largest_more : (size : TypeId → ℕ) (found : Option TypeId) (ms : List TypeId) (m : TypeId)
    → largest_member size found (ms ++ m ∷ []) ≡ Some (larger size (largest_member size found ms) m)
largest_more size found [] m = refl
largest_more size found (x ∷ ms) m = largest_more size (Some (larger size found x)) ms m
