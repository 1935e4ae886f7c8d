-- ESCAPE of the pointers that a copy of bytes with tags brings along: the greatest depth of their bases.
use Rattle.std.proofs.Common.{◌≡◌, ◌∙◌, ◌⊎◌, ⊎_elim, ℕ, zero, suc, ◌+◌, ◌*◌, ◌/◌, ◌%◌, ◌<◌, ◌≤◌, pos, Bool, true, false, not, ◌&&◌, List, [], ◌∷◌, map, max, nat_le, slice_get, Option, Some, None, is_none, refl, ap, sym, subst, arith, if◌then◌else◌}
use Rattle.std.specs.Int.{int_rem_euclid}
use Rattle.std.specs.Ordering.{int_eq}
use Rattle.std.specs.List.{filter, filter_map, cons_option, list_all, range_with_len}
use Rattle.std.proofs.lemmas.Bool.Decides.{nat_tests}
use Rattle.cc_base.specs.declared.kind.Kind.TheVariants.{Wild}
use Rattle.cc_base.specs.declared.number.TypeId.{TypeId}
use Rattle.kind_sites.specs.declared.site.Site.{Site}
use Rattle.flat_mem.specs.Placement.{word_count}
use Rattle.flat_mem.specs.Memory as memory
use Rattle.wild_tags.specs.Words.{word_at, touched_count, counted, tag_at, base_at}
use Rattle.wild_tags.specs.Calls.{greatest, greatest_depth}
use Rattle.wild_tags.proofs.ByteRows.{IsTouched, range-of}
use Rattle.src_mem.specs.Pointers.{Location, Pointer, Null, Number, At, Function}
use Rattle.src_mem.specs.Memory as objects
use Rattle.src_mem.specs.Memory.{Object, size_of_object, pointers_in}
use Rattle.src_mem.specs.State as source
use Rattle.src_mem.specs.State.{Setting}
use Rattle.src_mem.specs.Checks.{InObject, Outlives, Keep, conditions_of, fits_between, holds}
use Rattle.src_mem.specs.Checks as conditions
use Rattle.src_mem.specs.Facts.{IsSoundMemory, IsSoundObject}
use Rattle.src_mem.specs.Outlines.{outlines_of, lives_of}
use Rattle.src_mem.specs.Uses.{pointers_behind, held_from}
use Rattle.facts_kept.proofs.Holds.{in-bounds}
use Rattle.cured_code.specs.FlatState as flat
use Rattle.cured_code.specs.declared.parts.Parts.{Parts}
use Rattle.check_forms.specs.declared.slots.PointerSlots.{PointerSlots}
use Rattle.check_forms.specs.Conditions.{AreNoDeeper, flat_holds}
use Rattle.sim_relation.specs.Ground.{address}
use Rattle.sim_relation.specs.Objects.{HoldsWord, flat_depth}
use Rattle.sim_relation.specs.Related.{ground_of}
use Rattle.sim_checks.specs.Rows.{IsChecked, AreFunctionsApart}
use Rattle.sim_checks.proofs.Differences.{rem-euclid}
use Rattle.sim_checks.proofs.Escape.{home-depth, wild-depth, ordered-alike}
use Rattle.sim_checks.proofs.Sameness.{bool-same, true-eq}
use Rattle.sim_checks.proofs.Tagged.{IsTarget, target, there, tag-of}

le-is : (a b : ℕ) → nat_le a b ≡ true → a ≤ b
le-is a b h = grind (arith, nat_tests, h)

is-le : (a b : ℕ) → a ≤ b → nat_le a b ≡ true
is-le a b h = grind (arith, nat_tests, h)

-- the greatest of those that pass a test
greatest-each : (t : ℕ → Bool) (f : ℕ → ℕ) (d from k : ℕ) → greatest (map f (filter t (counted from k))) ≤ d → (i : ℕ) → from ≤ i → i < from + k → t i ≡ true → f i ≤ d
unfolding counted
greatest-each t f d from zero h i l m e = absurd (omega (arith, l, m))
greatest-each t f d from (suc k) h i l m e =
    ⊎_elim here (λ q. greatest-each t f d (from + 1) k (rest (t from) h) i q (omega (arith, m)) e) (case from i l)
  where
    case : (a i : ℕ) → a ≤ i → (a ≡ i) ⊎ (a + 1 ≤ i)
    case a i l = grind arith

    most-first : (x y d : ℕ) → max x y ≤ d → x ≤ d
    most-first x y d h = grind arith

    most-second : (x y d : ℕ) → max x y ≤ d → y ≤ d
    most-second x y d h = grind arith

    rest : (b : Bool) → greatest (map f (if b then from ∷ filter t (counted (from + 1) k) else filter t (counted (from + 1) k))) ≤ d
        → greatest (map f (filter t (counted (from + 1) k))) ≤ d
    rest true g = most-second (f from) (greatest (map f (filter t (counted (from + 1) k)))) d g
    rest false g = g

    mine : (b : Bool) → b ≡ true → greatest (map f (if b then from ∷ filter t (counted (from + 1) k) else filter t (counted (from + 1) k))) ≤ d → f from ≤ d
    mine true q g = most-first (f from) (greatest (map f (filter t (counted (from + 1) k)))) d g
    mine false q g = absurd (cc (q))

    here : from ≡ i → f i ≤ d
    here q = subst (λ j. f j ≤ d) q (mine (t from) (ap t q ∙ e) h)

each-greatest : (t : ℕ → Bool) (f : ℕ → ℕ) (d from k : ℕ) → ((i : ℕ) → from ≤ i → i < from + k → t i ≡ true → f i ≤ d) → greatest (map f (filter t (counted from k))) ≤ d
unfolding counted
each-greatest t f d from zero h = omega arith
each-greatest t f d from (suc k) h = by (t from) refl (each-greatest t f d (from + 1) k (λ i l m e. h i (omega (arith, l)) (omega (arith, m)) e))
  where
    most : (x y d : ℕ) → x ≤ d → y ≤ d → max x y ≤ d
    most x y d h k = grind arith

    by : (b : Bool) → t from ≡ b → greatest (map f (filter t (counted (from + 1) k))) ≤ d
        → greatest (map f (if b then from ∷ filter t (counted (from + 1) k) else filter t (counted (from + 1) k))) ≤ d
    by true e rest = most (f from) (greatest (map f (filter t (counted (from + 1) k)))) d (h from (omega arith) (omega arith) e) rest
    by false e rest = rest

-- all pointers that are stored in a range
all-in : (p : Pointer → Bool) (pointers : ℕ → Option Pointer) (a k : ℕ) → list_all p (filter_map pointers (range_with_len a k)) ≡ true → (i : ℕ) (q : Pointer) → a ≤ i → i < a + k
    → pointers i ≡ Some q → p q ≡ true
all-in p pointers a zero h i q l m e = absurd (omega (arith, l, m))
all-in p pointers a (suc k) h i q l m e = ⊎_elim here (λ f. all-in p pointers (a + 1) k (behind (pointers a) h) i q f (omega (arith, m)) e) (case a i l)
  where
    case : (a i : ℕ) → a ≤ i → (a ≡ i) ⊎ (a + 1 ≤ i)
    case a i l = grind arith

    first : (a b : Bool) → (a && b) ≡ true → a ≡ true
    first true b h = refl
    first false b h = h

    second : (a b : Bool) → (a && b) ≡ true → b ≡ true
    second true b h = h
    second false b h = absurd (cc (h))

    here : a ≡ i → p q ≡ true
    here f = of (pointers a) (ap pointers f ∙ e) h
      where
        of : (x : Option Pointer) → x ≡ Some q → list_all p (cons_option x (filter_map pointers (range_with_len (a + 1) k))) ≡ true → p q ≡ true
        of None g j = absurd (cc (g))
        of (Some z) g j = let same : z ≡ q = cc (g) in ap p (sym same) ∙ first (p z) (list_all p (filter_map pointers (range_with_len (a + 1) k))) j

    behind : (x : Option Pointer) → list_all p (cons_option x (filter_map pointers (range_with_len (a + 1) k))) ≡ true
        → list_all p (filter_map pointers (range_with_len (a + 1) k)) ≡ true
    behind None j = j
    behind (Some z) j = second (p z) (list_all p (filter_map pointers (range_with_len (a + 1) k))) j

in-all : (p : Pointer → Bool) (pointers : ℕ → Option Pointer) (a k : ℕ) → ((i : ℕ) (q : Pointer) → a ≤ i → i < a + k → pointers i ≡ Some q → p q ≡ true)
    → list_all p (filter_map pointers (range_with_len a k)) ≡ true
in-all p pointers a zero h = refl
in-all p pointers a (suc k) h = of (pointers a) refl (in-all p pointers (a + 1) k (λ i q l m e. h i q (omega (arith, l)) (omega (arith, m)) e))
  where
    of : (x : Option Pointer) → pointers a ≡ x → list_all p (filter_map pointers (range_with_len (a + 1) k)) ≡ true
        → list_all p (cons_option x (filter_map pointers (range_with_len (a + 1) k))) ≡ true
    of None e rest = rest
    of (Some z) e rest = ap (λ b. b && list_all p (filter_map pointers (range_with_len (a + 1) k))) (h a z (omega arith) (omega arith) e) ∙ rest

-- conditions, one for each pointer
all-conditions : (w : Setting) (m : objects.Memory) (r : Pointer) (qs : List Pointer)
    → list_all (holds w m) (map (Outlives r) qs) ≡ list_all (λ q. nat_le (objects.depth_of m.objects q) (objects.depth_of m.objects r)) qs
all-conditions w m r [] = refl
all-conditions w m r (q ∷ qs) = ap (λ b. nat_le (objects.depth_of m.objects q) (objects.depth_of m.objects r) && b) (all-conditions w m r qs)

module _ (w : Setting) (number_of : TypeId → ℕ) (s : source.State) (c : flat.State) (parts : Parts) (depth : ℕ) (e : ℕ → ℕ) (apart : AreFunctionsApart w c.memory)
    (sites : List Site) (sound : IsSoundMemory w sites s.memory) where
  abbrev depth_at : Pointer → ℕ
  depth_at q = objects.depth_of s.memory.objects q

  -- a word with a tag: a pointer is stored there, whose base is as deep as its object
  stored-at : (l : Location) (o : Object) → IsTarget w number_of s c parts depth l o → (i : ℕ) → i < word_count o.size
      → tag_at c.memory.bytes (address (ground_of w number_of s c) l.object) o.size i ≡ true
      → (q : Pointer) × (o.pointers (8 * i) ≡ Some q)
      × (memory.depth_of c.memory (base_at c.memory.bytes (address (ground_of w number_of s c) l.object) o.size i) ≡ flat_depth (depth_at q))
  stored-at l o y i own tag = by (o.pointers (8 * i)) refl (y.holds.words i own)
    where
      is : IsSoundObject w sites (outlines_of s.memory) (lives_of s.memory) o
      is = sound.each l.object o y.found y.live

      by : (x : Option Pointer) → o.pointers (8 * i) ≡ x → HoldsWord (ground_of w number_of s c) c.memory.bytes (address (ground_of w number_of s c) l.object) o i x
          → (q : Pointer) × (o.pointers (8 * i) ≡ Some q)
          × (memory.depth_of c.memory (base_at c.memory.bytes (address (ground_of w number_of s c) l.object) o.size i) ≡ flat_depth (depth_at q))
      by None f h = absurd (let g = h.0 in cc (g, tag))
      by (Some q) f h = (
        q,
        f,
        ap (memory.depth_of c.memory) h.2 ∙ wild-depth w number_of s c depth apart y.related o.depth (record { 0 = 0 }) q
            (record { value = (is.tagged y.tagged (8 * i) q f).value (record { 0 = 0 }); reaches = is.reaches (8 * i) q f }),
      )

  copies-at : (l : Location) (o : Object) (r : Pointer) (at n : ℕ) → IsTarget w number_of s c parts depth l o → 0 < n → at + n ≤ o.size → at % 8 ≡ 0
      → nat_le (greatest_depth c.memory (address (ground_of w number_of s c) l.object + at) (address (ground_of w number_of s c) l.object) n) (flat_depth (depth_at r))
      ≡ list_all (λ q. nat_le (depth_at q) (depth_at r)) (pointers_in n at o)
  copies-at l o r at n y some inside by8 =
      ap (λ m. nat_le (greatest (map (λ i. memory.depth_of c.memory (base_at c.memory.bytes b m i)) (filter (tag_at c.memory.bytes b m) (counted (word_at b (b + at)) (touched_count b (b + at) n)))))
      (flat_depth (depth_at r))) y.holds.size
      ∙ bool-same (nat_le (greatest (map f (filter t (counted first count)))) (flat_depth (depth_at r))) (list_all (λ q. nat_le (depth_at q) (depth_at r)) (pointers_in n at o)) there_all all_there
    where
      b : ℕ
      b = address (ground_of w number_of s c) l.object

      first : ℕ
      first = word_at (address (ground_of w number_of s c) l.object) (address (ground_of w number_of s c) l.object + at)

      count : ℕ
      count = touched_count (address (ground_of w number_of s c) l.object) (address (ground_of w number_of s c) l.object + at) n

      t : ℕ → Bool
      t i = tag_at c.memory.bytes (address (ground_of w number_of s c) l.object) o.size i

      f : ℕ → ℕ
      f i = memory.depth_of c.memory (base_at c.memory.bytes (address (ground_of w number_of s c) l.object) o.size i)

      range : IsTouched o.size at n (word_at (address (ground_of w number_of s c) l.object) (address (ground_of w number_of s c) l.object + at))
          (touched_count (address (ground_of w number_of s c) l.object) (address (ground_of w number_of s c) l.object + at) n)
      range = range-of (address (ground_of w number_of s c) l.object) o.size at n some inside

      there_all : nat_le (greatest (map f (filter t (counted first count)))) (flat_depth (depth_at r)) ≡ true → list_all (λ q. nat_le (depth_at q) (depth_at r)) (pointers_in n at o) ≡ true
      there_all h = in-all (λ q. nat_le (depth_at q) (depth_at r)) o.pointers at n (λ k q low high g. one k q low high g)
        where
          one : (k : ℕ) (q : Pointer) → at ≤ k → k < at + n → o.pointers k ≡ Some q → nat_le (depth_at q) (depth_at r) ≡ true
          one k q low high g =
              let z = (sound.each l.object o y.found y.live).tagged y.tagged k q g in
              let eight : k ≡ 8 * (k / 8) = (let a = z.aligned in omega (arith, a)) in
              let own : k / 8 < word_count o.size = (let a = z.inside in omega (arith, a)) in
              let in_range = range.high (k / 8) (omega (arith, eight, high), omega (arith, eight, low)) in
              let here : o.pointers (8 * (k / 8)) ≡ Some q = ap o.pointers (sym eight) ∙ g in
              let tag : t (k / 8) ≡ true = tag-of (ground_of w number_of s c) c.memory.bytes b o (k / 8) (o.pointers (8 * (k / 8))) (y.holds.words (k / 8) own)
              ∙ ap (λ (x : Option Pointer). not (is_none x)) here in
              let x = stored-at l o y (k / 8) own tag in
              let same : x.0 ≡ q = (let a = x.1 in cc (a, here)) in
              let le = greatest-each t f (flat_depth (depth_at r)) first count (le-is _ _ h) (k / 8) in_range.0 in_range.1 tag in
              let deep = x.2 in
              sym (ordered-alike (depth_at q) (depth_at r)) ∙ is-le (flat_depth (depth_at q)) (flat_depth (depth_at r))
              (let m : flat_depth (depth_at x.0) ≡ flat_depth (depth_at q) = ap (λ p. flat_depth (depth_at p)) same in omega (arith, le, deep, m))

      all_there : list_all (λ q. nat_le (depth_at q) (depth_at r)) (pointers_in n at o) ≡ true → nat_le (greatest (map f (filter t (counted first count)))) (flat_depth (depth_at r)) ≡ true
      all_there h = is-le _ _ (each-greatest t f (flat_depth (depth_at r)) first count one)
        where
          one : (i : ℕ) → first ≤ i → i < first + count → t i ≡ true → f i ≤ flat_depth (depth_at r)
          one i low high tag =
              let own : i < word_count o.size = (let z = range.own in omega (arith, z, high)) in
              let z = range.low i low high in
              let x = stored-at l o y i own tag in
              let small : at ≤ 8 * i = (let a = z.1 in omega (arith, a, by8)) in
              let each = all-in (λ q. nat_le (depth_at q) (depth_at r)) o.pointers at n h (8 * i) x.0 small z.0 x.1 in
              let le = le-is _ _ (ordered-alike (depth_at x.0) (depth_at r) ∙ each) in
              let deep = x.2 in omega (arith, le, deep)

  pub wild-copies-compared : (t u : TypeId) (q r : Pointer) (p o : PointerSlots) (n : ℕ) → 0 < n
      → IsChecked w number_of s c depth Wild t q e p → IsChecked w number_of s c depth Wild u r e o
      → holds w s.memory (InObject n q) ≡ true → holds w s.memory (conditions.IsAligned q) ≡ true
      → flat_holds parts c.memory (AreNoDeeper p n o.second) e ≡ list_all (holds w s.memory) (conditions_of (Keep (pointers_behind s.memory.objects q n)) Wild r)
  wild-copies-compared t u Null r p o n some x y h k = absurd (cc (h))
  wild-copies-compared t u (Number m) r p o n some x y h k = absurd (cc (h))
  wild-copies-compared t u (Function f) r p o n some x y h k = absurd (cc (h))
  wild-copies-compared t u (At l) r p o n some x y h k = of (target w number_of s c parts depth t e p l x)
    where
      of : (z : Object) × IsTarget w number_of s c parts depth l z
          → flat_holds parts c.memory (AreNoDeeper p n o.second) e ≡ list_all (holds w s.memory) (conditions_of (Keep (pointers_behind s.memory.objects (At l) n)) Wild r)
      of (z, m) = to (in-bounds 0 z.size l.offset n (sym (ap (λ (v : Option Object). fits_between 0 (size_of_object v) l.offset n) m.found) ∙ h))
        where
          to : (at : ℕ) × (l.offset ≡ pos at) × (0 ≤ at) × (at + n ≤ z.size)
              → flat_holds parts c.memory (AreNoDeeper p n o.second) e ≡ list_all (holds w s.memory) (conditions_of (Keep (pointers_behind s.memory.objects (At l) n)) Wild r)
          to (at, offset, low, inside) =
              let by8 : at % 8 ≡ 0 = true-eq (at % 8) 0 (sym (rem-euclid (pos at) 8) ∙ ap (λ v. int_eq (int_rem_euclid v (pos 8)) (pos 0)) (sym offset) ∙ k) in
              ap (λ a. nat_le (greatest_depth c.memory a (e p.second) n) (memory.depth_of c.memory (e o.second))) (there w number_of s c parts depth t e p l z m x at offset (omega (arith, inside)))
              ∙ ap (λ b. nat_le (greatest_depth c.memory (address (ground_of w number_of s c) l.object + at) b n) (memory.depth_of c.memory (e o.second))) x.words.1
              ∙ ap (λ d. nat_le (greatest_depth c.memory (address (ground_of w number_of s c) l.object + at) (address (ground_of w number_of s c) l.object) n) d)
              (home-depth w number_of s c depth apart Wild u r e o y)
              ∙ copies-at l z r at n m some inside by8
              ∙ sym (all-conditions w s.memory r (held_from (slice_get s.memory.objects l.object) l.offset n)
              ∙ ap (λ v. list_all (λ q. nat_le (depth_at q) (depth_at r)) (held_from v l.offset n)) m.found
              ∙ ap (λ v. list_all (λ q. nat_le (depth_at q) (depth_at r)) (held_from (Some z) v n)) offset)
