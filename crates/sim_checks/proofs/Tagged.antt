-- The rows of WILD pointers.
use Rattle.std.proofs.Common.{◌≡◌, ◌≢◌, ◌∙◌, ◌⊎◌, ⊎_elim, ℕ, zero, suc, ◌+◌, ◌-◌, ◌*◌, ◌/◌, ◌%◌, ◌<◌, ◌≤◌, ◌^◌, ℤ, pos, negsuc, ◌+ℤ◌, ◌-ℤ◌, ◌≤ℤ◌, Bool, true, false, not, ◌&&◌, ◌||◌, List, length, nat_eq, nat_lt, slice_get, Option, Some, None, is_none, refl, ap, sym, subst, arith, if◌then◌else◌}
use Rattle.std.specs.Prelude.{is_some, ◌==◌}
use Rattle.std.specs.Int.{int_rem_euclid}
use Rattle.std.specs.Ordering.{int_eq}
use Rattle.std.specs.List.{list_all, range_with_len}
use Rattle.std.proofs.lemmas.Bool.Decides.{nat_tests}
use Rattle.std.proofs.lemmas.Int.{ints}
use Rattle.std.proofs.lemmas.Option.{slice_get_within}
use Rattle.cc_base.specs.declared.fault.Check.TheVariants as check
use Rattle.cc_base.specs.declared.kind.Kind.{Kind}
use Rattle.cc_base.specs.declared.kind.Kind.TheVariants.{Wild}
use Rattle.cc_base.specs.declared.number.TypeId.{TypeId}
use Rattle.cc_base.specs.declared.place.Place.{Place}
use Rattle.kind_sites.specs.declared.site.Site.{Site}
use Rattle.integers.specs.Words.{word, residue}
use Rattle.integers.specs.Operators.{difference_words}
use Rattle.integers.proofs.SignedLaws.{IsReach, in_area-word, difference-word}
use Rattle.integers.proofs.WordLaws.{word-below, word-small, word-sum}
use Rattle.flat_mem.specs.Bytes.{number}
use Rattle.flat_mem.specs.Placement.{function_address, contents_size, word_count}
use Rattle.flat_mem.proofs.AreaLaws.{area_size-least}
use Rattle.flat_mem.proofs.ByteLaws.{number-same}
use Rattle.wild_tags.specs.Words.{length_at, word_at, touched, touched_count, tag_at, counted}
use Rattle.wild_tags.specs.Calls.{is_plain, is_tagged}
use Rattle.wild_tags.proofs.ByteRows.{IsTouched, range-of, all-true, all-counted}
use Rattle.src_mem.specs.Pointers.{Location, Pointer, Null, Number, At, Function, same_part}
use Rattle.src_mem.specs.Memory.{Object, touches, holds_none, holds_pointer_at, size_of_object}
use Rattle.src_mem.specs.State as source
use Rattle.src_mem.specs.State.{Setting, Defined}
use Rattle.src_mem.specs.Checks.{HasBase, InObject, HoldsNone, AreOfOnePart, AreComparable, fits_between, object_at, of_one_part, stands_within, between, holds}
use Rattle.src_mem.specs.Checks as conditions
use Rattle.src_mem.specs.Facts.{IsWildAt, IsSoundMemory}
use Rattle.src_mem.specs.Outlines.{Outline, outline, outlines_of}
use Rattle.src_mem.proofs.Outlines.{has-outline}
use Rattle.facts_kept.proofs.Holds.{in-bounds}
use Rattle.cured_code.specs.FlatState as flat
use Rattle.cured_code.specs.declared.parts.Parts.{Parts}
use Rattle.check_forms.specs.declared.slots.PointerSlots.{PointerSlots}
use Rattle.check_forms.specs.declared.slots.Fixed.{Fixed}
use Rattle.check_forms.specs.Conditions.{IsArea, IsAligned, IsInArea, IsByteInArea, IsWithinArea, Unless, HoldsNoPointer, HoldsPointer, AreOfArea, is_in_area, flat_holds}
use Rattle.check_forms.specs.Rows.{all_asked, equated, reached, in_area}
use Rattle.sim_relation.specs.Ground.{Ground, address, function_word}
use Rattle.sim_relation.specs.Objects.{HoldsTagged, HoldsWord, HoldsBy, area_of, area_by}
use Rattle.sim_relation.specs.Related.{Related, ground_of}
use Rattle.sim_checks.specs.Rows.{IsChecked, AreFunctionsLaid}
use Rattle.sim_checks.specs.Moving.{all_hold}
use Rattle.sim_checks.specs.Comparing.{used}
use Rattle.sim_checks.proofs.Differences.{rem-euclid}
use Rattle.sim_checks.proofs.Sameness.{bool-same, eq-true, true-eq, eq-false}

alone : (b : Bool) → (b && true) ≡ b
alone true = refl
alone false = refl

-- Words

none-less : (n : ℕ) → nat_lt n 0 ≡ false
none-less n = grind (arith, nat_tests)

-- one byte at a distance that is a word
byte-area : (size d : ℕ) → size < 2 ^ 40 → d < 2 ^ 64 → is_in_area 1 size d ≡ nat_lt d size
byte-area size d hs hd = grind (arith, nat_tests)

-- nothing lies in an area that has no length
no-area : (m d : ℕ) → 0 < m → d < 2 ^ 64 → is_in_area m 0 d ≡ false
no-area m d some h = grind (arith, nat_tests)

reach : (z : ℤ) → (pos 0 ≤ℤ (z +ℤ pos (2 ^ 40))) → z ≤ℤ pos (2 ^ 40) → IsReach z
reach (pos n) h k = omega (arith, ints, k)
reach (negsuc n) h k = omega (arith, ints, h)

-- an address modulo 8
pub align-word : (a : ℕ) (z : ℤ) → a % 8 ≡ 0 → word (pos a +ℤ z) % 8 ≡ residue z 8
align-word a z h = ap (λ n. n % 8) (word-sum (pos a) z) ∙ of z
  where
    of : (z : ℤ) → (word (pos a) + word z) % 2 ^ 64 % 8 ≡ residue z 8
    of (pos n) = omega (arith, h)
    of (negsuc n) = omega (arith, h)

-- Lists of numbers

all-range : (p : ℕ → Bool) (a k : ℕ) → list_all p (range_with_len a k) ≡ true → (i : ℕ) → a ≤ i → i < a + k → p i ≡ true
all-range p a zero h i l m = absurd (omega (arith, l, m))
all-range p a (suc k) h i l m = ⊎_elim
    (λ e. subst (λ (j : ℕ). p j ≡ true) e (first (p a) (list_all p (range_with_len (a + 1) k)) h))
    (λ e. all-range p (a + 1) k (second (p a) (list_all p (range_with_len (a + 1) k)) h) i e (omega (arith, m))) (case a i l)
  where
    case : (a i : ℕ) → a ≤ i → (a ≡ i) ⊎ (a + 1 ≤ i)
    case a i l = grind arith

    first : (a b : Bool) → (a && b) ≡ true → a ≡ true
    first true b h = refl
    first false b h = h

    second : (a b : Bool) → (a && b) ≡ true → b ≡ true
    second true b h = h
    second false b h = absurd (cc (h))

range-all : (p : ℕ → Bool) (a k : ℕ) → ((i : ℕ) → a ≤ i → i < a + k → p i ≡ true) → list_all p (range_with_len a k) ≡ true
range-all p a zero h = refl
range-all p a (suc k) h =
    ap (λ (x : Bool). x && list_all p (range_with_len (a + 1) k)) (h a (omega arith) (omega arith))
    ∙ range-all p (a + 1) k (λ i l m. h i (omega (arith, l)) (omega (arith, m)))

-- Objects with tags

-- where their pointers are
pub record AreAligned (o : Object) : Type 0 where
  pub each : (k : ℕ) (p : Pointer) → o.pointers k ≡ Some p → (k % 8 ≡ 0) × (k + 8 ≤ o.size)

pub tag-of : (g : Ground) (bytes : List ℕ) (b : ℕ) (o : Object) (k : ℕ) (p : Option Pointer) → HoldsWord g bytes b o k p → tag_at bytes b o.size k ≡ not (is_none p)
tag-of g bytes b o k None h = h.0
tag-of g bytes b o k (Some p) h = h.0

-- TAG of what is no pointer
plain-is : (g : Ground) (bytes : List ℕ) (b : ℕ) (o : Object) (n at : ℕ) → HoldsTagged g bytes b o → AreAligned o → 0 < n → at + n ≤ o.size
    → is_plain bytes (b + at) b n ≡ holds_none n at o
plain-is g bytes b o n at h aligned some inside =
    ap (λ (m : ℕ). list_all (λ i. not (tag_at bytes b m i)) (touched b (b + at) n)) h.size
    ∙ bool-same (list_all (λ i. not (tag_at bytes b o.size i)) (counted (word_at b (b + at)) (touched_count b (b + at) n))) (holds_none n at o) none plain
  where
    range : IsTouched o.size at n (word_at b (b + at)) (touched_count b (b + at) n)
    range = range-of b o.size at n some inside

    less : (a b : ℕ) → (nat_lt a b) ≡ true → a < b
    less a b h = grind (arith, nat_tests, h)

    bounds : (k : ℕ) → touches n at k ≡ true → (k < at + n) × (at < k + 8)
    bounds k e = (grind (arith, nat_tests, e), grind (arith, nat_tests, e))

    -- a pointer at a touched byte would be tagged
    none : list_all (λ i. not (tag_at bytes b o.size i)) (counted (word_at b (b + at)) (touched_count b (b + at) n)) ≡ true → holds_none n at o ≡ true
    none t = range-all (λ k. not (touches n at k) || is_none (o.pointers k)) 0 (at + n) (λ k l m. by k (touches n at k) refl (o.pointers k) refl)
      where
        by : (k : ℕ) (q : Bool) → touches n at k ≡ q → (x : Option Pointer) → o.pointers k ≡ x → (not q || is_none x) ≡ true
        by k false e x f = refl
        by k true e None f = refl
        by k true e (Some p) f =
            let a = aligned.each k p f in
            let eight : k ≡ 8 * (k / 8) = (let z = a.0 in omega (arith, z)) in
            let low = (bounds k e).0 in let high = (bounds k e).1 in
            let own : k / 8 < word_count o.size = (let z = a.1 in omega (arith, z)) in
            let in_range = range.high (k / 8) (omega (arith, eight, low), omega (arith, eight, high)) in
            let clear : not (tag_at bytes b o.size (k / 8)) ≡ true =
            all-counted (λ j. not (tag_at bytes b o.size j)) (word_at b (b + at)) (touched_count b (b + at) n) t (k / 8) in_range.0 in_range.1 in
            let g0 : o.pointers (8 * (k / 8)) ≡ Some p = ap o.pointers (sym eight) ∙ f in
            let set : tag_at bytes b o.size (k / 8) ≡ true =
            tag-of g bytes b o (k / 8) (o.pointers (8 * (k / 8))) (h.words (k / 8) own) ∙ ap (λ (y : Option Pointer). not (is_none y)) g0 in
            absurd (let c : not true ≡ true = ap not (sym set) ∙ clear in cc (c))

    plain : holds_none n at o ≡ true → list_all (λ i. not (tag_at bytes b o.size i)) (counted (word_at b (b + at)) (touched_count b (b + at) n)) ≡ true
    plain t = all-true (λ i. not (tag_at bytes b o.size i)) (word_at b (b + at)) (touched_count b (b + at) n)
        (λ i l m. one i (range.low i l m) (let w = range.own in omega (arith, w, m)))
      where
        one : (i : ℕ) → (8 * i < at + n) × (at < 8 * i + 8) → i < word_count o.size → not (tag_at bytes b o.size i) ≡ true
        one i x own =
            let c : (not (touches n at (8 * i)) || is_none (o.pointers (8 * i))) ≡ true =
            all-range (λ k. not (touches n at k) || is_none (o.pointers k)) 0 (at + n) t (8 * i) (omega arith) (let y = x.0 in omega (arith, y)) in
            let s : touches n at (8 * i) ≡ true = (let y = x.0 in let z = x.1 in grind (arith, nat_tests, y, z)) in
            let d : is_none (o.pointers (8 * i)) ≡ true = ap (λ (q : Bool). not q || is_none (o.pointers (8 * i))) (sym s) ∙ c in
            ap not (tag-of g bytes b o i (o.pointers (8 * i)) (h.words i own)) ∙ ap (λ (q : Bool). not (not q)) d

-- TAG of a pointer
tag-is : (g : Ground) (bytes : List ℕ) (b : ℕ) (o : Object) (k : ℕ) → HoldsTagged g bytes b o → 8 * k + 8 ≤ o.size
    → (is_tagged bytes (b + 8 * k) b || nat_eq (number 8 bytes (b + 8 * k)) 0) ≡ holds_pointer_at (8 * k) o
tag-is g bytes b o k h inside =
    ap (λ m. tag_at bytes b m (word_at b (b + 8 * k)) || nat_eq (number 8 bytes (b + 8 * k)) 0) h.size
    ∙ ap (λ m. tag_at bytes b o.size m || nat_eq (number 8 bytes (b + 8 * k)) 0) here
    ∙ by (o.pointers (8 * k)) refl (h.words k (omega (arith, inside)))
  where
    here : word_at b (b + 8 * k) ≡ k
    here = omega arith

    by : (x : Option Pointer) → o.pointers (8 * k) ≡ x → HoldsWord g bytes b o k x
        → (tag_at bytes b o.size k || nat_eq (number 8 bytes (b + 8 * k)) 0) ≡ holds_pointer_at (8 * k) o
    by None e y =
        ap (λ q. q || nat_eq (number 8 bytes (b + 8 * k)) 0) y.0
        ∙ ap (λ m. nat_eq m 0) (number-same 8 bytes o.bytes (b + 8 * k) (8 * k) (λ i l. y.1 i l (omega (arith, inside, l))))
        ∙ sym (ap (λ (z : Option Pointer). is_some z || (number 8 o.bytes (8 * k) == 0)) e)
    by (Some p) e y =
        ap (λ q. q || nat_eq (number 8 bytes (b + 8 * k)) 0) y.0
        ∙ sym (ap (λ (z : Option Pointer). is_some z || (number 8 o.bytes (8 * k) == 0)) e)

tagged-holds : (k : Kind) → k ≡ Wild → (g : Ground) (bytes : List ℕ) (at : ℕ) (o : Object) → HoldsBy k g bytes at o → HoldsTagged g bytes at o
tagged-holds k e g bytes at o h = subst (λ (x : Kind). HoldsBy x g bytes at o) e h

-- WILD pointers to objects

module _ (w : Setting) (number_of : TypeId → ℕ) (s : source.State) (c : flat.State) (parts : Parts) (depth : ℕ) where
  abbrev g : Ground
  g = ground_of w number_of s c

  -- the living object that a pointer was made for
  pub record IsTarget (l : Location) (o : Object) : Type 0 where
    pub found : slice_get s.memory.objects l.object ≡ Some o
    pub live : o.live ≡ true
    pub low : l.part.low ≡ 0
    pub high : l.part.high ≡ o.size
    pub near : IsReach l.offset
    pub holds : HoldsTagged (ground_of w number_of s c) c.memory.bytes (address (ground_of w number_of s c) l.object) o
    pub above : 8 ≤ address (ground_of w number_of s c) l.object
    pub aligned : address (ground_of w number_of s c) l.object % 8 ≡ 0
    pub inside : address (ground_of w number_of s c) l.object + o.size < 2 ^ 32
    pub tagged : w.kind o.node ≡ Wild
    pub related : Related w number_of s c

  module _ (t : TypeId) (e : ℕ → ℕ) (p : PointerSlots) where
    pub target : (l : Location) → IsChecked w number_of s c depth Wild t (At l) e p → (o : Object) × IsTarget l o
    target l x =
        let v : IsWildAt w (outlines_of s.memory) l = x.held.value in
        let f = has-outline s.memory depth l.object v.object v.found x.held.reaches in
        let lies = x.related.areas.lie l.object f.object f.found f.live in
        let kind : w.kind f.object.node ≡ Wild = ap (λ (y : Outline). w.kind y.node) f.is ∙ v.tagged in
        let size : f.object.size ≡ v.object.size = ap (λ (y : Outline). y.size) f.is in
        let room : f.object.size ≤ contents_size (area_of w.kind (outline f.object)) =
        subst (λ k. f.object.size ≤ contents_size (area_by w.kind k f.object.size f.object.cells)) (sym kind)
        (let a = area_size-least (record { tagged = true; bytes = f.object.size }) in omega (arith, a)) in (
          f.object,
          record {
            found = f.found;
            live = f.live;
            low = v.low;
            high = v.high ∙ sym size;
            near = (let a = v.least in let b = v.most in reach l.offset (omega (arith, ints, a)) b);
            holds = tagged-holds (w.kind f.object.node) kind g c.memory.bytes (address g l.object) f.object (x.related.holds.each l.object f.object f.found f.live);
            above = lies.above;
            aligned = lies.aligned;
            inside = (let a = lies.inside in let b = x.related.small in omega (arith, a, b, room));
            tagged = kind;
            related = x.related;
          },
        )

    -- how far it stands behind its base, as a word
    pub apart : (l : Location) (x : IsChecked w number_of s c depth Wild t (At l) e p) → address g l.object < 2 ^ 32 → difference_words (e p.first) (e p.second) ≡ word l.offset
    apart l x small =
        ap (λ n. difference_words n (e p.second)) x.words.0
        ∙ ap (λ n. difference_words (word (pos (address g l.object) +ℤ l.offset)) n) (x.words.1 ∙ sym (word-small (address g l.object) (omega (arith, small))))
        ∙ difference-word (pos (address g l.object) +ℤ l.offset) (pos (address g l.object)) ∙ ap word (back (pos (address g l.object)) l.offset)
      where
        back : (a z : ℤ) → (a +ℤ z) -ℤ a ≡ z
        back a z = omega (arith, ints)

    -- and where it stands in its object, as an address
    pub there : (l : Location) (o : Object) (y : IsTarget l o) (x : IsChecked w number_of s c depth Wild t (At l) e p) (at : ℕ) → l.offset ≡ pos at → at ≤ o.size
        → e p.first ≡ address g l.object + at
    there l o y x at offset inside =
        x.words.0 ∙ ap (λ z. word (pos (address g l.object) +ℤ z)) offset ∙ word-small (address g l.object + at) (let a = y.inside in omega (arith, a, inside))

    -- the length of the area
    pub area-length : (l : Location) (o : Object) (y : IsTarget l o) (x : IsChecked w number_of s c depth Wild t (At l) e p) → length_at c.memory.bytes (e p.second) ≡ o.size
    area-length l o y x = ap (length_at c.memory.bytes) x.words.1 ∙ y.holds.size

    -- BASE

    module _ (laid : AreFunctionsLaid w number_of s c) where
      pub base-at : (q : Pointer) (last : Fixed) → last.value ≡ function_address (length w.functions) → IsChecked w number_of s c depth Wild t q e p
          → flat_holds parts c.memory (IsArea p.second last) e ≡ holds w s.memory (HasBase q)
      base-at Null last is x = ap (λ n. nat_lt last.value n) x.words.1 ∙ none-less last.value
      base-at (Number n) last is x = ap (λ n. nat_lt last.value n) x.words.1 ∙ none-less last.value
      base-at (Function f) last is x =
          let d : (d : Defined) × (slice_get w.functions f ≡ Some d) = x.held.value in
          ap (λ n. nat_lt last.value n) x.words.1 ∙ not-less last.value (function_word f)
          (let h = slice_get_within w.functions f d.0 d.1 in omega (arith, is, h))
        where
          not-less : (a b : ℕ) → b ≤ a → nat_lt a b ≡ false
          not-less a b h = grind (arith, nat_tests, h)
      base-at (At l) last is x =
          let o = target l x in
          ap (λ n. nat_lt last.value n) x.words.1 ∙ less last.value (address g l.object)
          (let h = laid.beyond l.object o.0 o.1.found o.1.live in omega (arith, is, h))
        where
          less : (a b : ℕ) → a < b → nat_lt a b ≡ true
          less a b h = grind (arith, nat_tests, h)

      -- WBOUNDS

      -- a function has no bytes
      function-words : (f : ℕ) (size : Fixed) → 0 < size.value → IsChecked w number_of s c depth Wild t (Function f) e p
          → flat_holds parts c.memory (in_area p size) e ≡ false
      function-words f size some x =
          let d : (d : Defined) × (slice_get w.functions f ≡ Some d) = x.held.value in
          by (nat_eq size.value 1) refl (laid.empty f d.0 d.1) (let h = slice_get_within w.functions f d.0 d.1 in let k = laid.few in omega (arith, h, k))
        where
          zero-apart : function_word f < 2 ^ 64 → difference_words (function_word f) (function_word f) ≡ 0
          zero-apart h = same (function_word f) h
            where
              same : (n : ℕ) → n < 2 ^ 64 → (n + (2 ^ 64 - n)) % 2 ^ 64 ≡ 0
              same n h = omega (arith, h)

          gone : function_word f < 2 ^ 64 → difference_words (e p.first) (e p.second) ≡ 0
          gone h = ap (λ n. difference_words n (e p.second)) x.words.0 ∙ ap (λ n. difference_words (function_word f) n) x.words.1 ∙ zero-apart h

          by : (b : Bool) → nat_eq size.value 1 ≡ b → length_at c.memory.bytes (function_word f) ≡ 0 → function_word f < 2 ^ 64
              → flat_holds parts c.memory (if b then IsByteInArea p else IsInArea p size) e ≡ false
          by true k none few =
              ap (λ n. nat_lt n (length_at c.memory.bytes (e p.second))) (gone few) ∙ ap (λ n. nat_lt 0 n) (ap (length_at c.memory.bytes) x.words.1 ∙ none)
          by false k none few =
              ap (λ n. is_in_area size.value (length_at c.memory.bytes (e p.second)) n) (gone few)
              ∙ ap (λ n. is_in_area size.value n 0) (ap (length_at c.memory.bytes) x.words.1 ∙ none)
              ∙ no-area size.value 0 some (omega arith)

      object-words : (l : Location) (size : Fixed) → size.value < 2 ^ 40 → IsChecked w number_of s c depth Wild t (At l) e p
          → flat_holds parts c.memory (in_area p size) e ≡ holds w s.memory (InObject size.value (At l))
      object-words l size few x = of (target l x)
        where
          of : (o : Object) × IsTarget l o → flat_holds parts c.memory (in_area p size) e ≡ holds w s.memory (InObject size.value (At l))
          of (o, y) = by (nat_eq size.value 1) refl ∙ sym (ap (λ (z : Option Object). fits_between 0 (size_of_object z) l.offset size.value) y.found)
            where
              small : address g l.object < 2 ^ 32
              small = let a = y.inside in omega (arith, a)

              in_size : o.size < 2 ^ 40
              in_size = let a = y.inside in omega (arith, a)

              by : (b : Bool) → nat_eq size.value 1 ≡ b
                  → flat_holds parts c.memory (if b then IsByteInArea p else IsInArea p size) e ≡ fits_between 0 o.size l.offset size.value
              by true k =
                  ap (λ n. nat_lt n (length_at c.memory.bytes (e p.second))) (apart l x small)
                  ∙ ap (λ n. nat_lt (word l.offset) n) (area-length l o y x)
                  ∙ sym (byte-area o.size (word l.offset) in_size (word-below l.offset))
                  ∙ in_area-word o.size 1 l.offset in_size (omega arith) y.near
                  ∙ ap (fits_between 0 o.size l.offset) (sym (true-eq size.value 1 k))
              by false k =
                  ap (λ n. is_in_area size.value (length_at c.memory.bytes (e p.second)) n) (apart l x small)
                  ∙ ap (λ n. is_in_area size.value n (word l.offset)) (area-length l o y x)
                  ∙ in_area-word o.size size.value l.offset in_size few y.near

      pub bounds-at : (q : Pointer) (size : Fixed) (at : Place) → 0 < size.value → size.value < 2 ^ 40 → IsChecked w number_of s c depth Wild t q e p
          → all_hold parts c.memory (reached Wild p size at) e ≡ holds w s.memory (InObject size.value q)
      bounds-at Null size at some few x = ap (λ n. not (nat_eq n 0) && (flat_holds parts c.memory (in_area p size) e && true)) x.words.1
      bounds-at (Number n) size at some few x = ap (λ n. not (nat_eq n 0) && (flat_holds parts c.memory (in_area p size) e && true)) x.words.1
      bounds-at (Function f) size at some few x =
          ap (λ b. not (nat_eq (e p.second) 0) && (b && true)) (function-words f size some x) ∙ last (not (nat_eq (e p.second) 0))
        where
          last : (b : Bool) → (b && false) ≡ false
          last true = refl
          last false = refl
      bounds-at (At l) size at some few x =
          let o = target l x in
          ap (λ b. not b && (flat_holds parts c.memory (in_area p size) e && true))
          (eq-false (e p.second) 0 (λ z. let a = o.1.above in let b = x.words.1 in omega (arith, z, a, b)))
          ∙ alone (flat_holds parts c.memory (in_area p size) e) ∙ object-words l size few x

    -- ALIGN

    pub alignment-at : (q : Pointer) (seven : ℕ) → IsChecked w number_of s c depth Wild t q e p → holds w s.memory (HasBase q) ≡ true
        → flat_holds parts c.memory (IsAligned p.first seven) e ≡ holds w s.memory (conditions.IsAligned q)
    alignment-at Null seven x h = absurd (cc (h))
    alignment-at (Number n) seven x h = absurd (cc (h))
    alignment-at (Function f) seven x h = absurd (cc (h))
    alignment-at (At l) seven x h =
        let o = target l x in
        ap (λ n. nat_eq (n % 8) 0) x.words.0 ∙ ap (λ n. nat_eq n 0) (align-word (address g l.object) l.offset o.1.aligned) ∙ sym (rem-euclid l.offset 8)

    -- TAG

    pub plain-at : (sites : List Site) (q : Pointer) (n : ℕ) → IsSoundMemory w sites s.memory → 0 < n → IsChecked w number_of s c depth Wild t q e p
        → holds w s.memory (InObject n q) ≡ true → flat_holds parts c.memory (HoldsNoPointer p n) e ≡ holds w s.memory (HoldsNone n q)
    plain-at sites Null n sound some x h = absurd (cc (h))
    plain-at sites (Number m) n sound some x h = absurd (cc (h))
    plain-at sites (Function f) n sound some x h = absurd (cc (h))
    plain-at sites (At l) n sound some x h = of (target l x)
      where
        of : (o : Object) × IsTarget l o → flat_holds parts c.memory (HoldsNoPointer p n) e ≡ holds w s.memory (HoldsNone n (At l))
        of (o, y) = to (in-bounds 0 o.size l.offset n (sym (ap (λ (z : Option Object). fits_between 0 (size_of_object z) l.offset n) y.found) ∙ h))
          where
            to : (at : ℕ) × (l.offset ≡ pos at) × (0 ≤ at) × (at + n ≤ o.size) → flat_holds parts c.memory (HoldsNoPointer p n) e ≡ holds w s.memory (HoldsNone n (At l))
            to (at, offset, low, inside) =
                ap (λ a. is_plain c.memory.bytes a (e p.second) n) (there l o y x at offset (omega (arith, inside)))
                ∙ ap (λ b. is_plain c.memory.bytes (address g l.object + at) b n) x.words.1
                ∙ plain-is g c.memory.bytes (address g l.object) o n at y.holds
                (record { each = λ k q f. let z = (sound.each l.object o y.found y.live).tagged y.tagged k q f in (z.aligned, z.inside) }) some inside
                ∙ sym (ap (λ (z : Option Object). object_at z l.offset (holds_none n)) y.found ∙ ap (λ z. object_at (Some o) z (holds_none n)) offset)

    pub tag-at : (q : Pointer) (eight : ℕ) → IsChecked w number_of s c depth Wild t q e p → holds w s.memory (InObject 8 q) ≡ true
        → holds w s.memory (conditions.IsAligned q) ≡ true → flat_holds parts c.memory (HoldsPointer p eight) e ≡ holds w s.memory (conditions.HoldsPointer q)
    tag-at Null eight x h k = absurd (cc (h))
    tag-at (Number m) eight x h k = absurd (cc (h))
    tag-at (Function f) eight x h k = absurd (cc (h))
    tag-at (At l) eight x h k = of (target l x)
      where
        of : (o : Object) × IsTarget l o → flat_holds parts c.memory (HoldsPointer p eight) e ≡ holds w s.memory (conditions.HoldsPointer (At l))
        of (o, y) = to (in-bounds 0 o.size l.offset 8 (sym (ap (λ (z : Option Object). fits_between 0 (size_of_object z) l.offset 8) y.found) ∙ h))
          where
            to : (at : ℕ) × (l.offset ≡ pos at) × (0 ≤ at) × (at + 8 ≤ o.size) → flat_holds parts c.memory (HoldsPointer p eight) e ≡ holds w s.memory (conditions.HoldsPointer (At l))
            to (at, offset, low, inside) =
                let by8 : at % 8 ≡ 0 = true-eq (at % 8) 0 (sym (rem-euclid (pos at) 8) ∙ ap (λ z. int_eq (int_rem_euclid z (pos 8)) (pos 0)) (sym offset) ∙ k) in
                let eight : at ≡ 8 * (at / 8) = omega (arith, by8) in
                ap (λ a. is_tagged c.memory.bytes a (e p.second) || nat_eq (number 8 c.memory.bytes a) 0)
                (there l o y x at offset (omega (arith, inside)) ∙ ap (λ i. address g l.object + i) eight)
                ∙ ap (λ b. is_tagged c.memory.bytes (address g l.object + 8 * (at / 8)) b || nat_eq (number 8 c.memory.bytes (address g l.object + 8 * (at / 8))) 0) x.words.1
                ∙ tag-is g c.memory.bytes (address g l.object) o (at / 8) y.holds (omega (arith, eight, inside))
                ∙ sym (ap (λ (z : Option Object). object_at z l.offset holds_pointer_at) y.found ∙ ap (λ z. object_at (Some o) z holds_pointer_at) offset
                ∙ ap (λ i. holds_pointer_at i o) eight)

-- SAME

module _ (w : Setting) (number_of : TypeId → ℕ) (s : source.State) (c : flat.State) (parts : Parts) (depth : ℕ) (e : ℕ → ℕ) (r : Related w number_of s c) where
  abbrev made_from : Ground
  made_from = ground_of w number_of s c

  abbrev Checks : TypeId → Pointer → PointerSlots → Type 0
  Checks t q p = IsChecked w number_of s c depth Wild t q e p

  -- areas of two living objects begin elsewhere
  other-area : (i j : ℕ) (x y : Object) → slice_get s.memory.objects i ≡ Some x → x.live ≡ true → slice_get s.memory.objects j ≡ Some y → y.live ≡ true → i ≢ j
      → address made_from i ≢ address made_from j
  other-area i j x y f a h b n k = ⊎_elim (λ q. absurd (omega (arith, q, k))) (λ q. absurd (omega (arith, q, k))) (r.areas.apart i j x y f a h b n)

  area-at : (t u : TypeId) (k l : Location) (p o : PointerSlots) → Checks t (At k) p → Checks u (At l) o
      → flat_holds parts c.memory (AreOfArea p o) e ≡ ((k.object == l.object) && same_part k.part l.part)
  area-at t u k l p o x y = of (target w number_of s c parts depth t e p k x) (target w number_of s c parts depth u e o l y)
    where
      of : (a : Object) × IsTarget w number_of s c parts depth k a → (b : Object) × IsTarget w number_of s c parts depth l b
          → flat_holds parts c.memory (AreOfArea p o) e ≡ ((k.object == l.object) && same_part k.part l.part)
      of (a, m) (b, n) =
          ap (λ z. nat_eq z (e o.second)) x.words.1 ∙ ap (nat_eq (address made_from k.object)) y.words.1
          ∙ by (nat_eq k.object l.object) refl
        where
          low : nat_eq k.part.low l.part.low ≡ true
          low = eq-true k.part.low l.part.low (m.low ∙ sym n.low)

          by : (q : Bool) → nat_eq k.object l.object ≡ q → nat_eq (address made_from k.object) (address made_from l.object) ≡ (q && same_part k.part l.part)
          by false f = eq-false (address made_from k.object) (address made_from l.object)
              (other-area k.object l.object a b m.found m.live n.found n.live (λ h. let z = eq-true k.object l.object h in cc (z, f)))
          by true f =
              let same = true-eq k.object l.object f in
              let one : a ≡ b = (let i = m.found in let j = ap (slice_get s.memory.objects) same ∙ n.found in cc (i, j)) in
              let high = eq-true k.part.high l.part.high (m.high ∙ ap (λ (z : Object). z.size) one ∙ sym n.high) in
              eq-true (address made_from k.object) (address made_from l.object) (ap (address made_from) same)
              ∙ sym (ap (λ z. z && nat_eq k.part.high l.part.high) low ∙ high)

  pub wild-orders-compared : (t u : TypeId) (q z : Pointer) (p o : PointerSlots) → Checks t q p → Checks u z o → holds w s.memory (HasBase q) ≡ true
      → holds w s.memory (HasBase z) ≡ true → flat_holds parts c.memory (AreOfArea p o) e ≡ holds w s.memory (AreOfOnePart (used Wild q) (used Wild z))
  wild-orders-compared t u Null z p o x y h i = absurd (cc (h))
  wild-orders-compared t u (Number n) z p o x y h i = absurd (cc (h))
  wild-orders-compared t u (Function f) z p o x y h i = absurd (cc (h))
  wild-orders-compared t u (At k) Null p o x y h i = absurd (cc (i))
  wild-orders-compared t u (At k) (Number n) p o x y h i = absurd (cc (i))
  wild-orders-compared t u (At k) (Function f) p o x y h i = absurd (cc (i))
  wild-orders-compared t u (At k) (At l) p o x y h i = area-at t u k l p o x y

  -- it stands in its object, or at its end
  standing : (size : ℕ) (z : ℤ) → size < 2 ^ 40 → IsReach z → not (nat_lt size (word z)) ≡ between (pos 0) z (pos size)
  standing size (pos n) hs h = grind (arith, nat_tests)
  standing size (negsuc n) hs h = grind (arith, nat_tests)

  pub settled-at : AreFunctionsLaid w number_of s c → (t : TypeId) (q : Pointer) (p : PointerSlots) → Checks t q p
      → flat_holds parts c.memory (Unless p.second (IsWithinArea p)) e ≡ stands_within Wild q
  settled-at laid t Null p x = ap (λ n. nat_eq n 0 || not (nat_lt (length_at c.memory.bytes (e p.second)) (difference_words (e p.first) (e p.second)))) x.words.1
  settled-at laid t (Number n) p x = ap (λ n. nat_eq n 0 || not (nat_lt (length_at c.memory.bytes (e p.second)) (difference_words (e p.first) (e p.second)))) x.words.1
  settled-at laid t (Function f) p x =
      let d : (d : Defined) × (slice_get w.functions f ≡ Some d) = x.held.value in
      let few : function_word f < 2 ^ 64 = (let h = slice_get_within w.functions f d.0 d.1 in let k = laid.few in omega (arith, h, k)) in
      ap (λ n. nat_eq (e p.second) 0 || not (nat_lt (length_at c.memory.bytes (e p.second)) n))
      (ap (λ n. difference_words n (e p.second)) x.words.0 ∙ ap (λ n. difference_words (function_word f) n) x.words.1 ∙ same (function_word f) few)
      ∙ ap (λ n. nat_eq (e p.second) 0 || not (nat_lt (length_at c.memory.bytes n) 0)) x.words.1
      ∙ ap (λ n. nat_eq (e p.second) 0 || not (nat_lt n 0)) (laid.empty f d.0 d.1) ∙ any (nat_eq (e p.second) 0)
    where
      same : (n : ℕ) → n < 2 ^ 64 → (n + (2 ^ 64 - n)) % 2 ^ 64 ≡ 0
      same n h = omega (arith, h)

      any : (b : Bool) → (b || true) ≡ true
      any true = refl
      any false = refl
  settled-at laid t (At l) p x = of (target w number_of s c parts depth t e p l x)
    where
      of : (o : Object) × IsTarget w number_of s c parts depth l o → flat_holds parts c.memory (Unless p.second (IsWithinArea p)) e ≡ stands_within Wild (At l)
      of (o, y) =
          let small : address made_from l.object < 2 ^ 32 = (let a = y.inside in omega (arith, a)) in
          let above : 8 ≤ address (ground_of w number_of s c) l.object = y.above in
          ap (λ b. b || not (nat_lt (length_at c.memory.bytes (e p.second)) (difference_words (e p.first) (e p.second))))
          (eq-false (e p.second) 0 (λ z. let b = x.words.1 in omega (arith, z, above, b)))
          ∙ ap (λ n. not (nat_lt (length_at c.memory.bytes (e p.second)) n)) (apart w number_of s c parts depth t e p l x small)
          ∙ ap (λ n. not (nat_lt n (word l.offset))) (area-length w number_of s c parts depth t e p l o y x)
          ∙ standing o.size l.offset (let a = y.inside in omega (arith, a)) y.near
          ∙ sym (ap (λ n. between (pos n) l.offset (pos l.part.high)) y.low ∙ ap (λ n. between (pos 0) l.offset (pos n)) y.high)

  module _ (laid : AreFunctionsLaid w number_of s c) where
    -- the base of an object is nothing else's
    beyond : (t : TypeId) (l : Location) (p : PointerSlots) → Checks t (At l) p → function_address (length w.functions) < e p.second
    beyond t l p x =
        let o = target w number_of s c parts depth t e p l x in
        let h = laid.beyond l.object o.0 o.1.found o.1.live in let b = x.words.1 in omega (arith, h, b)

    -- of what was made for no object
    data IsNone (t : TypeId) (q : Pointer) (p : PointerSlots) : Type 0 where
      nothing : e p.second ≤ function_address (length w.functions) → stands_within Wild q ≡ true
          → ((z : Pointer) → of_one_part (used Wild q) (used Wild z) ≡ false) → ((z : Pointer) → of_one_part (used Wild z) (used Wild q) ≡ false) → IsNone t q p
      object : (l : Location) → q ≡ At l → IsNone t q p

    swapped : (q z : Pointer) → ((l : Location) → q ≡ At l → ⊥) → of_one_part (used Wild z) (used Wild q) ≡ false
    swapped Null Null n = refl
    swapped Null (Number k) n = refl
    swapped Null (At k) n = refl
    swapped Null (Function f) n = refl
    swapped (Number m) Null n = refl
    swapped (Number m) (Number k) n = refl
    swapped (Number m) (At k) n = refl
    swapped (Number m) (Function f) n = refl
    swapped (At l) z n = absurd (n l refl)
    swapped (Function h) Null n = refl
    swapped (Function h) (Number k) n = refl
    swapped (Function h) (At k) n = refl
    swapped (Function h) (Function f) n = refl

    which : (t : TypeId) (q : Pointer) (p : PointerSlots) → Checks t q p → IsNone t q p
    which t Null p x = nothing (let b = x.words.1 in omega (arith, b)) refl (λ z. refl) (λ z. swapped Null z (λ l h. cc (h)))
    which t (Number n) p x = nothing (let b = x.words.1 in omega (arith, b)) refl (λ z. refl) (λ z. swapped (Number n) z (λ l h. cc (h)))
    which t (At l) p x = object l refl
    which t (Function f) p x =
        let d : (d : Defined) × (slice_get w.functions f ≡ Some d) = x.held.value in
        nothing (let b = x.words.1 in let h = slice_get_within w.functions f d.0 d.1 in omega (arith, b, h)) refl (λ z. refl) (λ z. swapped (Function f) z (λ l h. cc (h)))

    one-area : (t u : TypeId) (q z : Pointer) (p o : PointerSlots) → Checks t q p → Checks u z o → IsNone t q p → IsNone u z o
        → (nat_eq (e p.second) (e o.second) || (stands_within Wild q && stands_within Wild z)) ≡ (of_one_part (used Wild q) (used Wild z) || (stands_within Wild q && stands_within Wild z))
    one-area t u q z p o x y (nothing a b f h) (nothing i j k m) =
        ap (λ v. nat_eq (e p.second) (e o.second) || v) (ap (λ v. v && stands_within Wild z) b ∙ j) ∙ any (nat_eq (e p.second) (e o.second))
        ∙ sym (ap (λ v. of_one_part (used Wild q) (used Wild z) || v) (ap (λ v. v && stands_within Wild z) b ∙ j) ∙ any (of_one_part (used Wild q) (used Wild z)))
      where
        any : (b : Bool) → (b || true) ≡ true
        any true = refl
        any false = refl
    one-area t u q z p o x y (nothing a b f h) (object l i) =
        ap (λ v. v || (stands_within Wild q && stands_within Wild z))
        (eq-false (e p.second) (e o.second) (λ k. let m = beyond u l o (subst (λ v. Checks u v o) i y) in omega (arith, k, m, a)) ∙ sym (f z))
    one-area t u q z p o x y (object k h) (nothing a b f i) =
        ap (λ v. v || (stands_within Wild q && stands_within Wild z))
        (eq-false (e p.second) (e o.second) (λ j. let m = beyond t k p (subst (λ v. Checks t v p) h x) in omega (arith, j, m, a)) ∙ sym (i q))
    one-area t u q z p o x y (object k h) (object l i) =
        ap (λ v. v || (stands_within Wild q && stands_within Wild z))
        (area-at t u k l p o (subst (λ v. Checks t v p) h x) (subst (λ v. Checks u v o) i y)
        ∙ sym (ap (λ v. of_one_part (used Wild v) (used Wild z)) h ∙ ap (λ v. of_one_part (used Wild (At k)) (used Wild v)) i))

    pub wild-equalities-compared : (t u : TypeId) (q z : Pointer) (p o : PointerSlots) (at : Place) → Checks t q p → Checks u z o
        → all_hold parts c.memory (all_asked check.Same at (equated Wild Wild p o)) e ≡ holds w s.memory (AreComparable (used Wild q) (used Wild z))
    wild-equalities-compared t u q z p o at x y =
        alone (nat_eq (e p.second) (e o.second) || (flat_holds parts c.memory (Unless p.second (IsWithinArea p)) e && flat_holds parts c.memory (Unless o.second (IsWithinArea o)) e))
        ∙ ap (λ b. nat_eq (e p.second) (e o.second) || (b && flat_holds parts c.memory (Unless o.second (IsWithinArea o)) e)) (settled-at laid t q p x)
        ∙ ap (λ b. nat_eq (e p.second) (e o.second) || (stands_within Wild q && b)) (settled-at laid u z o y)
        ∙ one-area t u q z p o x y (which t q p x) (which u z o y)
