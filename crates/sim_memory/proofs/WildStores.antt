-- Stores of pointers in objects with tags: a word gets its tag and its base word, or becomes zero without one.
use Rattle.std.proofs.Common.{◌≡◌, ◌≢◌, ◌∙◌, ◌⊎◌, ⊎_elim, inl, inr, ℕ, ◌+◌, ◌-◌, ◌*◌, ◌/◌, ◌%◌, ◌<◌, ◌≤◌, ◌^◌, Bool, true, false, ◌&&◌, ◌||◌, List, [], ◌∷◌, length, nat_eq, nat_le, slice_index, Option, Some, None, refl, ap, sym, subst, arith, if◌then◌else◌}
use Rattle.std.specs.Int.{bit_at}
use Rattle.std.proofs.lemmas.Bool.Decides.{nat_tests}
use Rattle.cc_base.specs.declared.kind.Kind.{Kind}
use Rattle.cc_base.specs.declared.kind.Kind.TheVariants.{Wild}
use Rattle.cc_base.specs.declared.number.TypeId.{TypeId}
use Rattle.runs.specs.Outcome.{Done, allowed, from}
use Rattle.runs.specs.Control.{then_go}
use Rattle.flat_mem.specs.Bytes.{stored, zeroed, AreBytes}
use Rattle.flat_mem.specs.Placement.{word_count, data_word, base_word, tag_byte, tagged_size}
use Rattle.flat_mem.specs.Memory.{with_bytes, in_flat}
use Rattle.flat_mem.proofs.ByteLaws.{length-stored, length-zeroed, get-stored_other, get-zeroed_other, get-zeroed_inside, stored-bytes, zeroed-bytes, number-stored, number-stored_apart}
use Rattle.flat_mem.proofs.StoreLaws.{number-zero, number-one}
use Rattle.wild_tags.specs.Words.{length_at, word_at, touched, touched_count, counted, tag_at, with_tag, tags_cleared}
use Rattle.wild_tags.specs.Calls.{marked, range_zeroed}
use Rattle.wild_tags.specs.Inside.{allows_plain, allows_tagged, allows_base, allows_mark, allows_zero, has_length, have_tags}
use Rattle.wild_tags.proofs.ByteRows.{range-of, all-true, get-marked_data, tag-stored}
use Rattle.wild_tags.proofs.CallLaws.{length-marked, length-range_zeroed, marked-bytes, range_zeroed-bytes, get-with_tag_other}
use Rattle.wild_tags.proofs.MarkLaws.{marked_at, length_at-marked, tag-marked, tag-marked_other, base-marked, base-marked_other, data-marked, tag-tags_cleared, tag-tags_cleared_other}
use Rattle.wild_tags.proofs.UntagLaws.{range_zeroed_at, number-range_zeroed, number-range_zeroed_other}
use Rattle.wild_tags.proofs.WriteLaws.{tags_cleared-one}
use Rattle.src_mem.specs.Pointers.{Pointer, Null, Number, At, Function}
use Rattle.src_mem.specs.Memory.{Object, touches, untouched, with_entry, entry_of, with_pointer}
use Rattle.src_mem.specs.State as source
use Rattle.src_mem.specs.State.{Setting}
use Rattle.src_mem.specs.Primitives.{with_object, store_pointer}
use Rattle.src_mem.specs.Outlines.{outline}
use Rattle.cured_code.specs.declared.instr.Instr.TheVariants as instr
use Rattle.cured_code.specs.FlatState as flat
use Rattle.cured_code.specs.FlatState.{slot, stored_at, accessed, with_list, Trap, goes}
use Rattle.cured_code.specs.FlatMachine.{Context, act, run}
use Rattle.sim_relation.specs.Ground.{Ground, address, first_word, second_word}
use Rattle.sim_relation.specs.Objects.{HoldsTagged, HoldsWord, HoldsBy, room_of}
use Rattle.sim_relation.specs.Related.{Related, ground_of}
use Rattle.sim_relation.proofs.Changes.{related-change}
use Rattle.sim_relation.proofs.Places.{in_list}
use Rattle.sim_memory.specs.Found.{GoOnAlike}
use Rattle.sim_memory.proofs.Staying.{stays-change}
use Rattle.sim_memory.specs.Wild.{IsFoundTagged}
use Rattle.sim_memory.proofs.Storing.{store-right}
use Rattle.sim_memory.proofs.WildLoads.{both-true, le-true, IsLaid, laid-found, right-tagged, image-tagged, tagged-may, base-may, room-of}

eighth : (at : ℕ) → at % 8 ≡ 0 → at ≡ 8 * (at / 8)
eighth at h = omega (arith, h)

-- entries of other words
same-or-other : (i k : ℕ) → (k ≡ i) ⊎ (k ≢ i)
same-or-other i k = by (nat_eq k i) refl
  where
    by : (b : Bool) → nat_eq k i ≡ b → (k ≡ i) ⊎ (k ≢ i)
    by true e = inl (grind (arith, nat_tests, e))
    by false e = inr (λ h. let z : nat_eq k i ≡ true = grind (arith, nat_tests, h) in absurd (let y : true ≡ false = sym z ∙ e in cc (y)))

entry-here : (i : ℕ) (q : Option Pointer) (pointers : ℕ → Option Pointer) → with_entry (8 * i) q pointers (8 * i) ≡ q
entry-here i q pointers = ap (λ (b : Bool). if b then q else pointers (8 * i)) (same (8 * i))
  where
    same : (n : ℕ) → nat_eq n n ≡ true
    same n = grind (arith, nat_tests)

entry-other : (i k : ℕ) (q : Option Pointer) (pointers : ℕ → Option Pointer) → k ≢ i → with_entry (8 * i) q (untouched 8 (8 * i) pointers) (8 * k) ≡ pointers (8 * k)
entry-other i k q pointers apart =
    ap (λ (b : Bool). if b then q else untouched 8 (8 * i) pointers (8 * k)) (unlike i k (aside i k apart))
    ∙ ap (λ (b : Bool). if b then None else pointers (8 * k)) (away i k (aside i k apart))
  where
    aside : (i k : ℕ) → k ≢ i → (k < i) ⊎ (i < k)
    aside i k apart = ⊎_elim (λ h. h) (λ e. absurd (apart e)) (case i k)
      where
        case : (i k : ℕ) → ((k < i) ⊎ (i < k)) ⊎ (k ≡ i)
        case i k = grind arith

    unlike : (i k : ℕ) → (k < i) ⊎ (i < k) → nat_eq (8 * k) (8 * i) ≡ false
    unlike i k h = grind (arith, nat_tests, h)

    away : (i k : ℕ) → (k < i) ⊎ (i < k) → touches 8 (8 * i) (8 * k) ≡ false
    away i k h = grind (arith, nat_tests, h)

aside-words : (i k : ℕ) → k ≢ i → (8 * k + 8 ≤ 8 * i) ⊎ (8 * i + 8 ≤ 8 * k)
aside-words i k apart = ⊎_elim (λ h. h) (λ e. absurd (apart e)) (case i k)
  where
    case : (i k : ℕ) → ((8 * k + 8 ≤ 8 * i) ⊎ (8 * i + 8 ≤ 8 * k)) ⊎ (k ≡ i)
    case i k = grind arith

-- A pointer with its tag

pub marked-holds : (g : Ground) (bytes : List ℕ) (b : ℕ) (o : Object) (i v u : ℕ) (q : Pointer) → HoldsTagged g bytes b o → AreBytes bytes → 8 ≤ b → 8 * i + 8 ≤ o.size
    → b + tagged_size o.size ≤ length bytes → entry_of q ≡ Some q → v ≡ first_word g Wild q → u ≡ second_word g Wild q → v < 2 ^ 64 → u < 2 ^ 64
    → HoldsTagged g (marked_at (stored 8 bytes (b + 8 * i) v) b o.size i u) b (with_pointer (8 * i) q o)
marked-holds g bytes b o i v u q h are above inside fits some first second sv su = record {
  size = length_at-marked S b o.size i u above ∙ number-stored_apart 8 8 bytes (b + 8 * i) (b - 8) v (inl (omega (arith, above))) ∙ h.size;
  words = λ k own. word k own (same-or-other i k);
}
  where
    S : List ℕ
    S = stored 8 bytes (b + 8 * i) v

    new : Object
    new = with_pointer (8 * i) q o

    room : b + 16 * word_count o.size + (word_count o.size + 7) / 8 ≤ length bytes
    room = room-of b o.size (length bytes) fits

    mine : i < word_count o.size
    mine = omega (arith, inside)

    bits : tag_byte b o.size i < length (stored 8 bytes (b + 8 * i) v)
    bits = let e = length-stored 8 bytes (b + 8 * i) v in let r = room in let m = mine in omega (arith, e, r, m)

    before-tags : (k : ℕ) → b + 8 * i + 8 ≤ tag_byte b o.size k
    before-tags k = omega (arith, inside)

    here : HoldsWord g (marked_at (stored 8 bytes (b + 8 * i) v) b o.size i u) b (with_pointer (8 * i) q o) i (Some q)
    here = (
      tag-marked S b o.size i u (stored-bytes 8 bytes (b + 8 * i) v are) bits mine,
      data-marked S b o.size i i u mine ∙ number-stored 8 bytes (b + 8 * i) v (let r = room in omega (arith, r, inside)) (omega (arith, sv)) ∙ first,
      base-marked S b o.size i u bits mine su ∙ second,
    )

    other : (k : ℕ) → k < word_count o.size → k ≢ i → (8 * k + 8 ≤ 8 * i) ⊎ (8 * i + 8 ≤ 8 * k) → (x : Option Pointer) → HoldsWord g bytes b o k x
        → HoldsWord g (marked_at (stored 8 bytes (b + 8 * i) v) b o.size i u) b (with_pointer (8 * i) q o) k x
    other k own apart t None y = (
      tag-marked_other S b o.size i k u (stored-bytes 8 bytes (b + 8 * i) v are) bits mine (λ e. apart (sym e)) ∙ tag-stored 8 bytes (b + 8 * i) v b o.size k (before-tags k) ∙ y.0,
      λ j l m.
          get-marked_data S b o.size i u (data_word b k + j) (omega (arith, own, l))
          ∙ get-stored_other 8 bytes (b + 8 * i) v (data_word b k + j) (⊎_elim (λ z. inl (omega (arith, z, l))) (λ z. inr (omega (arith, z))) t)
          ∙ y.1 j l m
          ∙ sym (get-zeroed_other 8 o.bytes (8 * i) (8 * k + j) (⊎_elim (λ z. inl (omega (arith, z, l))) (λ z. inr (omega (arith, z))) t)),
    )
    other k own apart t (Some p) y = (
      tag-marked_other S b o.size i k u (stored-bytes 8 bytes (b + 8 * i) v are) bits mine (λ e. apart (sym e)) ∙ tag-stored 8 bytes (b + 8 * i) v b o.size k (before-tags k) ∙ y.0,
      data-marked S b o.size i k u own
          ∙ number-stored_apart 8 8 bytes (b + 8 * i) (data_word b k) v (⊎_elim (λ z. inl (omega (arith, z))) (λ z. inr (omega (arith, z))) t) ∙ y.1,
      base-marked_other S b o.size i k u own (λ e. apart (sym e))
          ∙ number-stored_apart 8 8 bytes (b + 8 * i) (base_word b o.size k) v (inr (omega (arith, inside))) ∙ y.2,
    )

    word : (k : ℕ) → k < word_count o.size → (k ≡ i) ⊎ (k ≢ i)
        → HoldsWord g (marked_at (stored 8 bytes (b + 8 * i) v) b o.size i u) b (with_pointer (8 * i) q o) k (with_entry (8 * i) (entry_of q) (untouched 8 (8 * i) o.pointers) (8 * k))
    word k own (inl e) = subst (λ (j : ℕ). HoldsWord g (marked_at (stored 8 bytes (b + 8 * i) v) b o.size i u) b (with_pointer (8 * i) q o) j
        (with_entry (8 * i) (entry_of q) (untouched 8 (8 * i) o.pointers) (8 * j))) (sym e)
        (subst (HoldsWord g (marked_at (stored 8 bytes (b + 8 * i) v) b o.size i u) b (with_pointer (8 * i) q o) i)
        (sym (entry-here i (entry_of q) (untouched 8 (8 * i) o.pointers) ∙ some)) here)
    word k own (inr apart) = subst (HoldsWord g (marked_at (stored 8 bytes (b + 8 * i) v) b o.size i u) b (with_pointer (8 * i) q o) k)
        (sym (entry-other i k (entry_of q) o.pointers apart)) (other k own apart (aside-words i k apart) (o.pointers (8 * k)) (h.words k own))

-- A null pointer without one

pub cleared-holds : (g : Ground) (bytes : List ℕ) (b : ℕ) (o : Object) (i : ℕ) → HoldsTagged g bytes b o → AreBytes bytes → 8 ≤ b → 8 * i + 8 ≤ o.size
    → b + tagged_size o.size ≤ length bytes
    → HoldsTagged g (range_zeroed_at bytes (b + 8 * i) 8 b o.size i 1) b (with_pointer (8 * i) Null o)
cleared-holds g bytes b o i h are above inside fits = record {
  size = number-range_zeroed_other 8 bytes (b + 8 * i) 8 b o.size i 1 (b - 8) (inl (omega (arith, above))) (omega (arith, above)) ∙ h.size;
  words = λ k own. word k own (same-or-other i k);
}
  where
    Z : List ℕ
    Z = range_zeroed_at bytes (b + 8 * i) 8 b o.size i 1

    room : b + 16 * word_count o.size + (word_count o.size + 7) / 8 ≤ length bytes
    room = room-of b o.size (length bytes) fits

    mine : i < word_count o.size
    mine = omega (arith, inside)

    zero-bytes : AreBytes (zeroed 8 bytes (b + 8 * i))
    zero-bytes = zeroed-bytes 8 bytes (b + 8 * i) are

    bits : (j : ℕ) → i ≤ j → j < i + 1 → tag_byte b o.size j < length (zeroed 8 bytes (b + 8 * i))
    bits j low high = let e = length-zeroed 8 bytes (b + 8 * i) in let r = room in let m = mine in omega (arith, e, r, m, high)

    -- zeroing a word before the tags keeps them
    tag-kept : (k : ℕ) → tag_at (zeroed 8 bytes (b + 8 * i)) b o.size k ≡ tag_at bytes b o.size k
    tag-kept k =
        let e = get-zeroed_other 8 bytes (b + 8 * i) (tag_byte b o.size k) (inr (omega (arith, inside))) in
        ap (λ x. nat_eq (bit_at x (k % 8)) 1) e

    one : (p : ℕ) → p + 1 ≤ b + 16 * word_count o.size → (p + 1 ≤ b + 8 * i) ⊎ (b + 8 * i + 8 ≤ p) → slice_index (range_zeroed_at bytes (b + 8 * i) 8 b o.size i 1) p ≡ slice_index bytes p
    one p before out = sym (number-one Z p) ∙ number-range_zeroed_other 1 bytes (b + 8 * i) 8 b o.size i 1 p out before ∙ number-one bytes p

    here : HoldsWord g (range_zeroed_at bytes (b + 8 * i) 8 b o.size i 1) b (with_pointer (8 * i) Null o) i None
    here = (
      tag-tags_cleared i 1 (zeroed 8 bytes (b + 8 * i)) b o.size i zero-bytes (bits i (omega arith) (omega arith)) (omega arith) (omega arith),
      λ j l m.
          number-zero 8 Z (data_word b i) (number-range_zeroed 8 bytes (b + 8 * i) 8 b o.size i 1 (data_word b i) (omega arith) (omega arith) (let z = mine in omega (arith, z))) j l
          ∙ sym (get-zeroed_inside 8 o.bytes (8 * i) (8 * i + j) (omega arith) (omega (arith, l))),
    )

    other : (k : ℕ) → k < word_count o.size → k ≢ i → (8 * k + 8 ≤ 8 * i) ⊎ (8 * i + 8 ≤ 8 * k) → (x : Option Pointer) → HoldsWord g bytes b o k x
        → HoldsWord g (range_zeroed_at bytes (b + 8 * i) 8 b o.size i 1) b (with_pointer (8 * i) Null o) k x
    other k own apart t None y = (
      tag-tags_cleared_other i 1 (zeroed 8 bytes (b + 8 * i)) b o.size k zero-bytes bits (⊎_elim (λ z. inl (omega (arith, z))) (λ z. inr (omega (arith, z))) t) ∙ tag-kept k ∙ y.0,
      λ j l m.
          one (data_word b k + j) (omega (arith, own, l)) (⊎_elim (λ z. inl (omega (arith, z, l))) (λ z. inr (omega (arith, z))) t)
          ∙ y.1 j l m
          ∙ sym (get-zeroed_other 8 o.bytes (8 * i) (8 * k + j) (⊎_elim (λ z. inl (omega (arith, z, l))) (λ z. inr (omega (arith, z))) t)),
    )
    other k own apart t (Some p) y = (
      tag-tags_cleared_other i 1 (zeroed 8 bytes (b + 8 * i)) b o.size k zero-bytes bits (⊎_elim (λ z. inl (omega (arith, z))) (λ z. inr (omega (arith, z))) t) ∙ tag-kept k ∙ y.0,
      number-range_zeroed_other 8 bytes (b + 8 * i) 8 b o.size i 1 (data_word b k) (⊎_elim (λ z. inl (omega (arith, z))) (λ z. inr (omega (arith, z))) t) (omega (arith, own)) ∙ y.1,
      number-range_zeroed_other 8 bytes (b + 8 * i) 8 b o.size i 1 (base_word b o.size k) (inr (omega (arith, inside))) (omega (arith, own)) ∙ y.2,
    )

    word : (k : ℕ) → k < word_count o.size → (k ≡ i) ⊎ (k ≢ i)
        → HoldsWord g (range_zeroed_at bytes (b + 8 * i) 8 b o.size i 1) b (with_pointer (8 * i) Null o) k (with_entry (8 * i) None (untouched 8 (8 * i) o.pointers) (8 * k))
    word k own (inl e) = subst (λ (j : ℕ). HoldsWord g (range_zeroed_at bytes (b + 8 * i) 8 b o.size i 1) b (with_pointer (8 * i) Null o) j
        (with_entry (8 * i) None (untouched 8 (8 * i) o.pointers) (8 * j))) (sym e)
        (subst (HoldsWord g (range_zeroed_at bytes (b + 8 * i) 8 b o.size i 1) b (with_pointer (8 * i) Null o) i)
        (sym (entry-here i None (untouched 8 (8 * i) o.pointers))) here)
    word k own (inr apart) = subst (HoldsWord g (range_zeroed_at bytes (b + 8 * i) 8 b o.size i 1) b (with_pointer (8 * i) Null o) k)
        (sym (entry-other i k None o.pointers apart)) (other k own apart (aside-words i k apart) (o.pointers (8 * k)) (h.words k own))

-- Where `mark` and `tzero` may be made, and that bytes outside the area stay

here-word : (b k : ℕ) → word_at b (b + 8 * k) ≡ k
here-word b k = omega arith

marked-here : (bytes : List ℕ) (b n i u : ℕ) → length_at bytes b ≡ n → marked bytes (b + 8 * i) b u ≡ marked_at bytes b n i u
marked-here bytes b n i u e = ap (λ m. marked_at bytes b m (word_at b (b + 8 * i)) u) e ∙ ap (λ k. marked_at bytes b n k u) (here-word b i)

one-touched : (b i : ℕ) → touched_count b (b + 8 * i) 8 ≡ 1
one-touched b i = omega arith

cleared-here : (bytes : List ℕ) (b n i : ℕ) → length_at bytes b ≡ n → range_zeroed bytes (b + 8 * i) b 8 ≡ range_zeroed_at bytes (b + 8 * i) 8 b n i 1
cleared-here bytes b n i e =
    ap (λ m. tags_cleared (touched b (b + 8 * i) 8) (zeroed 8 bytes (b + 8 * i)) b m) e
    ∙ ap (λ k. tags_cleared (counted k (touched_count b (b + 8 * i) 8)) (zeroed 8 bytes (b + 8 * i)) b n) (here-word b i)
    ∙ ap (λ k. tags_cleared (counted i k) (zeroed 8 bytes (b + 8 * i)) b n) (one-touched b i)

zero-may : (bytes : List ℕ) (b size i : ℕ) → 8 ≤ b → length_at bytes b ≡ size → 8 * i + 8 ≤ size → b + tagged_size size ≤ length bytes
    → allows_zero bytes (b + 8 * i) b 8 ≡ true
zero-may bytes b size i above len inside fits =
    let r = room-of b size (length bytes) fits in
    both-true (allows_plain bytes (b + 8 * i) b 8) (in_flat bytes (b + 8 * i) 8)
    (both-true (nat_le b (b + 8 * i)) (has_length bytes b && have_tags bytes b (length_at bytes b) (touched b (b + 8 * i) 8)) (le-true b (b + 8 * i) (omega arith))
    (both-true (has_length bytes b) (have_tags bytes b (length_at bytes b) (touched b (b + 8 * i) 8))
    (both-true (nat_le 8 b) (in_flat bytes (b - 8) 8) (le-true 8 b above) (in_list (b - 8) 8 (length bytes) (omega (arith, r, above))))
    (all-true (λ k. in_flat bytes (tag_byte b (length_at bytes b) k) 1) (word_at b (b + 8 * i)) (touched_count b (b + 8 * i) 8)
    (λ k l h. in_list (tag_byte b (length_at bytes b) k) 1 (length bytes)
    (let o = (range-of b size (8 * i) 8 (omega arith) inside).own in let e = ap word_count len in omega (arith, o, e, l, h, r))))))
    (in_list (b + 8 * i) 8 (length bytes) (omega (arith, r, inside)))

one-cleared : (i : ℕ) (bytes : List ℕ) (b n : ℕ) → tags_cleared (counted i 1) bytes b n ≡ with_tag false bytes b n i
unfolding counted
one-cleared i bytes b n = tags_cleared-one i bytes b n

marked-outside : (bytes : List ℕ) (home n i v u j : ℕ) → 8 * i + 8 ≤ n → (j < home) ⊎ (home + tagged_size n ≤ j)
    → slice_index (marked_at (stored 8 bytes (home + 8 * i) v) home n i u) j ≡ slice_index bytes j
marked-outside bytes home n i v u j inside out =
    get-stored_other 8 (with_tag true (stored 8 bytes (home + 8 * i) v) home n i) (base_word home n i) u j
    (⊎_elim (λ z. inl (omega (arith, z))) (λ z. inr (let r = room-of home n j z in omega (arith, r, inside))) out)
    ∙ get-with_tag_other true (stored 8 bytes (home + 8 * i) v) home n i j
    (⊎_elim (λ z. inl (omega (arith, z))) (λ z. inr (let r = room-of home n j z in omega (arith, r, inside))) out)
    ∙ get-stored_other 8 bytes (home + 8 * i) v j (⊎_elim (λ z. inl (omega (arith, z))) (λ z. inr (let r = room-of home n j z in omega (arith, r, inside))) out)

cleared-outside : (bytes : List ℕ) (home n i j : ℕ) → 8 * i + 8 ≤ n → (j < home) ⊎ (home + tagged_size n ≤ j)
    → slice_index (range_zeroed_at bytes (home + 8 * i) 8 home n i 1) j ≡ slice_index bytes j
cleared-outside bytes home n i j inside out =
    ap (λ xs. slice_index xs j) (one-cleared i (zeroed 8 bytes (home + 8 * i)) home n)
    ∙ get-with_tag_other false (zeroed 8 bytes (home + 8 * i)) home n i j
    (⊎_elim (λ z. inl (omega (arith, z))) (λ z. inr (let r = room-of home n j z in omega (arith, r, inside))) out)
    ∙ get-zeroed_other 8 bytes (home + 8 * i) j (⊎_elim (λ z. inl (omega (arith, z))) (λ z. inr (let r = room-of home n j z in omega (arith, r, inside))) out)

-- Both machines

entry-some : (q : Pointer) → q ≢ Null → entry_of q ≡ Some q
entry-some Null h = absurd (h refl)
entry-some (Number n) h = refl
entry-some (At l) h = refl
entry-some (Function f) h = refl

module _ (w : Setting) (number_of : TypeId → ℕ) (p : Pointer) (s : source.State) (x : Context) (a b : ℕ) (c : flat.Local) (r : Related w number_of s c.state)
    (f : IsFoundTagged w number_of s c.state 8 p (slot c a) (slot c b)) (by8 : f.at % 8 ≡ 0) where
  abbrev home : ℕ
  home = address (ground_of w number_of s c.state) f.location.object

  abbrev place : ℕ
  place = f.at / 8

  abbrev old : List ℕ
  old = c.state.memory.bytes

  laid : IsLaid (ground_of w number_of s c.state) c.state.memory.bytes (address (ground_of w number_of s c.state) f.location.object) f.object
  laid = laid-found w number_of s c.state r 8 p (slot c a) (slot c b) f

  inside8 : 8 * (f.at / 8) + 8 ≤ f.object.size
  inside8 = let e = eighth f.at by8 in let i = f.inside in omega (arith, e, i)

  where8 : slot c a ≡ address (ground_of w number_of s c.state) f.location.object + 8 * (f.at / 8)
  where8 = f.here ∙ ap (λ m. address (ground_of w number_of s c.state) f.location.object + m) (eighth f.at by8)

  -- the room of the area
  area-outside : (new : List ℕ) → ((j : ℕ) → (j < home) ⊎ (home + tagged_size f.object.size ≤ j) → slice_index new j ≡ slice_index old j)
      → (j : ℕ) → (j < home) ⊎ (home + room_of w.kind (outline f.object) ≤ j) → slice_index new j ≡ slice_index old j
  area-outside new h j z = h j (⊎_elim inl (λ m. inr (subst (λ (n : ℕ). home + n ≤ j) laid.contents m)) z)

  -- the states once these bytes stand in the object's area
  changed : (q : Pointer) (new : List ℕ) → length new ≡ length old → AreBytes new
      → ((j : ℕ) → (j < home) ⊎ (home + tagged_size f.object.size ≤ j) → slice_index new j ≡ slice_index old j)
      → HoldsTagged (ground_of w number_of s c.state) new home (with_pointer (8 * place) q f.object)
      → Related w number_of (with_object f.location.object (with_pointer f.at q f.object) (source.touched f.location.object f.at 8 s))
      (flat.touched (slot c a) 8 (record c.state { memory = with_bytes c.state.memory new }))
  changed q new long are outside holds =
      related-change w number_of s c.state f.location.object f.object (with_pointer f.at q f.object) new
      (record { object = f.location.object; offset = f.at; size = 8 }) (record { at = slot c a; size = 8 })
      r f.found f.live refl long are (area-outside new outside)
      (subst (λ (k : Kind). HoldsBy k (ground_of w number_of s c.state) new home (with_pointer f.at q f.object)) (sym f.tagged)
      (subst (λ (m : ℕ). HoldsTagged (ground_of w number_of s c.state) new home (with_pointer m q f.object)) (sym (eighth f.at by8)) holds))
      (image-tagged w number_of s c.state r 8 p (slot c a) (slot c b) f)

  gives : (q : Pointer) → store_pointer Wild p q s ≡ Done tt (with_object f.location.object (with_pointer f.at q f.object) (source.touched f.location.object f.at 8 s))
  gives q = ap (λ y. store_pointer Wild y q s) f.is ∙ store-right Wild f.location q s f.object f.at (right-tagged w number_of s c.state r 8 p (slot c a) (slot c b) f)

  pub wild-pointers-stored : (q : Pointer) (v u : ℕ) → q ≢ Null
      → slot c v ≡ first_word (ground_of w number_of s c.state) Wild q → slot c u ≡ second_word (ground_of w number_of s c.state) Wild q
      → slot c v < 2 ^ 64 → slot c u < 2 ^ 64
      → GoOnAlike w number_of s c (store_pointer Wild p q s) (run (instr.St 8 a v ∷ instr.Mark a b u ∷ []) x c) tt c.slots
  wild-pointers-stored q v u some first second sv su = record {
    next = with_object f.location.object (with_pointer f.at q f.object) (source.touched f.location.object f.at 8 s);
    after = with_list (marked (stored 8 old (slot c a) (slot c v)) (slot c a) (slot c b) (slot c u)) (stored_at 8 (slot c a) (slot c v) c);
    source_goes = gives q;
    flat_goes =
        ap (λ (y : Bool). from (allowed y (Trap x.function) (goes (stored_at 8 (slot c a) (slot c v))) c) (λ z. then_go z (run (instr.Mark a b u ∷ []) x))) there
        ∙ ap (λ (y : Bool). from (allowed y (Trap x.function) (goes (λ d. with_list (marked d.state.memory.bytes (slot d a) (slot d b) (slot d u)) d))
        (stored_at 8 (slot c a) (slot c v) c)) (λ z. then_go z (run [] x))) may;
    slots_are = refl;
    stays = stays-change w number_of s (with_object f.location.object (with_pointer f.at q f.object) (source.touched f.location.object f.at 8 s)) c.state
        (with_list (marked (stored 8 old (slot c a) (slot c v)) (slot c a) (slot c b) (slot c u)) (stored_at 8 (slot c a) (slot c v) c)).state
        f.location.object f.object (with_pointer f.at q f.object) f.found f.live refl refl refl refl refl refl
        (λ j l. ap (λ (xs : List ℕ). slice_index xs j) bytes_are ∙ marked-outside old home f.object.size place (slot c v) (slot c u) j inside8 (inl l));
    related = subst (λ (xs : List ℕ). Related w number_of (with_object f.location.object (with_pointer f.at q f.object) (source.touched f.location.object f.at 8 s))
        (flat.touched (slot c a) 8 (record c.state { memory = with_bytes c.state.memory xs }))) (sym bytes_are)
        (changed q new (ap length (sym (marked-here S home f.object.size place (slot c u) len)) ∙ length-marked S (home + 8 * place) home (slot c u) ∙ length-stored 8 old (home + 8 * place) (slot c v))
        (subst AreBytes (marked-here S home f.object.size place (slot c u) len) (marked-bytes S (home + 8 * place) home (slot c u) (stored-bytes 8 old (home + 8 * place) (slot c v) r.sound.bytes)))
        (λ j z. marked-outside old home f.object.size place (slot c v) (slot c u) j inside8 z)
        (marked-holds (ground_of w number_of s c.state) old home f.object place (slot c v) (slot c u) q laid.holds r.sound.bytes laid.above inside8 laid.fits
        (entry-some q some) first second sv su));
  }
    where
      S : List ℕ
      S = stored 8 old (home + 8 * place) (slot c v)

      new : List ℕ
      new = marked_at S home f.object.size place (slot c u)

      len : length_at S home ≡ f.object.size
      len = number-stored_apart 8 8 old (home + 8 * place) (home - 8) (slot c v) (inl (let l = laid.above in omega (arith, l))) ∙ laid.holds.size

      bytes_are : marked (stored 8 old (slot c a) (slot c v)) (slot c a) (slot c b) (slot c u) ≡ new
      bytes_are =
          ap (λ (k : ℕ). marked (stored 8 old k (slot c v)) k (slot c b) (slot c u)) where8
          ∙ ap (λ (k : ℕ). marked S (home + 8 * place) k (slot c u)) f.base
          ∙ marked-here S home f.object.size place (slot c u) len

      there : (nat_eq 8 0 || nat_le (slot c a + 8) (length old)) ≡ true
      there = in_list (slot c a) 8 (length old)
          (let i = inside8 in let m = where8 in let z = room-of home f.object.size (length old) laid.fits in omega (arith, i, m, z))

      fits : home + tagged_size f.object.size ≤ length (stored 8 old (home + 8 * place) (slot c v))
      fits = let e = length-stored 8 old (home + 8 * place) (slot c v) in let z = laid.fits in omega (arith, e, z)

      may : allows_mark (stored 8 old (slot c a) (slot c v)) (slot c a) (slot c b) ≡ true
      may =
          ap (λ (k : ℕ). allows_mark (stored 8 old k (slot c v)) k (slot c b)) where8 ∙ ap (λ (k : ℕ). allows_mark S (home + 8 * place) k) f.base
          ∙ both-true (allows_tagged S (home + 8 * place) home) (allows_base S (home + 8 * place) home)
          (tagged-may S home f.object.size place laid.above len inside8 fits) (base-may S home f.object.size place laid.above len inside8 fits)

  pub nulls-stored : GoOnAlike w number_of s c (store_pointer Wild p Null s) (act (instr.Tzero a b 8) x c) tt c.slots
  nulls-stored = record {
    next = with_object f.location.object (with_pointer f.at Null f.object) (source.touched f.location.object f.at 8 s);
    after = accessed (slot c a) 8 (range_zeroed old (slot c a) (slot c b) 8) c;
    source_goes = gives Null;
    flat_goes = ap (λ (y : Bool). allowed y (Trap x.function) (goes (λ d. accessed (slot d a) 8 (range_zeroed d.state.memory.bytes (slot d a) (slot d b) 8) d)) c)
        (ap (λ (k : ℕ). allows_zero old k (slot c b) 8) where8 ∙ ap (λ (k : ℕ). allows_zero old (home + 8 * place) k 8) f.base
        ∙ zero-may old home f.object.size place laid.above laid.holds.size inside8 laid.fits);
    slots_are = refl;
    stays = stays-change w number_of s (with_object f.location.object (with_pointer f.at Null f.object) (source.touched f.location.object f.at 8 s)) c.state
        (accessed (slot c a) 8 (range_zeroed old (slot c a) (slot c b) 8) c).state f.location.object f.object (with_pointer f.at Null f.object) f.found f.live
        refl refl refl refl refl refl
        (λ j l. ap (λ (xs : List ℕ). slice_index xs j) bytes_are ∙ cleared-outside old home f.object.size place j inside8 (inl l));
    related = subst (λ (xs : List ℕ). Related w number_of (with_object f.location.object (with_pointer f.at Null f.object) (source.touched f.location.object f.at 8 s))
        (flat.touched (slot c a) 8 (record c.state { memory = with_bytes c.state.memory xs })))
        (sym bytes_are)
        (changed Null new (ap length (sym (cleared-here old home f.object.size place laid.holds.size)) ∙ length-range_zeroed old (home + 8 * place) home 8)
        (subst AreBytes (cleared-here old home f.object.size place laid.holds.size) (range_zeroed-bytes old (home + 8 * place) home 8 r.sound.bytes))
        (λ j z. cleared-outside old home f.object.size place j inside8 z)
        (cleared-holds (ground_of w number_of s c.state) old home f.object place laid.holds r.sound.bytes laid.above inside8 laid.fits));
  }
    where
      new : List ℕ
      new = range_zeroed_at old (home + 8 * place) 8 home f.object.size place 1

      bytes_are : range_zeroed old (slot c a) (slot c b) 8 ≡ new
      bytes_are = ap (λ (k : ℕ). range_zeroed old k (slot c b) 8) where8 ∙ ap (λ (k : ℕ). range_zeroed old (home + 8 * place) k 8) f.base
          ∙ cleared-here old home f.object.size place laid.holds.size
