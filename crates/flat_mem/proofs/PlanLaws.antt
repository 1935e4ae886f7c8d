-- A frame that is zeroed at once and then gets its first words is made as its areas are, one after another.
use Rattle.std.specs.Prelude.{◌≡◌, ℕ, zero, suc, ◌+◌, ◌/◌, ◌%◌, ◌^◌, ◌<◌, ◌≤◌, Bool, true, false, List, [], ◌∷◌, length, map, slice_index, slice_set, All, nat_le, if◌then◌else◌, refl, ◌-◌}
use Rattle.std.proofs.Common.{sym, ◌∙◌, ap, subst, arith, get_or, drop, drop-cons}
use Rattle.std.proofs.lemmas.Bool.Decides.{nat_tests}
use Rattle.std.proofs.lemmas.List.{set_comm, set-get_or, drop_all}
use Rattle.flat_mem.specs.declared.Area.{Area}
use Rattle.flat_mem.specs.Bytes.{stored, zeroed}
use Rattle.flat_mem.specs.Placement.{area_size, areas_size, contents_size, first_word, addresses, area_made, areas_made}
use Rattle.flat_mem.specs.Plans.{AreTyped, IsLaidOut, first_word_written, first_words_written}
use Rattle.flat_mem.proofs.AreaLaws.{area_size-least, length-addresses}
use Rattle.flat_mem.proofs.ByteLaws.{length-stored, get-zeroed_inside}

-- Zeroing

-- bytes before those that are zeroed may be set first or afterwards
zeroed-set : (n : ℕ) (bytes : List ℕ) (i b at : ℕ) → i < at → zeroed n (slice_set bytes i b) at ≡ slice_set (zeroed n bytes at) i b
unfolding zeroed
zeroed-set zero bytes i b at h = refl
zeroed-set (suc n) bytes i b at h =
    ap (λ l. zeroed n l (at + 1)) (set_comm bytes i at b 0 (λ e. absurd (omega (arith, e, h)))) ∙ zeroed-set n (slice_set bytes at 0) i b (at + 1) (omega (arith, h))

zeroed-stored : (n k : ℕ) (bytes : List ℕ) (a v at : ℕ) → a + k ≤ at → zeroed n (stored k bytes a v) at ≡ stored k (zeroed n bytes at) a v
unfolding stored
zeroed-stored n zero bytes a v at h = refl
zeroed-stored n (suc k) bytes a v at h =
    zeroed-stored n k (slice_set bytes a (v % 256)) (a + 1) (v / 256) at (omega (arith, h))
    ∙ ap (λ l. stored k l (a + 1) (v / 256)) (zeroed-set n bytes a (v % 256) at (omega (arith, h)))

-- two rows zeroed one after the other are one row
zeroed-both : (n m : ℕ) (bytes : List ℕ) (at : ℕ) → zeroed m (zeroed n bytes at) (at + n) ≡ zeroed (n + m) bytes at
unfolding zeroed
zeroed-both zero m bytes at = let e : at + 0 ≡ at = omega arith in let f : m ≡ 0 + m = omega arith in ap (zeroed m bytes) e ∙ ap (λ k. zeroed k bytes at) f
zeroed-both (suc n) m bytes at =
    let e : at + suc n ≡ at + 1 + n = omega arith in
    let f : suc (n + m) ≡ suc n + m = omega arith in
    ap (zeroed m (zeroed n (slice_set bytes at 0) (at + 1))) e ∙ zeroed-both n m (slice_set bytes at 0) (at + 1) ∙ ap (λ k. zeroed k bytes at) f

-- a zero stored over zero bytes changes nothing
stored-nothing : (k : ℕ) (bytes : List ℕ) (at : ℕ) → ((i : ℕ) → i < k → slice_index bytes (at + i) ≡ 0) → stored k bytes at 0 ≡ bytes
unfolding stored
stored-nothing zero bytes at h = refl
stored-nothing (suc k) bytes at h =
    let here : slice_set bytes at 0 ≡ bytes = (let e : at + 0 ≡ at = omega arith in ap (slice_set bytes at) (sym (h 0 (omega arith)) ∙ ap (slice_index bytes) e) ∙ set-get_or bytes at 0) in
    ap (λ l. stored k l (at + 1) 0) here
    ∙ stored-nothing k bytes (at + 1) (λ i l. let e : at + 1 + i ≡ at + suc i = omega arith in ap (slice_index bytes) e ∙ h (suc i) (omega (arith, l)))

-- Making areas

by_tag : (P : Area → Type 0) (area : Area) → ((n : ℕ) → P (record { tagged = true; bytes = n })) → ((n : ℕ) → P (record { tagged = false; bytes = n })) → P area
by_tag P area when_tagged when_typed = elim area.tagged as (λ t. P (record { tagged = t; bytes = area.bytes })) [ true ↦ when_tagged area.bytes | false ↦ when_typed area.bytes ]

one-made : (area : Area) (bytes : List ℕ) (start : ℕ) → area_made area bytes start ≡ first_word_written area (zeroed (area_size area) bytes start) start
unfolding area_made
one-made area bytes start = by_tag (λ a. stored 8 (zeroed (area_size a) bytes start) start (first_word a) ≡ first_word_written a (zeroed (area_size a) bytes start) start) area
    (λ n. refl)
    (λ n. stored-nothing 8 (zeroed (8 + contents_size (record { tagged = false; bytes = n })) bytes start) start
    (λ i h. get-zeroed_inside (8 + contents_size (record { tagged = false; bytes = n })) bytes start (start + i) (omega arith) (omega (arith, h))))

zeroed-first : (area : Area) (n : ℕ) (bytes : List ℕ) (start at : ℕ) → start + 8 ≤ at → zeroed n (first_word_written area bytes start) at ≡ first_word_written area (zeroed n bytes at) start
zeroed-first area n bytes start at h = by_tag (λ a. zeroed n (first_word_written a bytes start) at ≡ first_word_written a (zeroed n bytes at) start) area
    (λ m. zeroed-stored n 8 bytes start m at h) (λ m. refl)

pub all-made : (areas : List Area) (bytes : List ℕ) (start : ℕ) → areas_made areas bytes start ≡ first_words_written areas (zeroed (areas_size areas) bytes start) start
unfolding areas_made areas_size zeroed first_words_written
all-made [] bytes start = refl
all-made (area ∷ areas) bytes start =
    let least = area_size-least area in
    all-made areas (area_made area bytes start) (start + area_size area)
    ∙ ap (λ l. first_words_written areas (zeroed (areas_size areas) l (start + area_size area)) (start + area_size area)) (one-made area bytes start)
    ∙ ap (λ l. first_words_written areas l (start + area_size area)) (zeroed-first area (areas_size areas) (zeroed (area_size area) bytes start) start (start + area_size area) (omega (arith, least)))
    ∙ ap (λ l. first_words_written areas (first_word_written area l start) (start + area_size area)) (zeroed-both (area_size area) (areas_size areas) bytes start)

-- areas of which none is tagged have no first word to write
pub typed-written : (areas : List Area) (bytes : List ℕ) (start : ℕ) → AreTyped areas → first_words_written areas bytes start ≡ bytes
unfolding first_words_written
typed-written [] bytes start typed = refl
typed-written (area ∷ areas) bytes start typed =
    let here : area.tagged ≡ false = typed 0 area (omega arith) in
    ap (λ (t : Bool). first_words_written areas (if t then stored 8 bytes start area.bytes else bytes) (start + area_size area)) here
    ∙ typed-written areas bytes (start + area_size area) (λ i x h. typed (suc i) x (omega (arith, h)))

-- Addresses

shifted : (areas : List Area) (start at : ℕ) → map (λ o. start + o) (addresses areas at) ≡ addresses areas (start + at)
unfolding addresses
shifted [] start at = refl
shifted (area ∷ areas) start at =
    let e : start + (at + 8) ≡ start + at + 8 = omega arith in
    let f : start + (at + area_size area) ≡ start + at + area_size area = omega arith in
    ap (λ n. n ∷ map (λ o. start + o) (addresses areas (at + area_size area))) e
    ∙ ap (λ l. (start + at + 8) ∷ l) (shifted areas start (at + area_size area) ∙ ap (addresses areas) f)

pub addresses-shifted : (areas : List Area) (start : ℕ) → map (λ o. start + o) (addresses areas 0) ≡ addresses areas start
addresses-shifted areas start = let e : start + 0 ≡ start = omega arith in shifted areas start 0 ∙ ap (addresses areas) e

pub address-most : (areas : List Area) (start i d : ℕ) → i < length (addresses areas start) → get_or (addresses areas start) i d ≤ start + areas_size areas
unfolding addresses areas_size
address-most [] start i d h = absurd (omega (arith, h))
address-most (area ∷ areas) start zero d h = let least = area_size-least area in omega (arith, least)
address-most (area ∷ areas) start (suc i) d h = let rest = address-most areas (start + area_size area) i d (omega (arith, h)) in omega (arith, rest)

-- Plans

pub laid-none : (areas : List Area) (offsets : List ℕ) (size : ℕ) (t : Bool) → 2 ^ 32 ≤ size → false ≡ nat_le (areas_size areas) (2 ^ 32 - 1) → t ≡ true → IsLaidOut areas offsets size t
laid-none areas offsets size t large unfit is = record {
  fits = λ room small. both (areas_size areas) size room unfit large small;
  size_is = λ small. absurd (clash (areas_size areas) unfit small);
  offsets_are = λ small. absurd (clash (areas_size areas) unfit small);
  typed = λ e. absurd (cc (e, is));
}
  where
    both : (x y room : ℕ) → false ≡ nat_le x (2 ^ 32 - 1) → 2 ^ 32 ≤ y → room < 2 ^ 32 → nat_le y room ≡ nat_le x room
    both x y room u l s = grind (arith, nat_tests)

    clash : (x : ℕ) → false ≡ nat_le x (2 ^ 32 - 1) → x < 2 ^ 32 → ⊥
    clash x u s = grind (arith, nat_tests)

pub laid-out : (areas : List Area) (offsets : List ℕ) (size : ℕ) (t : Bool) → size ≡ areas_size areas → offsets ≡ addresses areas 0 → (t ≡ false → AreTyped areas) → IsLaidOut areas offsets size t
laid-out areas offsets size t is at typed = record {
  fits = λ room small. ap (λ n. nat_le n room) is;
  size_is = λ small. is;
  offsets_are = λ small. at;
  typed = typed;
}

pub fit-below : (x : ℕ) → true ≡ nat_le x (2 ^ 32 - 1) → x < 2 ^ 32
fit-below x h = grind (arith, nat_tests)

-- Writing the next first word, and the last

pub first_words-next : (areas : List Area) (k : ℕ) (d : Area) (bytes now after : List ℕ) (start at next : ℕ) → first_words_written (drop k areas) now at ≡ first_words_written areas bytes start → k < length areas → after ≡ first_word_written (get_or areas k d) now at → next ≡ area_size (get_or areas k d) → first_words_written (drop (k + 1) areas) after (at + next) ≡ first_words_written areas bytes start
unfolding first_words_written
first_words-next areas k d bytes now after start at next is h made size =
    let more : k + 1 ≡ suc k = omega arith in
    ap (λ j. first_words_written (drop j areas) after (at + next)) more
    ∙ (ap (λ l. first_words_written (drop (suc k) areas) l (at + next)) made
    ∙ (ap (λ n. first_words_written (drop (suc k) areas) (first_word_written (get_or areas k d) now at) (at + n)) size
    ∙ (sym (ap (λ l. first_words_written l now at) (drop-cons areas k d h)) ∙ is)))

pub first_words-done : (areas : List Area) (k : ℕ) (bytes now : List ℕ) (start at : ℕ) → first_words_written (drop k areas) now at ≡ first_words_written areas bytes start → length areas ≤ k → now ≡ first_words_written areas bytes start
unfolding first_words_written
first_words-done areas k bytes now start at is h = sym (ap (λ l. first_words_written l now at) (drop_all k areas h)) ∙ is

pub length-first_word : (area : Area) (bytes after : List ℕ) (at : ℕ) → after ≡ first_word_written area bytes at → length after ≡ length bytes
length-first_word area bytes after at is = ap length is ∙ by_tag (λ a. length (first_word_written a bytes at) ≡ length bytes) area (λ n. length-stored 8 bytes at n) (λ n. refl)

-- A plan in use

pub plan-made : (areas : List Area) (offsets : List ℕ) (size : ℕ) (t : Bool) (bytes now after : List ℕ) (start : ℕ) → IsLaidOut areas offsets size t → areas_size areas < 2 ^ 32 → now ≡ zeroed size bytes start
    → after ≡ first_words_written areas now start → after ≡ areas_made areas bytes start
plan-made areas offsets size t bytes now after start laid small zeros firsts =
    firsts ∙ ap (λ l. first_words_written areas l start) (zeros ∙ ap (λ n. zeroed n bytes start) (laid.size_is small)) ∙ sym (all-made areas bytes start)

pub plan-zeroed : (areas : List Area) (offsets : List ℕ) (size : ℕ) (t : Bool) (bytes now : List ℕ) (start : ℕ) → IsLaidOut areas offsets size t → areas_size areas < 2 ^ 32 → now ≡ zeroed size bytes start
    → t ≡ false → now ≡ areas_made areas bytes start
plan-zeroed areas offsets size t bytes now start laid small zeros typed =
    plan-made areas offsets size t bytes now now start laid small zeros (sym (typed-written areas now start (laid.typed typed)))

pub plan-count : (areas list : List Area) (offsets : List ℕ) (size : ℕ) (t : Bool) → areas ≡ list → IsLaidOut areas offsets size t → areas_size list < 2 ^ 32 → length offsets ≡ length list
plan-count areas list offsets size t is laid small =
    let fits : areas_size areas < 2 ^ 32 = subst (λ l. areas_size l < 2 ^ 32) (sym is) small in
    ap length (laid.offsets_are fits) ∙ length-addresses areas 0 ∙ ap length is

pub plan-size : (areas list : List Area) (offsets : List ℕ) (size : ℕ) (t : Bool) → areas ≡ list → IsLaidOut areas offsets size t → areas_size list < 2 ^ 32 → size ≡ areas_size list
plan-size areas list offsets size t is laid small = laid.size_is (subst (λ l. areas_size l < 2 ^ 32) (sym is) small) ∙ ap areas_size is

pub plan-addresses : (areas list : List Area) (offsets : List ℕ) (size : ℕ) (t : Bool) (start : ℕ) → areas ≡ list → IsLaidOut areas offsets size t → areas_size list < 2 ^ 32 → map (λ o. start + o) offsets ≡ addresses list start
plan-addresses areas list offsets size t start is laid small =
    ap (map (λ o. start + o)) (laid.offsets_are (subst (λ l. areas_size l < 2 ^ 32) (sym is) small)) ∙ addresses-shifted areas start ∙ ap (λ l. addresses l start) is

pub plan-small : (areas list : List Area) (offsets : List ℕ) (size : ℕ) (t : Bool) (start : ℕ) → areas ≡ list → IsLaidOut areas offsets size t → start + areas_size list < 2 ^ 32 → All (λ o. start + o < 2 ^ 64) offsets
plan-small areas list offsets size t start is laid small = subst (All (λ o. start + o < 2 ^ 64)) (sym (laid.offsets_are fits)) (λ i d h. let most = address-most areas 0 i d h in omega (arith, most, fits, small, same))
  where
    same : areas_size areas ≡ areas_size list
    same = ap areas_size is

    fits : areas_size areas < 2 ^ 32
    fits = omega (arith, same, small)
