-- What the code of the calls computes is what the definitions say.
use Rattle.std.specs.Prelude.{◌≡◌, ℕ, zero, suc, ◌+◌, ◌-◌, ◌*◌, ◌/◌, ◌%◌, ◌^◌, ◌<◌, ◌≤◌, ◌&&◌, ◌||◌, Bool, true, false, not, List, [], ◌∷◌, ◌++◌, length, IsTrue, max, map, filter, nat_eq, nat_le, slice_index, if◌then◌else◌, refl}
use Rattle.std.specs.List.{list_all}
use Rattle.std.specs.Int.{bit_at}
use Rattle.std.proofs.Common.{sym, ◌∙◌, ap, subst, ⊎_elim, arith}
use Rattle.std.proofs.lemmas.List.{map-append, append-nil}
use Rattle.std.proofs.lemmas.List.Elements.{filter-append}
use Rattle.std.proofs.lemmas.List.Folds.{list_all-append}
use Rattle.flat_mem.specs.Bytes.{number, stored, zeroed}
use Rattle.flat_mem.proofs.ByteLaws.{length-zeroed}
use Rattle.flat_mem.specs.Placement.{word_count, base_word, tag_byte}
use Rattle.flat_mem.specs.Tags.{with_bit, tag_in, tag_written}
use Rattle.flat_mem.specs.Memory.{Memory, with_bytes, in_flat, depth_of}
use Rattle.flat_mem.proofs.RangeLaws.{in_flat-same}
use Rattle.wild_tags.specs.Words.{length_at, word_at, counted, touched_count, touched, tag_at, base_at, with_tag, tags_cleared}
use Rattle.wild_tags.specs.Calls.{is_plain, tagged_words, greatest, greatest_depth, range_zeroed}
use Rattle.wild_tags.specs.Inside.{has_length, have_tags, have_bases, allows_plain, allows_tagged, allows_base, allows_mark, allows_depth, allows_zero}
use Rattle.wild_tags.proofs.WordLaws.{Needs, first_or_later, counted-none, counted-more, all-at, both, needs-plain, touched-none}
use Rattle.wild_tags.proofs.WriteLaws.{length-with_tag, length-tags_cleared, tags_cleared-none, tags_cleared-append, tags_cleared-one}

-- The words of a loop, at its start and one more

abbrev pub so_far : ℕ → ℕ → List ℕ
so_far first i = counted first (i - first)

pub so_far-none : (first : ℕ) → so_far first first ≡ []
so_far-none first = let none : first - first ≡ 0 = omega arith in ap (counted first) none ∙ counted-none first

pub so_far-more : (first i : ℕ) → first ≤ i → so_far first (i + 1) ≡ so_far first i ++ i ∷ []
so_far-more first i low =
    let more : i + 1 - first ≡ suc (i - first) = omega arith in
    let last : first + (i - first) ≡ i = omega arith in
    ap (counted first) more ∙ (counted-more first (i - first) ∙ ap (λ k. so_far first i ++ k ∷ []) last)

-- The tag that the code reads and writes, by its place in bits

pub tag-code : (bytes : List ℕ) (b n i t : ℕ) → t ≡ 8 * (b + 16 * word_count n) + i → tag_in bytes t ≡ tag_at bytes b n i
tag-code bytes b n i t place =
    let byte : t / 8 ≡ tag_byte b n i = omega (arith, place) in
    let bit : t % 8 ≡ i % 8 = omega (arith, place) in
    ap (λ k. nat_eq (bit_at (slice_index bytes k) (t % 8)) 1) byte ∙ ap (λ k. nat_eq (bit_at (slice_index bytes (tag_byte b n i)) k) 1) bit

pub with_tag-code : (tag : Bool) (bytes : List ℕ) (b n i t : ℕ) → t ≡ 8 * (b + 16 * word_count n) + i → tag_written tag bytes t ≡ with_tag tag bytes b n i
unfolding tag_written with_tag
with_tag-code tag bytes b n i t place =
    let byte : t / 8 ≡ tag_byte b n i = omega (arith, place) in
    let bit : t % 8 ≡ i % 8 = omega (arith, place) in
    ap (λ k. stored 1 bytes k (with_bit tag (t % 8) (slice_index bytes k))) byte
    ∙ ap (λ k. stored 1 bytes (tag_byte b n i) (with_bit tag k (slice_index bytes (tag_byte b n i)))) bit

pub set-code : (m new : Memory) (tag : Bool) (b n i t : ℕ) → t ≡ 8 * (b + 16 * word_count n) + i → new ≡ with_bytes m (tag_written tag m.bytes t) → new ≡ with_bytes m (with_tag tag m.bytes b n i)
set-code m new tag b n i t place made = made ∙ ap (with_bytes m) (with_tag-code tag m.bytes b n i t place)

-- Clearing tags

pub clear-none : (m : Memory) (b n first : ℕ) → m ≡ with_bytes m (tags_cleared (so_far first first) m.bytes b n)
clear-none m b n first =
    ap (with_bytes m) (sym (tags_cleared-none m.bytes b n) ∙ ap (λ l. tags_cleared l m.bytes b n) (sym (so_far-none first)))

pub clear-next : (m now after : Memory) (b n first i : ℕ) → now ≡ with_bytes m (tags_cleared (so_far first i) m.bytes b n) → after ≡ with_bytes now (with_tag false now.bytes b n i) → first ≤ i → after ≡ with_bytes m (tags_cleared (so_far first (i + 1)) m.bytes b n)
clear-next m now after b n first i is next low =
    next
    ∙ (ap (λ x. with_bytes x (with_tag false x.bytes b n i)) is
    ∙ ap (with_bytes m) (sym (ap (λ l. tags_cleared l m.bytes b n) (so_far-more first i low)
    ∙ (tags_cleared-append (so_far first i) (i ∷ []) m.bytes b n ∙ tags_cleared-one i (tags_cleared (so_far first i) m.bytes b n) b n))))

cleared-length : (m now : Memory) (b n first i : ℕ) → now ≡ with_bytes m (tags_cleared (so_far first i) m.bytes b n) → length m.bytes ≡ length now.bytes
cleared-length m now b n first i is = sym (ap (λ x. length x.bytes) is ∙ length-tags_cleared (so_far first i) m.bytes b n)

pub clear-inside : (m now : Memory) (b n first i end : ℕ) → now ≡ with_bytes m (tags_cleared (so_far first i) m.bytes b n) → IsTrue (have_tags m.bytes b n (counted first (end - first))) → first ≤ i → i < end → IsTrue (in_flat now.bytes (tag_byte b n i) 1)
clear-inside m now b n first i end is all low high =
    in_flat-same m.bytes now.bytes (tag_byte b n i) 1 (cleared-length m now b n first i is)
    (all-at (λ j. in_flat m.bytes (tag_byte b n j) 1) first (end - first) i all low (omega arith))

pub clear-small : (m now : Memory) (b n first i : ℕ) → now ≡ with_bytes m (tags_cleared (so_far first i) m.bytes b n) → length m.bytes < 2 ^ 32 → length now.bytes < 2 ^ 32
clear-small m now b n first i is small = let e : length m.bytes ≡ length now.bytes = cleared-length m now b n first i is in omega (arith, e, small)

pub clear-done : (m now : Memory) (b n first end i : ℕ) → now ≡ with_bytes m (tags_cleared (so_far first i) m.bytes b n) → i ≤ end → end ≤ i → now ≡ with_bytes m (tags_cleared (counted first (end - first)) m.bytes b n)
clear-done m now b n first end i is low high = let last : i ≡ end = omega arith in is ∙ ap (λ k. with_bytes m (tags_cleared (so_far first k) m.bytes b n)) last

-- Marking

pub mark-inside : (m new : Memory) (a b at len word addr : ℕ) → IsTrue (allows_mark m.bytes a b) → at ≡ b → len ≡ length_at m.bytes b → word ≡ word_at b a → addr ≡ base_word at len word → new ≡ with_bytes m (with_tag true m.bytes at len word) → IsTrue (in_flat new.bytes addr 8)
mark-inside m new a b at len word addr h place size index base made =
    let two = both (allows_tagged m.bytes a b) (allows_base m.bytes a b) h in
    let room = both (nat_le b a && (nat_eq ((a - b) % 8) 0 && has_length m.bytes b)) (in_flat m.bytes (base_word b (length_at m.bytes b) (word_at b a)) 8) two.1 in
    let same : base_word b (length_at m.bytes b) (word_at b a) ≡ addr = sym (base ∙ (ap (λ x. base_word x len word) place ∙ (ap (λ x. base_word b x word) size ∙ ap (base_word b (length_at m.bytes b)) index))) in
    in_flat-same m.bytes new.bytes addr 8 (sym (ap (λ x. length x.bytes) made ∙ length-with_tag true m.bytes at len word))
    (subst (λ k. IsTrue (in_flat m.bytes k 8)) same room.1)

-- No bytes

pub plain-none : (bytes : List ℕ) (a b n : ℕ) → n ≡ 0 → true ≡ is_plain bytes a b n
plain-none bytes a b n none = sym (ap (list_all (λ i. not (tag_at bytes b (length_at bytes b) i))) (touched-none a b n none))

pub depth-none : (m : Memory) (a b n : ℕ) → n ≡ 0 → 0 ≡ greatest_depth m a b n
depth-none m a b n none =
    sym (ap (λ l. greatest (map (λ i. depth_of m (base_at m.bytes b (length_at m.bytes b) i)) (filter (tag_at m.bytes b (length_at m.bytes b)) l))) (touched-none a b n none))

zeroed-none : (bytes : List ℕ) (a : ℕ) → zeroed 0 bytes a ≡ bytes
unfolding zeroed
zeroed-none bytes a = refl

pub zero-none : (m : Memory) (a b n : ℕ) → n ≡ 0 → m ≡ with_bytes m (range_zeroed m.bytes a b n)
zero-none m a b n none =
    ap (with_bytes m) (sym (ap (λ l. tags_cleared l (zeroed n m.bytes a) b (length_at m.bytes b)) (touched-none a b n none)
    ∙ (tags_cleared-none (zeroed n m.bytes a) b (length_at m.bytes b)
    ∙ (ap (λ k. zeroed k m.bytes a) none ∙ zeroed-none m.bytes a))))

-- The words of a loop are the touched words

pub in_order : (first end x count : ℕ) → first ≡ x → end ≡ x + count → first ≤ end
in_order first end x count begin stop = omega (arith, begin, stop)

pub so_far-all : (a b n first end i : ℕ) → first ≡ word_at b a → end ≡ word_at b a + touched_count b a n → i ≤ end → end ≤ i → so_far first i ≡ touched b a n
so_far-all a b n first end i begin stop low high =
    let count : i - first ≡ touched_count b a n = omega (arith, begin, stop, low, high) in
    ap (counted first) count ∙ ap (λ k. counted k (touched_count b a n)) begin

-- Looking for a tag

abbrev pub plain_so_far : List ℕ → ℕ → ℕ → ℕ → ℕ → Type 0
plain_so_far bytes at len first i = list_all (λ j. not (tag_at bytes at len j)) (so_far first i) ≡ true

pub plain-start : (bytes : List ℕ) (at len first : ℕ) → plain_so_far bytes at len first first
plain-start bytes at len first = ap (list_all (λ j. not (tag_at bytes at len j))) (so_far-none first)

pub plain-next : (bytes : List ℕ) (at len first i : ℕ) (t : Bool) → plain_so_far bytes at len first i → t ≡ tag_at bytes at len i → t ≡ false → first ≤ i → plain_so_far bytes at len first (i + 1)
plain-next bytes at len first i t is tag clear low =
    let p : ℕ → Bool = λ j. not (tag_at bytes at len j) in
    ap (list_all p) (so_far-more first i low)
    ∙ (list_all-append p (so_far first i) (i ∷ [])
    ∙ (ap (λ x. x && (not (tag_at bytes at len i) && true)) is ∙ ap (λ x. not x && true) (sym tag ∙ clear)))

pub plain-all : (bytes : List ℕ) (a b n at len first end i : ℕ) → plain_so_far bytes at len first i → at ≡ b → len ≡ length_at bytes b → first ≡ word_at b a → end ≡ word_at b a + touched_count b a n → i ≤ end → end ≤ i → true ≡ is_plain bytes a b n
plain-all bytes a b n at len first end i is place size begin stop low high =
    sym (sym (ap (λ l. list_all (λ j. not (tag_at bytes b (length_at bytes b) j)) l) (so_far-all a b n first end i begin stop low high))
    ∙ (sym (ap (λ x. list_all (λ j. not (tag_at bytes x (length_at bytes b) j)) (so_far first i)) place)
    ∙ (sym (ap (λ x. list_all (λ j. not (tag_at bytes at x j)) (so_far first i)) size) ∙ is)))

not_all : (p : ℕ → Bool) (first k i : ℕ) → p i ≡ false → first ≤ i → i < first + k → (x : Bool) → list_all p (counted first k) ≡ x → false ≡ x
not_all p first k i clear low high true is = absurd (cc (all-at p first k i is low high, clear))
not_all p first k i clear low high false is = refl

pub plain-found : (bytes : List ℕ) (a b n at len first end i : ℕ) (t : Bool) → at ≡ b → len ≡ length_at bytes b → first ≡ word_at b a → end ≡ word_at b a + touched_count b a n → t ≡ tag_at bytes at len i → t ≡ true → first ≤ i → i < end → false ≡ is_plain bytes a b n
plain-found bytes a b n at len first end i t place size begin stop tag set low high =
    let here : tag_at bytes b (length_at bytes b) i ≡ true = sym (ap (λ x. tag_at bytes x len i) place ∙ ap (λ x. tag_at bytes b x i) size) ∙ (sym tag ∙ set) in
    not_all (λ j. not (tag_at bytes b (length_at bytes b) j)) (word_at b a) (touched_count b a n) i (ap not here) (omega (arith, begin, low)) (omega (arith, stop, high)) (is_plain bytes a b n) refl

-- Zeroing

pub zero-needs : (bytes : List ℕ) (a b n : ℕ) → IsTrue (allows_zero bytes a b n) → 0 < n → Needs bytes a b n
zero-needs bytes a b n h some = needs-plain bytes a b n (both (allows_plain bytes a b n) (in_flat bytes a n) h).0 some

pub have_tags-same : (bytes others : List ℕ) (b n : ℕ) (words : List ℕ) → length bytes ≡ length others → have_tags bytes b n words ≡ have_tags others b n words
have_tags-same bytes others b n words same = ap (λ k. list_all (λ i. nat_eq 1 0 || nat_le (tag_byte b n i + 1) k) words) same

pub zero-inside : (m new : Memory) (a b n first end at len : ℕ) → Needs m.bytes a b n → at ≡ b → len ≡ length_at m.bytes b → first ≡ word_at b a → end ≡ word_at b a + touched_count b a n → new ≡ with_bytes m (zeroed n m.bytes a) → IsTrue (have_tags new.bytes at len (counted first (end - first)))
zero-inside m new a b n first end at len needs place size begin stop zeros =
    let count : end - first ≡ touched_count b a n = omega (arith, begin, stop) in
    let same : length new.bytes ≡ length m.bytes = ap (λ x. length x.bytes) zeros ∙ length-zeroed n m.bytes a in
    have_tags-same new.bytes m.bytes at len (counted first (end - first)) same
    ∙ (ap (λ x. have_tags m.bytes x len (counted first (end - first))) place
    ∙ (ap (λ x. have_tags m.bytes b x (counted first (end - first))) size
    ∙ (ap (λ x. have_tags m.bytes b (length_at m.bytes b) (counted first x)) count
    ∙ (ap (λ x. have_tags m.bytes b (length_at m.bytes b) (counted x (touched_count b a n))) begin ∙ needs.tags))))

pub zero-small : (m new : Memory) (a n : ℕ) → new ≡ with_bytes m (zeroed n m.bytes a) → length m.bytes < 2 ^ 32 → length new.bytes < 2 ^ 32
zero-small m new a n zeros small = let same : length new.bytes ≡ length m.bytes = ap (λ x. length x.bytes) zeros ∙ length-zeroed n m.bytes a in omega (arith, same, small)

pub zero-done : (m new after : Memory) (a b n first end at len : ℕ) → at ≡ b → len ≡ length_at m.bytes b → first ≡ word_at b a → end ≡ word_at b a + touched_count b a n → new ≡ with_bytes m (zeroed n m.bytes a) → after ≡ with_bytes new (tags_cleared (counted first (end - first)) new.bytes at len) → after ≡ with_bytes m (range_zeroed m.bytes a b n)
zero-done m new after a b n first end at len place size begin stop zeros cleared =
    let count : end - first ≡ touched_count b a n = omega (arith, begin, stop) in
    cleared
    ∙ (ap (λ x. with_bytes x (tags_cleared (counted first (end - first)) x.bytes at len)) zeros
    ∙ (ap (λ x. with_bytes m (tags_cleared (counted first (end - first)) (zeroed n m.bytes a) x len)) place
    ∙ (ap (λ x. with_bytes m (tags_cleared (counted first (end - first)) (zeroed n m.bytes a) b x)) size
    ∙ (ap (λ x. with_bytes m (tags_cleared (counted first x) (zeroed n m.bytes a) b (length_at m.bytes b))) count
    ∙ ap (λ x. with_bytes m (tags_cleared (counted x (touched_count b a n)) (zeroed n m.bytes a) b (length_at m.bytes b))) begin))))

-- The greatest depth

pub depth-needs : (bytes : List ℕ) (a b n : ℕ) → IsTrue (allows_depth bytes a b n) → 0 < n → Needs bytes a b n
depth-needs bytes a b n h some = needs-plain bytes a b n (both (allows_plain bytes a b n) (have_bases bytes b (length_at bytes b) (tagged_words bytes a b n)) h).0 some

greatest-more : (xs : List ℕ) (x : ℕ) → greatest (xs ++ x ∷ []) ≡ max x (greatest xs)
greatest-more [] x = omega arith
greatest-more (y ∷ xs) x = let e : greatest (xs ++ x ∷ []) ≡ max x (greatest xs) = greatest-more xs x in omega (arith, e)

pub filter-yes : (t : ℕ → Bool) (x : ℕ) (xs : List ℕ) → t x ≡ true → filter t (x ∷ xs) ≡ x ∷ filter t xs
filter-yes t x xs h = ap (λ z. if z then x ∷ filter t xs else filter t xs) h

pub filter-no : (t : ℕ → Bool) (x : ℕ) (xs : List ℕ) → t x ≡ false → filter t (x ∷ xs) ≡ filter t xs
filter-no t x xs h = ap (λ z. if z then x ∷ filter t xs else filter t xs) h

abbrev pub depth_so_far : Memory → ℕ → ℕ → ℕ → ℕ → ℕ
depth_so_far m at len first i = greatest (map (λ j. depth_of m (base_at m.bytes at len j)) (filter (tag_at m.bytes at len) (so_far first i)))

pub depth-start : (m : Memory) (at len first : ℕ) → 0 ≡ depth_so_far m at len first first
depth-start m at len first = sym (ap (λ l. greatest (map (λ j. depth_of m (base_at m.bytes at len j)) (filter (tag_at m.bytes at len) l))) (so_far-none first))

depth-step : (m : Memory) (at len first i : ℕ) (l : List ℕ) → filter (tag_at m.bytes at len) (i ∷ []) ≡ l → first ≤ i → depth_so_far m at len first (i + 1) ≡ greatest (map (λ j. depth_of m (base_at m.bytes at len j)) (filter (tag_at m.bytes at len) (so_far first i)) ++ map (λ j. depth_of m (base_at m.bytes at len j)) l)
depth-step m at len first i l is low =
    let t : ℕ → Bool = tag_at m.bytes at len in
    let d : ℕ → ℕ = λ j. depth_of m (base_at m.bytes at len j) in
    ap (λ l. greatest (map d (filter t l))) (so_far-more first i low)
    ∙ (ap (λ l. greatest (map d l)) (filter-append t (so_far first i) (i ∷ []))
    ∙ (ap greatest (map-append d (filter t (so_far first i)) (filter t (i ∷ [])))
    ∙ ap (λ k. greatest (map d (filter t (so_far first i)) ++ map d k)) is))

pub depth-yes : (m : Memory) (at len first i addr word depth now new : ℕ) (t : Bool) → now ≡ depth_so_far m at len first i → t ≡ tag_at m.bytes at len i → t ≡ true → addr ≡ base_word at len i → word ≡ number 8 m.bytes addr → depth ≡ depth_of m word → new ≡ max depth now → first ≤ i → new ≡ depth_so_far m at len first (i + 1)
depth-yes m at len first i addr word depth now new t is tag set base loaded found greater low =
    let d : depth ≡ depth_of m (base_at m.bytes at len i) = found ∙ ap (depth_of m) (loaded ∙ ap (number 8 m.bytes) base) in
    greater
    ∙ (ap (λ x. max x now) d
    ∙ (ap (max (depth_of m (base_at m.bytes at len i))) is
    ∙ sym (depth-step m at len first i (i ∷ []) (filter-yes (tag_at m.bytes at len) i [] (sym tag ∙ set)) low
    ∙ greatest-more (map (λ j. depth_of m (base_at m.bytes at len j)) (filter (tag_at m.bytes at len) (so_far first i))) (depth_of m (base_at m.bytes at len i)))))

pub depth-no : (m : Memory) (at len first i now : ℕ) (t : Bool) → now ≡ depth_so_far m at len first i → t ≡ tag_at m.bytes at len i → t ≡ false → first ≤ i → now ≡ depth_so_far m at len first (i + 1)
depth-no m at len first i now t is tag clear low =
    is ∙ sym (depth-step m at len first i [] (filter-no (tag_at m.bytes at len) i [] (sym tag ∙ clear)) low
    ∙ ap greatest (append-nil (map (λ j. depth_of m (base_at m.bytes at len j)) (filter (tag_at m.bytes at len) (so_far first i)))))

pub depth-all : (m : Memory) (a b n at len first end i now : ℕ) → now ≡ depth_so_far m at len first i → at ≡ b → len ≡ length_at m.bytes b → first ≡ word_at b a → end ≡ word_at b a + touched_count b a n → i ≤ end → end ≤ i → now ≡ greatest_depth m a b n
depth-all m a b n at len first end i now is place size begin stop low high =
    is
    ∙ (ap (λ x. depth_so_far m x len first i) place
    ∙ (ap (λ x. depth_so_far m b x first i) size
    ∙ ap (λ l. greatest (map (λ j. depth_of m (base_at m.bytes b (length_at m.bytes b) j)) (filter (tag_at m.bytes b (length_at m.bytes b)) l))) (so_far-all a b n first end i begin stop low high)))

all-first : (q t : ℕ → Bool) (first : ℕ) (rest : List ℕ) → IsTrue (list_all q (filter t (first ∷ rest))) → (i : ℕ) → first ≡ i → t i ≡ true → IsTrue (q i)
all-first q t first rest all i same set =
    let here : t first ≡ true = ap t same ∙ set in
    subst (λ j. IsTrue (q j)) same (both (q first) (list_all q (filter t rest)) (subst (λ l. IsTrue (list_all q l)) (filter-yes t first rest here) all)).0

all-rest : (q t : ℕ → Bool) (first : ℕ) (rest : List ℕ) (x : Bool) → t first ≡ x → IsTrue (list_all q (filter t (first ∷ rest))) → IsTrue (list_all q (filter t rest))
all-rest q t first rest true is all = (both (q first) (list_all q (filter t rest)) (subst (λ l. IsTrue (list_all q l)) (filter-yes t first rest is) all)).1
all-rest q t first rest false is all = subst (λ l. IsTrue (list_all q l)) (filter-no t first rest is) all

-- what holds of the tagged words holds of each touched word that is tagged
pub all-filtered : (q t : ℕ → Bool) (first k i : ℕ) → IsTrue (list_all q (filter t (counted first k))) → first ≤ i → i < first + k → t i ≡ true → IsTrue (q i)
unfolding counted
all-filtered q t first zero i all low high set = absurd (omega arith)
all-filtered q t first (suc k) i all low high set = ⊎_elim
    (λ same. all-first q t first (counted (first + 1) k) all i same set)
    (λ more. all-filtered q t (first + 1) k i (all-rest q t first (counted (first + 1) k) (t first) refl all) (omega arith) (omega arith) set)
    (first_or_later first i low)

pub base-inside : (m : Memory) (a b n at len first end i addr : ℕ) (t : Bool) → IsTrue (allows_depth m.bytes a b n) → at ≡ b → len ≡ length_at m.bytes b → first ≡ word_at b a → end ≡ word_at b a + touched_count b a n → t ≡ tag_at m.bytes at len i → t ≡ true → addr ≡ base_word at len i → first ≤ i → i < end → IsTrue (in_flat m.bytes addr 8)
base-inside m a b n at len first end i addr t h place size begin stop tag set base low high =
    let two = both (allows_plain m.bytes a b n) (have_bases m.bytes b (length_at m.bytes b) (tagged_words m.bytes a b n)) h in
    let here : tag_at m.bytes b (length_at m.bytes b) i ≡ true = sym (ap (λ x. tag_at m.bytes x len i) place ∙ ap (λ x. tag_at m.bytes b x i) size) ∙ (sym tag ∙ set) in
    subst (λ x. IsTrue (in_flat m.bytes x 8)) (sym (base ∙ ap (λ x. base_word x len i) place))
    (subst (λ x. IsTrue (in_flat m.bytes (base_word b x i) 8)) (sym size)
    (all-filtered (λ j. in_flat m.bytes (base_word b (length_at m.bytes b) j) 8) (tag_at m.bytes b (length_at m.bytes b)) (word_at b a) (touched_count b a n) i two.1 (omega (arith, begin, low)) (omega (arith, stop, high)) here))
