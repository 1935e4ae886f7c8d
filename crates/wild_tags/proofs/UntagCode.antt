-- The order in which `untag` zeroes words: no tag is lost that is still to be read.
use Rattle.std.specs.Prelude.{◌≡◌, ℕ, suc, ◌+◌, ◌-◌, ◌*◌, ◌/◌, ◌^◌, ◌<◌, ◌≤◌, ◌&&◌, Bool, true, false, List, [], ◌∷◌, length, IsTrue, min, max, filter, if◌then◌else◌, refl}
use Rattle.std.proofs.Common.{sym, ◌∙◌, ap, subst, inl, inr, arith}
use Rattle.std.proofs.lemmas.List.Elements.{filter-append}
use Rattle.flat_mem.specs.Bytes.{zeroed}
use Rattle.flat_mem.specs.Placement.{word_count, data_word, tag_byte}
use Rattle.flat_mem.specs.Memory.{Memory, with_bytes, in_flat}
use Rattle.flat_mem.proofs.RangeLaws.{in_flat-same}
use Rattle.wild_tags.specs.Words.{counted, tag_at, words_zeroed}
use Rattle.wild_tags.specs.Inside.{have_data, have_tags}
use Rattle.wild_tags.specs.Order.{turn_of}
use Rattle.wild_tags.proofs.WordLaws.{all-at}
use Rattle.wild_tags.proofs.WriteLaws.{length-words_zeroed, words_zeroed-none, words_zeroed-one, words_zeroed-append, words_zeroed-turned, away-filter, away-counted, tag-words_zeroed}
use Rattle.wild_tags.proofs.CallCode.{so_far, so_far-none, so_far-more, filter-yes, filter-no, all-filtered}

-- One word

pub zero-word : (m new : Memory) (at len i addr : ℕ) (t : Bool) → t ≡ tag_at m.bytes at len i → t ≡ true → addr ≡ data_word at i → new ≡ with_bytes m (zeroed 8 m.bytes addr) → new ≡ with_bytes m (words_zeroed (filter (tag_at m.bytes at len) (i ∷ [])) m.bytes at)
zero-word m new at len i addr t tag set place zeros =
    zeros
    ∙ (ap (λ x. with_bytes m (zeroed 8 m.bytes x)) place
    ∙ ap (with_bytes m) (sym (ap (λ l. words_zeroed l m.bytes at) (filter-yes (tag_at m.bytes at len) i [] (sym tag ∙ set)) ∙ words_zeroed-one i m.bytes at)))

pub zero-no_word : (m : Memory) (at len i : ℕ) (t : Bool) → t ≡ tag_at m.bytes at len i → t ≡ false → m ≡ with_bytes m (words_zeroed (filter (tag_at m.bytes at len) (i ∷ [])) m.bytes at)
zero-no_word m at len i t tag clear =
    ap (with_bytes m) (sym (ap (λ l. words_zeroed l m.bytes at) (filter-no (tag_at m.bytes at len) i [] (sym tag ∙ clear)) ∙ words_zeroed-none m.bytes at))

-- Which data words hold a tag: w words in the area, i the word of the tag, j the data word

before_turn : (w i j : ℕ) → i < 2 * w + 2 * w / 63 → j < i → 8 * j + 8 ≤ 16 * w + i / 8
before_turn w i j low less = omega arith

after_turn : (w i j : ℕ) → 2 * w + 2 * w / 63 ≤ i → i < j → 16 * w + i / 8 < 8 * j
after_turn w i j high more = omega arith

pub across_turn : (w i j : ℕ) → 2 * w + 2 * w / 63 ≤ i → j < 2 * w + 2 * w / 63 → 8 * j + 8 ≤ 16 * w + i / 8
across_turn w i j high low = omega arith

-- The loop upwards

abbrev pub zeroed_up : Memory → ℕ → ℕ → ℕ → ℕ → Memory
zeroed_up m at len first i = with_bytes m (words_zeroed (filter (tag_at m.bytes at len) (so_far first i)) m.bytes at)

pub up-none : (m : Memory) (at len first : ℕ) → m ≡ zeroed_up m at len first first
up-none m at len first = ap (with_bytes m) (sym (ap (λ l. words_zeroed (filter (tag_at m.bytes at len) l) m.bytes at) (so_far-none first) ∙ words_zeroed-none m.bytes at))

tag-up : (m now : Memory) (at len first end i : ℕ) → now ≡ zeroed_up m at len first i → end ≤ max (turn_of len) first → first ≤ i → i < end → tag_at now.bytes at len i ≡ tag_at m.bytes at len i
tag-up m now at len first end i is turn low high =
    ap (λ x. tag_at x.bytes at len i) is
    ∙ tag-words_zeroed (filter (tag_at m.bytes at len) (so_far first i)) m.bytes at len i
    (away-filter (tag_at m.bytes at len) at (tag_byte at len i) (so_far first i)
    (away-counted at (tag_byte at len i) first (i - first) (λ j from to.
    let e : 8 * j + 8 ≤ 16 * word_count len + i / 8 = before_turn (word_count len) i j (omega arith) (omega arith) in inr (omega (arith, e)))))

filter-one : (t u : ℕ → Bool) (i : ℕ) → t i ≡ u i → filter t (i ∷ []) ≡ filter u (i ∷ [])
filter-one t u i same = ap (λ x. if x then i ∷ [] else []) same

up-length : (m now : Memory) (at len first i : ℕ) → now ≡ zeroed_up m at len first i → length m.bytes ≡ length now.bytes
up-length m now at len first i is = sym (ap (λ x. length x.bytes) is ∙ length-words_zeroed (filter (tag_at m.bytes at len) (so_far first i)) m.bytes at)

pub up-small : (m now : Memory) (at len first i : ℕ) → now ≡ zeroed_up m at len first i → length m.bytes < 2 ^ 32 → length now.bytes < 2 ^ 32
up-small m now at len first i is small = let e : length m.bytes ≡ length now.bytes = up-length m now at len first i is in omega (arith, e, small)

pub up-tag : (m now : Memory) (at len first end i : ℕ) → now ≡ zeroed_up m at len first i → IsTrue (have_tags m.bytes at len (counted first (end - first))) → first ≤ i → i < end → IsTrue (in_flat now.bytes (tag_byte at len i) 1)
up-tag m now at len first end i is all low high =
    in_flat-same m.bytes now.bytes (tag_byte at len i) 1 (up-length m now at len first i is)
    (all-at (λ j. in_flat m.bytes (tag_byte at len j) 1) first (end - first) i all low (omega arith))

-- where word i is tagged, it lies in the list
one-data : (bytes others : List ℕ) (at len first end i : ℕ) → length bytes ≡ length others → tag_at others at len i ≡ tag_at bytes at len i → IsTrue (have_data bytes at (filter (tag_at bytes at len) (counted first (end - first)))) → first ≤ i → i < end → (x : Bool) → tag_at others at len i ≡ x → IsTrue (have_data others at (filter (tag_at others at len) (i ∷ [])))
one-data bytes others at len first end i same tag all low high true set =
    subst (λ l. IsTrue (have_data others at l)) (sym (filter-yes (tag_at others at len) i [] set))
    (subst (λ x. IsTrue (x && true)) (sym (in_flat-same bytes others (data_word at i) 8 same
    (all-filtered (λ j. in_flat bytes (data_word at j) 8) (tag_at bytes at len) first (end - first) i all low (omega arith) (sym tag ∙ set)))) refl)
one-data bytes others at len first end i same tag all low high false clear =
    subst (λ l. IsTrue (have_data others at l)) (sym (filter-no (tag_at others at len) i [] clear)) refl

pub up-data : (m now : Memory) (at len first end i : ℕ) → now ≡ zeroed_up m at len first i → end ≤ max (turn_of len) first → IsTrue (have_data m.bytes at (filter (tag_at m.bytes at len) (counted first (end - first)))) → first ≤ i → i < end → IsTrue (have_data now.bytes at (filter (tag_at now.bytes at len) (i ∷ [])))
up-data m now at len first end i is turn all low high =
    one-data m.bytes now.bytes at len first end i (up-length m now at len first i is) (tag-up m now at len first end i is turn low high) all low high (tag_at now.bytes at len i) refl

pub up-next : (m now after : Memory) (at len first end i : ℕ) → now ≡ zeroed_up m at len first i → end ≤ max (turn_of len) first → first ≤ i → i < end → after ≡ with_bytes now (words_zeroed (filter (tag_at now.bytes at len) (i ∷ [])) now.bytes at) → after ≡ zeroed_up m at len first (i + 1)
up-next m now after at len first end i is turn low high next =
    let t : ℕ → Bool = tag_at m.bytes at len in
    next
    ∙ (ap (λ l. with_bytes now (words_zeroed l now.bytes at)) (filter-one (tag_at now.bytes at len) t i (tag-up m now at len first end i is turn low high))
    ∙ (ap (λ x. with_bytes x (words_zeroed (filter t (i ∷ [])) x.bytes at)) is
    ∙ ap (with_bytes m) (sym (ap (λ l. words_zeroed (filter t l) m.bytes at) (so_far-more first i low)
    ∙ (ap (λ l. words_zeroed l m.bytes at) (filter-append t (so_far first i) (i ∷ []))
    ∙ words_zeroed-append (filter t (so_far first i)) (filter t (i ∷ [])) m.bytes at)))))

pub up-done : (m now : Memory) (at len first end i : ℕ) → now ≡ zeroed_up m at len first i → i ≤ end → end ≤ i → now ≡ zeroed_up m at len first end
up-done m now at len first end i is low high = let last : i ≡ end = omega arith in is ∙ ap (zeroed_up m at len first) last

-- The loop downwards: the words from i up to `end` are done

abbrev pub zeroed_down : Memory → ℕ → ℕ → ℕ → ℕ → Memory
zeroed_down m at len i end = with_bytes m (words_zeroed (filter (tag_at m.bytes at len) (counted i (end - i))) m.bytes at)

pub down-none : (m : Memory) (at len end : ℕ) → m ≡ zeroed_down m at len end end
down-none m at len end = up-none m at len end

down-length : (m now : Memory) (at len i end : ℕ) → now ≡ zeroed_down m at len i end → length m.bytes ≡ length now.bytes
down-length m now at len i end is = sym (ap (λ x. length x.bytes) is ∙ length-words_zeroed (filter (tag_at m.bytes at len) (counted i (end - i))) m.bytes at)

pub down-small : (m now : Memory) (at len i end : ℕ) → now ≡ zeroed_down m at len i end → length m.bytes < 2 ^ 32 → length now.bytes < 2 ^ 32
down-small m now at len i end is small = let e : length m.bytes ≡ length now.bytes = down-length m now at len i end is in omega (arith, e, small)

tag-down : (m now : Memory) (at len first end i : ℕ) → now ≡ zeroed_down m at len i end → min (turn_of len) end ≤ first → first < i → i ≤ end → tag_at now.bytes at len (i - 1) ≡ tag_at m.bytes at len (i - 1)
tag-down m now at len first end i is turn low high =
    ap (λ x. tag_at x.bytes at len (i - 1)) is
    ∙ tag-words_zeroed (filter (tag_at m.bytes at len) (counted i (end - i))) m.bytes at len (i - 1)
    (away-filter (tag_at m.bytes at len) at (tag_byte at len (i - 1)) (counted i (end - i))
    (away-counted at (tag_byte at len (i - 1)) i (end - i) (λ j from to.
    let e : 16 * word_count len + (i - 1) / 8 < 8 * j = after_turn (word_count len) (i - 1) j (omega arith) (omega arith) in inl (omega (arith, e)))))

pub down-tag : (m now : Memory) (at len first end i : ℕ) → now ≡ zeroed_down m at len i end → IsTrue (have_tags m.bytes at len (counted first (end - first))) → first < i → i ≤ end → IsTrue (in_flat now.bytes (tag_byte at len (i - 1)) 1)
down-tag m now at len first end i is all low high =
    in_flat-same m.bytes now.bytes (tag_byte at len (i - 1)) 1 (down-length m now at len i end is)
    (all-at (λ j. in_flat m.bytes (tag_byte at len j) 1) first (end - first) (i - 1) all (omega arith) (omega arith))

pub down-data : (m now : Memory) (at len first end i : ℕ) → now ≡ zeroed_down m at len i end → min (turn_of len) end ≤ first → IsTrue (have_data m.bytes at (filter (tag_at m.bytes at len) (counted first (end - first)))) → first < i → i ≤ end → IsTrue (have_data now.bytes at (filter (tag_at now.bytes at len) ((i - 1) ∷ [])))
down-data m now at len first end i is turn all low high =
    one-data m.bytes now.bytes at len first end (i - 1) (down-length m now at len i end is) (tag-down m now at len first end i is turn low high) all (omega arith) (omega arith) (tag_at now.bytes at len (i - 1)) refl

counted-before : (i end : ℕ) → 0 < i → i ≤ end → counted (i - 1) (end - (i - 1)) ≡ (i - 1) ∷ counted i (end - i)
unfolding counted
counted-before i end some high =
    let more : end - (i - 1) ≡ suc (end - i) = omega arith in
    let next : i - 1 + 1 ≡ i = omega arith in
    ap (counted (i - 1)) more ∙ ap (λ k. (i - 1) ∷ counted k (end - i)) next

pub down-next : (m now after : Memory) (at len first end i : ℕ) → now ≡ zeroed_down m at len i end → min (turn_of len) end ≤ first → first < i → i ≤ end → after ≡ with_bytes now (words_zeroed (filter (tag_at now.bytes at len) ((i - 1) ∷ [])) now.bytes at) → after ≡ zeroed_down m at len (i - 1) end
down-next m now after at len first end i is turn low high next =
    let t : ℕ → Bool = tag_at m.bytes at len in
    let rest : List ℕ = counted i (end - i) in
    next
    ∙ (ap (λ l. with_bytes now (words_zeroed l now.bytes at)) (filter-one (tag_at now.bytes at len) t (i - 1) (tag-down m now at len first end i is turn low high))
    ∙ (ap (λ x. with_bytes x (words_zeroed (filter t ((i - 1) ∷ [])) x.bytes at)) is
    ∙ ap (with_bytes m) (words_zeroed-turned (filter t rest) (filter t ((i - 1) ∷ [])) m.bytes at
    ∙ sym (ap (λ l. words_zeroed (filter t l) m.bytes at) (counted-before i end (omega arith) high)
    ∙ (ap (λ l. words_zeroed l m.bytes at) (filter-append t ((i - 1) ∷ []) rest)
    ∙ words_zeroed-append (filter t ((i - 1) ∷ [])) (filter t rest) m.bytes at)))))

pub down-done : (m now : Memory) (at len first end i : ℕ) → now ≡ zeroed_down m at len i end → first ≤ i → i ≤ first → now ≡ zeroed_down m at len first end
down-done m now at len first end i is low high = let last : i ≡ first = omega arith in is ∙ ap (λ k. zeroed_down m at len k end) last
