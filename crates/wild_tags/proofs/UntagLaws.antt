-- What is read after `untag`, `tzero` and `tmove`, for an area's own words. Here n is the area's length, and the touched
-- words are the k ones from `first` on.
use Rattle.std.specs.Prelude.{◌≡◌, ◌⊎◌, ℕ, zero, suc, ◌+◌, ◌*◌, ◌<◌, ◌≤◌, Bool, true, false, List, ◌∷◌, length, filter, slice_index, refl}
use Rattle.std.proofs.Common.{sym, ◌∙◌, ap, subst, inl, inr, ⊎_elim, arith}
use Rattle.flat_mem.specs.Bytes.{number, zeroed, AreBytes}
use Rattle.flat_mem.specs.Placement.{word_count, data_word, base_word, tag_byte}
use Rattle.flat_mem.proofs.ByteLaws.{number-same, number-zeros, get-zeroed_inside, number-zeroed, number-zeroed_apart}
use Rattle.wild_tags.specs.Words.{counted, tag_at, base_at, tags_cleared, words_zeroed}
use Rattle.wild_tags.proofs.WordLaws.{first_or_later}
use Rattle.wild_tags.proofs.WriteLaws.{get-words_zeroed_either, length-words_zeroed, words_zeroed-bytes, away-filter, away-counted, get-words_zeroed_other, tag-words_zeroed}
use Rattle.wild_tags.proofs.CallCode.{filter-yes, filter-no}
use Rattle.wild_tags.proofs.UntagDone.{tags_cleared-filter}
use Rattle.wild_tags.proofs.MarkLaws.{tag-tags_cleared, tag-tags_cleared_other, number-tags_cleared}

-- Untagging

abbrev pub untagged_at : List ℕ → ℕ → ℕ → ℕ → ℕ → List ℕ
untagged_at bytes b n first k =
    let words = filter (tag_at bytes b n) (counted first k) in
    tags_cleared words (words_zeroed words bytes b) b n

-- own data words hold no tag
tags-away : (t : ℕ → Bool) (b n first k i : ℕ) → first + k ≤ word_count n → (bytes : List ℕ) → tag_at (words_zeroed (filter t (counted first k)) bytes b) b n i ≡ tag_at bytes b n i
tags-away t b n first k i own bytes =
    tag-words_zeroed (filter t (counted first k)) bytes b n i
    (away-filter t b (tag_byte b n i) (counted first k) (away-counted b (tag_byte b n i) first k (λ j low high. inr (omega (arith, own, high)))))

cleared_whole : (bytes : List ℕ) (b n first k : ℕ) → AreBytes bytes → first + k ≤ word_count n → untagged_at bytes b n first k ≡ tags_cleared (counted first k) (words_zeroed (filter (tag_at bytes b n) (counted first k)) bytes b) b n
cleared_whole bytes b n first k are own =
    let t : ℕ → Bool = tag_at bytes b n in
    let zeros : List ℕ = words_zeroed (filter t (counted first k)) bytes b in
    sym (tags_cleared-filter t (counted first k) zeros b n (words_zeroed-bytes (filter t (counted first k)) bytes b are) (λ j clear. tags-away t b n first k j own bytes ∙ clear))

-- no touched word is tagged
pub tag-untagged : (bytes : List ℕ) (b n first k i : ℕ) → AreBytes bytes → first + k ≤ word_count n → tag_byte b n i < length bytes → first ≤ i → i < first + k → tag_at (untagged_at bytes b n first k) b n i ≡ false
tag-untagged bytes b n first k i are own room low high =
    let words : List ℕ = filter (tag_at bytes b n) (counted first k) in
    let e : length (words_zeroed words bytes b) ≡ length bytes = length-words_zeroed words bytes b in
    ap (λ l. tag_at l b n i) (cleared_whole bytes b n first k are own)
    ∙ tag-tags_cleared first k (words_zeroed words bytes b) b n i (words_zeroed-bytes words bytes b are) (omega (arith, e, room)) low high

-- other words keep their tags
pub tag-untagged_other : (bytes : List ℕ) (b n first k i : ℕ) → AreBytes bytes → first + k ≤ word_count n → ((j : ℕ) → first ≤ j → j < first + k → tag_byte b n j < length bytes) → (i < first) ⊎ (first + k ≤ i) → tag_at (untagged_at bytes b n first k) b n i ≡ tag_at bytes b n i
tag-untagged_other bytes b n first k i are own room out =
    let words : List ℕ = filter (tag_at bytes b n) (counted first k) in
    let e : length (words_zeroed words bytes b) ≡ length bytes = length-words_zeroed words bytes b in
    ap (λ l. tag_at l b n i) (cleared_whole bytes b n first k are own)
    ∙ (tag-tags_cleared_other first k (words_zeroed words bytes b) b n i (words_zeroed-bytes words bytes b are) (λ j low high. let r : tag_byte b n j < length bytes = room j low high in omega (arith, e, r)) out
    ∙ tags-away (tag_at bytes b n) b n first k i own bytes)

-- base words stay
pub base-untagged : (bytes : List ℕ) (b n first k i : ℕ) → first + k ≤ word_count n → i < word_count n → base_at (untagged_at bytes b n first k) b n i ≡ base_at bytes b n i
base-untagged bytes b n first k i own low =
    let t : ℕ → Bool = tag_at bytes b n in
    let words : List ℕ = filter t (counted first k) in
    number-tags_cleared 8 words (words_zeroed words bytes b) b n (base_word b n i) (omega (arith, low))
    ∙ number-same 8 (words_zeroed words bytes b) bytes (base_word b n i) (base_word b n i) (λ h small.
    get-words_zeroed_other words bytes b (base_word b n i + h) (away-filter t b (base_word b n i + h) (counted first k) (away-counted b (base_word b n i + h) first k (λ j from to. inr (omega (arith, own, to))))))

-- Data words: zero where they were tagged, as they were elsewhere

number-words_zeroed_other : (words bytes : List ℕ) (b i first k : ℕ) (t : ℕ → Bool) → words ≡ filter t (counted first k) → (i < first) ⊎ (first + k ≤ i) → number 8 (words_zeroed words bytes b) (data_word b i) ≡ number 8 bytes (data_word b i)
number-words_zeroed_other words bytes b i first k t is out =
    number-same 8 (words_zeroed words bytes b) bytes (data_word b i) (data_word b i) (λ h small.
    ap (λ l. slice_index (words_zeroed l bytes b) (data_word b i + h)) is
    ∙ (get-words_zeroed_other (filter t (counted first k)) bytes b (data_word b i + h)
    (away-filter t b (data_word b i + h) (counted first k) (away-counted b (data_word b i + h) first k (λ j from to. apart i j h first k small from to out)))))
  where
    apart : (i j h first k : ℕ) → h < 8 → first ≤ j → j < first + k → (i < first) ⊎ (first + k ≤ i) → (data_word b i + h < data_word b j) ⊎ (data_word b j + 8 ≤ data_word b i + h)
    apart i j h first k small from to out = ⊎_elim (λ l. inl (omega (arith, l, small, from))) (λ l. inr (omega (arith, l, small, to))) out

pub data-untagged_other : (bytes : List ℕ) (b n first k i : ℕ) → i < word_count n → (i < first) ⊎ (first + k ≤ i) → number 8 (untagged_at bytes b n first k) (data_word b i) ≡ number 8 bytes (data_word b i)
data-untagged_other bytes b n first k i own out =
    let words : List ℕ = filter (tag_at bytes b n) (counted first k) in
    number-tags_cleared 8 words (words_zeroed words bytes b) b n (data_word b i) (omega (arith, own))
    ∙ number-words_zeroed_other words bytes b i first k (tag_at bytes b n) refl out

-- Zeroing a range

abbrev pub range_zeroed_at : List ℕ → ℕ → ℕ → ℕ → ℕ → ℕ → ℕ → List ℕ
range_zeroed_at bytes a size b n first k = tags_cleared (counted first k) (zeroed size bytes a) b n

-- a number in the range is zero, one outside of it stays
pub number-range_zeroed : (m : ℕ) (bytes : List ℕ) (a size b n first k p : ℕ) → a ≤ p → p + m ≤ a + size → p + m ≤ b + 16 * word_count n → number m (range_zeroed_at bytes a size b n first k) p ≡ 0
number-range_zeroed m bytes a size b n first k p low high before =
    number-tags_cleared m (counted first k) (zeroed size bytes a) b n p before ∙ number-zeroed m size bytes a p low high

pub number-range_zeroed_other : (m : ℕ) (bytes : List ℕ) (a size b n first k p : ℕ) → (p + m ≤ a) ⊎ (a + size ≤ p) → p + m ≤ b + 16 * word_count n → number m (range_zeroed_at bytes a size b n first k) p ≡ number m bytes p
number-range_zeroed_other m bytes a size b n first k p out before =
    number-tags_cleared m (counted first k) (zeroed size bytes a) b n p before ∙ number-zeroed_apart m size bytes a p out

-- a word that is zeroed stays zero
still_zero : (words bytes : List ℕ) (b p : ℕ) → ((h : ℕ) → h < 8 → slice_index bytes (p + h) ≡ 0) → number 8 (words_zeroed words bytes b) p ≡ 0
still_zero words bytes b p zeros =
    number-zeros 8 (words_zeroed words bytes b) p (λ h small. ⊎_elim (λ none. none) (λ same. same ∙ zeros h small) (get-words_zeroed_either words bytes b (p + h)))

zeroed-step : (t : ℕ → Bool) (first k i : ℕ) (bytes : List ℕ) (b : ℕ) → first + 1 ≤ i → ((others : List ℕ) → number 8 (words_zeroed (filter t (counted (first + 1) k)) others b) (data_word b i) ≡ 0) → (x : Bool) → t first ≡ x → number 8 (words_zeroed (filter t (first ∷ counted (first + 1) k)) bytes b) (data_word b i) ≡ 0
unfolding words_zeroed
zeroed-step t first k i bytes b more rest true is =
    ap (λ l. number 8 (words_zeroed l bytes b) (data_word b i)) (filter-yes t first (counted (first + 1) k) is) ∙ rest (zeroed 8 bytes (data_word b first))
zeroed-step t first k i bytes b more rest false is =
    ap (λ l. number 8 (words_zeroed l bytes b) (data_word b i)) (filter-no t first (counted (first + 1) k) is) ∙ rest bytes

number-words_zeroed : (t : ℕ → Bool) (first k i : ℕ) (bytes : List ℕ) (b : ℕ) → first ≤ i → i < first + k → t i ≡ true → number 8 (words_zeroed (filter t (counted first k)) bytes b) (data_word b i) ≡ 0
unfolding counted words_zeroed
number-words_zeroed t first zero i bytes b low high set = absurd (omega arith)
number-words_zeroed t first (suc k) i bytes b low high set = ⊎_elim
    (λ same.
    ap (λ l. number 8 (words_zeroed l bytes b) (data_word b i)) (filter-yes t first (counted (first + 1) k) (ap t same ∙ set))
    ∙ subst (λ j. number 8 (words_zeroed (filter t (counted (first + 1) k)) (zeroed 8 bytes (data_word b j)) b) (data_word b i) ≡ 0) (sym same)
    (still_zero (filter t (counted (first + 1) k)) (zeroed 8 bytes (data_word b i)) b (data_word b i) (λ h small. get-zeroed_inside 8 bytes (data_word b i) (data_word b i + h) (omega arith) (omega (arith, small)))))
    (λ more. zeroed-step t first k i bytes b more (λ others. number-words_zeroed t (first + 1) k i others b (omega arith) (omega arith) set) (t first) refl)
    (first_or_later first i low)

pub data-untagged : (bytes : List ℕ) (b n first k i : ℕ) → i < word_count n → first ≤ i → i < first + k → tag_at bytes b n i ≡ true → number 8 (untagged_at bytes b n first k) (data_word b i) ≡ 0
data-untagged bytes b n first k i own low high set =
    let words : List ℕ = filter (tag_at bytes b n) (counted first k) in
    number-tags_cleared 8 words (words_zeroed words bytes b) b n (data_word b i) (omega (arith, own))
    ∙ number-words_zeroed (tag_at bytes b n) first k i bytes b low high set
