-- What `untag`, `mark` and a store leave of a tagged area byte by byte, for integers of any width and areas whose last word
-- isn't full; and where `untag` may be made. Here n is the area's length, and the touched words are the k ones from `first` on.
use Rattle.std.specs.Prelude.{◌≡◌, ◌≢◌, ◌⊎◌, ℕ, zero, suc, ◌+◌, ◌*◌, ◌%◌, ◌<◌, ◌≤◌, Bool, true, false, ◌&&◌, ◌||◌, List, [], ◌∷◌, length, filter, slice_index, nat_eq, nat_le, if◌then◌else◌, refl, ◌-◌}
use Rattle.std.specs.Int.{bit_at}
use Rattle.std.specs.List.{list_all}
use Rattle.std.proofs.Common.{sym, ◌∙◌, ap, subst, inl, inr, ⊎_elim, arith}
use Rattle.std.proofs.lemmas.Bool.Decides.{nat_tests}
use Rattle.flat_mem.specs.Bytes.{stored}
use Rattle.flat_mem.specs.Placement.{word_count, tagged_size, data_word, base_word, tag_byte}
use Rattle.flat_mem.specs.Memory.{in_flat}
use Rattle.flat_mem.proofs.ByteLaws.{get-stored_other}
use Rattle.flat_mem.proofs.StoreLaws.{number-one}
use Rattle.wild_tags.specs.Words.{length_at, word_at, touched, touched_count, counted, tag_at, with_tag, tags_cleared, words_zeroed}
use Rattle.wild_tags.specs.Calls.{tagged_words, untagged}
use Rattle.wild_tags.specs.Inside.{has_length, have_tags, have_data, allows_plain, allows_untag}
use Rattle.wild_tags.proofs.WordLaws.{touched_count-some}
use Rattle.wild_tags.proofs.WriteLaws.{Away, away-filter, away-counted, get-words_zeroed_other, length-words_zeroed, length-tags_cleared}
use Rattle.wild_tags.proofs.CallLaws.{get-with_tag_other}
use Rattle.wild_tags.proofs.MarkLaws.{marked_at, number-tags_cleared}
use Rattle.wild_tags.proofs.UntagLaws.{untagged_at}

-- The touched words

-- the words that n bytes at `at` of an area of `size` bytes touch are its own k ones from `first` on
pub record IsTouched (size at n first k : ℕ) : Type 0 where
  pub some : 0 < n
  pub inside : at + n ≤ size
  pub low : (i : ℕ) → first ≤ i → i < first + k → (8 * i < at + n) × (at < 8 * i + 8)
  pub high : (i : ℕ) → (8 * i < at + n) × (at < 8 * i + 8) → (first ≤ i) × (i < first + k)
  pub own : first + k ≤ word_count size

pub range-of : (b size at n : ℕ) → 0 < n → at + n ≤ size → IsTouched size at n (word_at b (b + at)) (touched_count b (b + at) n)
range-of b size at n some inside =
    let c = (touched_count-some (b + at) b n some (omega arith)).0 in record {
      some = some;
      inside = inside;
      low = λ i l h. (omega (arith, c, l, h), omega (arith, c, l, h));
      high = λ i h. (let x = h.0 in let y = h.1 in omega (arith, c, x, y), let x = h.0 in let y = h.1 in omega (arith, c, x, y));
      own = omega (arith, c);
    }

-- `untag` in the terms of these laws
pub untagged-here : (bytes : List ℕ) (b size at n : ℕ) → length_at bytes b ≡ size → untagged bytes (b + at) b n ≡ untagged_at bytes b size (word_at b (b + at)) (touched_count b (b + at) n)
untagged-here bytes b size at n e = ap (λ (m : ℕ). untagged_at bytes b m (word_at b (b + at)) (touched_count b (b + at) n)) e

-- Untagging

-- before the tags a byte of no touched word stays
pub get-untagged_other : (bytes : List ℕ) (b n first k j : ℕ) → j < b + 16 * word_count n → (j < data_word b first) ⊎ (data_word b (first + k) ≤ j) → slice_index (untagged_at bytes b n first k) j ≡ slice_index bytes j
get-untagged_other bytes b n first k j low out =
    let words : List ℕ = filter (tag_at bytes b n) (counted first k) in
    sym (number-one (untagged_at bytes b n first k) j)
    ∙ number-tags_cleared 1 words (words_zeroed words bytes b) b n j (omega arith)
    ∙ number-one (words_zeroed words bytes b) j
    ∙ get-words_zeroed_other words bytes b j (away-filter (tag_at bytes b n) b j (counted first k) (away-counted b j first k (λ i l h. ⊎_elim (λ m. inl (omega arith)) (λ m. inr (omega arith)) out)))

other_word : (b h i j : ℕ) → h < 8 → i ≢ j → (data_word b i + h < data_word b j) ⊎ (data_word b j + 8 ≤ data_word b i + h)
other_word b h i j small d = ⊎_elim (λ l. inl (omega arith)) (λ l. inr (omega arith)) (case i j)
  where
    case : (i j : ℕ) → (i < j) ⊎ (j ≤ i)
    case i j = grind arith

away-one : (t : ℕ → Bool) (b i h j : ℕ) → h < 8 → t i ≡ false → (words : List ℕ) → Away b (data_word b i + h) words → (x : Bool) → t j ≡ x → Away b (data_word b i + h) (if x then j ∷ words else words)
away-one t b i h j small plain words rest true e = (other_word b h i j small (λ s. let f : t j ≡ false = ap t (sym s) ∙ plain in absurd (cc (e, f))), rest)
away-one t b i h j small plain words rest false e = rest

away-plain : (t : ℕ → Bool) (b i h : ℕ) → h < 8 → t i ≡ false → (words : List ℕ) → Away b (data_word b i + h) (filter t words)
away-plain t b i h small plain [] = tt
away-plain t b i h small plain (j ∷ words) = away-one t b i h j small plain (filter t words) (away-plain t b i h small plain words) (t j) refl

-- and so does each byte of a word that isn't tagged, touched or not
pub get-untagged_plain : (bytes : List ℕ) (b n first k i h : ℕ) → i < word_count n → h < 8 → tag_at bytes b n i ≡ false
    → slice_index (untagged_at bytes b n first k) (data_word b i + h) ≡ slice_index bytes (data_word b i + h)
get-untagged_plain bytes b n first k i h own small plain =
    let words : List ℕ = filter (tag_at bytes b n) (counted first k) in
    sym (number-one (untagged_at bytes b n first k) (data_word b i + h))
    ∙ number-tags_cleared 1 words (words_zeroed words bytes b) b n (data_word b i + h) (omega arith)
    ∙ number-one (words_zeroed words bytes b) (data_word b i + h)
    ∙ get-words_zeroed_other words bytes b (data_word b i + h) (away-plain (tag_at bytes b n) b i h small plain (counted first k))

-- clearing tags changes no byte but theirs
pub get-tags_cleared_other : (first k : ℕ) (t : ℕ → Bool) (bytes : List ℕ) (b n j : ℕ) → ((i : ℕ) → first ≤ i → i < first + k → (j < tag_byte b n i) ⊎ (tag_byte b n i + 1 ≤ j))
    → slice_index (tags_cleared (filter t (counted first k)) bytes b n) j ≡ slice_index bytes j
unfolding counted tags_cleared
get-tags_cleared_other first zero t bytes b n j h = refl
get-tags_cleared_other first (suc k) t bytes b n j h =
    elim (t first) as (λ x. slice_index (tags_cleared (if x then first ∷ filter t (counted (first + 1) k) else filter t (counted (first + 1) k)) bytes b n) j ≡ slice_index bytes j) [
      | true ↦ get-tags_cleared_other (first + 1) k t (with_tag false bytes b n first) b n j (λ i l m. h i (omega arith) (omega arith)) ∙ get-with_tag_other false bytes b n first j (h first (omega arith) (omega arith))
      | false ↦ get-tags_cleared_other (first + 1) k t bytes b n j (λ i l m. h i (omega arith) (omega arith))
    ]

-- a byte outside the area stays
pub get-untagged_outside : (bytes : List ℕ) (b n first k j : ℕ) → first + k ≤ word_count n → (j < b) ⊎ (b + tagged_size n ≤ j) → slice_index (untagged_at bytes b n first k) j ≡ slice_index bytes j
unfolding tagged_size
get-untagged_outside bytes b n first k j own out =
    get-tags_cleared_other first k (tag_at bytes b n) (words_zeroed (filter (tag_at bytes b n) (counted first k)) bytes b) b n j
    (λ i l h. ⊎_elim (λ m. inl (omega arith)) (λ m. inr (omega arith)) out)
    ∙ get-words_zeroed_other (filter (tag_at bytes b n) (counted first k)) bytes b j
    (away-filter (tag_at bytes b n) b j (counted first k) (away-counted b j first k (λ i l h. ⊎_elim (λ m. inl (omega arith)) (λ m. inr (omega arith)) out)))

pub length-untagged_at : (bytes : List ℕ) (b n first k : ℕ) → length (untagged_at bytes b n first k) ≡ length bytes
length-untagged_at bytes b n first k =
    let words : List ℕ = filter (tag_at bytes b n) (counted first k) in
    length-tags_cleared words (words_zeroed words bytes b) b n ∙ length-words_zeroed words bytes b

-- Marking and storing

-- a byte of a data word stays where a word is marked
pub get-marked_data : (bytes : List ℕ) (b n i w j : ℕ) → j < b + 8 * word_count n → slice_index (marked_at bytes b n i w) j ≡ slice_index bytes j
get-marked_data bytes b n i w j h =
    get-stored_other 8 (with_tag true bytes b n i) (base_word b n i) w j (inl (omega arith)) ∙ get-with_tag_other true bytes b n i j (inl (omega arith))

-- a store before a word's tag keeps it
pub tag-stored : (n : ℕ) (bytes : List ℕ) (a v b size k : ℕ) → a + n ≤ tag_byte b size k → tag_at (stored n bytes a v) b size k ≡ tag_at bytes b size k
tag-stored n bytes a v b size k h = ap (λ x. nat_eq (bit_at x (k % 8)) 1) (get-stored_other n bytes a v (tag_byte b size k) (inr h))

-- Tests over touched words

first : (a b : Bool) → (a && b) ≡ true → a ≡ true
first true b h = refl
first false b h = h

second : (a b : Bool) → (a && b) ≡ true → b ≡ true
second true b h = h
second false b h = absurd (cc (h))

pub all-true : (p : ℕ → Bool) (from k : ℕ) → ((i : ℕ) → from ≤ i → i < from + k → p i ≡ true) → list_all p (counted from k) ≡ true
unfolding counted
all-true p from zero h = refl
all-true p from (suc k) h =
    ap (λ (x : Bool). x && list_all p (counted (from + 1) k)) (h from (omega arith) (omega arith)) ∙ all-true p (from + 1) k (λ i l m. h i (omega arith) (omega arith))

pub all-counted : (p : ℕ → Bool) (from k : ℕ) → list_all p (counted from k) ≡ true → (i : ℕ) → from ≤ i → i < from + k → p i ≡ true
unfolding counted
all-counted p from zero h i l m = absurd (omega arith)
all-counted p from (suc k) h i l m = ⊎_elim
    (λ e. subst (λ (j : ℕ). p j ≡ true) e (first (p from) (list_all p (counted (from + 1) k)) h))
    (λ e. all-counted p (from + 1) k (second (p from) (list_all p (counted (from + 1) k)) h) i e (omega arith)) (case from i l)
  where
    case : (a i : ℕ) → a ≤ i → (a ≡ i) ⊎ (a + 1 ≤ i)
    case a i l = grind arith

all-filter : (p t : ℕ → Bool) (xs : List ℕ) → list_all p xs ≡ true → list_all p (filter t xs) ≡ true
all-filter p t [] h = refl
all-filter p t (x ∷ xs) h =
    elim (t x) as (λ y. list_all p (if y then x ∷ filter t xs else filter t xs) ≡ true) [
      | true ↦ ap (λ (y : Bool). y && list_all p (filter t xs)) (first (p x) (list_all p xs) h) ∙ all-filter p t xs (second (p x) (list_all p xs) h)
      | false ↦ all-filter p t xs (second (p x) (list_all p xs) h)
    ]

-- `untag` may be made in an area that lies in the list

both-true : (a b : Bool) → a ≡ true → b ≡ true → (a && b) ≡ true
both-true a b e f = ap (λ (x : Bool). x && b) e ∙ f

le-true : (a b : ℕ) → a ≤ b → nat_le a b ≡ true
le-true a b h = grind (arith, nat_tests)

or-true : (a b : Bool) → b ≡ true → (a || b) ≡ true
or-true true b e = refl
or-true false b e = e

in_list : (a m n : ℕ) → a + m ≤ n → (nat_eq m 0 || nat_le (a + m) n) ≡ true
in_list a m n i = grind (arith, nat_tests)

pub untag-may : (bytes : List ℕ) (b size at n : ℕ) → 8 ≤ b → length_at bytes b ≡ size → 0 < n → at + n ≤ size → b + tagged_size size ≤ length bytes → allows_untag bytes (b + at) b n ≡ true
unfolding tagged_size
untag-may bytes b size at n above len some inside room =
    both-true (allows_plain bytes (b + at) b n) (have_data bytes b (tagged_words bytes (b + at) b n))
    (both-true (nat_le b (b + at)) (nat_eq n 0 || (has_length bytes b && have_tags bytes b (length_at bytes b) (touched b (b + at) n))) (le-true b (b + at) (omega arith))
    (or-true (nat_eq n 0) (has_length bytes b && have_tags bytes b (length_at bytes b) (touched b (b + at) n))
    (both-true (has_length bytes b) (have_tags bytes b (length_at bytes b) (touched b (b + at) n))
    (both-true (nat_le 8 b) (in_flat bytes (b - 8) 8) (le-true 8 b above) (in_list (b - 8) 8 (length bytes) (omega arith)))
    (all-true (λ i. in_flat bytes (tag_byte b (length_at bytes b) i) 1) (word_at b (b + at)) (touched_count b (b + at) n)
    (λ i l h. in_list (tag_byte b (length_at bytes b) i) 1 (length bytes) (let o = (range-of b size at n some inside).own in let e = ap word_count len in omega (arith, o, e, l, h)))))))
    (all-filter (λ i. in_flat bytes (data_word b i) 8) (tag_at bytes b (length_at bytes b)) (touched b (b + at) n)
    (all-true (λ i. in_flat bytes (data_word b i) 8) (word_at b (b + at)) (touched_count b (b + at) n)
    (λ i l h. in_list (data_word b i) 8 (length bytes) (let o = (range-of b size at n some inside).own in omega (arith, o, l, h)))))
