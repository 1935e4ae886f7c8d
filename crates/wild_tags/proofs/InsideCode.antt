-- What the tests of where the calls may be made compute is what the definitions say.
use Rattle.std.specs.Prelude.{◌≡◌, ℕ, zero, suc, ◌+◌, ◌-◌, ◌%◌, ◌<◌, ◌≤◌, ◌&&◌, ◌||◌, Bool, true, false, List, [], ◌∷◌, ◌++◌, IsTrue, min, max, filter, nat_eq, nat_lt, nat_le, if◌then◌else◌, refl}
use Rattle.std.specs.List.{list_all}
use Rattle.std.proofs.Common.{sym, ◌∙◌, ap, subst, arith}
use Rattle.std.proofs.lemmas.Bool.Decides.{nat_tests}
use Rattle.std.proofs.lemmas.List.Elements.{filter-append}
use Rattle.std.proofs.lemmas.List.Folds.{list_all-append}
use Rattle.flat_mem.specs.Placement.{data_word, base_word, tag_byte}
use Rattle.flat_mem.specs.Memory.{in_flat}
use Rattle.wild_tags.specs.Words.{length_at, word_at, counted, touched_count, touched, tag_at}
use Rattle.wild_tags.specs.Calls.{tagged_words}
use Rattle.wild_tags.specs.Inside.{IsLimit, has_length, have_data, have_bases, have_tags, allows_plain, allows_untag, allows_depth, allows_zero, allows_side}
use Rattle.wild_tags.proofs.WordLaws.{needs-plain, is_some, touched-none, touched_count-some}
use Rattle.wild_tags.proofs.CallCode.{so_far, so_far-more, filter-no, all-filtered}

-- Words below a limit

one_more : (x first : ℕ) (k limit : ℕ) → nat_lt first limit && nat_le (first + 1 + suc k) limit ≡ nat_le (first + suc (suc k)) limit
one_more x first k limit = grind (arith, nat_tests)

last_one : (first limit : ℕ) → nat_lt first limit && true ≡ nat_le (first + 1) limit
last_one first limit = grind (arith, nat_tests)

pub limit-all : (p : ℕ → Bool) (limit first k : ℕ) → IsLimit p limit → list_all p (counted first (suc k)) ≡ nat_le (first + suc k) limit
unfolding counted
limit-all p limit first zero is = ap (λ x. x && true) (is first) ∙ last_one first limit
limit-all p limit first (suc k) is =
    ap (λ x. x && list_all p (counted (first + 1) (suc k))) (is first)
    ∙ (ap (λ x. nat_lt first limit && x) (limit-all p limit (first + 1) k is) ∙ one_more 0 first k limit)

limit-some : (p : ℕ → Bool) (limit first k : ℕ) → IsLimit p limit → 0 < k → list_all p (counted first k) ≡ nat_le (first + k) limit
limit-some p limit first zero is some = absurd (omega arith)
limit-some p limit first (suc k) is some = limit-all p limit first k is

list_all-same : (p q : ℕ → Bool) (xs : List ℕ) → ((i : ℕ) → p i ≡ q i) → list_all p xs ≡ list_all q xs
list_all-same p q [] same = refl
list_all-same p q (x ∷ xs) same = ap (λ b. b && list_all p xs) (same x) ∙ ap (λ b. q x && b) (list_all-same p q xs same)

-- The tagged words below a limit

abbrev pub below_so_far : (ℕ → Bool) → ℕ → ℕ → ℕ → Type 0
below_so_far t limit first i = list_all (λ j. nat_lt j limit) (filter t (so_far first i)) ≡ true

filtered-all : (q t : ℕ → Bool) (first k : ℕ) → ((j : ℕ) → first ≤ j → j < first + k → q j ≡ true) → list_all q (filter t (counted first k)) ≡ true
unfolding counted
filtered-all q t first zero each = refl
filtered-all q t first (suc k) each =
    let rest : list_all q (filter t (counted (first + 1) k)) ≡ true = filtered-all q t (first + 1) k (λ j low high. each j (omega arith) (omega arith)) in
    elim (t first) as (λ x. list_all q (if x then first ∷ filter t (counted (first + 1) k) else filter t (counted (first + 1) k)) ≡ true)
    [ true ↦ ap (λ x. x && list_all q (filter t (counted (first + 1) k))) (each first (omega arith) (omega arith)) ∙ rest | false ↦ rest ]

lt_true : (x y : ℕ) → x < y → nat_lt x y ≡ true
lt_true x y h = grind (arith, nat_tests)

lt_false : (x y : ℕ) → nat_lt x y ≡ true → x < y
lt_false x y h = grind (arith, nat_tests)

pub below-start : (t : ℕ → Bool) (limit first end least start : ℕ) → least ≡ max limit first → start ≡ min least end → below_so_far t limit first start
below-start t limit first end least start lower upper =
    filtered-all (λ j. nat_lt j limit) t first (start - first) (λ j low high. lt_true j limit (omega (arith, lower, upper, low, high)))

pub below-next : (bytes : List ℕ) (at len limit first i : ℕ) (t : Bool) → below_so_far (tag_at bytes at len) limit first i → t ≡ tag_at bytes at len i → t ≡ false → first ≤ i → below_so_far (tag_at bytes at len) limit first (i + 1)
below-next bytes at len limit first i t is tag clear low =
    let u : ℕ → Bool = tag_at bytes at len in
    let q : ℕ → Bool = λ j. nat_lt j limit in
    ap (λ l. list_all q (filter u l)) (so_far-more first i low)
    ∙ (ap (list_all q) (filter-append u (so_far first i) (i ∷ []))
    ∙ (ap (λ l. list_all q (filter u (so_far first i) ++ l)) (filter-no u i [] (sym tag ∙ clear))
    ∙ (list_all-append q (filter u (so_far first i)) [] ∙ ap (λ x. x && true) is)))

pub below-found : (bytes : List ℕ) (at len limit first end i : ℕ) (t : Bool) → min limit end ≤ i → t ≡ tag_at bytes at len i → t ≡ true → first ≤ i → i < end → false ≡ list_all (λ j. nat_lt j limit) (filter (tag_at bytes at len) (counted first (end - first)))
below-found bytes at len limit first end i t past tag set low high =
    none (list_all (λ j. nat_lt j limit) (filter (tag_at bytes at len) (counted first (end - first)))) refl
  where
    none : (x : Bool) → list_all (λ j. nat_lt j limit) (filter (tag_at bytes at len) (counted first (end - first))) ≡ x → false ≡ x
    none false is = refl
    none true is =
        let small : i < limit = lt_false i limit (all-filtered (λ j. nat_lt j limit) (tag_at bytes at len) first (end - first) i is low (omega arith) (sym tag ∙ set)) in
        absurd (omega (arith, small, past, high))

pub below-done : (t : ℕ → Bool) (limit first end i : ℕ) → below_so_far t limit first i → i ≤ end → end ≤ i → true ≡ list_all (λ j. nat_lt j limit) (filter t (counted first (end - first)))
below-done t limit first end i is low high = let last : i ≡ end = omega arith in sym (ap (λ k. list_all (λ j. nat_lt j limit) (filter t (so_far first k))) (sym last) ∙ is)

-- The tests

le_true : (x y : ℕ) → x ≤ y → nat_le x y ≡ true
le_true x y h = grind (arith, nat_tests)

reduced : (x y z u : Bool) → x ≡ true → y ≡ false → z ≡ true → x && (y || (z && u)) ≡ u
reduced x y z u first second third = ap (λ q. q && (y || (z && u))) first ∙ (ap (λ q. q || (z && u)) second ∙ ap (λ q. q && u) third)

pub plain-test : (bytes : List ℕ) (a b n at len end limit : ℕ) (t : Bool) → b ≤ a → 0 < n → t ≡ has_length bytes b → t ≡ true → at ≡ b → len ≡ length_at bytes b → end ≡ word_at b a + touched_count b a n → IsLimit (λ i. in_flat bytes (tag_byte at len i) 1) limit → nat_le end limit ≡ allows_plain bytes a b n
plain-test bytes a b n at len end limit t order some length holds place size stop is =
    let words : List ℕ = touched b a n in
    ap (λ x. nat_le x limit) stop
    ∙ (sym (limit-some (λ i. in_flat bytes (tag_byte at len i) 1) limit (word_at b a) (touched_count b a n) is (touched_count-some a b n some order).1)
    ∙ (ap (λ x. list_all (λ i. in_flat bytes (tag_byte x len i) 1) words) place
    ∙ (ap (λ x. list_all (λ i. in_flat bytes (tag_byte b x i) 1) words) size
    ∙ sym (reduced (nat_le b a) (nat_eq n 0) (has_length bytes b) (have_tags bytes b (length_at bytes b) words) (le_true b a order) (is_some n some) (sym length ∙ holds)))))

-- What is tested of tagged words holds of no bytes

pub untag-no_bytes : (bytes : List ℕ) (a b n : ℕ) → allows_plain bytes a b n ≡ true → n ≡ 0 → true ≡ allows_untag bytes a b n
untag-no_bytes bytes a b n plain none =
    sym (ap (λ x. x && have_data bytes b (tagged_words bytes a b n)) plain
    ∙ ap (λ l. list_all (λ i. in_flat bytes (data_word b i) 8) (filter (tag_at bytes b (length_at bytes b)) l)) (touched-none a b n none))

pub depth-no_bytes : (bytes : List ℕ) (a b n : ℕ) → allows_plain bytes a b n ≡ true → n ≡ 0 → true ≡ allows_depth bytes a b n
depth-no_bytes bytes a b n plain none =
    sym (ap (λ x. x && have_bases bytes b (length_at bytes b) (tagged_words bytes a b n)) plain
    ∙ ap (λ l. list_all (λ i. in_flat bytes (base_word b (length_at bytes b) i) 8) (filter (tag_at bytes b (length_at bytes b)) l)) (touched-none a b n none))

-- and of the tagged words below the limit

words-are : (a b n first end : ℕ) → first ≡ word_at b a → end ≡ word_at b a + touched_count b a n → counted first (end - first) ≡ touched b a n
words-are a b n first end begin stop =
    let count : end - first ≡ touched_count b a n = omega (arith, begin, stop) in
    ap (counted first) count ∙ ap (λ k. counted k (touched_count b a n)) begin

pub untag-test : (bytes : List ℕ) (a b n at len first end limit : ℕ) (r : Bool) → allows_plain bytes a b n ≡ true → at ≡ b → len ≡ length_at bytes b → first ≡ word_at b a → end ≡ word_at b a + touched_count b a n → IsLimit (λ i. in_flat bytes (data_word at i) 8) limit → r ≡ list_all (λ i. nat_lt i limit) (filter (tag_at bytes at len) (counted first (end - first))) → r ≡ allows_untag bytes a b n
untag-test bytes a b n at len first end limit r plain place size begin stop is below =
    below
    ∙ (sym (list_all-same (λ i. in_flat bytes (data_word at i) 8) (λ i. nat_lt i limit) (filter (tag_at bytes at len) (counted first (end - first))) is)
    ∙ (ap (λ x. list_all (λ i. in_flat bytes (data_word x i) 8) (filter (tag_at bytes x len) (counted first (end - first)))) place
    ∙ (ap (λ x. list_all (λ i. in_flat bytes (data_word b i) 8) (filter (tag_at bytes b x) (counted first (end - first)))) size
    ∙ (ap (λ l. list_all (λ i. in_flat bytes (data_word b i) 8) (filter (tag_at bytes b (length_at bytes b)) l)) (words-are a b n first end begin stop)
    ∙ sym (ap (λ x. x && have_data bytes b (tagged_words bytes a b n)) plain)))))

pub depth-test : (bytes : List ℕ) (a b n at len first end limit : ℕ) (r : Bool) → allows_plain bytes a b n ≡ true → at ≡ b → len ≡ length_at bytes b → first ≡ word_at b a → end ≡ word_at b a + touched_count b a n → IsLimit (λ i. in_flat bytes (base_word at len i) 8) limit → r ≡ list_all (λ i. nat_lt i limit) (filter (tag_at bytes at len) (counted first (end - first))) → r ≡ allows_depth bytes a b n
depth-test bytes a b n at len first end limit r plain place size begin stop is below =
    below
    ∙ (sym (list_all-same (λ i. in_flat bytes (base_word at len i) 8) (λ i. nat_lt i limit) (filter (tag_at bytes at len) (counted first (end - first))) is)
    ∙ (ap (λ x. list_all (λ i. in_flat bytes (base_word x len i) 8) (filter (tag_at bytes x len) (counted first (end - first)))) place
    ∙ (ap (λ x. list_all (λ i. in_flat bytes (base_word b x i) 8) (filter (tag_at bytes b x) (counted first (end - first)))) size
    ∙ (ap (λ l. list_all (λ i. in_flat bytes (base_word b (length_at bytes b) i) 8) (filter (tag_at bytes b (length_at bytes b)) l)) (words-are a b n first end begin stop)
    ∙ sym (ap (λ x. x && have_bases bytes b (length_at bytes b) (tagged_words bytes a b n)) plain)))))

-- the tags of the loop
pub test-tags : (bytes : List ℕ) (a b n at len first end : ℕ) → allows_plain bytes a b n ≡ true → 0 < n → at ≡ b → len ≡ length_at bytes b → first ≡ word_at b a → end ≡ word_at b a + touched_count b a n → IsTrue (have_tags bytes at len (counted first (end - first)))
test-tags bytes a b n at len first end plain some place size begin stop =
    subst (λ x. IsTrue (have_tags bytes x len (counted first (end - first)))) (sym place)
    (subst (λ x. IsTrue (have_tags bytes b x (counted first (end - first)))) (sym size)
    (subst (λ l. IsTrue (have_tags bytes b (length_at bytes b) l)) (sym (words-are a b n first end begin stop)) (needs-plain bytes a b n plain some).tags))

-- One side of a move

aligned_is : (x : ℕ) → x ≡ 0 → nat_eq x 0 ≡ true
aligned_is x h = grind (arith, nat_tests)

pub side-no_bytes : (bytes : List ℕ) (a b n : ℕ) → allows_zero bytes a b n ≡ true → (a - b) % 8 ≡ 0 → n ≡ 0 → true ≡ allows_side bytes a b n
side-no_bytes bytes a b n whole aligned none =
    sym (ap (λ x. x && (allows_zero bytes a b n && have_bases bytes b (length_at bytes b) (touched b a n))) (aligned_is ((a - b) % 8) aligned)
    ∙ (ap (λ x. x && have_bases bytes b (length_at bytes b) (touched b a n)) whole
    ∙ ap (list_all (λ i. in_flat bytes (base_word b (length_at bytes b) i) 8)) (touched-none a b n none)))

pub side-test : (bytes : List ℕ) (a b n at len end limit : ℕ) → allows_zero bytes a b n ≡ true → (a - b) % 8 ≡ 0 → 0 < n → b ≤ a → at ≡ b → len ≡ length_at bytes b → end ≡ word_at b a + touched_count b a n → IsLimit (λ i. in_flat bytes (base_word at len i) 8) limit → nat_le end limit ≡ allows_side bytes a b n
side-test bytes a b n at len end limit whole aligned some order place size stop is =
    let words : List ℕ = touched b a n in
    ap (λ x. nat_le x limit) stop
    ∙ (sym (limit-some (λ i. in_flat bytes (base_word at len i) 8) limit (word_at b a) (touched_count b a n) is (touched_count-some a b n some order).1)
    ∙ (ap (λ x. list_all (λ i. in_flat bytes (base_word x len i) 8) words) place
    ∙ (ap (λ x. list_all (λ i. in_flat bytes (base_word b x i) 8) words) size
    ∙ sym (ap (λ x. x && (allows_zero bytes a b n && have_bases bytes b (length_at bytes b) words)) (aligned_is ((a - b) % 8) aligned)
    ∙ ap (λ x. x && have_bases bytes b (length_at bytes b) words) whole))))
