-- Moving words with their base words and tags.
use Rattle.std.specs.Prelude.{◌≡◌, ℕ, zero, suc, ◌+◌, ◌-◌, ◌*◌, ◌/◌, ◌%◌, ◌^◌, ◌<◌, ◌≤◌, ◌&&◌, ◌||◌, Bool, List, [], ◌∷◌, length, IsTrue, map, nat_eq, nat_le, refl}
use Rattle.std.proofs.Common.{sym, ◌∙◌, ap, arith}
use Rattle.std.proofs.lemmas.Bool.Decides.{nat_tests}
use Rattle.flat_mem.specs.declared.WordRow.{WordRow}
use Rattle.flat_mem.specs.Bytes.{bytes_at, written, moved}
use Rattle.flat_mem.specs.Placement.{word_count, data_word, base_word, tag_byte}
use Rattle.flat_mem.specs.Tags.{tags_in, tags_written, row_moved, IsRowInside}
use Rattle.flat_mem.specs.Memory.{Memory, with_bytes, in_flat}
use Rattle.flat_mem.proofs.RangeLaws.{room_of-in_flat}
use Rattle.flat_mem.proofs.TagLaws.{length-tags_in}
use Rattle.wild_tags.specs.Words.{length_at, word_at, counted, touched_count, touched, tag_at, with_tag, with_tags}
use Rattle.wild_tags.specs.Calls.{words_moved}
use Rattle.wild_tags.specs.Inside.{have_bases, allows_plain, allows_zero, allows_side, allows_move}
use Rattle.wild_tags.proofs.WordLaws.{Needs, needs-plain, touched-none, touched_count-some, all-at, both}
use Rattle.wild_tags.proofs.CallCode.{tag-code, with_tag-code}

-- Tags one after another

tags-code : (bytes : List ℕ) (b n i k t : ℕ) → t ≡ 8 * (b + 16 * word_count n) + i → tags_in k bytes t ≡ map (tag_at bytes b n) (counted i k)
unfolding tags_in counted
tags-code bytes b n i zero t place = refl
tags-code bytes b n i (suc k) t place =
    ap (λ x. x ∷ tags_in k bytes (t + 1)) (tag-code bytes b n i t place) ∙ ap (λ l. tag_at bytes b n i ∷ l) (tags-code bytes b n (i + 1) k (t + 1) (omega (arith, place)))

with_tags-code : (tags : List Bool) (bytes : List ℕ) (b n i k t : ℕ) → length tags ≡ k → t ≡ 8 * (b + 16 * word_count n) + i → tags_written tags bytes t ≡ with_tags tags (counted i k) bytes b n
unfolding tags_written with_tags counted
with_tags-code [] bytes b n i k t size place = refl
with_tags-code (tag ∷ tags) bytes b n i zero t size place = absurd (omega (arith, size))
with_tags-code (tag ∷ tags) bytes b n i (suc k) t size place =
    ap (λ l. tags_written tags l (t + 1)) (with_tag-code tag bytes b n i t place)
    ∙ with_tags-code tags (with_tag tag bytes b n i) b n (i + 1) k (t + 1) (omega (arith, size)) (omega (arith, place))

-- One side of a move

pub record Side (bytes : List ℕ) (a b n : ℕ) : Type 0 where
  pub needs : Needs bytes a b n
  pub aligned : (a - b) % 8 ≡ 0
  pub words : a + n ≤ length bytes
  pub bases : IsTrue (have_bases bytes b (length_at bytes b) (touched b a n))

aligned_of : (x : ℕ) → IsTrue (nat_eq (x % 8) 0) → x % 8 ≡ 0
aligned_of x h = grind (arith, nat_tests)

side-from : (bytes : List ℕ) (a b n : ℕ) → IsTrue (allows_side bytes a b n) → 0 < n → Side bytes a b n
side-from bytes a b n h some =
    let bases : Bool = have_bases bytes b (length_at bytes b) (touched b a n) in
    let one = both (nat_eq ((a - b) % 8) 0) (allows_zero bytes a b n && bases) h in
    let two = both (allows_zero bytes a b n) bases one.1 in
    let three = both (allows_plain bytes a b n) (in_flat bytes a n) two.0 in
    record { needs = needs-plain bytes a b n three.0 some; aligned = aligned_of (a - b) one.0; words = room_of-in_flat bytes a n some three.1; bases = two.1 }

pub move-sides : (bytes : List ℕ) (a b c d n : ℕ) → IsTrue (allows_move bytes a b c d n) → 0 < n → (n % 8 ≡ 0) × Side bytes a b n × Side bytes c d n
move-sides bytes a b c d n h some =
    let one = both (nat_eq (n % 8) 0) (allows_side bytes c d n && allows_side bytes a b n) h in
    let two = both (allows_side bytes c d n) (allows_side bytes a b n) one.1 in
    (aligned_of n one.0, side-from bytes a b n two.1 some, side-from bytes c d n two.0 some)

whole_count : (a b n : ℕ) → 0 < n → b ≤ a → (a - b) % 8 ≡ 0 → n % 8 ≡ 0 → touched_count b a n ≡ n / 8
whole_count a b n some order aligned whole = let count = (touched_count-some a b n some order).0 in omega (arith, count, order, aligned, whole, some)

room_of-eight : (most at : ℕ) → IsTrue (nat_eq 8 0 || nat_le (at + 8) most) → at + 8 ≤ most
room_of-eight most at h = grind (arith, nat_tests)

room_of-one : (most at : ℕ) → IsTrue (nat_eq 1 0 || nat_le (at + 1) most) → at + 1 ≤ most
room_of-one most at h = grind (arith, nat_tests)

-- the last word's base word and tag lie in the list
last-base : (bytes : List ℕ) (a b n : ℕ) → Side bytes a b n → 0 < n → n % 8 ≡ 0 → base_word b (length_at bytes b) (word_at b a) + n ≤ length bytes
last-base bytes a b n side some whole =
    let count : touched_count b a n ≡ n / 8 = whole_count a b n some side.needs.order side.aligned whole in
    let last : ℕ = word_at b a + n / 8 - 1 in
    let one = all-at (λ j. in_flat bytes (base_word b (length_at bytes b) j) 8) (word_at b a) (touched_count b a n) last side.bases (omega (arith, some, whole)) (omega (arith, count, some, whole)) in
    let room : base_word b (length_at bytes b) last + 8 ≤ length bytes = room_of-eight (length bytes) (base_word b (length_at bytes b) last) one in
    omega (arith, room, some, whole)

last-tag : (bytes : List ℕ) (a b n : ℕ) → Side bytes a b n → 0 < n → n % 8 ≡ 0 → 8 * (b + 16 * word_count (length_at bytes b)) + word_at b a + n / 8 ≤ 8 * length bytes
last-tag bytes a b n side some whole =
    let count : touched_count b a n ≡ n / 8 = whole_count a b n some side.needs.order side.aligned whole in
    let last : ℕ = word_at b a + n / 8 - 1 in
    let one = all-at (λ j. in_flat bytes (tag_byte b (length_at bytes b) j) 1) (word_at b a) (touched_count b a n) last side.needs.tags (omega (arith, some, whole)) (omega (arith, count, some, whole)) in
    let room : tag_byte b (length_at bytes b) last + 1 ≤ length bytes = room_of-one (length bytes) (tag_byte b (length_at bytes b) last) one in
    omega (arith, room, some, whole)

-- the row of words of the area at b from the word at a on
pub record RowAt (bytes : List ℕ) (a b : ℕ) (row : WordRow) : Type 0 where
  pub words : row.words ≡ data_word b (word_at b a)
  pub bases : row.bases ≡ base_word b (length_at bytes b) (word_at b a)
  pub tags : row.tags ≡ 8 * (b + 16 * word_count (length_at bytes b)) + word_at b a

pub row-at : (bytes : List ℕ) (a b at len word : ℕ) (row : WordRow) → at ≡ b → len ≡ length_at bytes b → word ≡ word_at b a → row.words ≡ data_word at word → row.bases ≡ base_word at len word → row.tags ≡ 8 * (at + 16 * word_count len) + word → RowAt bytes a b row
row-at bytes a b at len word row place size index words bases tags =
    record { words = omega (arith, place, index, words); bases = omega (arith, place, size, index, bases); tags = omega (arith, place, size, index, tags) }

pub base-small : (bytes : List ℕ) (a b n at len word : ℕ) → Side bytes a b n → 0 < n → n % 8 ≡ 0 → at ≡ b → len ≡ length_at bytes b → word ≡ word_at b a → length bytes < 2 ^ 32 → base_word at len word < 2 ^ 64
base-small bytes a b n at len word side some whole place size index small =
    let room : base_word b (length_at bytes b) (word_at b a) + n ≤ length bytes = last-base bytes a b n side some whole in
    omega (arith, room, place, size, index, small)

pub tag-small : (bytes : List ℕ) (a b n at len word : ℕ) → Side bytes a b n → 0 < n → n % 8 ≡ 0 → at ≡ b → len ≡ length_at bytes b → word ≡ word_at b a → length bytes < 2 ^ 32 → tag_byte at len word < 2 ^ 32
tag-small bytes a b n at len word side some whole place size index small =
    let room : 8 * (b + 16 * word_count (length_at bytes b)) + word_at b a + n / 8 ≤ 8 * length bytes = last-tag bytes a b n side some whole in
    omega (arith, room, place, size, index, small, some, whole)

row-words : (bytes : List ℕ) (a b n : ℕ) → Side bytes a b n → data_word b (word_at b a) ≡ a
row-words bytes a b n side = let o : b ≤ a = side.needs.order in let e : (a - b) % 8 ≡ 0 = side.aligned in omega (arith, o, e)

pub row-inside : (bytes : List ℕ) (a b n : ℕ) (row : WordRow) → RowAt bytes a b row → Side bytes a b n → 0 < n → n % 8 ≡ 0 → IsRowInside bytes row (n / 8)
row-inside bytes a b n row at side some whole =
    let first : data_word b (word_at b a) ≡ a = row-words bytes a b n side in
    let words : row.words ≡ data_word b (word_at b a) = at.words in
    let bases : row.bases ≡ base_word b (length_at bytes b) (word_at b a) = at.bases in
    let tags : row.tags ≡ 8 * (b + 16 * word_count (length_at bytes b)) + word_at b a = at.tags in
    let w : a + n ≤ length bytes = side.words in
    let e : base_word b (length_at bytes b) (word_at b a) + n ≤ length bytes = last-base bytes a b n side some whole in
    let t : 8 * (b + 16 * word_count (length_at bytes b)) + word_at b a + n / 8 ≤ 8 * length bytes = last-tag bytes a b n side some whole in
    record { order = omega (arith, words, bases); words = omega (arith, first, words, w, whole); bases = omega (arith, bases, e, whole); tags = omega (arith, tags, t) }

pub move-none : (m : Memory) (a b c d n : ℕ) → n ≡ 0 → m ≡ with_bytes m (words_moved m.bytes a b c d n)
unfolding with_tags bytes_at written
move-none m a b c d n none =
    let tag : ℕ → Bool = tag_at m.bytes d (length_at m.bytes d) in
    let i : ℕ = base_word b (length_at m.bytes b) (word_at b a) in
    let j : ℕ = base_word d (length_at m.bytes d) (word_at d c) in
    ap (with_bytes m) (sym (ap (λ l. with_tags (map tag l) (touched b a n) (written (bytes_at n m.bytes j) (moved n m.bytes a c) i) b (length_at m.bytes b)) (touched-none c d n none)
    ∙ ap (λ k. written (bytes_at k m.bytes j) (moved k m.bytes a c) i) none))

moves-same : (bytes : List ℕ) {n k a x c y i p j q : ℕ} → n ≡ k → a ≡ x → c ≡ y → i ≡ p → j ≡ q → written (bytes_at n bytes i) (moved n bytes a c) j ≡ written (bytes_at k bytes p) (moved k bytes x y) q
moves-same bytes {n = n} {k = k} {a = a} {x = x} {c = c} {y = y} {i = i} {p = p} {j = j} {q = q} count to from source target =
    ap (λ z. written (bytes_at z bytes i) (moved z bytes a c) j) count
    ∙ (ap (λ z. written (bytes_at k bytes i) (moved k bytes z c) j) to
    ∙ (ap (λ z. written (bytes_at k bytes i) (moved k bytes x z) j) from
    ∙ (ap (λ z. written (bytes_at k bytes z) (moved k bytes x y) j) source
    ∙ ap (λ z. written (bytes_at k bytes p) (moved k bytes x y) z) target)))

pub move-done : (m new : Memory) (a b c d n : ℕ) (to from : WordRow) → RowAt m.bytes a b to → RowAt m.bytes c d from → Side m.bytes a b n → Side m.bytes c d n → 0 < n → n % 8 ≡ 0 → new ≡ with_bytes m (row_moved (n / 8) m.bytes to from) → new ≡ with_bytes m (words_moved m.bytes a b c d n)
move-done m new a b c d n to from target source into out some whole made =
    let bytes : List ℕ = m.bytes in
    let k : ℕ = length_at bytes d in
    let count : 8 * (n / 8) ≡ n = omega (arith, whole) in
    let tags : List Bool = tags_in (n / 8) bytes from.tags in
    let words : written (bytes_at (8 * (n / 8)) bytes from.bases) (moved (8 * (n / 8)) bytes to.words from.words) to.bases
    ≡ written (bytes_at n bytes (base_word d k (word_at d c))) (moved n bytes a c) (base_word b (length_at bytes b) (word_at b a)) =
    moves-same bytes count (target.words ∙ row-words bytes a b n into) (source.words ∙ row-words bytes c d n out) source.bases target.bases in
    let marks : tags ≡ map (tag_at bytes d k) (touched d c n) =
    tags-code bytes d k (word_at d c) (n / 8) from.tags source.tags
    ∙ ap (λ x. map (tag_at bytes d k) (counted (word_at d c) x)) (sym (whole_count c d n some out.needs.order out.aligned whole)) in
    let after : List ℕ = written (bytes_at n bytes (base_word d k (word_at d c))) (moved n bytes a c) (base_word b (length_at bytes b) (word_at b a)) in
    made
    ∙ ap (with_bytes m) (ap (λ l. tags_written tags l to.tags) words
    ∙ (with_tags-code tags after b (length_at bytes b) (word_at b a) (n / 8) to.tags (length-tags_in (n / 8) bytes from.tags) target.tags
    ∙ (ap (λ l. with_tags l (counted (word_at b a) (n / 8)) after b (length_at bytes b)) marks
    ∙ ap (λ x. with_tags (map (tag_at bytes d k) (touched d c n)) (counted (word_at b a) x) after b (length_at bytes b)) (sym (whole_count a b n some into.needs.order into.aligned whole)))))
