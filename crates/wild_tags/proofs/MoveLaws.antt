-- What is read after `tmove`: word m of the target has the data, the base word and the tag that word m of the source had.
-- Here p is the length of the area at b and q that of the area at d, and k words are moved, from word j on to word i on.
use Rattle.std.specs.Prelude.{◌≡◌, ℕ, zero, suc, ◌+◌, ◌*◌, ◌<◌, ◌≤◌, Bool, List, [], ◌∷◌, length, map, slice_index, refl}
use Rattle.std.proofs.Common.{◌∙◌, ap, inl, arith}
use Rattle.flat_mem.specs.Bytes.{number, bytes_at, written, moved, AreBytes}
use Rattle.flat_mem.specs.Placement.{word_count, data_word, base_word, tag_byte}
use Rattle.flat_mem.proofs.ByteLaws.{number-same, number-moved, number-written_apart, get-written_inside, get-bytes_at, length-bytes_at, length-moved, length-written, written-bytes, moved-bytes, bytes_at-bytes}
use Rattle.wild_tags.specs.Words.{counted, tag_at, base_at, with_tag, with_tags}
use Rattle.wild_tags.proofs.WriteLaws.{length-with_tag, with_tag-bytes}
use Rattle.wild_tags.proofs.CallLaws.{number-with_tag_apart, tag-with_tag_same, tag-with_tag_other}

-- Tags one after another

pub number-with_tags : (m : ℕ) (tags : List Bool) (words bytes : List ℕ) (b n p : ℕ) → p + m ≤ b + 16 * word_count n → number m (with_tags tags words bytes b n) p ≡ number m bytes p
unfolding with_tags
number-with_tags m [] words bytes b n p before = refl
number-with_tags m (tag ∷ tags) [] bytes b n p before = refl
number-with_tags m (tag ∷ tags) (i ∷ words) bytes b n p before =
    number-with_tags m tags words (with_tag tag bytes b n i) b n p before ∙ number-with_tag_apart m tag bytes b n i p (inl (omega (arith, before)))

pub tag-with_tags_before : (tags : List Bool) (first k : ℕ) (bytes : List ℕ) (b n i : ℕ) → AreBytes bytes → ((j : ℕ) → first ≤ j → j < first + k → tag_byte b n j < length bytes) → i < first → tag_at (with_tags tags (counted first k) bytes b n) b n i ≡ tag_at bytes b n i
unfolding with_tags counted
tag-with_tags_before [] first k bytes b n i are room before = refl
tag-with_tags_before (tag ∷ tags) first zero bytes b n i are room before = refl
tag-with_tags_before (tag ∷ tags) first (suc k) bytes b n i are room before =
    let next : List ℕ = with_tag tag bytes b n first in
    let e : length next ≡ length bytes = length-with_tag tag bytes b n first in
    tag-with_tags_before tags (first + 1) k next b n i (with_tag-bytes tag bytes b n first are) (λ j low high. let r : tag_byte b n j < length bytes = room j (omega arith) (omega arith) in omega (arith, e, r)) (omega arith)
    ∙ tag-with_tag_other tag bytes b n first i are (room first (omega arith) (omega arith)) (λ same. omega (arith, same, before))

-- each of the words has the tag that was written to it: f gives the tags of words from j on
pub tag-with_tags : (f : ℕ → Bool) (first j k m : ℕ) (bytes : List ℕ) (b n : ℕ) → AreBytes bytes → ((x : ℕ) → first ≤ x → x < first + k → tag_byte b n x < length bytes) → m < k → tag_at (with_tags (map f (counted j k)) (counted first k) bytes b n) b n (first + m) ≡ f (j + m)
unfolding with_tags counted
tag-with_tags f first j zero m bytes b n are room less = absurd (omega arith)
tag-with_tags f first j (suc k) zero bytes b n are room less =
    let next : List ℕ = with_tag (f j) bytes b n first in
    let e : length next ≡ length bytes = length-with_tag (f j) bytes b n first in
    let here : first + 0 ≡ first = omega arith in
    let there : j ≡ j + 0 = omega arith in
    ap (tag_at (with_tags (map f (counted (j + 1) k)) (counted (first + 1) k) next b n) b n) here
    ∙ (tag-with_tags_before (map f (counted (j + 1) k)) (first + 1) k next b n first (with_tag-bytes (f j) bytes b n first are) (λ x low high. let r : tag_byte b n x < length bytes = room x (omega arith) (omega arith) in omega (arith, e, r)) (omega arith)
    ∙ (tag-with_tag_same (f j) bytes b n first are (room first (omega arith) (omega arith)) ∙ ap f there))
tag-with_tags f first j (suc k) (suc m) bytes b n are room less =
    let next : List ℕ = with_tag (f j) bytes b n first in
    let e : length next ≡ length bytes = length-with_tag (f j) bytes b n first in
    let here : first + suc m ≡ first + 1 + m = omega arith in
    let there : j + 1 + m ≡ j + suc m = omega arith in
    ap (tag_at (with_tags (map f (counted (j + 1) k)) (counted (first + 1) k) next b n) b n) here
    ∙ (tag-with_tags f (first + 1) (j + 1) k m next b n (with_tag-bytes (f j) bytes b n first are) (λ x low high. let r : tag_byte b n x < length bytes = room x (omega arith) (omega arith) in omega (arith, e, r)) (omega arith) ∙ ap f there)

-- The move

abbrev pub moved_at : List ℕ → ℕ → ℕ → ℕ → ℕ → ℕ → ℕ → ℕ → List ℕ
moved_at bytes b p i d q j k =
    with_tags (map (tag_at bytes d q) (counted j k)) (counted i k)
    (written (bytes_at (8 * k) bytes (base_word d q j)) (moved (8 * k) bytes (data_word b i) (data_word d j)) (base_word b p i)) b p

pub data-moved : (bytes : List ℕ) (b p i d q j k m : ℕ) → i + k ≤ word_count p → data_word b i + 8 * k ≤ length bytes → m < k → number 8 (moved_at bytes b p i d q j k) (data_word b (i + m)) ≡ number 8 bytes (data_word d (j + m))
data-moved bytes b p i d q j k m own room less =
    let bases : List ℕ = bytes_at (8 * k) bytes (base_word d q j) in
    let copied : List ℕ = moved (8 * k) bytes (data_word b i) (data_word d j) in
    let here : data_word b (i + m) ≡ data_word b i + 8 * m = omega arith in
    let there : data_word d j + 8 * m ≡ data_word d (j + m) = omega arith in
    number-with_tags 8 (map (tag_at bytes d q) (counted j k)) (counted i k) (written bases copied (base_word b p i)) b p (data_word b (i + m)) (omega (arith, own, less))
    ∙ (number-written_apart 8 bases copied (base_word b p i) (data_word b (i + m)) (inl (omega (arith, own, less)))
    ∙ (ap (number 8 copied) here
    ∙ (number-moved 8 (8 * k) bytes (data_word b i) (data_word d j) (8 * m) (omega (arith, less)) room ∙ ap (number 8 bytes) there)))

pub base-moved : (bytes : List ℕ) (b p i d q j k m : ℕ) → i + k ≤ word_count p → base_word b p i + 8 * k ≤ length bytes → m < k → base_at (moved_at bytes b p i d q j k) b p (i + m) ≡ base_at bytes d q (j + m)
base-moved bytes b p i d q j k m own room less =
    let bases : List ℕ = bytes_at (8 * k) bytes (base_word d q j) in
    let copied : List ℕ = moved (8 * k) bytes (data_word b i) (data_word d j) in
    let size : length bases ≡ 8 * k = length-bytes_at (8 * k) bytes (base_word d q j) in
    let whole : length copied ≡ length bytes = length-moved (8 * k) bytes (data_word b i) (data_word d j) in
    number-with_tags 8 (map (tag_at bytes d q) (counted j k)) (counted i k) (written bases copied (base_word b p i)) b p (base_word b p (i + m)) (omega (arith, own, less))
    ∙ number-same 8 (written bases copied (base_word b p i)) bytes (base_word b p (i + m)) (base_word d q (j + m)) (λ h small.
    let here : base_word b p (i + m) + h ≡ base_word b p i + (8 * m + h) = omega arith in
    let there : base_word d q j + (8 * m + h) ≡ base_word d q (j + m) + h = omega arith in
    ap (slice_index (written bases copied (base_word b p i))) here
    ∙ (get-written_inside bases copied (base_word b p i) (8 * m + h) (omega (arith, size, less, small)) (omega (arith, size, whole, room))
    ∙ (get-bytes_at (8 * k) bytes (base_word d q j) (8 * m + h) (omega (arith, less, small)) ∙ ap (slice_index bytes) there)))

pub tag-moved : (bytes : List ℕ) (b p i d q j k m : ℕ) → AreBytes bytes → ((x : ℕ) → i ≤ x → x < i + k → tag_byte b p x < length bytes) → m < k → tag_at (moved_at bytes b p i d q j k) b p (i + m) ≡ tag_at bytes d q (j + m)
tag-moved bytes b p i d q j k m are room less =
    let bases : List ℕ = bytes_at (8 * k) bytes (base_word d q j) in
    let copied : List ℕ = moved (8 * k) bytes (data_word b i) (data_word d j) in
    let e : length (written bases copied (base_word b p i)) ≡ length bytes = length-written bases copied (base_word b p i) ∙ length-moved (8 * k) bytes (data_word b i) (data_word d j) in
    tag-with_tags (tag_at bytes d q) i j k m (written bases copied (base_word b p i)) b p
    (written-bytes bases copied (base_word b p i) (bytes_at-bytes (8 * k) bytes (base_word d q j) are) (moved-bytes (8 * k) bytes (data_word b i) (data_word d j) are))
    (λ x low high. let r : tag_byte b p x < length bytes = room x low high in omega (arith, e, r)) less
