-- The words of tagged areas (flat_mem's Placement has their addresses): which words a range of bytes touches, the tag
-- and the base word of a word, and what writing them leaves. An area is named by its address b; its length is the
-- word before it. All addresses are exact numbers, for every word i, so nothing here asks that word i is one of the
-- area's own.
use Rattle.std.specs.Prelude.{◌<◌, ℕ, zero, suc, ◌+◌, ◌-◌, ◌/◌, ◌%◌, Bool, false, List, [], ◌∷◌, slice_index, nat_eq, if◌then◌else◌}
use Rattle.std.specs.Int.{bit_at}
use Rattle.flat_mem.specs.Bytes.{number, stored, zeroed}
use Rattle.flat_mem.specs.Tags.{with_bit}
use Rattle.flat_mem.specs.Placement.{data_word, base_word, tag_byte}

-- the length of the area at b, in bytes
abbrev pub length_at : List ℕ → ℕ → ℕ
length_at bytes b = number 8 bytes (b - 8)

-- the word of the area at b that the byte at a belongs to
abbrev pub word_at : ℕ → ℕ → ℕ
word_at b a = (a - b) / 8

-- Which words are touched

-- one of the n bytes at a lies in word i of the area at b
pub record Touches (b a n i : ℕ) : Type 0 where
  pub from : data_word b i < a + n
  pub to : a < data_word b i + 8

-- `count` numbers from `first` on
unfoldable pub counted : ℕ → ℕ → List ℕ
counted first zero = []
counted first (suc count) = first ∷ counted (first + 1) count

-- how many words the n bytes at a touch
abbrev pub touched_count : ℕ → ℕ → ℕ → ℕ
touched_count b a n = if nat_eq n 0 then 0 else word_at b (a + n - 1) + 1 - word_at b a

-- the words of the area at b that the n bytes at a touch, in order; a is not below b
abbrev pub touched : ℕ → ℕ → ℕ → List ℕ
touched b a n = counted (word_at b a) (touched_count b a n)

-- Tags and base words of the area at b, of n bytes

-- the tag of word i
abbrev pub tag_at : List ℕ → ℕ → ℕ → ℕ → Bool
tag_at bytes b n i = nat_eq (bit_at (slice_index bytes (tag_byte b n i)) (i % 8)) 1

-- the base word of word i
abbrev pub base_at : List ℕ → ℕ → ℕ → ℕ → ℕ
base_at bytes b n i = number 8 bytes (base_word b n i)

-- the bytes with word i's tag set or cleared; the other seven bits of that byte stay
unfoldable pub with_tag : Bool → List ℕ → ℕ → ℕ → ℕ → List ℕ
with_tag tag bytes b n i = stored 1 bytes (tag_byte b n i) (with_bit tag (i % 8) (slice_index bytes (tag_byte b n i)))

-- the bytes with these words' tags cleared
unfoldable pub tags_cleared : List ℕ → List ℕ → ℕ → ℕ → List ℕ
tags_cleared [] bytes b n = bytes
tags_cleared (i ∷ words) bytes b n = tags_cleared words (with_tag false bytes b n i) b n

-- the bytes with these words' tags set or cleared, one after another
unfoldable pub with_tags : List Bool → List ℕ → List ℕ → ℕ → ℕ → List ℕ
with_tags [] words bytes b n = bytes
with_tags (tag ∷ tags) [] bytes b n = bytes
with_tags (tag ∷ tags) (i ∷ words) bytes b n = with_tags tags words (with_tag tag bytes b n i) b n

-- the bytes with these data words zeroed
unfoldable pub words_zeroed : List ℕ → List ℕ → ℕ → List ℕ
words_zeroed [] bytes b = bytes
words_zeroed (i ∷ words) bytes b = words_zeroed words (zeroed 8 bytes (data_word b i)) b
