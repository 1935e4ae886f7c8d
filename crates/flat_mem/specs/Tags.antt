-- Tags: single bits of the byte list. The place of a tag is how many bits stand before it: it is bit t % 8 of byte t / 8.
use Rattle.std.specs.Prelude.{ℕ, zero, suc, ◌+◌, ◌-◌, ◌*◌, ◌/◌, ◌%◌, ◌^◌, ◌≤◌, Bool, List, [], ◌∷◌, length, slice_index, nat_eq, if◌then◌else◌}
use Rattle.std.specs.Int.{bit_at}
use Rattle.flat_mem.specs.declared.WordRow.{WordRow}
use Rattle.flat_mem.specs.Bytes.{stored, bytes_at, written, moved}

-- the number with bit k set or cleared, and all other bits as they were
abbrev pub with_bit : Bool → ℕ → ℕ → ℕ
with_bit bit k v = v - 2 ^ k * bit_at v k + (if bit then 2 ^ k else 0)

abbrev pub tag_in : List ℕ → ℕ → Bool
tag_in bytes t = nat_eq (bit_at (slice_index bytes (t / 8)) (t % 8)) 1

-- the bytes with the tag set or cleared; the other seven bits of its byte stay
unfoldable pub tag_written : Bool → List ℕ → ℕ → List ℕ
tag_written tag bytes t = stored 1 bytes (t / 8) (with_bit tag (t % 8) (slice_index bytes (t / 8)))

-- the n tags at t
unfoldable pub tags_in : ℕ → List ℕ → ℕ → List Bool
tags_in zero bytes t = []
tags_in (suc n) bytes t = tag_in bytes t ∷ tags_in n bytes (t + 1)

-- the bytes with these tags written at t
unfoldable pub tags_written : List Bool → List ℕ → ℕ → List ℕ
tags_written [] bytes t = bytes
tags_written (tag ∷ tags) bytes t = tags_written tags (tag_written tag bytes t) (t + 1)

-- `count` words of a row lie in the list, with their base words, which stand behind them, and tags
pub record IsRowInside (bytes : List ℕ) (row : WordRow) (count : ℕ) : Type 0 where
  pub order : row.words ≤ row.bases
  pub words : row.words + 8 * count ≤ length bytes
  pub bases : row.bases + 8 * count ≤ length bytes
  pub tags : row.tags + count ≤ 8 * length bytes

-- the bytes with `count` words of a row copied to another row, with their base words and tags: all is read before the
-- first is written, and then words, base words and tags are written in this order
abbrev pub row_moved : ℕ → List ℕ → WordRow → WordRow → List ℕ
row_moved count bytes to from =
    tags_written (tags_in count bytes from.tags)
    (written (bytes_at (8 * count) bytes from.bases) (moved (8 * count) bytes to.words from.words) to.bases) to.tags
