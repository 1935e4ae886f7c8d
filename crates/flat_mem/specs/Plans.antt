-- What a frame laid out keeps of its areas, and how it makes them: all bytes zero at once, then the first words.
use Rattle.std.specs.Prelude.{◌≡◌, ◌<◌, ◌^◌, ◌+◌, ℕ, Bool, false, List, [], ◌∷◌, All, nat_le, if◌then◌else◌}
use Rattle.flat_mem.specs.declared.Area.{Area}
use Rattle.flat_mem.specs.Bytes.{stored}
use Rattle.flat_mem.specs.Placement.{area_size, areas_size, addresses}

-- none of the areas is tagged
abbrev pub AreTyped : List Area → Type 0
AreTyped areas = All (λ area. area.tagged ≡ false) areas

-- the size and the addresses are those of the areas wherever these fit into a list of bytes; where they don't, the size is as
-- large as no list is
pub record IsLaidOut (areas : List Area) (offsets : List ℕ) (size : ℕ) (tagged : Bool) : Type 0 where
  pub fits : (room : ℕ) → room < 2 ^ 32 → nat_le size room ≡ nat_le (areas_size areas) room
  pub size_is : areas_size areas < 2 ^ 32 → size ≡ areas_size areas
  pub offsets_are : areas_size areas < 2 ^ 32 → offsets ≡ addresses areas 0
  pub typed : tagged ≡ false → AreTyped areas

-- the bytes with the first word of an area at `start`: that of a typed area is zero, and isn't written
abbrev pub first_word_written : Area → List ℕ → ℕ → List ℕ
first_word_written area bytes start = if area.tagged then stored 8 bytes start area.bytes else bytes

-- the bytes with the first words of areas that lie one after another from `start` on
unfoldable pub first_words_written : List Area → List ℕ → ℕ → List ℕ
first_words_written [] bytes start = bytes
first_words_written (area ∷ areas) bytes start = first_words_written areas (first_word_written area bytes start) (start + area_size area)
