use Rattle.std.specs.Prelude.{ℕ, ◌+◌, ◌/◌, ◌≤◌, Bool, true, false, ◌&&◌, List, [], ◌∷◌, ◌==◌, nat_le, nat_lt, slice_index_or, if◌then◌else◌}
use Rattle.std.specs.List.{All}
use lib.Pointwise.{pointwise}
use Rattle.cc_base.specs.declared.number.TypeId.{TypeId}
use Rattle.c_types.specs.Cells.{Relation, same_type}
use Rattle.phys_types.specs.declared.spot.Item.{Item}
use Rattle.phys_types.specs.declared.spot.Item.TheVariants.{Pointer, Mixed, Incomplete}
use Rattle.phys_types.specs.declared.spot.Spot.{Spot}
use Rattle.phys_types.specs.Spots.{item_size, copies}

-- Types have numbers, and types with one number are taken to be equal.

-- the number of t in a list of numbers
abbrev pub number_in : List ℕ → TypeId → ℕ
number_in numbers t = slice_index_or numbers t.0 0

abbrev pub same_number : (TypeId → ℕ) → Relation
same_number number t u = number t == number u

abbrev pub same_item : (TypeId → ℕ) → Item → Item → Bool
same_item number (Pointer node to) (Pointer other target) = number to == number target
same_item number (Mixed t n) (Mixed u m) = same_type t u
same_item number (Incomplete t) (Incomplete u) = same_type t u
same_item number x y = false

abbrev pub same_spot : (TypeId → ℕ) → Spot → Spot → Bool
same_spot number s r = (s.start == r.start) && same_item number s.item r.item

-- no spot begins before n
abbrev pub start_from : ℕ → List Spot → Bool
start_from n [] = true
start_from n (s ∷ ss) = nat_le n s.start

-- the spots that begin before n are the same as `front`
abbrev pub begin_with_spots : (TypeId → ℕ) → ℕ → List Spot → List Spot → Bool
begin_with_spots number n ss [] = start_from n ss
begin_with_spots number n [] (r ∷ front) = false
begin_with_spots number n (s ∷ ss) (r ∷ front) = same_spot number s r && begin_with_spots number n ss front

-- the same spots, one by one
abbrev pub same_spots : (TypeId → ℕ) → List Spot → List Spot → Bool
same_spots number ss rs = pointwise (same_spot number) ss rs

-- the spots up to the first that begins at n or later
abbrev pub spots_before : ℕ → List Spot → List Spot
spots_before n [] = []
spots_before n (s ∷ ss) = if nat_lt s.start n then s ∷ spots_before n ss else []

-- no spot ends past n
abbrev pub end_within : ℕ → List Spot → Bool
end_within n [] = true
end_within n (s ∷ ss) = nat_le (s.start + item_size s.item) n && end_within n ss

-- the spots among n cells are those of the first g cells, again and again
abbrev pub repeat_spots : (TypeId → ℕ) → ℕ → ℕ → List Spot → Bool
repeat_spots number n g ss =
    end_within g (spots_before g ss) && same_spots number ss (copies (n / g) g 0 (spots_before g ss))

-- no spot lies past the largest size of a type
abbrev pub AreLow : List Spot → Type 0
AreLow ss = All (λ s. s.start + item_size s.item ≤ 1048576) ss
