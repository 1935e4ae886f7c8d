use Rattle.std.specs.Prelude.{◌≡◌, ℕ, zero, suc, ◌+◌, ◌-◌, ◌<◌, ◌≤◌, ⊤, List, [], ◌∷◌, ◌++◌, map, replicate}
use Rattle.std.specs.List.{range_with_len}
use Rattle.cc_base.specs.declared.number.TypeId.{TypeId}
use Rattle.c_types.specs.Cells.{Cell, raw, mixed, incomplete, pointer_cells}
use Rattle.phys_types.specs.declared.spot.Item.{Item}
use Rattle.phys_types.specs.declared.spot.Item.TheVariants.{Pointer, Mixed, Incomplete}
use Rattle.phys_types.specs.declared.spot.Spot.{Spot}

-- Cells as spots: where the items are among raw bytes. A million raw bytes have no spot, and a list of
-- cells has one list of spots.

-- how many cells an item has
abbrev pub item_size : Item → ℕ
item_size (Pointer node to) = 8
item_size (Mixed t size) = size
item_size (Incomplete t) = 1

abbrev pub item_cells : Item → List Cell
item_cells (Pointer node to) = pointer_cells node to
item_cells (Mixed t size) = map (mixed t) (range_with_len 0 size)
item_cells (Incomplete t) = incomplete t ∷ []

-- the cells from `at` to `end` among which the items stand
abbrev pub cells_from : ℕ → List Spot → ℕ → List Cell
cells_from at [] end = replicate (end - at) raw
cells_from at (s ∷ ss) end = replicate (s.start - at) raw ++ (item_cells s.item ++ cells_from (s.start + item_size s.item) ss end)

-- a mixed union has the size that `size` tells, and it isn't 0
abbrev pub HasSize : (TypeId → ℕ) → Item → Type 0
HasSize size (Mixed t n) = (n ≡ size t) × (0 < n)
HasSize size item = ⊤

-- the spots stand in order, one after another, between `at` and `end`
abbrev pub AreSpots : (TypeId → ℕ) → ℕ → List Spot → ℕ → Type 0
AreSpots size at [] end = at ≤ end
AreSpots size at (s ∷ ss) end = (at ≤ s.start) × HasSize size s.item × AreSpots size (s.start + item_size s.item) ss end

-- the spots, n bytes further on
abbrev pub shifted : ℕ → Spot → Spot
shifted n s = record { start = s.start + n; item = s.item }

-- the spots of as many copies, each `size` bytes after the one before
abbrev pub copies : ℕ → ℕ → ℕ → List Spot → List Spot
copies zero size at ss = []
copies (suc n) size at ss = map (shifted at) ss ++ copies n size (at + size) ss
