use Rattle.std.specs.Prelude.{◌≡◌, ℕ, suc, ◌+◌, ◌-◌, ◌<◌, ◌≤◌, ⊤, List, [], ◌∷◌, slice_get, Some}
use Rattle.cc_base.specs.declared.number.NodeId.{NodeId}
use Rattle.cc_base.specs.declared.number.TypeId.{TypeId}
use Rattle.cc_base.specs.declared.kind.Kind.{Kind}
use Rattle.c_types.specs.Widths.{kind_width}
use Rattle.phys_types.specs.declared.spot.Item.{Item}
use Rattle.phys_types.specs.declared.spot.Item.TheVariants.{Pointer}
use Rattle.phys_types.specs.declared.spot.Spot.{Spot}
use Rattle.phys_types.specs.Spots.{item_size, AreSpots}
use Rattle.fat_layouts.specs.declared.stops.Stop.{Stop}

-- Where the items of a layout end, before and after the program is cured. Between them each byte keeps its width.

-- the bytes that an item takes once cured
abbrev pub item_width : (NodeId → Kind) → Item → ℕ
item_width kind (Pointer node to) = kind_width (kind node)
item_width kind item = item_size item

-- the end of the item at this spot, where the item before it ends at `last`
abbrev pub stop_after : (NodeId → Kind) → Stop → Spot → Stop
stop_after kind last s = record {
  end = s.start + item_size s.item;
  cured = last.cured + (s.start - last.end) + item_width kind s.item;
}

-- the ends of the items, one after another
abbrev pub stops_of : (NodeId → Kind) → Stop → List Spot → List Stop
stops_of kind last [] = []
stops_of kind last (s ∷ ss) = stop_after kind last s ∷ stops_of kind (stop_after kind last s) ss

abbrev pub first_stop : Stop
first_stop = record { end = 0; cured = 0 }

-- the start of the type, and the ends of its items
abbrev pub all_stops : (NodeId → Kind) → List Spot → List Stop
all_stops kind ss = first_stop ∷ stops_of kind first_stop ss

-- the pointer at the spot has one of the first `count` nodes
abbrev pub HasNode : ℕ → Item → Type 0
HasNode count (Pointer node to) = node.0 < count
HasNode count item = ⊤

-- the spots stand in order in a type of at most 1,048,576 bytes
pub record IsLaid (ss : List Spot) : Type 0 where
  pub size : TypeId → ℕ
  pub end : ℕ
  pub stand : AreSpots size 0 ss end
  pub small : end ≤ 1048576

-- s is the last of the stops that isn't behind the offset
pub record IsLastPassed (stops : List Stop) (offset : ℕ) (s : Stop) : Type 0 where
  pub index : ℕ
  pub there : slice_get stops index ≡ Some s
  pub passed : s.end ≤ offset
  pub next : (x : Stop) → slice_get stops (suc index) ≡ Some x → offset < x.end
