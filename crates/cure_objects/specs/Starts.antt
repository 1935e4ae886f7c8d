-- Where the pointers of a type begin, by the spots of its layout.
use Rattle.std.specs.Prelude.{◌≡◌, ◌≤◌, ⊤, ℕ, true, List, [], ◌∷◌, ◌++◌, Some}
use Rattle.std.specs.List.{All}
use Rattle.cc_base.specs.declared.number.TypeId.{TypeId}
use Rattle.c_types.specs.Table.{Table, IsComplete}
use Rattle.c_types.specs.Layouts.{size_of}
use Rattle.c_types.specs.Cells.{IsBetweenPointers, holds_pointer}
use Rattle.c_types.specs.Equality.{cells_of}
use Rattle.c_types.specs.Flows.{HeldPointer, pointer_at}
use Rattle.src_mem.specs.Uses.{pointer_offsets}
use Rattle.phys_types.specs.declared.spot.Item.{Item}
use Rattle.phys_types.specs.declared.spot.Item.TheVariants.{Pointer}
use Rattle.phys_types.specs.declared.spot.Spot.{Spot}
use Rattle.phys_types.specs.declared.spot.Layout.{Layout}

abbrev pub item_starts : ℕ → Item → List ℕ
item_starts i (Pointer node to) = i ∷ []
item_starts i item = []

-- where the pointers among the spots begin
abbrev pub pointer_starts : List Spot → List ℕ
pointer_starts [] = []
pointer_starts (s ∷ ss) = item_starts s.start s.item ++ pointer_starts ss

-- the pointer p of type t begins at byte i
pub record IsPointerStart (table : Table) (t : TypeId) (i : ℕ) (p : HeldPointer) : Type 0 where
  pub there : pointer_at table t i ≡ Some p
  pub complete : IsComplete table t
  pub within : i ≤ size_of table t
  pub whole : IsBetweenPointers (cells_of table t) i

abbrev pub IsItemStart : Table → TypeId → ℕ → Item → Type 0
IsItemStart table t i (Pointer node to) = IsPointerStart table t i (record { node = node; to = to })
IsItemStart table t i item = ⊤

abbrev pub IsSpotOf : Table → TypeId → Spot → Type 0
IsSpotOf table t s = IsItemStart table t s.start s.item

-- a layout tells whether type t holds pointers, and where they begin
pub record TellsPointers (table : Table) (t : TypeId) (layout : Layout) : Type 0 where
  pub holds : layout.holds ≡ holds_pointer table t
  pub spots : layout.holds ≡ true → All (IsSpotOf table t) layout.spots.items
  pub offsets : layout.holds ≡ true → pointer_offsets table t ≡ pointer_starts layout.spots.items
