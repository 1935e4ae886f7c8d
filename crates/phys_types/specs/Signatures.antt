use Rattle.std.specs.Prelude.{ℕ, ◌+◌, ◌*◌, ◌%◌, ◌^◌, Bool, List, [], ◌∷◌, take, flat_map, if◌then◌else◌}
use Rattle.std.specs.List.{fold}
use Rattle.cc_base.specs.declared.number.TypeId.{TypeId}
use Rattle.c_types.specs.declared.shape.TypeShape.{TypeShape}
use Rattle.c_types.specs.declared.shape.TypeShape.TheVariants.{Function}
use Rattle.c_types.specs.Table.{Table, shape_at}
use Rattle.c_types.specs.Equality.{Slot, nothing, integer, pointer_to, other, slot_of}
use Rattle.phys_types.specs.declared.spot.Item.{Item}
use Rattle.phys_types.specs.declared.spot.Item.TheVariants.{Pointer, Mixed, Incomplete}
use Rattle.phys_types.specs.declared.spot.Spot.{Spot}
use Rattle.phys_types.specs.declared.keeping.Repeated.{Repeated}
use Rattle.phys_types.specs.Shown.{all_size, all_spots}

-- What types that are made alike share, in numbers.

-- a number from two; nothing from nothing
unfoldable pub mixed : ℕ → ℕ → ℕ
mixed h v = let z = ((h * 6364136223846793005) % 2 ^ 64 + v) % 2 ^ 64 in (z * (((z * 2) % 2 ^ 64 + 1) % 2 ^ 64)) % 2 ^ 64

-- a number from a list of numbers
abbrev pub mixed_all : {A : Type 0} → ℕ → (A → ℕ) → List A → ℕ
mixed_all start f xs = fold (λ h x. mixed h (f x)) start xs

-- what is seen of a type without what it points to

abbrev pub item_form : Item → ℕ
item_form (Pointer node to) = 1
item_form (Mixed t size) = mixed 2 t.0
item_form (Incomplete t) = mixed 3 t.0

abbrev pub spot_form : Spot → ℕ
spot_form s = mixed s.start (item_form s.item)

abbrev pub bit : Bool → ℕ
bit b = if b then 1 else 0

abbrev pub slot_form : Slot → ℕ
slot_form nothing = 1
slot_form (integer bytes signed) = mixed 2 (mixed bytes (bit signed))
slot_form (pointer_to t) = 3
slot_form (other t) = 4

abbrev pub slot_in : Table → TypeId → Slot
slot_in table p = slot_of p (shape_at table p)

abbrev pub form_of_shape : Table → TypeShape → ℕ → List Spot → ℕ
form_of_shape table (Function ps r) n ss = mixed_all 1 (λ p. slot_form (slot_in table p)) (r ∷ ps)
form_of_shape table shape n ss = mixed (mixed_all 2 spot_form ss) n

-- a number that types share that are made alike, by the number of their cells and their first spots
abbrev pub form_at : Table → TypeId → ℕ → List Spot → ℕ
form_at table t n ss = form_of_shape table (shape_at table t) n ss

-- what it points to, in order

abbrev pub item_targets : Item → List TypeId
item_targets (Pointer node to) = to ∷ []
item_targets item = []

abbrev pub slot_targets : Slot → List TypeId
slot_targets (pointer_to t) = t ∷ []
slot_targets (other t) = t ∷ []
slot_targets slot = []

abbrev pub targets_of_shape : Table → TypeShape → List Spot → List TypeId
targets_of_shape table (Function ps r) ss = flat_map (λ p. slot_targets (slot_in table p)) (r ∷ ps)
targets_of_shape table shape ss = flat_map (λ s. item_targets s.item) ss

abbrev pub targets_at : Table → TypeId → List Spot → List TypeId
targets_at table t ss = targets_of_shape table (shape_at table t) ss

-- both of what is kept of t, by its first spots, as many as the limit says

abbrev pub front_form : Table → ℕ → TypeId → Repeated → ℕ
front_form table limit t k = form_at table t (all_size k) (take limit (all_spots k))

abbrev pub front_targets : Table → ℕ → TypeId → Repeated → List TypeId
front_targets table limit t k = targets_at table t (take limit (all_spots k))
