-- What is printed of a typed unit.
use Rattle.std.specs.Prelude.{◌≡◌, ℕ, ◌+◌, ◌<◌, true, List, ◌++◌, flat_map, length, slice_index_or}
use Rattle.std.specs.List.Sorted.{IsPermutation}
use Rattle.cc_base.specs.Places.{IsBefore}
use Rattle.c_tree.specs.declared.typed_unit.Printed.{Printed}
use Rattle.c_tree.specs.TypedTree.{TypedTranslationUnit}
use Rattle.c_tree.specs.TypedParts.{Made, made_by_unit, printed}
use Rattle.c_printed.specs.declared.found.Found.{Found}

-- the nodes that are printed, in the order in which they are made
abbrev pub printed_by : List Made → List Printed
printed_by made = flat_map printed made

-- Where nothing failed, what is printed of these things was found besides.
unfoldable pub Prints : List Made → Found → Found → Type 0
Prints made before after = after.fine ≡ true → (before.fine ≡ true) × (after.nodes.items ≡ before.nodes.items ++ printed_by made)

-- a list has each printed node of the unit once, in any order
abbrev pub HasPrinted : TypedTranslationUnit → List Printed → Type 0
HasPrinted unit all = IsPermutation (flat_map printed (made_by_unit unit)) all

-- none stands before the one before it in the list
abbrev pub AreInOrder : List Printed → Type 0
AreInOrder all = (k : ℕ) (d : Printed) → k + 1 < length all → ¬ IsBefore (slice_index_or all (k + 1) d).place (slice_index_or all k d).place
