-- What two well typed trees of one text have in common: from where they begin, and how their nodes are numbered.
use Rattle.std.specs.Prelude.{◌≡◌, ℕ, List, map, length, Some}
use Rattle.std.specs.List.{range_with_len}
use Rattle.c_tree.specs.declared.typed_word.Home.{Home}
use Rattle.c_tree.specs.TypedParts.{Made, node_of_home, nodes_made}
use Rattle.c_typing.specs.Scopes.{Name, Scopes, place_among}
use Rattle.runtime_calls.specs.Prototypes.{IsNoName}

-- no function that the unit defines is a runtime function
abbrev pub HasOwnFunctions : Scopes → Type 0
HasOwnFunctions s = (name : Name) (number : ℕ) → place_among s.defined name ≡ Some number → IsNoName name

-- the nodes are numbered one after another, from n on, in the order of the text
abbrev pub AreNumberedFrom : ℕ → List Made → Type 0
AreNumberedFrom n made = map (λ k. k.0) (nodes_made made) ≡ range_with_len n (length (nodes_made made))

-- two homes that are one where their nodes are
abbrev pub AreHomesAlike : Home → Home → Type 0
AreHomesAlike h k = (length (node_of_home h) ≡ length (node_of_home k)) × (node_of_home h ≡ node_of_home k → h ≡ k)
