-- The numbers of nodes: what judging makes is numbered one after another, in the order of the text.
use Rattle.std.specs.Prelude.{◌≡◌, ℕ, ◌+◌, List, map, length}
use Rattle.std.specs.List.{range_with_len}
use Rattle.c_tree.specs.TypedParts.{Made, made_by, made_by_place, nodes_made}
use Rattle.c_typing.specs.Judging.{State}
use Rattle.c_typing.specs.Tests.{Elaborated, AsPlace, AsValue, AsAllocation}

-- what a part makes
abbrev pub made_by_part : Elaborated → List Made
made_by_part (AsPlace p) = made_by_place p
made_by_part (AsValue e) = made_by e
made_by_part (AsAllocation e) = made_by e

abbrev pub numbers_of : List Made → List ℕ
numbers_of made = map (λ n. n.0) (nodes_made made)

-- what was made from the state s to the state r has the numbers from the next one before to the next one after
pub record AreNumberedFrom (made : List Made) (s r : State) : Type 0 where
  pub numbers : numbers_of made ≡ range_with_len s.seen.node (length (nodes_made made))
  pub after : r.seen.node ≡ s.seen.node + length (nodes_made made)
