-- What judging counts: nodes, the bytes of literals, and the pointers that assignments of structs move. What a part makes costs so much of
-- each, and a state has room for it where no limit is met.
use Rattle.std.specs.Prelude.{◌≡◌, ◌≤◌, ◌<◌, ◌+◌, ℕ, false, List, [], ◌∷◌, length, Some}
use Rattle.std.specs.List.{All}
use Rattle.cc_base.specs.declared.number.TypeId.{TypeId}
use Rattle.c_types.specs.Table.{Table, IsComplete, shape_at, is_empty}
use Rattle.c_tree.specs.TypedParts.{Made, node_made}
use Rattle.c_typing.specs.Assignments.{literal_cost}
use Rattle.c_typing.specs.Judging.{State}
use Rattle.c_typing.specs.Rules.{number_of_shape}
use Rattle.c_typing.specs.Scopes.{Name, members_named}
use Rattle.c_cells_kept.specs.Counted.{copied_by}

abbrev pub node_cost : Made → ℕ
node_cost made = length (node_made made)

abbrev pub total : (Made → ℕ) → List Made → ℕ
total cost [] = 0
total cost (m ∷ made) = cost m + total cost made

pub record HasRoom (T : Table) (made : List Made) (s : State) : Type 0 where
  -- 32 bits can number what is made
  pub things : length made ≤ 4294967296
  pub nodes : s.seen.node + total node_cost made ≤ 4294967295
  pub globals : s.seen.globals + total literal_cost made ≤ 4194304
  pub cells : s.seen.cells + total (copied_by T) made ≤ 65536

-- so much was counted; of the pointers of a struct that is not complete so far, none
pub record HasSpent (T : Table) (made : List Made) (s r : State) : Type 0 where
  pub nodes : r.seen.node ≡ s.seen.node + total node_cost made
  pub globals : r.seen.globals ≡ s.seen.globals + total literal_cost made
  pub cells : r.seen.cells ≤ s.seen.cells + total (copied_by T) made

-- There are no more structs and unions than types, and 32 bits can number the members of each and the functions of the unit. A scope is
-- open, and each struct and union that has its members in the table is complete.
pub record IsSmall (s : State) : Type 0 where
  pub few : length s.seen.scopes.members ≤ length s.table
  pub short : All (λ (names : List Name). length names ≤ 4294967296) s.seen.scopes.members
  pub functions : length s.seen.scopes.defined ≤ 4294967296
  pub opened : 0 < length s.seen.scopes.levels
  pub finished : (t : TypeId) (n : ℕ) → number_of_shape (shape_at s.table t) ≡ Some n → IsComplete s.table t → is_empty (members_named s.seen.scopes n) ≡ false
