-- The pointers that assignments of structs move: what judging counts of a part of the text, and what is known of the objects that it names.
use Rattle.std.specs.Prelude.{◌≡◌, ℕ, ◌+◌, List, [], ◌∷◌}
use Rattle.std.specs.List.{All}
use Rattle.c_types.specs.Table.{Table, IsComplete}
use Rattle.c_tree.specs.TypedParts.{Made, Copy}
use Rattle.c_typing.specs.Cells.{pointers_in}
use Rattle.c_typing.specs.Extensions.{IsExtended}
use Rattle.c_typing.specs.Judging.{State}
use Rattle.c_typing.specs.Scopes.{Name, Level}
use Rattle.c_typing.specs.Settled.{IsBasic}
use Rattle.c_typing.specs.declared.declared.Declared.{Declared}
use Rattle.c_typing.specs.declared.declared.Declared.TheVariants as declared

-- the pointers that an assignment moves, as its type is in the table
abbrev pub copied_by : Table → Made → ℕ
copied_by T (Copy t) = pointers_in T t
copied_by T made = 0

-- those that all assignments move
abbrev pub copied : Table → List Made → ℕ
copied T [] = 0
copied T (m ∷ made) = copied_by T m + copied T made

-- an object is of a complete type
abbrev pub IsObjectWhole : Table → Declared → Type 0
IsObjectWhole T (declared.Object t home) = IsComplete T t
IsObjectWhole T (declared.Typedef t) = Unit {0}
IsObjectWhole T (declared.Function t) = Unit {0}
IsObjectWhole T (declared.Enumerator value) = Unit {0}

pub record IsLevelWhole (T : Table) (level : Level) : Type 0 where
  pub names : All (λ (e : Name × Declared). IsObjectWhole T e.1) level.names

-- the objects that are declared, in any scope, are of complete types
abbrev pub AreWhole : Table → List Level → Type 0
AreWhole T levels = All (IsLevelWhole T) levels

-- what counting asks of a state: a sound table, and objects of complete types
abbrev pub IsReady : State → Type 0
IsReady s = IsBasic s.table × AreWhole s.table s.seen.scopes.levels

-- nothing is counted, and types that are complete stay so
abbrev pub Stays : State → State → Type 0
Stays s r = IsReady s → IsExtended s.table r.table × IsReady r × (r.seen.cells ≡ s.seen.cells)

-- So much is counted from the state s to the state r as the assignments move, whichever table goes on from there. Types that are complete stay so.
abbrev pub Moves : List Made → State → State → Type 0
Moves made s r = IsReady s → IsExtended s.table r.table × IsReady r × ((U : Table) → IsExtended r.table U → r.seen.cells ≡ s.seen.cells + copied U made)
