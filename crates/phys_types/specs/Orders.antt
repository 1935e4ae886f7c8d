use Rattle.std.specs.Prelude.{◌≡◌, ℕ, ◌<◌, Bool, true, false, not, List, length, slice_index_or, if◌then◌else◌, MatchBool}
use Rattle.std.specs.List.{Contains, list_all, count_by}
use Rattle.cc_base.specs.declared.number.TypeId.{TypeId}
use Rattle.c_types.specs.Table.{Table, IsType, parts_at}
use Rattle.phys_types.specs.Rounds.{IsOrder}

-- Types are placed one after another, each when its parts are.

abbrev pub is_marked : List Bool → TypeId → Bool
is_marked marks t = slice_index_or marks t.0 false

-- an order of all types
pub record IsWholeOrder (table : Table) (order : List TypeId) (places : List ℕ) : Type 0 where
  pub right : IsOrder table order places
  pub whole : (t : TypeId) → IsType table t → Contains order t

-- what is placed so far
pub record IsPlacing (table : Table) (order : List TypeId) (places : List ℕ) (marks : List Bool) : Type 0 where
  pub so_far : IsOrder table order places
  pub fits : length marks ≡ length table
  pub marked : (t : TypeId) → is_marked marks t ≡ true → Contains order t
  pub placed : (i : ℕ) (d : TypeId) → i < length order → is_marked marks (slice_index_or order i d) ≡ true

-- how many types aren't placed yet
abbrev pub waiting : List Bool → ℕ
waiting marks = count_by not marks

-- t stands in the order, or one of its parts doesn't
abbrev pub is_done : Table → List Bool → TypeId → Bool
is_done table marks t = if is_marked marks t then true else not (list_all (is_marked marks) (parts_at table t))

-- a step placed a type, or nothing changed
abbrev pub Steps : List Bool → List Bool → Bool → Type 0
Steps old new changed = MatchBool changed (waiting new < waiting old) (new ≡ old)

-- trying the first n types placed one, or nothing changed and each of them is done
abbrev pub RoundSteps : Table → List Bool → List Bool → ℕ → Bool → Type 0
RoundSteps table old new n changed =
    MatchBool changed (waiting new < waiting old) ((new ≡ old) × ((t : TypeId) → t.0 < n → is_done table new t ≡ true))
