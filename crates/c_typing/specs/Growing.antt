-- What is known where a call ends has at most grown since it began, whether it answers, refuses or wants memory.
use Rattle.std.specs.Prelude.{◌≡◌, ◌≤◌, Bool, true, false, List, ◌++◌, length, map, Result, Ok, Err}
use Rattle.std.specs.List.{All}
use Rattle.cc_base.specs.declared.fault.Fault.{Fault}
use Rattle.cc_base.specs.declared.number.TypeId.{TypeId}
use Rattle.c_types.specs.Table.{Table, IsType, IsComplete, shape_at, entry_at}
use Rattle.c_typing.specs.declared.declared.Declared.{Declared}
use Rattle.c_typing.specs.declared.declared.Declared.TheVariants as declared
use Rattle.c_typing.specs.declared.declared.Tag.{Tag}
use Rattle.c_typing.specs.Declaring.{once_left}
use Rattle.c_typing.specs.Judging.{State}
use Rattle.c_typing.specs.Scopes.{Name, Scopes, innermost, without_innermost}

-- Scopes

-- What a scope may gain: any name, as that of a list of parameters does, or enumerators alone.
abbrev pub Gained : (any : Bool) → Declared → Type 0
Gained true what = Unit {0}
Gained false (declared.Enumerator z) = Unit {0}
Gained false (declared.Typedef t) = ⊥
Gained false (declared.Object t n) = ⊥
Gained false (declared.Function t) = ⊥

-- the names that were declared, and behind them others that may be gained
abbrev pub GainNames : (any : Bool) → List (Name × Declared) → List (Name × Declared) → Type 0
GainNames any before after = (more : List (Name × Declared)) × (after ≡ before ++ more) × All (λ (e : Name × Declared). Gained any e.1) more

-- the tags that were declared, and behind them others
abbrev pub GainTags : List (Name × Tag) → List (Name × Tag) → Type 0
GainTags before after = (more : List Name) × (map (λ (e : Name × Tag). e.0) after ≡ map (λ (e : Name × Tag). e.0) before ++ more)

-- As many scopes are open as before, and those around the innermost are as they were; the innermost has gained names and tags.
pub record AreStillOpen (any : Bool) (s r : Scopes) : Type 0 where
  pub many : length r.levels ≡ length s.levels
  pub outer : without_innermost r.levels ≡ without_innermost s.levels
  pub names : GainNames any (innermost s.levels).names (innermost r.levels).names
  pub tags : GainTags (innermost s.levels).tags (innermost r.levels).tags
  pub defined : r.defined ≡ s.defined
  -- structs and unions are only added
  pub aggregates : length s.members ≤ length r.members

-- Types

-- the types that were there keep their shapes, and those that were complete their members
pub record HasMoreTypes (table later : Table) : Type 0 where
  pub longer : length table ≤ length later
  pub shapes : (t : TypeId) → IsType table t → shape_at later t ≡ shape_at table t
  pub complete : (t : TypeId) → IsComplete table t → entry_at later t ≡ entry_at table t

-- Both, and what is counted. `any` says that the innermost scope may have gained any names.
pub record HasGrown (any : Bool) (s r : State) : Type 0 where
  pub scopes : AreStillOpen any s.seen.scopes r.seen.scopes
  pub types : HasMoreTypes s.table r.table
  pub node : s.seen.node ≤ r.seen.node
  pub globals : s.seen.globals ≤ r.seen.globals
  pub cells : s.seen.cells ≤ r.seen.cells

-- From s to r nothing has shrunk: whatever s has grown from, r has grown from it too. In this form one step after another needs no law.
abbrev pub Grows : State → State → Type 0
Grows s r = (any : Bool) (first : State) → HasGrown any first s → HasGrown any first r

-- the same where any name may be declared
abbrev pub GrowsAny : State → State → Type 0
GrowsAny s r = (first : State) → HasGrown true first s → HasGrown true first r

-- in a scope of its own: where it stops, that scope is left
abbrev pub GrowsOrLeaves : {A : Type 0} → Result A Fault → State → State → Type 0
GrowsOrLeaves (Ok a) s r = GrowsAny s r
GrowsOrLeaves (Err fault) s r = (q : State) × GrowsAny s q × (r ≡ once_left q)
