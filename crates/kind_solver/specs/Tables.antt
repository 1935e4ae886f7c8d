use Rattle.std.specs.Prelude.{ℕ, List, Bool, Option, None, Some, Contains, All, length, slice_index_or, slice_set, is_none, filter, MatchBool, option_map, ⊤, ◌≡◌, ◌<◌, ◌≤◌, ◌⊎◌}
use Rattle.std.specs.Option.{option_to_list}
use Rattle.cc_base.specs.declared.kind.Kind.{Kind}
use Rattle.cc_base.specs.declared.kind.Kind.TheVariants.{Safe, Seq, Rtti, Wild}
use Rattle.kind_solver.specs.declared.cause.Cause.{Cause}
use Rattle.kind_solver.specs.declared.gathering.Edge.{Edge}
use Rattle.kind_solver.specs.declared.gathering.Origin.{Origin}
use Rattle.kind_solver.specs.declared.constraint.Constraint.{Constraint}
use Rattle.kind_solver.specs.declared.constraint.Constraint.TheVariants.{Flow, Needs, Force}
use Rattle.kind_solver.specs.Order.{late, rank, Fits, PlaceFits}
use Rattle.kind_solver.specs.Chains.{edge, origin, Leads}

-- What the private functions say of a table of causes: for each node the first cause found so far,
-- and None where there is none.

abbrev pub Table : Type 0
Table = List (Option Cause)

abbrev pub entry : Table → ℕ → Option Cause
entry table n = slice_index_or table n None

abbrev pub EdgesWithin : ℕ → List Edge → Type 0
EdgesWithin count edges = All (λ e. (e.from.0 < count) × (e.to.0 < count)) edges

abbrev pub OriginsWithin : ℕ → List Origin → Type 0
OriginsWithin count origins = All (λ s. s.node.0 < count) origins

abbrev pub OriginsFit : List Origin → Type 0
OriginsFit origins = All (λ s. Fits s.cause) origins

-- the place of a constraint, if it has one, is of 32-bit numbers
abbrev pub HasFitPlace : Constraint → Type 0
HasFitPlace (Flow from to class below place) = PlaceFits place
HasFitPlace (Needs node why place) = PlaceFits place
HasFitPlace (Force node why place) = PlaceFits place
HasFitPlace _ = ⊤

-- The table shows a relation: each entry is a cause that has it, and no such cause comes before it.
pub record Shows (F : Cause → ℕ → Type 0) (count : ℕ) (table : Table) : Type 0 where
  pub len : length table ≡ count
  pub fits : (n : ℕ) (c : Cause) → F c n → Fits c
  pub real : (n : ℕ) (c : Cause) → n < count → entry table n ≡ Some c → F c n
  pub first : (n : ℕ) (c : Cause) → n < count → F c n
      → (b : Cause) × (entry table n ≡ Some b) × (rank b ≤ rank c)

abbrev pub IsEmptyTable : Table → Type 0
IsEmptyTable table = All (λ (o : Option Cause). o ≡ None) table

-- The origin's cause was offered: the entry of its node is the earlier one of both.
abbrev pub Offered : Origin → Table → Table → Type 0
Offered s old new =
    ((new ≡ slice_set old s.node.0 (Some s.cause)) × (rank s.cause < late (entry old s.node.0)))
    ⊎ ((new ≡ old) × (late (entry old s.node.0) ≤ rank s.cause))

-- One edge was gone along: the entry at its end is the earlier one of both.
abbrev pub Spread : Edge → Table → Table → Bool → Type 0
Spread e old new changed = MatchBool changed
    ((new ≡ slice_set old e.to.0 (entry old e.from.0)) × (late (entry old e.from.0) < late (entry old e.to.0)))
    ((new ≡ old) × (late (entry old e.to.0) ≤ late (entry old e.from.0)))

-- Each entry is an old one, and a path leads from there to here.
abbrev pub Comes : List Edge → Table → Table → Type 0
Comes edges old new = (n : ℕ) → n < length old
    → (x : ℕ) × (x < length old) × Leads edges x n × (entry new n ≡ entry old x)

-- No entry became later.
abbrev pub Falls : Table → Table → Type 0
Falls old new = (n : ℕ) → late (entry new n) ≤ late (entry old n)

-- No edge leads to a later entry.
abbrev pub IsClosed : List Edge → Table → Type 0
IsClosed edges table = (x y : ℕ) → Contains edges (edge x y) → late (entry table y) ≤ late (entry table x)

-- Of the entries from which a path leads here, none was earlier.
abbrev pub IsEarliest : List Edge → Table → Table → Type 0
IsEarliest edges old new = (x n : ℕ) → Leads edges x n → late (entry new n) ≤ late (entry old x)

-- The table has the first cause of each node among the origins.
pub record HoldsOrigins (origins : List Origin) (count : ℕ) (table : Table) : Type 0 where
  pub len : length table ≡ count
  pub real : (n : ℕ) (c : Cause) → entry table n ≡ Some c → Contains origins (origin n c)
  pub earliest : (n : ℕ) (c : Cause) → Contains origins (origin n c) → late (entry table n) ≤ rank c

-- the origin at the end of an edge, with the cause of its beginning, if that has one
abbrev pub across_from : Option Cause → Edge → List Origin
across_from cause e = option_to_list (option_map (λ c. origin e.to.0 c) cause)

abbrev pub across : Table → Edge → List Origin
across table e = across_from (entry table e.from.0) e

-- the table has no cause for the origin's node
abbrev pub is_outside : Table → Origin → Bool
is_outside table s = is_none (entry table s.node.0)

-- the origins that none of three tables has a cause for
abbrev pub free_origins : Table → Table → Table → List Origin → List Origin
free_origins first wild rises origins =
    filter (is_outside rises) (filter (is_outside wild) (filter (is_outside first) origins))

-- kind and cause by the entries of the three sets
abbrev pub kind_from : Option Cause → Option Cause → Option Cause → Kind
kind_from (Some c) need carried = Wild
kind_from None (Some c) carried = Seq
kind_from None None (Some c) = Rtti
kind_from None None None = Safe

abbrev pub cause_from : Option Cause → Option Cause → Option Cause → Option Cause
cause_from (Some c) need carried = Some c
cause_from None (Some c) carried = Some c
cause_from None None carried = carried

pub record ReadsOff (wild need carried : Table) (count : ℕ) (kinds : List Kind) (causes : Table) : Type 0 where
  pub kinds_len : length kinds ≡ count
  pub causes_len : length causes ≡ count
  pub kind : (n : ℕ) → n < count
      → slice_index_or kinds n Safe ≡ kind_from (entry wild n) (entry need n) (entry carried n)
  pub cause : (n : ℕ) → n < count
      → entry causes n ≡ cause_from (entry wild n) (entry need n) (entry carried n)
