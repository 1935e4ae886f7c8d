use Rattle.std.specs.Prelude.{ℕ, List, Option, None, Some, Contains, length, slice_index_or, ◌≡◌, ◌<◌, ◌⊎◌}
use Rattle.cc_base.specs.Kinds.{kind_at}
use Rattle.cc_base.specs.declared.kind.Kind.{Kind}
use Rattle.cc_base.specs.declared.kind.Kind.TheVariants.{Safe, Seq, Rtti, Wild}
use Rattle.cc_base.specs.declared.number.NodeId.{NodeId}
use Rattle.kind_solver.specs.declared.cause.Cause.{Cause}
use Rattle.kind_solver.specs.declared.constraint.Constraint.{Constraint}
use Rattle.kind_solver.specs.declared.gathering.Pass.TheVariants as pass
use Rattle.kind_solver.specs.declared.gathering.Start.TheVariants as start
use Rattle.kind_solver.specs.Constraints.{MeetsAll}
use Rattle.kind_solver.specs.Order.{ComesBefore}
use Rattle.kind_solver.specs.Chains.{edge, origin, edges, origins, Leads, Chain}

-- The three sets that give the kinds. `F list c n` says that a chain begins at the site c and ends
-- with n as a member; a node is a member where some site has such a chain.

abbrev pub Holds : (Cause → ℕ → Type 0) → ℕ → Type 0
Holds F n = (c : Cause) × F c n

-- The nodes that need SEQ or WILD, as far as this follows from the needs and the Tile flows alone.
abbrev pub FirstNeedFrom : List Constraint → Cause → ℕ → Type 0
FirstNeedFrom list c n = Chain (origins start.Sequence list) (edges pass.Sequence list) c n

-- The nodes that have to be WILD: those of Bad flows and unions, those that a need turns WILD, and
-- all that hangs together with them. The needs are the first ones: no free source adds to them.
abbrev pub TurnsWild : List Constraint → Cause → ℕ → Type 0
TurnsWild list c n = Contains (origins start.Wild list) (origin n c)
    ⊎ ((x : ℕ) × FirstNeedFrom list c x × Contains (edges pass.Turn list) (edge x n))

abbrev pub WildFrom : List Constraint → Cause → ℕ → Type 0
WildFrom list c n = (x : ℕ) × TurnsWild list c x × Leads (edges pass.Wild list) x n

-- The nodes that the target of an Up flow or the source of a Down flow reaches by flows and
-- equalities. A chain here is no cause of a kind.
abbrev pub RisesFrom : List Constraint → Cause → ℕ → Type 0
RisesFrom list c n = Chain (origins start.Rise list) (edges pass.Rise list) c n

-- A DownTile flow may make its source SEQ only where the source is in neither set so far, and where
-- nothing reaches it that cannot be SEQ: an Up flow into a SEQ pointer and a Down flow out of one
-- would make both ends WILD.
abbrev pub IsFree : List Constraint → ℕ → Type 0
IsFree list n = ¬ (Holds (FirstNeedFrom list) n) × ¬ (Holds (WildFrom list) n)
    × ¬ (Holds (RisesFrom list) n)

-- The nodes that need SEQ or WILD: those of the needs and Tile flows, the free sources of DownTile
-- flows, and what flows into them.
abbrev pub StartsNeed : List Constraint → Cause → ℕ → Type 0
StartsNeed list c n = Contains (origins start.Sequence list) (origin n c)
    ⊎ (Contains (origins start.Loose list) (origin n c) × IsFree list n)

abbrev pub NeedFrom : List Constraint → Cause → ℕ → Type 0
NeedFrom list c n = (x : ℕ) × StartsNeed list c x × Leads (edges pass.Sequence list) x n

-- The nodes that carry a type where they are in neither set: the other sources of Down and DownTile
-- flows, and what flows into them.
abbrev pub StartsType : List Constraint → Cause → ℕ → Type 0
StartsType list c n = Contains (origins start.Type list) (origin n c)
    × ¬ (Holds (NeedFrom list) n) × ¬ (Holds (WildFrom list) n)

abbrev pub TypeFrom : List Constraint → Cause → ℕ → Type 0
TypeFrom list c n = (x : ℕ) × StartsType list c x × Leads (edges pass.Type list) x n

abbrev pub NeedsSequence : List Constraint → ℕ → Type 0
NeedsSequence list n = Holds (NeedFrom list) n

abbrev pub MustBeWild : List Constraint → ℕ → Type 0
MustBeWild list n = Holds (WildFrom list) n

abbrev pub MustCarryType : List Constraint → ℕ → Type 0
MustCarryType list n = Holds (TypeFrom list) n

-- The kind of a node: WILD where it has to be, else SEQ where it needs it, else RTTI where it
-- carries a type, else SAFE.
abbrev pub HasKind : List Constraint → ℕ → Kind → Type 0
HasKind list n Wild = MustBeWild list n
HasKind list n Seq = ¬ (MustBeWild list n) × NeedsSequence list n
HasKind list n Rtti = ¬ (MustBeWild list n) × ¬ (NeedsSequence list n) × MustCarryType list n
HasKind list n Safe = ¬ (MustBeWild list n) × ¬ (NeedsSequence list n) × ¬ (MustCarryType list n)

-- A chain begins at the site and ends with the node in the set that its kind names.
abbrev pub ChainTo : List Constraint → Kind → Cause → ℕ → Type 0
ChainTo list Wild = WildFrom list
ChainTo list Seq = NeedFrom list
ChainTo list Rtti = TypeFrom list
ChainTo list Safe = λ c n. ⊥

-- The cause of a node of that kind: none where it is SAFE, else the first site that has a chain.
abbrev pub HasCause : List Constraint → ℕ → Kind → Option Cause → Type 0
HasCause list n kind None = kind ≡ Safe
HasCause list n kind (Some c) =
    ChainTo list kind c n × ((d : Cause) → ChainTo list kind d n → ¬ (ComesBefore d c))

-- The table has the kind of each of the nodes.
pub record AreKinds (list : List Constraint) (count : ℕ) (kinds : List Kind) : Type 0 where
  pub len : length kinds ≡ count
  pub each : (n : NodeId) → n.0 < count → HasKind list n.0 (kind_at kinds n)

-- The table has the cause of each of the nodes.
pub record AreCauses (list : List Constraint) (count : ℕ) (kinds : List Kind) (causes : List (Option Cause)) : Type 0 where
  pub len : length causes ≡ count
  pub each : (n : NodeId) → n.0 < count → HasCause list n.0 (kind_at kinds n) (slice_index_or causes n.0 None)

-- Every map that meets the list has WILD wherever these kinds have it.
abbrev pub HasLeastWild : List Constraint → ℕ → List Kind → Type 0
HasLeastWild list count kinds =
    (kind : NodeId → Kind) → MeetsAll kind list → (n : NodeId) → n.0 < count → kind_at kinds n ≡ Wild → kind n ≡ Wild
