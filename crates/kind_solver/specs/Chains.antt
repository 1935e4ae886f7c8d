use Rattle.std.specs.Prelude.{ℕ, Bool, zero, suc, List, [], ◌∷◌, ◌++◌, Contains, ◌≡◌, if◌then◌else◌}
use Rattle.std.specs.List.{flat_map}
use Rattle.cc_base.specs.declared.place.Place.{Place}
use Rattle.cc_base.specs.declared.number.NodeId.{NodeId}
use Rattle.cc_base.specs.declared.kind.Kind.TheVariants.{Safe, Rtti}
use Rattle.c_types.specs.declared.flow_class.FlowClass.{FlowClass}
use Rattle.c_types.specs.declared.flow_class.FlowClass.TheVariants as class
use Rattle.kind_solver.specs.declared.cause.Cause.{Cause}
use Rattle.kind_solver.specs.declared.constraint.Why.{Why}
use Rattle.kind_solver.specs.declared.constraint.Why.TheVariants as why
use Rattle.kind_solver.specs.declared.constraint.Constraint.{Constraint}
use Rattle.kind_solver.specs.declared.constraint.Constraint.TheVariants.{Flow, Needs, Equal, Inside, Linked, Force, Plain}
use Rattle.kind_solver.specs.declared.gathering.Edge.{Edge}
use Rattle.kind_solver.specs.declared.gathering.Origin.{Origin}
use Rattle.kind_solver.specs.declared.gathering.Pass.{Pass}
use Rattle.kind_solver.specs.declared.gathering.Pass.TheVariants as pass
use Rattle.kind_solver.specs.declared.gathering.Start.{Start}
use Rattle.kind_solver.specs.declared.gathering.Start.TheVariants as start
use Rattle.kind_solver.specs.Constraints.{allows}

-- The steps of the derivations: what each constraint says of the three sets.

-- if the first node is a member, so is the second
abbrev pub edge : ℕ → ℕ → Edge
edge from to = record { from = record { 0 = from }; to = record { 0 = to } }

abbrev pub step : NodeId → NodeId → List Edge
step from to = edge from.0 to.0 ∷ []

abbrev pub both_ways : NodeId → NodeId → List Edge
both_ways a b = edge a.0 b.0 ∷ edge b.0 a.0 ∷ []

-- the node is a member, and the site is why
abbrev pub origin : ℕ → Cause → Origin
origin node cause = record { node = record { 0 = node }; cause = cause }

abbrev pub site : NodeId → Place → Why → List Origin
site node place why = origin node.0 (record { site = place; why = why }) ∷ []

-- what a flow at a node that needs SEQ or WILD makes WILD
abbrev pub turns : NodeId → NodeId → FlowClass → List Edge
turns from to class.Up = edge to.0 from.0 ∷ edge to.0 to.0 ∷ []
turns from to class.Down = edge to.0 from.0 ∷ edge to.0 to.0 ∷ edge from.0 from.0 ∷ edge from.0 to.0 ∷ []
turns from to _ = []

-- a node that carries a type makes a source do so, but where the table allows a SAFE source
abbrev pub carries : NodeId → NodeId → FlowClass → Bool → List Edge
carries from to class below = (if allows Safe Rtti class below then [] else step to from)

abbrev pub edges_of : Pass → Constraint → List Edge
-- the nodes that need SEQ or WILD: from the target of a flow to its source, and over equalities
edges_of pass.Sequence (Flow from to class below place) = step to from
edges_of pass.Sequence (Equal a b) = both_ways a b
edges_of pass.Sequence _ = []
-- from a node that needs SEQ or WILD to the nodes that are then WILD: the node itself if it is
-- plain, both ends of an Up or Down flow into it, both ends of a Down flow out of it
edges_of pass.Turn (Flow from to class below place) = turns from to class
edges_of pass.Turn (Plain node) = step node node
edges_of pass.Turn _ = []
-- the nodes that are WILD: both ways over flows, equalities and links, and into pointees
edges_of pass.Wild (Flow from to class below place) = both_ways from to
edges_of pass.Wild (Equal a b) = both_ways a b
edges_of pass.Wild (Linked a b) = both_ways a b
edges_of pass.Wild (Inside outer inner) = step outer inner
edges_of pass.Wild _ = []
-- what a node reaches by flows and equalities
edges_of pass.Rise (Flow from to class below place) = step from to
edges_of pass.Rise (Equal a b) = both_ways a b
edges_of pass.Rise _ = []
-- the nodes that carry a type: from the target of a flow to its source, but where the table allows
-- a SAFE source there, and over equalities
edges_of pass.Type (Flow from to class below place) = carries from to class below
edges_of pass.Type (Equal a b) = both_ways a b
edges_of pass.Type _ = []

-- the sites of flows
abbrev pub flow_origins : Start → NodeId → NodeId → FlowClass → Place → List Origin
-- the sources of Tile flows need SEQ or WILD
flow_origins start.Sequence from to class.Tile place = site from place why.Tile
flow_origins start.Sequence from to _ place = []
-- both ends of a Bad flow are WILD
flow_origins start.Wild from to class.Bad place = site from place why.Bad ++ site to place why.Bad
flow_origins start.Wild from to _ place = []
-- the targets of Up flows and the sources of Down flows; why they are so is never read
flow_origins start.Rise from to class.Up place = site to place why.Down
flow_origins start.Rise from to class.Down place = site from place why.Down
flow_origins start.Rise from to _ place = []
-- the sources of DownTile flows
flow_origins start.Loose from to class.DownTile place = site from place why.Tile
flow_origins start.Loose from to _ place = []
-- the sources of Down and DownTile flows
flow_origins start.Type from to class.Down place = site from place why.Down
flow_origins start.Type from to class.DownTile place = site from place why.Tile
flow_origins start.Type from to _ place = []

abbrev pub origins_of : Start → Constraint → List Origin
origins_of kind (Flow from to class below place) = flow_origins kind from to class place
origins_of start.Sequence (Needs node why place) = site node place why
origins_of start.Wild (Force node why place) = site node place why
origins_of _ _ = []

abbrev pub edges : Pass → List Constraint → List Edge
edges pass list = flat_map (edges_of pass) list

abbrev pub origins : Start → List Constraint → List Origin
origins start list = flat_map (origins_of start) list

-- Derivations.

-- k steps lead from one node to another
abbrev pub Path : List Edge → ℕ → ℕ → ℕ → Type 0
Path edges zero x y = x ≡ y
Path edges (suc k) x y = (z : ℕ) × Path edges k x z × Contains edges (edge z y)

-- some number of steps leads from one node to another
abbrev pub Leads : List Edge → ℕ → ℕ → Type 0
Leads edges x y = (k : ℕ) × Path edges k x y

-- a chain begins at the site and ends at the node
abbrev pub Chain : List Origin → List Edge → Cause → ℕ → Type 0
Chain origins edges c n = (x : ℕ) × Contains origins (origin x c) × Leads edges x n
