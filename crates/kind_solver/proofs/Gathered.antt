use Rattle.std.proofs.Common.{ℕ, Bool, true, false, cond, List, [], ◌<◌, All}
use Rattle.std.specs.List.{AllByRecursion}
use Rattle.std.proofs.lemmas.List.Elements.{All-from_recursion}
use Rattle.cc_base.specs.declared.number.NodeId.{NodeId}
use Rattle.cc_base.specs.declared.place.Place.{Place}
use Rattle.cc_base.specs.declared.kind.Kind.TheVariants.{Safe, Rtti}
use Rattle.c_types.specs.declared.flow_class.FlowClass.{FlowClass}
use Rattle.c_types.specs.declared.flow_class.FlowClass.TheVariants as class
use Rattle.kind_solver.specs.declared.constraint.Constraint.{Constraint}
use Rattle.kind_solver.specs.declared.constraint.Constraint.TheVariants.{Flow, Needs, Equal, Inside, Linked, Force, Plain}
use Rattle.kind_solver.specs.declared.gathering.Edge.{Edge}
use Rattle.kind_solver.specs.declared.gathering.Origin.{Origin}
use Rattle.kind_solver.specs.declared.gathering.Pass.{Pass}
use Rattle.kind_solver.specs.declared.gathering.Pass.TheVariants as pass
use Rattle.kind_solver.specs.declared.gathering.Start.{Start}
use Rattle.kind_solver.specs.declared.gathering.Start.TheVariants as start
use Rattle.kind_solver.specs.Constraints.{allows, IsWithin, AreWithin}
use Rattle.kind_solver.specs.Order.{PlaceFits, Fits}
use Rattle.kind_solver.specs.Chains.{step, turns, edges_of, flow_origins, origins_of, edges, origins}
use Rattle.kind_solver.specs.Tables.{EdgesWithin, OriginsWithin, OriginsFit, HasFitPlace}
use Rattle.kind_solver.proofs.Members.{All-flat_map}

-- The nodes of the steps and beginnings are those of the constraints, and so are their places.

abbrev EndsWithin : ℕ → Edge → Type 0
EndsWithin n e = (e.from.0 < n) × (e.to.0 < n)

abbrev NodeWithin : ℕ → Origin → Type 0
NodeWithin n s = s.node.0 < n

abbrev CauseFits : Origin → Type 0
CauseFits s = Fits s.cause

turns_within : (n : ℕ) (from to : NodeId) (k : FlowClass) → from.0 < n → to.0 < n → AllByRecursion (EndsWithin n) (turns from to k)
turns_within n from to class.Up f t = ((t, f), ((t, t), tt))
turns_within n from to class.Down f t = ((t, f), ((t, t), ((f, f), ((f, t), tt))))
turns_within n from to class.Equal f t = tt
turns_within n from to class.UpTile f t = tt
turns_within n from to class.DownTile f t = tt
turns_within n from to class.Tile f t = tt
turns_within n from to class.Bad f t = tt

cond_within : (n : ℕ) (from to : NodeId) (b : Bool) → from.0 < n → to.0 < n → AllByRecursion (EndsWithin n) (cond b [] (step to from))
cond_within n from to true f t = tt
cond_within n from to false f t = ((t, f), tt)

edges_of_within : (n : ℕ) (kind : Pass) (c : Constraint) → IsWithin n c → AllByRecursion (EndsWithin n) (edges_of kind c)
edges_of_within n pass.Sequence (Flow from to k below place) h = ((h.1, h.0), tt)
edges_of_within n pass.Sequence (Equal a b) h = (h, ((h.1, h.0), tt))
edges_of_within n pass.Sequence _ h = tt
edges_of_within n pass.Turn (Flow from to k below place) h = turns_within n from to k h.0 h.1
edges_of_within n pass.Turn (Plain node) h = ((h, h), tt)
edges_of_within n pass.Turn _ h = tt
edges_of_within n pass.Wild (Flow from to k below place) h = (h, ((h.1, h.0), tt))
edges_of_within n pass.Wild (Equal a b) h = (h, ((h.1, h.0), tt))
edges_of_within n pass.Wild (Linked a b) h = (h, ((h.1, h.0), tt))
edges_of_within n pass.Wild (Inside outer inner) h = (h, tt)
edges_of_within n pass.Wild _ h = tt
edges_of_within n pass.Rise (Flow from to k below place) h = (h, tt)
edges_of_within n pass.Rise (Equal a b) h = (h, ((h.1, h.0), tt))
edges_of_within n pass.Rise _ h = tt
edges_of_within n pass.Type (Flow from to k below place) h = cond_within n from to (allows Safe Rtti k below) h.0 h.1
edges_of_within n pass.Type (Equal a b) h = (h, ((h.1, h.0), tt))
edges_of_within n pass.Type _ h = tt

pub edges_within : (n : ℕ) (kind : Pass) (list : List Constraint) → AreWithin n list → EdgesWithin n (edges kind list)
edges_within n kind list h =
    All-flat_map (IsWithin n) (EndsWithin n) (edges_of kind)
    (λ c within. All-from_recursion (EndsWithin n) (edges_of kind c) (edges_of_within n kind c within)) list h

flow_origins_within : (n : ℕ) (kind : Start) (from to : NodeId) (k : FlowClass) (place : Place) → from.0 < n → to.0 < n
    → AllByRecursion (NodeWithin n) (flow_origins kind from to k place)
flow_origins_within n start.Sequence from to class.Tile place f t = (f, tt)
flow_origins_within n start.Sequence from to _ place f t = tt
flow_origins_within n start.Wild from to class.Bad place f t = (f, (t, tt))
flow_origins_within n start.Wild from to _ place f t = tt
flow_origins_within n start.Rise from to class.Up place f t = (t, tt)
flow_origins_within n start.Rise from to class.Down place f t = (f, tt)
flow_origins_within n start.Rise from to _ place f t = tt
flow_origins_within n start.Loose from to class.DownTile place f t = (f, tt)
flow_origins_within n start.Loose from to _ place f t = tt
flow_origins_within n start.Type from to class.Down place f t = (f, tt)
flow_origins_within n start.Type from to class.DownTile place f t = (f, tt)
flow_origins_within n start.Type from to _ place f t = tt

origins_of_within : (n : ℕ) (kind : Start) (c : Constraint) → IsWithin n c → AllByRecursion (NodeWithin n) (origins_of kind c)
origins_of_within n kind (Flow from to k below place) h = flow_origins_within n kind from to k place h.0 h.1
origins_of_within n start.Sequence (Needs node why place) h = (h, tt)
origins_of_within n start.Wild (Force node why place) h = (h, tt)
origins_of_within n _ _ h = tt

pub origins_within : (n : ℕ) (kind : Start) (list : List Constraint) → AreWithin n list → OriginsWithin n (origins kind list)
origins_within n kind list h =
    All-flat_map (IsWithin n) (NodeWithin n) (origins_of kind)
    (λ c within. All-from_recursion (NodeWithin n) (origins_of kind c) (origins_of_within n kind c within)) list h

flow_origins_fit : (kind : Start) (from to : NodeId) (k : FlowClass) (place : Place) → PlaceFits place
    → AllByRecursion CauseFits (flow_origins kind from to k place)
flow_origins_fit start.Sequence from to class.Tile place f = (f, tt)
flow_origins_fit start.Sequence from to _ place f = tt
flow_origins_fit start.Wild from to class.Bad place f = (f, (f, tt))
flow_origins_fit start.Wild from to _ place f = tt
flow_origins_fit start.Rise from to class.Up place f = (f, tt)
flow_origins_fit start.Rise from to class.Down place f = (f, tt)
flow_origins_fit start.Rise from to _ place f = tt
flow_origins_fit start.Loose from to class.DownTile place f = (f, tt)
flow_origins_fit start.Loose from to _ place f = tt
flow_origins_fit start.Type from to class.Down place f = (f, tt)
flow_origins_fit start.Type from to class.DownTile place f = (f, tt)
flow_origins_fit start.Type from to _ place f = tt

origins_of_fit : (kind : Start) (c : Constraint) → HasFitPlace c → AllByRecursion CauseFits (origins_of kind c)
origins_of_fit kind (Flow from to k below place) h = flow_origins_fit kind from to k place h
origins_of_fit start.Sequence (Needs node why place) h = (h, tt)
origins_of_fit start.Wild (Force node why place) h = (h, tt)
origins_of_fit _ _ h = tt

pub origins_fit : (kind : Start) (list : List Constraint) → All HasFitPlace list → OriginsFit (origins kind list)
origins_fit kind list h =
    All-flat_map HasFitPlace CauseFits (origins_of kind)
    (λ c fit. All-from_recursion CauseFits (origins_of kind c) (origins_of_fit kind c fit)) list h
