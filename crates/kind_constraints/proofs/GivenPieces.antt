-- What a node gives by its contents, and what a flow gives.
use Rattle.std.specs.Prelude.{◌↔◌, IsTrue}
use Rattle.std.proofs.Common.{◌≡◌, Bool, true, false, List, ap, sym, ◌∙◌, inl, inr, ◌⊎◌, ⊎_elim, true≢false}
use Rattle.std.specs.List.{Contains}
use Rattle.cc_base.specs.declared.number.TypeId.{TypeId}
use Rattle.cc_base.specs.declared.number.NodeId.{NodeId}
use Rattle.cc_base.specs.declared.place.Place.{Place}
use Rattle.c_types.specs.declared.flow_class.FlowClass.{FlowClass}
use Rattle.kind_sites.specs.declared.site.Site.{Site}
use Rattle.c_types.specs.Table.{Table}
use Rattle.c_types.specs.Flows.{flow_class}
use Rattle.c_types.specs.Contents.{HoldsMixed}
use Rattle.kind_sites.specs.Solutions.{HasBelow}
use Rattle.kind_solver.specs.declared.constraint.Constraint.{Constraint}
use Rattle.kind_solver.specs.declared.constraint.Constraint.TheVariants.{Flow, Inside, Force, Plain}
use Rattle.kind_solver.specs.declared.constraint.Why.TheVariants as why
use Rattle.constraint_laws.proofs.Solved.{one-answer}
use Rattle.kind_constraints.specs.Adding.{Adds, OfSome}
use Rattle.kind_constraints.specs.Pieces.{AreNodesIn, AreUnionPlaces, IsOfContents, IsOfFlow}
use Rattle.kind_constraints.proofs.Adding.{adds_as, adds_then}

-- a node that is inside
abbrev pub IsInner : NodeId → NodeId × NodeId → Constraint → Type 0
IsInner n pair c = c ≡ Inside n pair.0

-- a union that is among the mixed ones
abbrev pub IsForced : NodeId → List TypeId → TypeId × Place → Constraint → Type 0
IsForced n mixed union c = Contains mixed union.0 × (c ≡ Force n why.Union union.1)

pub contents_pieces : (table : Table) (sites : List Site) (n : NodeId) (t : TypeId) (nodes : List (NodeId × NodeId)) (mixed : List TypeId) (unions : List (TypeId × Place)) → AreNodesIn table t nodes
    → ((v : TypeId) → Contains mixed v ↔ HoldsMixed table t v) → AreUnionPlaces sites unions → (old now new : List Constraint)
    → Adds (OfSome nodes (IsInner n)) old now → Adds (OfSome unions (IsForced n mixed)) now new → Adds (IsOfContents table sites n t) old new
contents_pieces table sites n t nodes mixed unions inner held places old now new h k =
    adds_as (λ c. OfSome nodes (IsInner n) c ⊎ OfSome unions (IsForced n mixed) c) (IsOfContents table sites n t) old new
    (λ c o. elim o [
      | inl e ↦ inl (e.0.0, (inner e.0.0).0 (e.0.1, e.1), e.2)
      | inr e ↦ inr (e.0.0, e.0.1, (held e.0.0).0 e.2.0, (places e.0).0 e.1, e.2.1)
    ])
    (λ c o. elim o [
      | inl e ↦ (let m = (inner e.0).1 e.1 in inl ((e.0, m.0), m.1, e.2))
      | inr e ↦ inr ((e.0, e.1), (places (e.0, e.1)).1 e.3, ((held e.0).1 e.2, e.4))
    ])
    (adds_then (OfSome nodes (IsInner n)) (OfSome unions (IsForced n mixed)) old now new h k)

pub flow_pieces : (table : Table) (sites : List Site) (m : NodeId) (t : TypeId) (n : NodeId) (u : TypeId) (place : Place) (k : FlowClass) (below : Bool) → k ≡ flow_class table t u
    → IsTrue below ↔ HasBelow table sites t → (old new : List Constraint) → Adds (λ c. c ≡ Flow m n k below place) old new → Adds (IsOfFlow table sites m t n u place) old new
flow_pieces table sites m t n u place k below e tells old new h =
    adds_as (λ c. c ≡ Flow m n k below place) (IsOfFlow table sites m t n u place) old new
    (λ c f. (below, tells, f ∙ ap (λ x. Flow m n x below place) e))
    (λ c f. f.2 ∙ (λ i. Flow m n (sym e i) (one-answer f.0 below (HasBelow table sites t) f.1 tells i) place))
    h

module _ (P : Constraint → Type 0) (f : Bool) (n : NodeId) where
  pub plain_pieces : f ≡ true → (old now new : List Constraint) → Adds P old now → Adds (λ c. c ≡ Plain n) now new → Adds (λ c. P c ⊎ (IsTrue f × (c ≡ Plain n))) old new
  plain_pieces e old now new h k =
      adds_as (λ c. P c ⊎ (c ≡ Plain n)) (λ c. P c ⊎ (IsTrue f × (c ≡ Plain n))) old new
      (λ c o. ⊎_elim (λ p. inl p) (λ q. inr (e, q)) o) (λ c o. ⊎_elim (λ p. inl p) (λ q. inr q.1) o)
      (adds_then P (λ c. c ≡ Plain n) old now new h k)

  pub no_plain_pieces : f ≡ false → (old new : List Constraint) → Adds P old new → Adds (λ c. P c ⊎ (IsTrue f × (c ≡ Plain n))) old new
  no_plain_pieces e old new h =
      adds_as P (λ c. P c ⊎ (IsTrue f × (c ≡ Plain n))) old new (λ c p. inl p) (λ c o. ⊎_elim (λ p. p) (λ q. absurd (true≢false (sym q.0 ∙ e))) o) h
