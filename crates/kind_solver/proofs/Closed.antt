use Rattle.std.proofs.Common.{ℕ, List, Contains}
use Rattle.std.specs.List.{AllByRecursion}
use Rattle.std.proofs.lemmas.List.Elements.{All-from_recursion, All-contains}
use Rattle.kind_solver.specs.declared.constraint.Constraint.{Constraint}
use Rattle.kind_solver.specs.declared.gathering.Edge.{Edge}
use Rattle.kind_solver.specs.declared.gathering.Origin.{Origin}
use Rattle.kind_solver.specs.declared.gathering.Pass.{Pass}
use Rattle.kind_solver.specs.declared.gathering.Start.{Start}
use Rattle.kind_solver.specs.declared.cause.Cause.{Cause}
use Rattle.kind_solver.specs.Chains.{edge, origin, edges_of, origins_of, edges, origins}
use Rattle.kind_solver.proofs.Members.{from_flat_map}

-- What holds of the steps and beginnings of each constraint holds of those of the list.

pub each_edge : (R : ℕ → ℕ → Type 0) (kind : Pass) (list : List Constraint)
    → ((c : Constraint) → Contains list c → AllByRecursion (λ (e : Edge). R e.from.0 e.to.0) (edges_of kind c))
    → (x y : ℕ) → Contains (edges kind list) (edge x y) → R x y
each_edge R kind list each x y h =
    let found = from_flat_map (edges_of kind) list (edge x y) h in
    All-contains (λ (e : Edge). R e.from.0 e.to.0) (edges_of kind found.0) (edge x y)
    (All-from_recursion (λ (e : Edge). R e.from.0 e.to.0) (edges_of kind found.0) (each found.0 found.1)) found.2

pub each_origin : (P : ℕ → Type 0) (kind : Start) (list : List Constraint)
    → ((c : Constraint) → Contains list c → AllByRecursion (λ (s : Origin). P s.node.0) (origins_of kind c))
    → (n : ℕ) (cause : Cause) → Contains (origins kind list) (origin n cause) → P n
each_origin P kind list each n cause h =
    let found = from_flat_map (origins_of kind) list (origin n cause) h in
    All-contains (λ (s : Origin). P s.node.0) (origins_of kind found.0) (origin n cause)
    (All-from_recursion (λ (s : Origin). P s.node.0) (origins_of kind found.0) (each found.0 found.1)) found.2
