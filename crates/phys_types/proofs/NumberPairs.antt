use Rattle.std.proofs.Common.{◌≡◌, ◌≢◌, Bool, true, ◌&&◌, List, ap}
use Rattle.std.specs.Bool.{Decides}
use Rattle.std.specs.List.{AllPairs, IsDistinct}
use Rattle.std.proofs.lemmas.Bool.Decides.{Decides-eqb}
use Rattle.std.proofs.lemmas.Map.Made.{AllPairs-from_IsDistinct}
use Rattle.c_types.proofs.Shapes.{first_true, second_true}
use Rattle.cc_base.specs.declared.number.TypeId.{TypeId}
use Rattle.cc_base.specs.declared.number.NodeId.{NodeId}
use Rattle.cc_base.specs.contracts.number.TypeIdPartialEq.TheImpl as types
use Rattle.cc_base.specs.contracts.number.NodeIdPartialEq.TheImpl as nodes
use Rattle.phys_types.proofs.Fronts.{both_true}

-- Pairs of nodes and pairs of types are compared number by number.

abbrev pub node_pair_eq : NodeId × NodeId → NodeId × NodeId → Bool
node_pair_eq x y = nodes.ghosts.eq x.0 y.0 && nodes.ghosts.eq x.1 y.1

pub same_node_pair : (x y : NodeId × NodeId) → node_pair_eq x y ≡ true → x ≡ y
same_node_pair x y h =
    let a = (Decides-eqb x.0.0 y.0.0).0 (first_true (nodes.ghosts.eq x.0 y.0) _ h) in
    let b = (Decides-eqb x.1.0 y.1.0).0 (second_true (nodes.ghosts.eq x.0 y.0) (nodes.ghosts.eq x.1 y.1) h) in
    λ i. (record { 0 = a i }, record { 0 = b i })

decided_node_pair : (x y : NodeId × NodeId) → Decides (node_pair_eq x y) (x ≡ y)
decided_node_pair x y = (
  same_node_pair x y,
  λ e. both_true (nodes.ghosts.eq x.0 y.0) (nodes.ghosts.eq x.1 y.1) ((Decides-eqb x.0.0 y.0.0).1 (ap (λ z. z.0.0) e)) ((Decides-eqb x.1.0 y.1.0).1 (ap (λ z. z.1.0) e)),
)

pub node_pairs_differ : (xs : List (NodeId × NodeId)) → IsDistinct node_pair_eq xs → AllPairs (λ x y. x ≢ y) xs
node_pairs_differ xs h = AllPairs-from_IsDistinct decided_node_pair xs h

abbrev pub type_pair_eq : TypeId × TypeId → TypeId × TypeId → Bool
type_pair_eq x y = types.ghosts.eq x.0 y.0 && types.ghosts.eq x.1 y.1

pub same_type_pair : (x y : TypeId × TypeId) → type_pair_eq x y ≡ true → x ≡ y
same_type_pair x y h =
    let a = (Decides-eqb x.0.0 y.0.0).0 (first_true (types.ghosts.eq x.0 y.0) _ h) in
    let b = (Decides-eqb x.1.0 y.1.0).0 (second_true (types.ghosts.eq x.0 y.0) (types.ghosts.eq x.1 y.1) h) in
    λ i. (record { 0 = a i }, record { 0 = b i })

decided_type_pair : (x y : TypeId × TypeId) → Decides (type_pair_eq x y) (x ≡ y)
decided_type_pair x y = (
  same_type_pair x y,
  λ e. both_true (types.ghosts.eq x.0 y.0) (types.ghosts.eq x.1 y.1) ((Decides-eqb x.0.0 y.0.0).1 (ap (λ z. z.0.0) e)) ((Decides-eqb x.1.0 y.1.0).1 (ap (λ z. z.1.0) e)),
)

pub type_pairs_differ : (xs : List (TypeId × TypeId)) → IsDistinct type_pair_eq xs → AllPairs (λ x y. x ≢ y) xs
type_pairs_differ xs h = AllPairs-from_IsDistinct decided_type_pair xs h
