use Rattle.std.specs.Prelude.{◌≡◌, ◌⊎◌, List, [], ◌++◌}
use Rattle.std.specs.List.{Contains}
use Rattle.cc_base.specs.declared.number.TypeId.{TypeId}
use Rattle.cc_base.specs.declared.number.NodeId.{NodeId}
use Rattle.c_types.specs.Flows.{HeldPointer}
use Rattle.phys_types.specs.declared.held.Held.{Held}
use Rattle.phys_types.specs.Pairs.{HaveNodes}

-- Pairs of pointers that are found one after another.

-- the pointer
abbrev pub held : Held → HeldPointer
held p = record { node = p.node; to = p.to }

-- Of each two pointers that are found to correspond, the nodes, and the types that they point to.
pub record Pairs : Type 0 where
  pub nodes : List (NodeId × NodeId)
  pub pointees : List (TypeId × TypeId)

abbrev pub no_pairs : Pairs
no_pairs = record { nodes = []; pointees = [] }

-- p and q are found
pub record Has (pairs : Pairs) (p q : HeldPointer) : Type 0 where
  pub nodes : Contains pairs.nodes (p.node, q.node)
  pub pointees : Contains pairs.pointees (p.to, q.to)

-- two pointers of R that point to these types
pub record HavePointees (R : HeldPointer → HeldPointer → Type 0) (t u : TypeId) : Type 0 where
  pub p : HeldPointer
  pub q : HeldPointer
  pub related : R p q
  pub first : p.to ≡ t
  pub second : q.to ≡ u

-- Beside what is in `old`, `new` has the pointers of R and no others, and the pairs of types are added behind those of `old`.
pub record Gains (R : HeldPointer → HeldPointer → Type 0) (old new : Pairs) : Type 0 where
  pub behind : (rest : List (TypeId × TypeId)) × (new.pointees ≡ old.pointees ++ rest)
  pub kept : (a b : NodeId) → Contains old.nodes (a, b) → Contains new.nodes (a, b)
  pub has : (p q : HeldPointer) → R p q → Has new p q
  pub nodes : (a b : NodeId) → Contains new.nodes (a, b) → Contains old.nodes (a, b) ⊎ HaveNodes R a b
  pub pointees : (t u : TypeId) → Contains new.pointees (t, u) → Contains old.pointees (t, u) ⊎ HavePointees R t u

-- the two pointers alone
abbrev pub AreThese : HeldPointer → HeldPointer → HeldPointer → HeldPointer → Type 0
AreThese p q r s = (r ≡ p) × (s ≡ q)
