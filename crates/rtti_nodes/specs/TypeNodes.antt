-- Type nodes: what an RTTI pointer carries to say what it was made for (CCured, TOPLAS 2005).
use Rattle.std.specs.Prelude.{◌≡◌, ℕ, ◌<◌, ◌≤◌, ◌↔◌, List, length, slice_index, IsTrue}
use Rattle.std.specs.List.{Contains}
use Rattle.cc_base.specs.declared.number.TypeId.{TypeId}
use Rattle.cc_base.specs.declared.number.NodeId.{NodeId}
use Rattle.cc_base.specs.declared.kind.Kind.{Kind}
use Rattle.cc_base.specs.Kinds.{kind_at}
use Rattle.c_types.specs.Table.{Table}
use Rattle.c_types.specs.Equality.{cells_of}
use Rattle.c_types.specs.Flows.{IsOfOneClass, Covers}
use Rattle.c_types.specs.Sound.{IsWellFormed}
use Rattle.cured_code.specs.Tables.{parent_of, is_below}
use Rattle.cured_code.specs.Ranges.{AreParentsEarlier}

-- The nodes of the types that are used: the number of each type's node, by the type's number, and the parents of the nodes.
pub record TypeNodes : Type 0 where
  pub table : Table
  pub kinds : List Kind
  pub used : List TypeId
  pub numbers : List ℕ
  pub parents : List ℕ

-- the node of a type
abbrev pub node_at : TypeNodes → TypeId → ℕ
node_at n t = slice_index n.numbers t.0

abbrev pub kind_by : TypeNodes → NodeId → Kind
kind_by n = kind_at n.kinds

-- u is a longest used type among those that t covers and that aren't of its class
pub record IsNextCovered (n : TypeNodes) (t u : TypeId) : Type 0 where
  pub used : Contains n.used u
  pub covers : Covers n.table (kind_by n) t u
  pub other : IsOfOneClass n.table (kind_by n) t u → ⊥
  pub longest : (v : TypeId) → Contains n.used v → Covers n.table (kind_by n) t v → (IsOfOneClass n.table (kind_by n) t v → ⊥)
      → length (cells_of n.table v) ≤ length (cells_of n.table u)

-- There is one node for each class of the types that are used, numbered from 1, and a parent comes before its children. The parent of
-- a type's node is that of the longest type that it covers and that isn't of its class, or 0. So a node is below another where its
-- type covers the other's.
pub record AreTypeNodes (n : TypeNodes) : Type 0 where
  pub formed : IsWellFormed n.table
  pub fits : (t : TypeId) → Contains n.used t → t.0 < length n.numbers
  pub few : length n.parents ≤ length n.table
  pub each : (t : TypeId) → Contains n.used t → (0 < node_at n t) × (node_at n t ≤ length n.parents)
  pub all : (k : ℕ) → 0 < k → k ≤ length n.parents → (t : TypeId) × Contains n.used t × (node_at n t ≡ k)
  pub class : (t u : TypeId) → Contains n.used t → Contains n.used u → (node_at n t ≡ node_at n u) ↔ IsOfOneClass n.table (kind_by n) t u
  pub parent : (t u : TypeId) → Contains n.used t → IsNextCovered n t u → parent_of n.parents (node_at n t) ≡ node_at n u
  pub root : (t : TypeId) → Contains n.used t → ((u : TypeId) → IsNextCovered n t u → ⊥) → parent_of n.parents (node_at n t) ≡ 0
  pub earlier : AreParentsEarlier n.parents
  pub below : (t u : TypeId) → Contains n.used t → Contains n.used u
      → IsTrue (is_below n.parents (node_at n t) (node_at n u)) ↔ Covers n.table (kind_by n) t u
