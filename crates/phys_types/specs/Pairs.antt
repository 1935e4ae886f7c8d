use Rattle.std.specs.Prelude.{◌≡◌, ◌↔◌, List}
use Rattle.std.specs.List.{Contains}
use Rattle.cc_base.specs.declared.number.TypeId.{TypeId}
use Rattle.cc_base.specs.declared.number.NodeId.{NodeId}
use Rattle.cc_base.specs.declared.kind.Kind.{Kind}
use Rattle.c_types.specs.Table.{Table}
use Rattle.c_types.specs.Flows.{HeldPointer, CorrespondInFlow, HaveEqualKinds}

-- The nodes of pointers that correspond.

-- two pointers of R have the nodes a and b
pub record HaveNodes (R : HeldPointer → HeldPointer → Type 0) (a b : NodeId) : Type 0 where
  pub p : HeldPointer
  pub q : HeldPointer
  pub related : R p q
  pub first : p.node ≡ a
  pub second : q.node ≡ b

-- the pairs are those of the nodes of pointers that correspond in a flow from t to u, at every depth
abbrev pub AreCorrespondingNodes : Table → TypeId → TypeId → List (NodeId × NodeId) → Type 0
AreCorrespondingNodes table t u pairs = (a b : NodeId) → Contains pairs (a, b) ↔ HaveNodes (CorrespondInFlow table t u) a b

-- the kinds of each pair are equal exactly where those of all pointers that correspond in the flow are
abbrev pub TellsEqualKinds : Table → TypeId → TypeId → (NodeId → Kind) → List (NodeId × NodeId) → Type 0
TellsEqualKinds table t u kind pairs = ((a b : NodeId) → Contains pairs (a, b) → kind a ≡ kind b) ↔ HaveEqualKinds kind (CorrespondInFlow table t u)
