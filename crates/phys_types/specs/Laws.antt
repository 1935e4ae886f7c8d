use Rattle.std.specs.Prelude.{◌≡◌, ℕ, Some}
use Rattle.cc_base.specs.declared.number.TypeId.{TypeId}
use Rattle.cc_base.specs.declared.number.NodeId.{NodeId}
use Rattle.cc_base.specs.declared.kind.Kind.{Kind}
use Rattle.c_types.specs.Table.{Table}
use Rattle.c_types.specs.Flows.{HeldPointer, pointer_at, IsOfOneClass}

-- t has a pointer at place i of the kind of q, and what the two point to is of one class
abbrev pub HasCounterpart : Table → (NodeId → Kind) → TypeId → ℕ → HeldPointer → Type 0
HasCounterpart table kind t i q =
    (p : HeldPointer) × (pointer_at table t i ≡ Some p) × (kind p.node ≡ kind q.node) × IsOfOneClass table kind p.to q.to
