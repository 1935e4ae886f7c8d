use Rattle.std.specs.List.{Contains}
use Rattle.cc_base.specs.declared.number.TypeId.{TypeId}
use Rattle.c_types.specs.Table.{Table, shape_at, members_at, named_by}

-- The types that an answer about two types depends on.

-- a set of types that holds what its members name and hold
pub record IsClosed (table : Table) (S : TypeId → Type 0) : Type 0 where
  pub named : (t u : TypeId) → S t → Contains (named_by (shape_at table t)) u → S u
  pub members : (t u : TypeId) → S t → Contains (members_at table t) u → S u
