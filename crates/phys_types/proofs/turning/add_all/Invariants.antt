use Rattle.std.proofs.Common.{◌⊎◌, take}
use Rattle.std.specs.List.{Contains}
use Rattle.cc_base.specs.declared.number.TypeId.{TypeId}
use Rattle.phys_types.proofs.turning.add_all.Given as goal

abbrev pub invariant-types : goal.invariant-types
invariant-types l = (t : TypeId) → (Contains l.fn.set.keys t ⊎ Contains (take l.t-index l.ts) t) → Contains l.set.keys t
