use Rattle.std.proofs.Common.{◌<◌}
use Rattle.cc_base.specs.declared.number.TypeId.{TypeId}
use Rattle.phys_types.specs.Turning.{HasType}
use Rattle.phys_types.proofs.refining.all_types.Given as goal

abbrev pub invariant-types : goal.invariant-types
invariant-types l = (t : TypeId) → t.0 < l.t → HasType l.all.items t
