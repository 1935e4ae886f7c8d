use Rattle.std.proofs.Common.{take}
use Rattle.std.specs.List.{Contains}
use Rattle.cc_base.specs.declared.number.TypeId.{TypeId}
use Rattle.phys_types.specs.declared.numbered.Numbered.{Numbered}
use Rattle.phys_types.specs.Turning.{list_in}
use Rattle.phys_types.proofs.turning.reading.Given as goal

abbrev pub invariant-changed : goal.invariant-changed
invariant-changed l = (e : Numbered) (t : TypeId) → Contains (take l.e-index l.changed) e → Contains (list_in l.readers e.ty) t → Contains l.set.keys t
