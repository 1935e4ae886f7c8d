use Rattle.std.proofs.Common.{◌≡◌, ◌<◌, length, take}
use Rattle.std.specs.List.{Contains}
use Rattle.cc_base.specs.declared.number.TypeId.{TypeId}
use Rattle.phys_types.specs.Turning.{list_in, HaveAll}
use Rattle.phys_types.proofs.readers.add_readers.Given as goal

abbrev pub invariant-targets : goal.invariant-targets
invariant-targets l = record {
  fits : length l.readers ≡ length l.fn.readers;
  kept : HaveAll l.fn.readers l.readers;
  added : (to : TypeId) → Contains (take l.to-index l.targets) to → to.0 < length l.fn.readers → Contains (list_in l.readers to) l.t;
}
