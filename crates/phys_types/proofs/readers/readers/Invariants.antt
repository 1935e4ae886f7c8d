use Rattle.std.proofs.Common.{◌≡◌, ◌<◌, length}
use Rattle.std.specs.List.{Contains}
use Rattle.cc_base.specs.declared.number.TypeId.{TypeId}
use Rattle.phys_types.specs.Turning.{list_in}
use Rattle.phys_types.proofs.readers.readers.Given as goal

abbrev pub invariant-types : goal.invariant-types
invariant-types l = record {
  fits : length l.readers.items ≡ l.count;
  done : (t to : TypeId) → t.0 < l.t → to.0 < l.count → Contains (list_in l.targets t) to → Contains (list_in l.readers.items to) t;
}
