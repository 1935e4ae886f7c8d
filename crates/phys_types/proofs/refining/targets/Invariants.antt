use Rattle.std.proofs.Common.{◌≡◌, ◌<◌, length, get_or}
use Rattle.cc_base.specs.declared.number.TypeId.{TypeId}
use Rattle.phys_types.specs.declared.keeping.Repeated.{Repeated}
use Rattle.phys_types.specs.Signatures.{front_targets}
use Rattle.phys_types.specs.Turning.{list_in}
use Rattle.phys_types.proofs.refining.targets.Given as goal

abbrev pub invariant-types : goal.invariant-types
invariant-types l = record {
  fits : length l.targets.items ≡ l.t;
  targets : (d : Repeated) (t : TypeId) → t.0 < l.t → list_in l.targets.items t ≡ front_targets l.types l.limit t (get_or l.layouts (get_or l.places t.0 0) d);
}
