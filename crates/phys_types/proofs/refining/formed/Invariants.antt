use Rattle.std.proofs.Common.{◌≡◌, ◌<◌, length, get_or}
use Rattle.cc_base.specs.declared.number.TypeId.{TypeId}
use Rattle.phys_types.specs.declared.keeping.Repeated.{Repeated}
use Rattle.phys_types.specs.Numbers.{number_in}
use Rattle.phys_types.specs.Signatures.{mixed, front_form}
use Rattle.phys_types.proofs.refining.formed.Given as goal

abbrev pub invariant-types : goal.invariant-types
invariant-types l = record {
  fits : length l.forms.items ≡ l.t;
  numbers :
      (d : Repeated) (t : TypeId) → t.0 < l.t
      → number_in l.forms.items t ≡ mixed (number_in l.numbers t) (front_form l.types l.limit t (get_or l.layouts (get_or l.places t.0 0) d));
}
